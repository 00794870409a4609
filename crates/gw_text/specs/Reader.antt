-- Readers (own): each takes a value from the front of a text, or there is none.
use Rattle.std.specs.Prelude.{ℕ, Bool, zero, suc, if◌then◌else◌, List, [], ◌∷◌, length, Option, Some, None, Result, Ok, Err}
use Rattle.gw_text.specs.Lexical.{comma, left_brace, right_brace}
use Rattle.gw_text.specs.Runs.{begins, is_byte}
use Rattle.gw_text.specs.SpaceScan.{skip}
use Rattle.gw_text.specs.Sign.{byte_at, sign_at, prefix_at}
use Rattle.gw_text.specs.Scans.{word_at, solid_at, number_within, uint32_at}
use Rattle.gw_text.specs.OctetsScan.{octets_at}
use Rattle.gw_text.specs.QuotedScan.{quoted_at}
use Rattle.gw_text.specs.GroupScan.{balanced_at}
use Rattle.gw_text.specs.BracketScan.{bracket_at, run_at}
use Rattle.gw_text.specs.declared.fault.ScanFault.{ScanFault}

-- a value, and what is left
abbrev pub Reader : Type 0 → Type 0
Reader V = List ℕ → Option (V × List ℕ)

infixl 10 ◌>>=◌
abbrev pub ◌>>=◌ : {A B : Type 0} → Option A → (A → Option B) → Option B
None >>= f = None
(Some x) >>= f = f x

-- what a scan found
abbrev pub found : {A : Type 0} → Result A ScanFault → Option A
found (Ok x) = Some x
found (Err e) = None

-- ---- words and numbers

-- a word that stands for a value
abbrev pub word_as : {V : Type 0} → (List ℕ → Option V) → Reader V
word_as of text = do
  w ← found (word_at text)
  v ← of w.0
  Some (v, w.1)

-- a word, as sent
abbrev pub word_read : Reader (List ℕ)
word_read = word_as (λ word. Some word)

-- bytes up to the next white space that stand for a value
abbrev pub solid_as : {V : Type 0} → (List ℕ → Option V) → Reader V
solid_as of text = do
  s ← found (solid_at text)
  v ← of s.0
  Some (v, s.1)

abbrev pub number_at : Reader ℕ
number_at text = found (uint32_at text)

-- a number of at most so many digits, and at most max
abbrev pub number_up_to : (most max : ℕ) → Reader ℕ
number_up_to most max text = found (number_within most max text)

-- what is kept of octets, up to their closing brace
abbrev pub octets_read : Reader (List ℕ)
octets_read text = found (octets_at text)

-- a quoted text, quotes and all
abbrev pub quoted_read : Reader (List ℕ)
quoted_read text = found (quoted_at text)

-- a group at most so deep, braces and all
abbrev pub group_read : ℕ → Reader (List ℕ)
group_read depth text = found (balanced_at depth text)

-- a bracket, as it is
abbrev pub bracket_read : Reader (List ℕ)
bracket_read text = found (bracket_at text)

-- a run that stands for a value
abbrev pub run_as : {V : Type 0} → (List ℕ → Option V) → Reader V
run_as of text = do
  r ← found (run_at text)
  v ← of r.0
  Some (v, r.1)

-- a run, as sent
abbrev pub run_read : Reader (List ℕ)
run_read = run_as (λ run. Some run)

-- ---- one of two

-- the first where there was something, from what is behind it; else the second
abbrev pub or_else : {A B : Type 0} → Option A → (A → Option B) → Option B → Option B
or_else None on other = other
or_else (Some rest) on other = on rest

-- on reads on behind the byte b where it comes next; where it does not, other reads
abbrev pub if_byte : {V : Type 0} → ℕ → Reader V → Reader V → Reader V
if_byte b on other text = or_else (byte_at b text) on (other text)

-- the same of the sign b
abbrev pub if_sign : {V : Type 0} → ℕ → Reader V → Reader V → Reader V
if_sign b on other text = or_else (sign_at b text) on (other text)

-- the same of bytes in any case
abbrev pub if_prefix : {V : Type 0} → List ℕ → Reader V → Reader V → Reader V
if_prefix bytes on other text = or_else (prefix_at bytes text) on (other text)

-- on reads where a byte of the class comes next, and takes it too
abbrev pub if_begins : {V : Type 0} → (ℕ → Bool) → Reader V → Reader V → Reader V
if_begins p on other text = if begins p text then on text else other text

-- on reads behind the white space where the byte b comes next there; where it does not, other reads, white space and
-- all
abbrev pub if_ahead : {V : Type 0} → ℕ → Reader V → Reader V → Reader V
if_ahead b on other text = if begins (is_byte b) (skip text) then on (skip text) else other text

-- ---- lists

-- more values, where there was something between
abbrev pub with_first : {V : Type 0} → V → Option (List V × List ℕ) → Option (List V × List ℕ)
with_first v None = None
with_first v (Some x) = Some (v ∷ x.0, x.1)

abbrev pub if_comma : {V : Type 0} → Reader (List V) → V → List ℕ → Option (List ℕ) → Option (List V × List ℕ)
if_comma others v rest None = Some (v ∷ [], rest)
if_comma others v rest (Some more) = with_first v (others more)

-- values with COMMA between them, fewer than fuel
unfoldable pub list_from : {V : Type 0} → Reader V → ℕ → Reader (List V)
list_from read zero text = None
list_from read (suc fuel) text = read text >>= λ x. if_comma (list_from read fuel) x.0 x.1 (sign_at comma x.1)

-- values with COMMA between them: each is a byte at least, so the text has fewer than this
abbrev pub list_at : {V : Type 0} → Reader V → Reader (List V)
list_at read text = list_from read (suc (length text)) text

-- values with COMMA between them, and RBRKT
abbrev pub closed_list_at : {V : Type 0} → Reader V → Reader (List V)
closed_list_at read text = do
  values ← list_at read text
  close ← sign_at right_brace values.1
  Some (values.0, close)

-- LBRKT, values with COMMA between them, RBRKT
abbrev pub braced_at : {V : Type 0} → Reader V → Reader (List V)
braced_at read text = do
  inner ← sign_at left_brace text
  closed_list_at read inner

-- the same, or nothing
unfoldable pub optional_at : {V : Type 0} → Reader V → Reader (List V)
optional_at read = if_sign left_brace (closed_list_at read) (λ text. Some ([], text))

-- the same, perhaps with nothing inside
unfoldable pub braced_or_empty_at : {V : Type 0} → Reader V → Reader (List V)
braced_or_empty_at read text = do
  inner ← sign_at left_brace text
  if_sign right_brace (λ close. Some ([], close)) (closed_list_at read) inner

abbrev pub if_more : {V : Type 0} → Reader (List V) → V → List ℕ → Option (List V × List ℕ)
if_more others v [] = Some (v ∷ [], [])
if_more others v (b ∷ bs) = with_first v (others (b ∷ bs))

-- values with LWSP between them, to the end of the text, fewer than fuel
unfoldable pub items_from : {V : Type 0} → Reader V → ℕ → Reader (List V)
items_from read zero text = None
items_from read (suc fuel) text = read text >>= λ x. if_more (items_from read fuel) x.0 (skip x.1)

-- values with LWSP between them, to the end of the text
abbrev pub items_at : {V : Type 0} → Reader V → Reader (List V)
items_at read text = items_from read (suc (length text)) text

-- ---- a whole text

abbrev pub if_end : {V : Type 0} → V → List ℕ → Option V
if_end v [] = Some v
if_end v (b ∷ bs) = None
