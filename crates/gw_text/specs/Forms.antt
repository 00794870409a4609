-- The forms of words and numbers, of signs, and of lists (RFC 3525, Annex B.2).
use Rattle.std.specs.Prelude.{◌≡◌, ℕ, ◌<◌, ◌≤◌, true, false, Bool, List, [], ◌∷◌, length, Option, Some}
use Rattle.std.specs.Str.Parse.{digits_value}
use Rattle.gw_base.specs.Bytes.{is_digit}
use Rattle.gw_base.specs.Lang.{◌▹◌, IsText}
pub use Rattle.gw_base.specs.Lang.{IsInAnyCase}
use Rattle.gw_text.specs.Lexical.{is_safe, is_solid, comma, left_brace, right_brace}
use Rattle.gw_text.specs.Space.{IsSpace}
use Rattle.gw_text.specs.Runs.{IsRun, begins}
use Rattle.gw_text.specs.Longest.{IsLongest}
use Rattle.gw_text.specs.Scans.{uint32_max, uint32_digits}
use Rattle.gw_text.specs.Tokens.{token_of}
use Rattle.gw_text.specs.declared.token.Token.{Token}
use Rattle.gw_text.specs.declared.fault.ScanFault.{ScanFault}
use Rattle.gw_text.specs.declared.fault.ScanFault.TheVariants.{Unexpected, Overflow, TooDeep}

-- bytes of the class, one at least
pub record IsSomeRun (p : ℕ → Bool) (text : List ℕ) : Type 0 where
  pub run : IsRun p text
  pub some : 0 < length text

-- a word: safe bytes
abbrev pub IsWord : List ℕ → Type 0
IsWord = IsSomeRun is_safe

-- bytes with which no white space begins
abbrev pub IsSolid : List ℕ → Type 0
IsSolid = IsSomeRun is_solid

-- a number: one digit at least and at most so many, that write n, which is at most max
pub record IsNumber (most max n : ℕ) (text : List ℕ) : Type 0 where
  pub digits : IsRun is_digit text
  pub some : 0 < length text
  pub short : length text ≤ most
  pub value : digits_value 10 text ≡ n
  pub small : n ≤ max

-- UINT32: 1 to 10 digits, of a number of 32 bits
abbrev pub IsUint32 : ℕ → List ℕ → Type 0
IsUint32 = IsNumber uint32_digits uint32_max

-- Why there is no such number: no digit comes next, or the digits that come next write none.
abbrev pub HasNoNumber : (most max : ℕ) → ScanFault → List ℕ → Type 0
HasNoNumber most max Unexpected text = begins is_digit text ≡ false
HasNoNumber most max Overflow text = (span rest : List ℕ) × IsLongest (IsSomeRun is_digit) text span rest × ((n : ℕ) → ¬ IsNumber most max n span)
HasNoNumber most max TooDeep text = ⊥

-- the sign b, with LWSP on both sides: EQUAL, LBRKT, RBRKT, COMMA
abbrev pub IsSign : ℕ → List ℕ → Type 0
IsSign b = IsSpace ▹ IsText (b ∷ []) ▹ IsSpace

-- [Form], and whether it is there
abbrev pub OptionalIf : (List ℕ → Type 0) → Bool → List ℕ → Type 0
OptionalIf Form true text = Form text
OptionalIf Form false text = text ≡ []

-- a word that stands for a value
pub record IsWordFor {V : Type 0} (of : List ℕ → Option V) (v : V) (text : List ℕ) : Type 0 where
  pub word : IsWord text
  pub stands : of text ≡ Some v

-- a token in its long or its short form, in any case: a whole word
abbrev pub IsToken : Token → List ℕ → Type 0
IsToken t = IsWordFor token_of t

-- one or more, with COMMA between them
abbrev pub Separated : {V : Type 0} → (V → List ℕ → Type 0) → List V → List ℕ → Type 0
Separated Form [] text = ⊥
Separated Form (x ∷ []) text = Form x text
Separated Form (x ∷ (y ∷ ys)) text = (Form x ▹ IsSign comma ▹ Separated Form (y ∷ ys)) text

-- one or more, with LWSP between them
abbrev pub Spaced : {V : Type 0} → (V → List ℕ → Type 0) → List V → List ℕ → Type 0
Spaced Form [] text = ⊥
Spaced Form (x ∷ []) text = Form x text
Spaced Form (x ∷ (y ∷ ys)) text = (Form x ▹ IsSpace ▹ Spaced Form (y ∷ ys)) text

-- LBRKT, one or more with COMMA between them, RBRKT
abbrev pub Braced : {V : Type 0} → (V → List ℕ → Type 0) → List V → List ℕ → Type 0
Braced Form vs = IsSign left_brace ▹ Separated Form vs ▹ IsSign right_brace

-- the same, or nothing at all: [LBRKT .. RBRKT]
abbrev pub OptionalBraced : {V : Type 0} → (V → List ℕ → Type 0) → List V → List ℕ → Type 0
OptionalBraced Form [] text = text ≡ []
OptionalBraced Form (v ∷ vs) text = Braced Form (v ∷ vs) text

-- the same, perhaps with nothing inside: LBRKT [..] RBRKT
abbrev pub BracedOrEmpty : {V : Type 0} → (V → List ℕ → Type 0) → List V → List ℕ → Type 0
BracedOrEmpty Form [] text = (IsSign left_brace ▹ IsSign right_brace) text
BracedOrEmpty Form (v ∷ vs) text = Braced Form (v ∷ vs) text
