-- Readers of marks that may be missing, and of what a test allows.
use Rattle.std.proofs.lemmas.Grind.{common_steps}
use Rattle.std.proofs.Common.{◌≡◌, ◌⊎◌, ℕ, Bool, true, false, not, ◌==◌, List, [], ◌∷◌, ◌++◌, Some, None, ap, sym, ◌∙◌, arith}
use Rattle.std.proofs.lemmas.List.{append-nil}
use Rattle.std.proofs.lemmas.Bool.{not-true}
use Rattle.gw_base.specs.Lang.{Both, ◌▹◌, IsText}
use Rattle.gw_text.specs.Runs.{begins, is_byte, NoMore}
use Rattle.gw_base.specs.Bytes.{is_digit}
use Rattle.gw_text.specs.Lexical.{is_safe, is_solid, is_space_start}
use Rattle.gw_text.specs.Sign.{prefix_at, sign_at}
use Rattle.gw_text.specs.Forms.{IsInAnyCase, IsSign}
use Rattle.gw_text.specs.Reader.{Reader, ◌>>=◌, if_byte}
use Rattle.gw_text.proofs.FormLaws.{begins_ends, no_byte, digit_is_safe, BeginsWith}
use Rattle.gw_text.proofs.ReaderLaws.{ReadsUp, Same, up_as, up_from, up_done, up_if_prefix, up_if_byte, up_sign, up_skipped, same_up}
use Rattle.gw_msg.specs.Grammar.{SpellsMark}
use Rattle.gw_msg.specs.Reading.{mark_at, only_if}

-- the value v, of no bytes
abbrev pub Done : {V : Type 0} → V → V → List ℕ → Type 0
Done v w text = (v ≡ w) × (text ≡ [])

-- a text, and behind it nothing
pub nothing_behind : (P Q : List ℕ → Type 0) (text : List ℕ) (b : Both P Q text) → b.back ≡ [] → P text
nothing_behind P Q text b none = grind (arith, common_steps)

pub nothing_more : {P Q : List ℕ → Type 0} (text : List ℕ) → P text → Q [] → Both P Q text
nothing_more text p q = record { front = text; back = []; split = sym (append-nil text); first = p; second = q }

-- ---- tests

-- what is read only where a test holds
pub up_only_if : {W : Type 0} (t : Bool) (k : Reader W) (Q : W → List ℕ → Type 0) (Next : List ℕ → Type 0) (From To : List ℕ → List ℕ → Type 0) → ReadsUp k Q Next From To
    → ReadsUp (λ text. only_if t >>= λ u. k text) (λ w text. (t ≡ true) × Q w text) Next From To
up_only_if t k Q Next From To h = grind arith

-- ---- marks

abbrev pub NoPrefix : List ℕ → List ℕ → Type 0
NoPrefix mark rest = prefix_at mark rest ≡ None

mark_to : (mark : List ℕ) (w : Bool) (text : List ℕ) → (Both (IsInAnyCase mark) (Done true w) text ⊎ Done false w text) → SpellsMark mark w text
mark_to mark w text h = grind (arith, common_steps)

mark_from : (mark : List ℕ) (w : Bool) (text : List ℕ) → SpellsMark mark w text → (Both (IsInAnyCase mark) (Done true w) text ⊎ Done false w text)
mark_from mark w text h = grind (arith, nothing_more)

pub mark_reads : (mark : List ℕ) → ReadsUp (mark_at mark) (SpellsMark mark) (NoPrefix mark) Same Same
unfolding mark_at
mark_reads mark =
    up_as (up_if_prefix mark (λ rest. let v : Bool × List ℕ = (true, rest) in Some v) (λ text. let v : Bool × List ℕ = (false, text) in Some v) (Done true) (Done false) (NoPrefix mark) Same
    (up_done true (NoPrefix mark) Same) (up_done false (NoPrefix mark) Same)
    (λ w front rest q n. ap (λ (x : List ℕ). prefix_at mark (x ++ rest)) q.1 ∙ n))
    (mark_to mark) (mark_from mark)

-- what begins with a mark, or with what is behind it
pub mark_begins : (p : ℕ → Bool) (mark : List ℕ) (Q : List ℕ → Type 0) → ((text : List ℕ) → IsInAnyCase mark text → begins p text ≡ true) → ((text : List ℕ) → Q text → begins p text ≡ true)
    → (w : Bool) (text : List ℕ) → Both (SpellsMark mark w) Q text → begins p text ≡ true
mark_begins p mark Q h k w text b = grind arith

-- ---- single bytes

-- any byte but this
abbrev pub other_than : ℕ → ℕ → Bool
other_than b c = not (c == b)

pub up_mark : {V : Type 0} (b : ℕ) (v : V) (more : Reader V) (Q : V → List ℕ → Type 0) (Next : List ℕ → Type 0) → ReadsUp more Q Next Same Same → BeginsWith (other_than b) Q
    → ReadsUp (if_byte b (λ rest. Some (v, rest)) more) (λ w text. Both (IsText (b ∷ [])) (Done v w) text ⊎ Q w text) Next Same Same
up_mark b v more Q Next h other =
    up_if_byte b (λ rest. Some (v, rest)) more (Done v) Q Next Same (up_done v Next Same) h
    (λ w front rest q n. no_byte b (front ++ rest) (begins_ends (other_than b) (is_byte b) (λ c is. not-true _ is) front rest (other w front q)))

-- ---- what is dropped

abbrev pub Dropped : (List ℕ → Type 0) → Unit {0} → List ℕ → Type 0
Dropped P u text = P text

-- ---- signs

-- behind what stands just there, a sign, and then a reader of what begins with no white space
pub behind_sign : {W : Type 0} (b : ℕ) (k : Reader W) (Q : W → List ℕ → Type 0) (Next : List ℕ → Type 0) (To : List ℕ → List ℕ → Type 0) → is_space_start b ≡ false → BeginsWith is_solid Q → ReadsUp k Q Next Same To
    → ReadsUp (λ text. sign_at b text >>= k) (λ w. IsSign b ▹ Q w) Next Same To
behind_sign b k Q Next To solid first h = up_from (up_sign b k Q Next To solid (up_skipped first h)) same_up

-- ---- classes

-- a class within another
pub no_more_within : (p q : ℕ → Bool) → ((c : ℕ) → p c ≡ true → q c ≡ true) → (rest : List ℕ) → NoMore q rest → NoMore p rest
no_more_within p q h rest n = grind arith

pub no_digit : (rest : List ℕ) → NoMore is_safe rest → NoMore is_digit rest
no_digit = no_more_within is_digit is_safe digit_is_safe
