-- Lines of headers: where they end, and that a line is one header at most.
use Rattle.std.proofs.Common.{◌≡◌, ◌==◌, ℕ, Bool, true, false, ◌||◌, List, [], ◌∷◌, ◌++◌, Option, Some, None, MatchOption, refl, ap, sym, subst, ◌∙◌, arith, rules, codes}
use Rattle.std.specs.List.{list_any, list_all}
use Rattle.std.proofs.lemmas.Bool.{and_parts as and_true, or_parts}
use Rattle.std.proofs.lemmas.List.{append_cancel_left}
use Rattle.gw_base.specs.Bytes.{is_digit}
use Rattle.gw_text.specs.Forms.{IsUint32}
use Rattle.gw_front.specs.Records.{IsRecordHeader, IsLength}

-- ---- the first byte of a kind

same_byte : (x : ℕ) → (x == x) ≡ true
same_byte x = search rules

-- a text has one front without the byte, where the byte follows it
pub cut_once : (x : ℕ) (a b c d : List ℕ) → list_any (λ y. y == x) a ≡ false → list_any (λ y. y == x) c ≡ false → a ++ x ∷ b ≡ c ++ x ∷ d → (a ≡ c) × (b ≡ d)
cut_once x [] b [] d p q e = (refl, cc)
cut_once x [] b (z ∷ zs) d p q e =
    let same : x ≡ z = cc in
    let free = or_parts (z == x) (list_any (λ y. y == x) zs) q in
    let is : (z == x) ≡ true = subst (λ (w : ℕ). (w == x) ≡ true) same (same_byte x) in
    absurd cc
cut_once x (z ∷ zs) b [] d p q e =
    let same : z ≡ x = cc in
    let free = or_parts (z == x) (list_any (λ y. y == x) zs) p in
    let is : (z == x) ≡ true = subst (λ (w : ℕ). (w == x) ≡ true) (sym same) (same_byte x) in
    absurd cc
cut_once x (y ∷ ys) b (z ∷ zs) d p q e =
    let heads : y ≡ z = cc in
    let tails : ys ++ x ∷ b ≡ zs ++ x ∷ d = cc in
    let r = cut_once x ys b zs d (or_parts (y == x) (list_any (λ w. w == x) ys) p).1 (or_parts (z == x) (list_any (λ w. w == x) zs) q).1 tails in
    (cc (heads, r.0), r.1)

none_of : (p q : ℕ → Bool) → ((b : ℕ) → p b ≡ true → q b ≡ false) → (xs : List ℕ) → list_all p xs ≡ true → list_any q xs ≡ false
none_of p q apart [] h = refl
none_of p q apart (b ∷ bs) h =
    let both = and_true (p b) (list_all p bs) h in
    let rest : list_any q bs ≡ false = none_of p q apart bs both.1 in
    let first : q b ≡ false = apart b both.0 in
    ap (λ (a : Bool). a || list_any q bs) first ∙ rest

pub no_space : (b : ℕ) → is_digit b ≡ true → (b == 32) ≡ false
no_space b h = grind arith

pub no_feed : (b : ℕ) → is_digit b ≡ true → (b == 10) ≡ false
no_feed b h = grind arith

pub digits_without_space : (xs : List ℕ) → list_all is_digit xs ≡ true → list_any (λ c. c == 32) xs ≡ false
digits_without_space xs h = none_of is_digit (λ c. c == 32) no_space xs h

pub digits_without_feed : (xs : List ℕ) → list_all is_digit xs ≡ true → list_any (λ c. c == 10) xs ≡ false
digits_without_feed xs h = none_of is_digit (λ c. c == 10) no_feed xs h

-- ---- a header

-- what a header says stands on both sides of its first space behind the D
pub header_parts : (line rest a b : List ℕ) (peer len : ℕ) → line ≡ codes "D " ++ rest → rest ≡ a ++ 32 ∷ b → list_any (λ c. c == 32) a ≡ false → IsRecordHeader peer len line → IsUint32 peer a × IsLength len b
header_parts line rest a b peer len begins split free h =
    let back : h.back ≡ rest = append_cancel_left (codes "D ") h.back rest (sym (h.split ∙ ap (λ (l : List ℕ). l ++ h.back) h.first) ∙ begins) in
    let inner : h.back ≡ h.second.front ++ 32 ∷ h.second.second.back =
    h.second.split ∙ ap (λ (l : List ℕ). h.second.front ++ l) (h.second.second.split ∙ ap (λ (l : List ℕ). l ++ h.second.second.back) h.second.second.first) in
    let parts = cut_once 32 h.second.front h.second.second.back a b (digits_without_space h.second.front h.second.first.digits) free (sym inner ∙ back ∙ split) in
    (subst (IsUint32 peer) parts.0 h.second.first, subst (IsLength len) parts.1 h.second.second.second)

-- ---- lines of an input

-- what holds where there is no value
pub at_none : {T : Type 0} (r : Option T) (P : Type 0) (Q : T → Type 0) → r ≡ None → P → MatchOption r P Q
at_none None P Q e p = p
at_none (Some x) P Q e p = absurd cc
