-- A text of the form of a TerminationID has one class.
use Rattle.std.proofs.Common.{◌≡◌, inl, inr, ℕ, length, length-append, Bool, true, false, ◌-◌, List, [], ◌∷◌, map, take, refl, ap, sym, ◌∙◌, arith}
use Rattle.std.specs.Prelude.{codes}
use Rattle.std.specs.Char.{to_ascii_lowercase}
use Rattle.std.specs.List.{list_any}
use Rattle.std.proofs.lemmas.List.{take_at}
use Rattle.std.proofs.lemmas.List.Folds.{list_any-append}
use Rattle.std.proofs.lemmas.Bool.{or_cases, or_left, or_right}
use Rattle.gw_base.specs.Bytes.{byte, is_one_of}
use Rattle.gw_base.specs.Wildcards.{is_wildcard_byte, IsRoot, IsUnder}
use Rattle.gw_base.specs.TermRefs.{IsChoose, IsClass}
use Rattle.gw_base.specs.declared.term_ref.TermRef.{TermRef}
use Rattle.gw_base.specs.declared.term_ref.TermRef.TheVariants.{Root, All, Choose, Under, Name, Other}

-- ---- wildcards

lower_wildcard : (c : ℕ) → is_wildcard_byte c ≡ true → is_wildcard_byte (to_ascii_lowercase c) ≡ true
lower_wildcard c h = grind arith

lower_wild : (text : List ℕ) → list_any is_wildcard_byte text ≡ true → list_any is_wildcard_byte (map to_ascii_lowercase text) ≡ true
lower_wild [] h = absurd cc
lower_wild (c ∷ cs) h =
    elim (or_cases (is_wildcard_byte c) (list_any is_wildcard_byte cs) h) [
      | inl e ↦ or_left (is_wildcard_byte (to_ascii_lowercase c)) _ (lower_wildcard c e)
      | inr e ↦ or_right (is_wildcard_byte (to_ascii_lowercase c)) _ (lower_wild cs e)
    ]

-- the gateway's own name has no wildcard
root_plain : (text : List ℕ) → list_any is_wildcard_byte text ≡ true → ¬ IsRoot text
root_plain text w root =
    let clash : true ≡ false = sym (lower_wild text w) ∙ ap (list_any is_wildcard_byte) root in
    absurd cc

all_wild : (text : List ℕ) → text ≡ codes "*" → list_any is_wildcard_byte text ≡ true
all_wild text e = ap (list_any is_wildcard_byte) e

choose_wild : (text : List ℕ) → IsChoose text → list_any is_wildcard_byte text ≡ true
choose_wild text h = grind arith

star : ℕ → Bool
star c = is_one_of (codes "*") c

-- a text that ends in `*`
under_has : (p : ℕ → Bool) (prefix text : List ℕ) → IsUnder prefix text → p (byte (codes "*")) ≡ true → list_any p text ≡ true
under_has p prefix text h is = ap (list_any p) h.split ∙ list_any-append p prefix (codes "*") ∙ or_right (list_any p prefix) _ (or_left (p (byte (codes "*"))) false is)

under_wild : (prefix text : List ℕ) → IsUnder prefix text → list_any is_wildcard_byte text ≡ true
under_wild prefix text h = under_has is_wildcard_byte prefix text h refl

-- ---- no two classes have a text in common

all_not_choose : (text : List ℕ) → text ≡ codes "*" → ¬ IsChoose text
all_not_choose text e c = grind arith

under_not_all : (prefix text : List ℕ) → IsUnder prefix text → ¬ (text ≡ codes "*")
under_not_all prefix text h e = absurd (let some = h.name.some in omega (arith, ap length h.split, length-append prefix (codes "*"), ap length e))

under_not_choose : (prefix text : List ℕ) → IsUnder prefix text → ¬ IsChoose text
unfolding star
under_not_choose prefix text h c =
    let has : list_any star text ≡ true = under_has star prefix text h refl in
    elim c [
      | inl e ↦ let clash : true ≡ false = sym has ∙ ap (list_any star) e in absurd cc
      | inr e ↦ let clash : true ≡ false = sym has ∙ ap (list_any star) e in absurd cc
    ]

not_both : (text : List ℕ) → list_any is_wildcard_byte text ≡ true → list_any is_wildcard_byte text ≡ false → ⊥
not_both text t f = let clash : true ≡ false = sym t ∙ f in cc

-- ---- the name in front of the last byte

abbrev front_of : List ℕ → List ℕ
front_of text = take (length text - 1) text

under_front : (prefix text : List ℕ) → IsUnder prefix text → front_of text ≡ prefix
under_front prefix text h = grind (arith, length-append, take_at)

one_front : (p q text : List ℕ) → IsUnder p text → IsUnder q text → p ≡ q
one_front p q text h k = sym (under_front p text h) ∙ under_front q text k

-- ---- the class of a text
pub one_class : (t u : TermRef) (text : List ℕ) → IsClass t text → IsClass u text → t ≡ u
one_class Root Root text h k = refl
one_class Root All text h k = absurd (root_plain text (all_wild text k) h)
one_class Root Choose text h k = absurd (root_plain text (choose_wild text k) h)
one_class Root (Under q) text h k = absurd (root_plain text (under_wild q text k) h)
one_class Root (Other q) text h k = absurd (root_plain text k.1 h)
one_class Root (Name q) text h k = absurd (k.2 h)
one_class All Root text h k = absurd (root_plain text (all_wild text h) k)
one_class All All text h k = refl
one_class All Choose text h k = absurd (all_not_choose text h k)
one_class All (Under q) text h k = absurd (under_not_all q text k h)
one_class All (Other q) text h k = absurd (k.2 h)
one_class All (Name q) text h k = absurd (not_both text (all_wild text h) k.1)
one_class Choose Root text h k = absurd (root_plain text (choose_wild text h) k)
one_class Choose All text h k = absurd (all_not_choose text k h)
one_class Choose Choose text h k = refl
one_class Choose (Under q) text h k = absurd (under_not_choose q text k h)
one_class Choose (Other q) text h k = absurd (k.3 h)
one_class Choose (Name q) text h k = absurd (not_both text (choose_wild text h) k.1)
one_class (Under p) Root text h k = absurd (root_plain text (under_wild p text h) k)
one_class (Under p) All text h k = absurd (under_not_all p text h k)
one_class (Under p) Choose text h k = absurd (under_not_choose p text h k)
one_class (Under p) (Under q) text h k = ap (λ (x : List ℕ). Under x) (one_front p q text h k)
one_class (Under p) (Other q) text h k = absurd (k.4 p h)
one_class (Under p) (Name q) text h k = absurd (not_both text (under_wild p text h) k.1)
one_class (Other p) Root text h k = absurd (root_plain text h.1 k)
one_class (Other p) All text h k = absurd (h.2 k)
one_class (Other p) Choose text h k = absurd (h.3 k)
one_class (Other p) (Under q) text h k = absurd (h.4 q k)
one_class (Other p) (Other q) text h k = ap (λ (x : List ℕ). Other x) (h.0 ∙ sym k.0)
one_class (Other p) (Name q) text h k = absurd (not_both text h.1 k.1)
one_class (Name p) Root text h k = absurd (h.2 k)
one_class (Name p) All text h k = absurd (not_both text (all_wild text k) h.1)
one_class (Name p) Choose text h k = absurd (not_both text (choose_wild text k) h.1)
one_class (Name p) (Under q) text h k = absurd (not_both text (under_wild q text k) h.1)
one_class (Name p) (Other q) text h k = absurd (not_both text k.1 h.1)
one_class (Name p) (Name q) text h k = ap (λ (x : List ℕ). Name x) (h.0 ∙ sym k.0)
