-- A TerminationID without wildcards is a name.
use Rattle.std.proofs.Common.{◌≡◌, ℕ, ◌<◌, Bool, true, false, ◌&&◌, ◌||◌, ◌==◌, inl, inr, List, [], ◌∷◌, length, get_or, refl, sym, ap, ◌∙◌}
use Rattle.std.specs.Prelude.{codes}
use Rattle.std.proofs.lemmas.Bool.{or_cases, eqb-true}
use Rattle.std.specs.List.{list_all, list_any}
use Rattle.gw_base.specs.Bytes.{byte, is_letter, is_name_byte}
use Rattle.gw_base.specs.Names.{IsName}
use Rattle.gw_base.specs.Wildcards.{is_wildcard_byte, is_term_byte, IsTermText}
use Rattle.gw_base.proofs.Booleans.{both, neither}

-- one of two that is not the second is the first
pub the_first : (a b : Bool) → a || b ≡ true → b ≡ false → a ≡ true
the_first true b e h = refl
the_first false b e h = absurd (let clash : true ≡ false = sym e ∙ h in cc)

no_wildcards : (bytes : List ℕ) → list_all is_term_byte bytes ≡ true → list_any is_wildcard_byte bytes ≡ false → list_all is_name_byte bytes ≡ true
no_wildcards [] e h = refl
no_wildcards (b ∷ bs) e h =
    let each = both (is_term_byte b) (list_all is_term_byte bs) e in
    let none = neither (is_wildcard_byte b) (list_any is_wildcard_byte bs) h in
    ap (λ t. t && list_all is_name_byte bs) (the_first (is_name_byte b) (is_wildcard_byte b) each.0 none.0) ∙ no_wildcards bs each.1 none.1

no_wildcard_first : (bytes : List ℕ) → 0 < length bytes → list_any is_wildcard_byte bytes ≡ false → is_wildcard_byte (get_or bytes 0 0) ≡ false
no_wildcard_first [] e h = refl
no_wildcard_first (b ∷ bs) e h = (neither (is_wildcard_byte b) (list_any is_wildcard_byte bs) h).0

pub term_name : (text : List ℕ) → IsTermText text → list_any is_wildcard_byte text ≡ false → IsName text
term_name text t h = record {
  some = t.some;
  short = t.short;
  first = the_first (is_letter (get_or text 0 0)) (is_wildcard_byte (get_or text 0 0)) t.first (no_wildcard_first text t.some h);
  each = no_wildcards text t.each h;
}

-- a TerminationID that is no name has a wildcard
pub other_term : (text : List ℕ) → IsTermText text → ¬ IsName text → list_any is_wildcard_byte text ≡ true
other_term text t h = known (list_any is_wildcard_byte text) refl where
  known : (w : Bool) → list_any is_wildcard_byte text ≡ w → list_any is_wildcard_byte text ≡ true
  known true e = e
  known false e = absurd (h (term_name text t e))

-- no wildcard is a byte of a name
plain_byte : (b : ℕ) → is_name_byte b ≡ true → is_wildcard_byte b ≡ false
plain_byte b h = known (is_wildcard_byte b) refl where
  known : (w : Bool) → is_wildcard_byte b ≡ w → is_wildcard_byte b ≡ false
  known false e = e
  known true e = elim (or_cases (byte (codes "*") == b) (byte (codes "$") == b || false) e) [
    | inl s ↦ absurd (let clash : true ≡ false = sym h ∙ ap is_name_byte (sym (eqb-true _ b s)) in cc)
    | inr o ↦ elim (or_cases (byte (codes "$") == b) false o) [
      | inl s ↦ absurd (let clash : true ≡ false = sym h ∙ ap is_name_byte (sym (eqb-true _ b s)) in cc)
      | inr s ↦ absurd cc
    ]
  ]

plain : (bytes : List ℕ) → list_all is_name_byte bytes ≡ true → list_any is_wildcard_byte bytes ≡ false
plain [] h = refl
plain (b ∷ bs) h =
    let each = both (is_name_byte b) (list_all is_name_byte bs) h in
    ap (λ w. w || list_any is_wildcard_byte bs) (plain_byte b each.0) ∙ plain bs each.1

term_bytes : (bytes : List ℕ) → list_all is_name_byte bytes ≡ true → list_all is_term_byte bytes ≡ true
term_bytes [] h = refl
term_bytes (b ∷ bs) h =
    let each = both (is_name_byte b) (list_all is_name_byte bs) h in
    ap (λ t. (t || is_wildcard_byte b) && list_all is_term_byte bs) each.0 ∙ term_bytes bs each.1

-- a name is a TerminationID
pub name_term : (text : List ℕ) → IsName text → IsTermText text
name_term text n = record {
  some = n.some;
  short = n.short;
  first = ap (λ l. l || is_wildcard_byte (get_or text 0 0)) n.first;
  each = term_bytes text n.each;
}

pub name_plain : (text : List ℕ) → IsName text → list_any is_wildcard_byte text ≡ false
name_plain text n = plain text n.each
