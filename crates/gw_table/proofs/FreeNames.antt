-- The names of the terminations of the null context, by the entries of the ordered map.
use Rattle.std.proofs.Common.{◌≡◌, ℕ, Bool, true, false, cond, List, [], ◌∷◌, Option, Some, refl, sym, ap, ◌∙◌}
use Rattle.std.specs.Prelude.{◌||◌, ◌&&◌}
use Rattle.std.specs.BTreeMap.{is_at}
use Rattle.std.specs.Cmp.{tied_itself, eq_by_cmp_equiv}
use Rattle.std.specs.Cmp.Lexicographic.{nat_list_cmp_total}
use Rattle.std.specs.List.{AllByRecursion, list_any, filter}
use Rattle.std.specs.List.Sorted.{IsStrictlySortedBy}
use Rattle.std.specs.Map.{keys_of, lookup}
use Rattle.std.specs.Option.{is_none}
use Rattle.std.specs.Ordering.{is_eq}
use Rattle.std.specs.declared.cmp.Ordering.TheVariants.{Less}
use Rattle.gw_base.proofs.Views.{seen}
use Rattle.gw_base.specs.NameLists.{name_cmp}
use Rattle.gw_term.specs.declared.record.Termination.{Termination}
use Rattle.gw_ctx.specs.Contexts.{ContextRecord}
use Rattle.gw_table.specs.declared.place.Place.{Place}
use Rattle.gw_table.specs.declared.place.Place.TheVariants.{Empty, Here, Out}
use Rattle.gw_table.specs.Free.{is_free_at}
use Rattle.gw_table.specs.Maps.{term, place_of, is_free, names}
use Rattle.gw_table.specs.Stored.{Stored, stored, visible, maps_of}
use Rattle.gw_table.proofs.Exchanged.{names_are}
use Rattle.gw_table.proofs.Places.{term-maps_of}
use Rattle.gw_table.proofs.Shown.{keys_here}

abbrev pub Named : Type 0
Named = List ℕ × Place Termination

abbrev pub free_here : List Named → List (List ℕ)
free_here [] = []
free_here (e ∷ es) = cond (is_free_at e.1) (e.0 ∷ free_here es) (free_here es)

-- ---- each entry is found at its key

passed : (b : Bool) (x y : Option (Place Termination)) → b ≡ false → cond b x y ≡ y
passed true x y h = absurd cc
passed false x y h = refl

found_behind : (e : Named) (es fs : List Named) → AllByRecursion (λ t. name_cmp e.0 t ≡ Less) (keys_of fs) → AllByRecursion (λ f. lookup (is_at (name_cmp f.0)) es ≡ Some f.1) fs
    → AllByRecursion (λ f. lookup (is_at (name_cmp f.0)) (e ∷ es) ≡ Some f.1) fs
found_behind e es [] less h = tt
found_behind e es (f ∷ fs) less h =
    (passed (is_eq (name_cmp f.0 e.0)) (Some e.1) (lookup (is_at (name_cmp f.0)) es) (sym ((eq_by_cmp_equiv nat_list_cmp_total).symm e.0 f.0) ∙ ap is_eq less.0) ∙ h.0, found_behind e es fs less.1 h.1)

pub each_found : (es : List Named) → IsStrictlySortedBy name_cmp (keys_of es) → AllByRecursion (λ e. lookup (is_at (name_cmp e.0)) es ≡ Some e.1) es
unfolding IsStrictlySortedBy
each_found [] s = tt
each_found (e ∷ es) s = (ap (λ r. cond (is_eq r) (Some e.1) (lookup (is_at (name_cmp e.0)) es)) (tied_itself nat_list_cmp_total e.0), found_behind e es es s.0 (each_found es s.1))

-- ---- those that are free

those_free : (look : List ℕ → Option Termination) (es : List Named) → AllByRecursion (λ e. look e.0 ≡ visible (Some e.1)) es → filter (λ t. is_none (place_of (look t))) (keys_here es) ≡ free_here es
those_free look [] h = refl
those_free look ((t, Empty) ∷ es) h = those_free look es h.1
those_free look ((t, Here r) ∷ es) h =
    let rest = those_free look es h.1 in
    λ i. cond (is_none (place_of (h.0 i))) (t ∷ rest i) (rest i)
those_free look ((t, Out) ∷ es) h = those_free look es h.1

pub shown_each : (look : List ℕ → Option Termination) (es fs : List Named) → ((t : List ℕ) → look t ≡ visible (lookup (is_at (name_cmp t)) es)) → AllByRecursion (λ e. lookup (is_at (name_cmp e.0)) es ≡ Some e.1) fs → AllByRecursion (λ e. look e.0 ≡ visible (Some e.1)) fs
shown_each look es [] g h = tt
shown_each look es (f ∷ fs) g h = (g f.0 ∙ ap (λ o. visible o) h.0, shown_each look es fs g h.1)

pub free_are : (es : List Named) (cs : List (ℕ × Place ContextRecord)) → IsStrictlySortedBy name_cmp (keys_of es) → free_here es ≡ filter (is_free (maps_of (stored es cs))) (names (maps_of (stored es cs)))
free_are es cs s =
    sym (those_free (term (maps_of (stored es cs))) es (shown_each (term (maps_of (stored es cs))) es es (λ t. term-maps_of (stored es cs) t ∙ ap (λ o. visible o) (seen nat_list_cmp_total es t)) (each_found es s)))
    ∙ ap (λ (l : List (List ℕ)). filter (is_free (maps_of (stored es cs))) l) (names_are es cs s)

pub any_both : {A : Type 0} (f p : A → Bool) (xs : List A) → list_any p (filter f xs) ≡ list_any (λ x. f x && p x) xs
any_both f p [] = refl
any_both {A} f p (x ∷ xs) = at (f x) ∙ ap (λ b. (f x && p x) || b) (any_both f p xs)
  where
    at : (b : Bool) → list_any p (cond b (x ∷ filter f xs) (filter f xs)) ≡ ((b && p x) || list_any p (filter f xs))
    at true = refl
    at false = refl

pub any_free : (p : List ℕ → Bool) (es : List Named) (cs : List (ℕ × Place ContextRecord)) (s : Stored) → IsStrictlySortedBy name_cmp (keys_of es) → stored es cs ≡ s
    → list_any p (free_here es) ≡ list_any (λ t. is_free (maps_of s) t && p t) (names (maps_of s))
any_free p es cs s order is =
    ap (list_any p) (free_are es cs order ∙ ap (λ (x : Stored). filter (is_free (maps_of x)) (names (maps_of x))) is)
    ∙ any_both (is_free (maps_of s)) p (names (maps_of s))

-- the first of them passes a test
pub free_first : (p : List ℕ → Bool) (t : List ℕ) (x : Place Termination) (es : List Named) → is_free_at x ≡ true → p t ≡ true → true ≡ list_any p (free_here ((t, x) ∷ es))
free_first p t x es f h = ap (λ b. b || list_any p (free_here es)) (sym h) ∙ ap (λ b. list_any p (cond b (t ∷ free_here es) (free_here es))) (sym f)
