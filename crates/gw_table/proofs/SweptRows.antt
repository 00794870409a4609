-- Rows with an index of their keys: those in which no entry stands are dropped.
use Rattle.std.proofs.Common.{◌≡◌, ℕ, Bool, true, false, cond, List, [], ◌∷◌, Option, None, Some, is_some, refl, sym, ap, ◌∙◌}
use Rattle.std.proofs.Common.{MutBor, zero, suc, ◌+◌, filter}
use Rattle.std.proofs.lemmas.Map.Entries.{lookup-filter-values}
use Rattle.std.proofs.lemmas.Map.Keys.{IsDistinct-from_sorted}
use Rattle.std.proofs.lemmas.Map.Entries.{option_filter}
use Rattle.slab.specs.Slab.{RetainsFrom, CalledAt}
use Rattle.gw_table.specs.Stored.{visible, if_visible}
use Rattle.gw_table.specs.declared.place.Place.TheVariants.{Empty, Here, Out}
use Rattle.std.proofs.lemmas.Cmp.{eq_by_cmp_equiv}
use Rattle.std.specs.Cmp.{IsTotalOrder}
use Rattle.std.specs.BTreeMap.{is_at}
use Rattle.std.specs.List.Sorted.{IsStrictlySortedBy}
use Rattle.std.specs.Map.{lookup, keys_of}
use Rattle.std.specs.declared.cmp.Ordering.{Ordering}
use Rattle.gw_table.specs.declared.place.Place.{Place}
use Rattle.gw_table.specs.declared.rows.KeyedRow.{KeyedRow}
use Rattle.gw_table.specs.Rows.{row_at, place_of_row, place_in, rowed, is_of, IsTied}
use Rattle.gw_table.proofs.TiedRows.{KeyedRows, not_some, some_is, found}

abbrev pub if_here : {K T : Type 0} → Option (KeyedRow K T) → Option (KeyedRow K T)
if_here l = option_filter (λ (x : KeyedRow _ _). is_some (visible (Some x.row))) l

module _ {K T F : Type 0} (step : F → ℕ → MutBor (KeyedRow K T) → Bool → MutBor (KeyedRow K T) → F → Type 0)
    (says : (f : F) (n : ℕ) (x : MutBor (KeyedRow K T)) (b : Bool) (y : MutBor (KeyedRow K T)) (g : F) → step f n x b y g → (b ≡ is_some (visible (Some x.now.row))) × (y.now ≡ x.now)) where
  pub retained : (f : F) (first : ℕ) (old kept : KeyedRows K T) → RetainsFrom step f first old kept → (n : ℕ) → row_at kept n ≡ if_here (row_at old n)
  retained f first [] kept h n = ap (λ (ls : KeyedRows K T). row_at ls n) h
  retained f first (None ∷ old) kept h zero = ap (λ (ls : KeyedRows K T). row_at ls zero) h.1
  retained f first (None ∷ old) kept h (suc n) = ap (λ (ls : KeyedRows K T). row_at ls (suc n)) h.1 ∙ retained f (first + 1) old h.0 h.2 n
  retained f first (Some l ∷ old) kept h zero =
      let called : CalledAt step f first l h.0 h.1 h.2 = h.3 in
      let said = says f first called.shown h.0 called.left h.2 called.called in
      let is_kept : h.0 ≡ is_some (visible (Some l.row)) = said.0 ∙ ap (λ (x : KeyedRow K T). is_some (visible (Some x.row))) called.shows in
      let is_same : h.1 ≡ l = sym called.leaves ∙ said.1 ∙ called.shows in
      ap (λ (ls : KeyedRows K T). row_at ls zero) h.5 ∙ (λ i. cond (is_kept i) (Some (is_same i)) None)
  retained f first (Some l ∷ old) kept h (suc n) = ap (λ (ls : KeyedRows K T). row_at ls (suc n)) h.5 ∙ retained h.2 (first + 1) old h.4 h.6 n

module _ {K T : Type 0} {R : K → K → Ordering} (o : IsTotalOrder R) (index later : List (K × ℕ)) (rows after : KeyedRows K T) (t : IsTied R index rows)
    (filtered : later ≡ filter (λ e. is_some (visible (place_of_row (row_at rows e.1)))) index) (kept : (n : ℕ) → row_at after n ≡ if_here (row_at rows n)) where
  abbrev here : ℕ → Bool
  here n = is_some (visible (place_of_row (row_at rows n)))

  left_at : (q : K) → lookup (is_at (R q)) later ≡ option_filter here (lookup (is_at (R q)) index)
  left_at q = ap (λ (l : List (K × ℕ)). lookup (is_at (R q)) l) filtered ∙ lookup-filter-values (eq_by_cmp_equiv o) here q index (IsDistinct-from_sorted R (keys_of index) t.ordered)

  was : (x : Option ℕ) (n : ℕ) → option_filter here x ≡ Some n → (x ≡ Some n) × (here n ≡ true)
  was None n h = absurd cc
  was (Some m) n h = by (here m) refl h
    where
      by : (b : Bool) → here m ≡ b → cond b (Some m) None ≡ Some n → (Some m ≡ Some n) × (here n ≡ true)
      by true e f = (f, ap here (sym (some_is f)) ∙ e)
      by false e f = absurd cc

  same_row : (l : Option (KeyedRow K T)) → is_some (visible (place_of_row l)) ≡ true → if_here l ≡ l
  same_row None h = absurd cc
  same_row (Some l) h = λ i. cond (h i) (Some l) None

  named_left : (q : K) (n : ℕ) → lookup (is_at (R q)) later ≡ Some n → is_of R q (row_at after n) ≡ true
  named_left q n h =
      let w = was (lookup (is_at (R q)) index) n (sym (left_at q) ∙ h) in
      ap (λ l. is_of R q l) (kept n ∙ same_row (row_at rows n) w.1) ∙ t.named q n w.0

  was_row : (l : Option (KeyedRow K T)) (x : KeyedRow K T) → if_here l ≡ Some x → (l ≡ Some x) × (is_some (visible (place_of_row l)) ≡ true)
  was_row None x h = absurd (not_some None refl h)
  was_row (Some l) x h = by (is_some (visible (Some l.row))) refl h
    where
      by : (b : Bool) → is_some (visible (Some l.row)) ≡ b → cond b (Some l) None ≡ Some x → (Some l ≡ Some x) × (is_some (visible (Some l.row)) ≡ true)
      by true e f = (f, e)
      by false e f = absurd cc

  kept_left : (n : ℕ) (x : KeyedRow K T) → row_at after n ≡ Some x → lookup (is_at (R x.key)) later ≡ Some n
  kept_left n x h =
      let w = was_row (row_at rows n) x (sym (kept n) ∙ h) in
      left_at x.key ∙ ap (λ y. option_filter here y) (t.kept n x w.0) ∙ ap (λ b. cond b (Some n) None) w.1

  pub tied_left : IsStrictlySortedBy R (keys_of later) → IsTied R later after
  tied_left s = record { ordered = s; named = named_left; kept = kept_left }

  place_left : (l : Option (KeyedRow K T)) → cond (is_some (visible (place_of_row l))) (place_of_row (if_here l)) None ≡ if_visible (place_of_row l)
  place_left None = refl
  place_left (Some l) = by l.row
    where
      by : (p : Place T) → cond (is_some (visible (Some p))) (place_of_row (option_filter (λ (x : KeyedRow K T). is_some (visible (Some x.row))) (Some (record l { row = p })))) None ≡ if_visible (Some p)
      by Empty = refl
      by (Here a) = refl
      by Out = refl

  pushed : (b : Bool) (n : ℕ) → place_in after (cond b (Some n) None) ≡ cond b (place_of_row (row_at after n)) None
  pushed true n = refl
  pushed false n = refl

  places_left : (x : Option ℕ) → place_in after (option_filter here x) ≡ if_visible (place_in rows x)
  places_left None = refl
  places_left (Some n) = pushed (here n) n ∙ ap (λ l. cond (here n) (place_of_row l) None) (kept n) ∙ place_left (row_at rows n)

  pub found_left : IsStrictlySortedBy R (keys_of later) → (q : K) → lookup (is_at (R q)) (rowed later after) ≡ if_visible (lookup (is_at (R q)) (rowed index rows))
  found_left s q = found o after later (tied_left s) q ∙ ap (λ y. place_in after y) (left_at q) ∙ places_left (lookup (is_at (R q)) index) ∙ ap (λ y. if_visible y) (sym (found o rows index t q))
