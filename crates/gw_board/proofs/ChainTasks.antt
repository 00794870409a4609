-- The requests of a stretch, sorted by their chains: with those of the places that are left, they are all.
use Rattle.std.proofs.Common.{◌≡◌, ◌⊎◌, inl, inr, ℕ, ◌+◌, ◌<◌, eqb, nat_eq, Bool, true, false, cond, List, [], ◌∷◌, ◌++◌, length, drop, refl, sym, ap, subst, ◌∙◌}
use Rattle.std.specs.Prelude.{◌≢◌, filter, slice_index_or, slice_set}
use Rattle.std.proofs.lemmas.Bool.Decides.{eqb_tells}
use Rattle.std.proofs.lemmas.List.{append_assoc, drop_more, get_or-set_same, get_or-set_other, length-set}
use Rattle.gw_board.specs.Carried.{BurstRequest}
use Rattle.gw_board.specs.Chained.{item_of}
use Rattle.gw_board.specs.Chains.{Chained, requests_of, chain_of}
use Rattle.gw_board.specs.Core.{Place}
use Rattle.gw_board.specs.Stretches.{chained}
use Rattle.gw_board.specs.Waves.{is_pending}

-- so many lists, which with what is left have the requests of all
pub record AreSorted (count : ℕ) (left all : List Chained) (lists : List (List BurstRequest)) : Type 0 where
  pub as_many : length lists ≡ count
  pub each : (g : ℕ) → g < count → item_of lists g ++ chain_of g left ≡ chain_of g all

-- the first that is left
chain_first : (g : ℕ) (x : Chained) (left : List Chained) → chain_of g (x ∷ left) ≡ cond (nat_eq g x.chain) (x.requested ∷ chain_of g left) (chain_of g left)
chain_first g x left = by (nat_eq g x.chain)
  where
    by : (b : Bool) → requests_of (cond b (x ∷ filter (λ y. nat_eq g y.chain) left) (filter (λ y. nat_eq g y.chain) left)) ≡ cond b (x.requested ∷ chain_of g left) (chain_of g left)
    by true = refl
    by false = refl

module _ (count : ℕ) (x : Chained) (left all : List Chained) (lists : List (List BurstRequest)) (inside : x.chain < count) (s : AreSorted count (x ∷ left) all lists) where
  abbrev more : List (List BurstRequest)
  more = slice_set lists x.chain (item_of lists x.chain ++ x.requested ∷ [])

  sorted_each : (g : ℕ) → g < count → item_of more g ++ chain_of g left ≡ chain_of g all
  sorted_each g h = by (eqb_tells g x.chain)
    where
      by : ((eqb g x.chain ≡ true) × (g ≡ x.chain)) ⊎ ((eqb g x.chain ≡ false) × (g ≢ x.chain)) → item_of more g ++ chain_of g left ≡ chain_of g all
      by (inl e) =
          ap (λ (l : List BurstRequest). l ++ chain_of g left) (ap (item_of more) e.1 ∙ get_or-set_same lists x.chain (item_of lists x.chain ++ x.requested ∷ []) [] (subst (λ (n : ℕ). x.chain < n) (sym s.as_many) inside) ∙ ap (λ (k : ℕ). item_of lists k ++ x.requested ∷ []) (sym e.1))
          ∙ append_assoc (item_of lists g) (x.requested ∷ []) (chain_of g left)
          ∙ ap (λ (l : List BurstRequest). item_of lists g ++ l) (sym (chain_first g x left ∙ ap (λ b. cond b (x.requested ∷ chain_of g left) (chain_of g left)) e.0))
          ∙ s.each g h
      by (inr e) =
          ap (λ (l : List BurstRequest). l ++ chain_of g left) (get_or-set_other lists x.chain g (item_of lists x.chain ++ x.requested ∷ []) [] e.1)
          ∙ ap (λ (l : List BurstRequest). item_of lists g ++ l) (sym (chain_first g x left ∙ ap (λ b. cond b (x.requested ∷ chain_of g left) (chain_of g left)) e.0))
          ∙ s.each g h

  pub sorted_more : AreSorted count left all more
  sorted_more = record { as_many = length-set lists x.chain (item_of lists x.chain ++ x.requested ∷ []) ∙ s.as_many; each = sorted_each }

-- ---- what is left of a stretch

-- the places from one on
pub chained_at : (numbers : List ℕ) (places : List Place) (i : ℕ) (p : Place) → i < length numbers → i < length places → p ≡ slice_index_or places i p
    → chained (drop i numbers) (drop i places) ≡ chained (slice_index_or numbers i 0 ∷ drop (i + 1) numbers) (p ∷ drop (i + 1) places)
chained_at numbers places i p h k e =
    ap (λ (l : List ℕ). chained l (drop i places)) (drop_more numbers i 0 h)
    ∙ ap (λ (l : List Place). chained (slice_index_or numbers i 0 ∷ drop (i + 1) numbers) l) (drop_more places i p k ∙ ap (λ (q : Place). q ∷ drop (i + 1) places) (sym e))

module _ (count : ℕ) (numbers : List ℕ) (places : List Place) (all : List Chained) (lists : List (List BurstRequest)) (i : ℕ) (p : Place) (h : i < length numbers) (k : i < length places) (e : p ≡ slice_index_or places i p) (s : AreSorted count (chained (drop i numbers) (drop i places)) all lists) where
  abbrev g : ℕ
  g = slice_index_or numbers i 0

  abbrev rest : List Chained
  rest = chained (drop (i + 1) numbers) (drop (i + 1) places)

  left_is : (b : Bool) → is_pending p.standing ≡ b → chained (drop i numbers) (drop i places) ≡ cond b (record { chain = g; requested = p.requested } ∷ rest) rest
  left_is b f = chained_at numbers places i p h k e ∙ ap (λ c. cond c (record { chain = g; requested = p.requested } ∷ rest) rest) f

  -- a pending place is sorted
  pub sorted_at : is_pending p.standing ≡ true → g < count → AreSorted count rest all (slice_set lists g (item_of lists g ++ p.requested ∷ []))
  sorted_at f inside = sorted_more count (record { chain = g; requested = p.requested }) rest all lists inside (subst (λ (l : List Chained). AreSorted count l all lists) (left_is true f) s)

  -- another one is passed over
  pub sorted_past : is_pending p.standing ≡ false → AreSorted count rest all lists
  sorted_past f = subst (λ (l : List Chained). AreSorted count l all lists) (left_is false f) s
