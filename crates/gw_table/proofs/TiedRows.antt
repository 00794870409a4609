-- Rows with an index of their keys: what a look-up finds, and what one change of a row and of the index makes of it.
use Rattle.std.proofs.Common.{◌≡◌, ◌≢◌, ◌⊎◌, inl, inr, ℕ, Bool, true, false, cond, List, [], ◌∷◌, Option, None, Some, is_some, refl, sym, ap, subst, ◌∙◌}
use Rattle.std.proofs.lemmas.Bool.{cases_eq}
use Rattle.std.proofs.lemmas.Cmp.{eq_by_cmp_equiv}
use Rattle.std.specs.Cmp.{IsTotalOrder}
use Rattle.std.specs.BTreeMap.{is_at}
use Rattle.std.specs.List.{AllByRecursion}
use Rattle.std.specs.List.Sorted.{IsStrictlySortedBy}
use Rattle.std.specs.Map.{lookup, keys_of}
use Rattle.std.specs.Ordering.{eq_by_cmp, is_eq}
use Rattle.std.specs.declared.cmp.Ordering.{Ordering}
use Rattle.std.specs.declared.cmp.Ordering.TheVariants.{Less}
use Rattle.gw_table.specs.declared.place.Place.{Place}
use Rattle.gw_table.specs.declared.rows.KeyedRow.{KeyedRow}
use Rattle.gw_table.specs.Rows.{row_at, place_of_row, place_in, with_row, rowed, AreThere, is_of, IsTied}

abbrev pub KeyedRows : (K T : Type 0) → Type 0
KeyedRows K T = List (Option (KeyedRow K T))

pub not_some : {A : Type 0} {x : A} (o : Option A) → o ≡ None → o ≡ Some x → ⊥
not_some None e h = cc
not_some (Some a) e h = cc

pub some_is : {m n : ℕ} → Some m ≡ Some n → m ≡ n
some_is e = cc

pub not_both : (b : Bool) → b ≡ true → b ≡ false → ⊥
not_both true h e = cc
not_both false h e = cc

cases_some : (n : Option ℕ) (j : ℕ) → (n ≡ Some j) ⊎ (n ≢ Some j)
cases_some None j = inr (λ e. cc)
cases_some (Some m) j = elim (cases_eq m j) [
  | inl e ↦ inl (ap (λ x. Some x) e)
  | inr f ↦ inr (λ e. f cc)
]

-- ---- the rows of an index that are there

module _ {K T : Type 0} (rows : KeyedRows K T) where
  one : (test : K → Bool) (k : K) (n : ℕ) (p : Option (Place T)) (rest : List (K × Place T)) (x : Option ℕ) → is_some p ≡ true → p ≡ place_of_row (row_at rows n) → lookup test rest ≡ place_in rows x
      → lookup test (with_row k p rest) ≡ place_in rows (cond (test k) (Some n) x)
  one test k n None rest x h e r = absurd cc
  one test k n (Some p) rest x h e r = by (test k)
    where
      by : (b : Bool) → cond b (Some p) (lookup test rest) ≡ place_in rows (cond b (Some n) x)
      by true = e
      by false = r

  -- what stands at a key is what stands in the row that the index has for it
  pub found_in : (index : List (K × ℕ)) → AreThere rows index → (test : K → Bool) → lookup test (rowed index rows) ≡ place_in rows (lookup test index)
  found_in [] h test = refl
  found_in (e ∷ index) h test = one test e.0 e.1 (place_of_row (row_at rows e.1)) (rowed index rows) (lookup test index) h.0 refl (found_in index h.1 test)

  key_first : (k : K) (p : Option (Place T)) (rest : List (K × Place T)) → is_some p ≡ true → keys_of (with_row k p rest) ≡ k ∷ keys_of rest
  key_first k None rest h = absurd cc
  key_first k (Some p) rest h = refl

  pub same_keys : (index : List (K × ℕ)) → AreThere rows index → keys_of (rowed index rows) ≡ keys_of index
  same_keys [] h = refl
  same_keys (e ∷ index) h = key_first e.0 (place_of_row (row_at rows e.1)) (rowed index rows) h.0 ∙ ap (λ ks. e.0 ∷ ks) (same_keys index h.1)

-- ---- keys in order

module _ {K : Type 0} {R : K → K → Ordering} (o : IsTotalOrder R) where
  -- keys that tie are found alike
  pub tied_keys : {X : Type 0} (es : List (K × X)) (k q : K) → eq_by_cmp R k q ≡ true → lookup (is_at (R k)) es ≡ lookup (is_at (R q)) es
  tied_keys [] k q h = refl
  tied_keys (e ∷ es) k q h = λ i. cond ((eq_by_cmp_equiv o).congr k q e.0 h i) (Some e.1) (tied_keys es k q h i)

  none_above : {X : Type 0} (k : K) (es : List (K × X)) → AllByRecursion (λ y. R k y ≡ Less) (keys_of es) → lookup (is_at (R k)) es ≡ None
  none_above k [] h = refl
  none_above k (e ∷ es) h = ap (λ r. cond (is_eq r) (Some e.1) (lookup (is_at (R k)) es)) h.0 ∙ none_above k es h.1

  module _ {T : Type 0} (rows : KeyedRows K T) where
    is_there : (k : K) (l : Option (KeyedRow K T)) → is_of R k l ≡ true → is_some (place_of_row l) ≡ true
    is_there k None h = absurd cc
    is_there k (Some l) h = refl

    there_from : (index : List (K × ℕ)) → IsStrictlySortedBy R (keys_of index) → ((k : K) (n : ℕ) → lookup (is_at (R k)) index ≡ Some n → is_of R k (row_at rows n) ≡ true) → AreThere rows index
    unfolding IsStrictlySortedBy
    there_from [] s h = tt
    there_from (e ∷ index) s h = (
      is_there e.0 (row_at rows e.1) (h e.0 e.1 (ap (λ b. cond b (Some e.1) (lookup (is_at (R e.0)) index)) ((eq_by_cmp_equiv o).refl e.0))),
      there_from index s.1 (λ k n f. h k n (past k n f (eq_by_cmp R k e.0) refl)),
    )
      where
        past : (k : K) (n : ℕ) → lookup (is_at (R k)) index ≡ Some n → (b : Bool) → eq_by_cmp R k e.0 ≡ b → cond b (Some e.1) (lookup (is_at (R k)) index) ≡ Some n
        past k n f true t = absurd (not_some (lookup (is_at (R k)) index) (tied_keys index k e.0 t ∙ none_above e.0 index s.0) f)
        past k n f false t = f

    pub all_there : (index : List (K × ℕ)) → IsTied R index rows → AreThere rows index
    all_there index t = there_from index t.ordered t.named

    pub found : (index : List (K × ℕ)) → IsTied R index rows → (q : K) → lookup (is_at (R q)) (rowed index rows) ≡ place_in rows (lookup (is_at (R q)) index)
    found index t q = found_in rows index (all_there index t) (is_at (R q))

    some_there : (index : List (K × ℕ)) → ((k : K) (n : ℕ) → lookup (is_at (R k)) index ≡ Some n → is_of R k (row_at rows n) ≡ true) → (q : K) (y : Option ℕ) → lookup (is_at (R q)) index ≡ y → is_some y ≡ is_some (place_in rows y)
    some_there index h q None e = refl
    some_there index h q (Some n) e = sym (is_there q (row_at rows n) (h q n e))

    -- what stands at a key is there where the index has a row for it
    pub found_there : (index : List (K × ℕ)) → IsTied R index rows → (q : K) → is_some (lookup (is_at (R q)) index) ≡ is_some (lookup (is_at (R q)) (rowed index rows))
    found_there index t q = some_there index t.named q (lookup (is_at (R q)) index) refl ∙ ap (λ y. is_some y) (sym (found index t q))

    pub rising : (index : List (K × ℕ)) → IsTied R index rows → IsStrictlySortedBy R (keys_of (rowed index rows))
    rising index t = subst (λ ks. IsStrictlySortedBy R ks) (sym (same_keys rows index (all_there index t))) t.ordered

    both : (k q : K) (l : Option (KeyedRow K T)) → is_of R k l ≡ true → is_of R q l ≡ true → eq_by_cmp R k q ≡ true
    both k q None a b = absurd cc
    both k q (Some l) a b = (eq_by_cmp_equiv o).congr k l.key q a ∙ (eq_by_cmp_equiv o).symm l.key q ∙ b

    -- a row is that of one key
    pub one_key : (index : List (K × ℕ)) → IsTied R index rows → (k q : K) (n : ℕ) → lookup (is_at (R k)) index ≡ Some n → lookup (is_at (R q)) index ≡ Some n → eq_by_cmp R k q ≡ true
    one_key index t k q n a b = both k q (row_at rows n) (t.named k n a) (t.named q n b)

-- ---- the row of one key is exchanged for another, for itself, or for none

module _ {K T : Type 0} {R : K → K → Ordering} (o : IsTotalOrder R) where
  pub record IsExchanged (k : K) (n : Option ℕ) (index : List (K × ℕ)) (rows after : KeyedRows K T) : Type 0 where
    pub new : (j : ℕ) → n ≡ Some j → is_of R k (row_at after j) ≡ true
    pub own : (j : ℕ) → n ≡ Some j → (q : K) → lookup (is_at (R q)) index ≡ Some j → eq_by_cmp R k q ≡ true
    pub gone : (j : ℕ) → lookup (is_at (R k)) index ≡ Some j → n ≢ Some j → row_at after j ≡ None
    pub others : (j : ℕ) → n ≢ Some j → lookup (is_at (R k)) index ≢ Some j → row_at after j ≡ row_at rows j

  module _ (k : K) (n : Option ℕ) (index later : List (K × ℕ)) (rows after : KeyedRows K T) (t : IsTied R index rows) (x : IsExchanged k n index rows after)
      (up : (q : K) → lookup (is_at (R q)) later ≡ cond (is_at (R k) q) n (lookup (is_at (R q)) index)) where
    -- the row of a key that does not tie with this one is as it was
    other : (q : K) (j : ℕ) → eq_by_cmp R k q ≡ false → lookup (is_at (R q)) index ≡ Some j → row_at after j ≡ row_at rows j
    other q j b h = x.others j (λ e. not_both (eq_by_cmp R k q) (x.own j e q h) b) (λ e. not_both (eq_by_cmp R k q) (one_key o rows index t k q j e h) b)

    tie : (q : K) (l : Option (KeyedRow K T)) → eq_by_cmp R k q ≡ true → is_of R k l ≡ true → is_of R q l ≡ true
    tie q None b h = h
    tie q (Some l) b h = sym ((eq_by_cmp_equiv o).congr k q l.key b) ∙ h

    named_at : (q : K) (j : ℕ) (b : Bool) → eq_by_cmp R k q ≡ b → cond b n (lookup (is_at (R q)) index) ≡ Some j → is_of R q (row_at after j) ≡ true
    named_at q j true b h = tie q (row_at after j) b (x.new j h)
    named_at q j false b h = ap (λ l. is_of R q l) (other q j b h) ∙ t.named q j h

    new_at : (q : K) (b : Bool) → eq_by_cmp R k q ≡ true → eq_by_cmp R k q ≡ b → cond b n (lookup (is_at (R q)) index) ≡ n
    new_at q true e f = refl
    new_at q false e f = absurd (not_both (eq_by_cmp R k q) e f)

    kept_at : (q : K) (j : ℕ) (b : Bool) → eq_by_cmp R k q ≡ b → lookup (is_at (R k)) index ≢ Some j → lookup (is_at (R q)) index ≡ Some j → cond b n (lookup (is_at (R q)) index) ≡ Some j
    kept_at q j true b e h = absurd (e (tied_keys o index k q b ∙ h))
    kept_at q j false b e h = h

    kept_by : (j : ℕ) (l : KeyedRow K T) → row_at after j ≡ Some l → lookup (is_at (R l.key)) later ≡ Some j
    kept_by j l h = elim (cases_some n j) [
      | inl e ↦ up l.key ∙ new_at l.key (eq_by_cmp R k l.key) (ap (λ y. is_of R k y) (sym h) ∙ x.new j e) refl ∙ e
      | inr e ↦ elim (cases_some (lookup (is_at (R k)) index) j) [
        | inl f ↦ absurd (not_some (row_at after j) (x.gone j f e) h)
        | inr f ↦ up l.key ∙ kept_at l.key j (eq_by_cmp R k l.key) refl f (t.kept j l (sym (x.others j e f) ∙ h))
      ]
    ]

    pub exchanged : IsStrictlySortedBy R (keys_of later) → IsTied R later after
    exchanged s = record { ordered = s; named = λ q j h. named_at q j (eq_by_cmp R k q) refl (sym (up q) ∙ h); kept = kept_by }

    at_other : (q : K) (y : Option ℕ) → eq_by_cmp R k q ≡ false → lookup (is_at (R q)) index ≡ y → place_in after y ≡ place_in rows y
    at_other q None b h = refl
    at_other q (Some j) b h = ap (λ l. place_of_row l) (other q j b h)

    put_at : (q : K) (b : Bool) → eq_by_cmp R k q ≡ b → place_in after (cond b n (lookup (is_at (R q)) index)) ≡ cond b (place_in after n) (place_in rows (lookup (is_at (R q)) index))
    put_at q true b = refl
    put_at q false b = at_other q (lookup (is_at (R q)) index) b refl

    -- what the rows have at the key is what stands in its new row, and at any other key what they had
    pub puts : IsStrictlySortedBy R (keys_of later) → (q : K) → lookup (is_at (R q)) (rowed later after) ≡ cond (is_at (R k) q) (place_in after n) (lookup (is_at (R q)) (rowed index rows))
    puts s q = found o after later (exchanged s) q ∙ ap (λ y. place_in after y) (up q) ∙ put_at q (eq_by_cmp R k q) refl ∙ ap (λ y. cond (is_at (R k) q) (place_in after n) y) (sym (found o rows index t q))
