-- Rows with an index of their keys: the row of one key is written, comes to be, or is dropped.
use Rattle.std.proofs.Common.{◌≡◌, ◌≢◌, ℕ, Bool, true, false, cond, List, Option, None, Some, refl, sym, ap, ◌∙◌}
use Rattle.std.proofs.Common.{◌<◌, length, set, arith, IsSome, get_or-set_same, get_or-set_other}
use Rattle.std.proofs.lemmas.List.{get_or_past}
use Rattle.gw_table.specs.RowLending.{with_place}
use Rattle.std.specs.Cmp.{IsTotalOrder}
use Rattle.std.specs.BTreeMap.{is_at}
use Rattle.std.specs.List.Sorted.{IsStrictlySortedBy}
use Rattle.std.specs.Map.{lookup, keys_of}
use Rattle.std.specs.Ordering.{eq_by_cmp}
use Rattle.std.specs.declared.cmp.Ordering.{Ordering}
use Rattle.gw_table.specs.declared.place.Place.{Place}
use Rattle.gw_table.specs.declared.rows.KeyedRow.{KeyedRow}
use Rattle.gw_table.specs.Rows.{Rowed, row_at, place_of_row, place_in, rowed, is_of, IsTied}
use Rattle.gw_table.proofs.TiedRows.{KeyedRows, not_some, some_is, tied_keys, one_key, IsExchanged, exchanged, puts}

module _ {K T : Type 0} {R : K → K → Ordering} (o : IsTotalOrder R) (k : K) (index : List (K × ℕ)) (rows : KeyedRows K T) (t : IsTied R index rows) where
  pub filled : (n : ℕ) → lookup (is_at (R k)) index ≡ Some n → IsSome (row_at rows n)
  filled n h = by (row_at rows n) (t.named k n h)
    where
      by : (l : Option (KeyedRow K T)) → is_of R k l ≡ true → IsSome l
      by None h = absurd cc
      by (Some l) h = refl

  pub same_index : (n : ℕ) → lookup (is_at (R k)) index ≡ Some n → (q : K) → lookup (is_at (R q)) index ≡ cond (is_at (R k) q) (Some n) (lookup (is_at (R q)) index)
  same_index n h q = by (eq_by_cmp R k q) refl
    where
      by : (b : Bool) → eq_by_cmp R k q ≡ b → lookup (is_at (R q)) index ≡ cond b (Some n) (lookup (is_at (R q)) index)
      by true e = sym (tied_keys o index k q e) ∙ h
      by false e = refl

  pub vacant : (n : ℕ) → row_at rows n ≡ None → (q : K) → lookup (is_at (R q)) index ≡ Some n → ⊥
  vacant n e q h = by (row_at rows n) e (t.named q n h)
    where
      by : (l : Option (KeyedRow K T)) → l ≡ None → is_of R q l ≡ true → ⊥
      by None e h = cc
      by (Some l) e h = cc

  -- what stands in the row of the key is changed
  module _ (n : ℕ) (h : lookup (is_at (R k)) index ≡ Some n) (l : KeyedRow K T) (is : row_at rows n ≡ Some l) (p : Place T) where
    abbrev written : KeyedRows K T
    written = set rows n (Some (with_place l p))

    within : n < length rows
    within = grind (arith, get_or_past)

    is_written : row_at written n ≡ Some (with_place l p)
    is_written = get_or-set_same rows n (Some (with_place l p)) None within

    exchange : IsExchanged o k (Some n) index rows written
    exchange = record {
      new = λ j e. ap (λ m. is_of R k (row_at written m)) (sym (some_is e)) ∙ ap (λ x. is_of R k x) is_written ∙ ap (λ x. is_of R k x) (sym is) ∙ t.named k n h;
      own = λ j e q f. one_key o rows index t k q n h (f ∙ sym e);
      gone = λ j e f. absurd (f (sym h ∙ e));
      others = λ j e f. get_or-set_other rows n j (Some (with_place l p)) None (λ s. e (ap (λ m. Some m) (sym s)));
    }

    pub tied_written : IsTied R index written
    tied_written = exchanged o k (Some n) index index rows written t exchange (same_index n h) t.ordered

    pub puts_written : (q : K) → lookup (is_at (R q)) (rowed index written) ≡ cond (is_at (R k) q) (Some p) (lookup (is_at (R q)) (rowed index rows))
    puts_written q = puts o k (Some n) index index rows written t exchange (same_index n h) t.ordered q
        ∙ ap (λ x. cond (is_at (R k) q) (place_of_row x) (lookup (is_at (R q)) (rowed index rows))) is_written

  -- the key has a new row, in a place where none stood, and its old one is dropped
  module _ (n : ℕ) (l : KeyedRow K T) (free : row_at rows n ≡ None) (own : eq_by_cmp R k l.key ≡ true) (with : KeyedRows K T) (there : row_at with n ≡ Some l) (others : (j : ℕ) → j ≢ n → row_at with j ≡ row_at rows j) where
    is_own : (x : Option (KeyedRow K T)) → x ≡ Some l → is_of R k x ≡ true
    is_own x e = ap (λ y. is_of R k y) e ∙ own

    pub exchange_new : lookup (is_at (R k)) index ≡ None → IsExchanged o k (Some n) index rows with
    exchange_new none = record {
      new = λ j e. is_own (row_at with j) (ap (λ m. row_at with m) (sym (some_is e)) ∙ there);
      own = λ j e q f. absurd (vacant n free q (f ∙ sym e));
      gone = λ j e f. absurd (not_some (lookup (is_at (R k)) index) none e);
      others = λ j e f. others j (λ s. e (ap (λ m. Some m) (sym s)));
    }

    pub exchange_old : (m : ℕ) → lookup (is_at (R k)) index ≡ Some m → (after : KeyedRows K T) → row_at after m ≡ None → ((j : ℕ) → j ≢ m → row_at after j ≡ row_at with j) → IsExchanged o k (Some n) index rows after
    exchange_old m h after gone rest =
        let apart : n ≢ m = λ e. vacant n free k (h ∙ ap (λ x. Some x) (sym e)) in
        let stands : row_at after n ≡ Some l = rest n apart ∙ there in record {
          new = λ j e. is_own (row_at after j) (ap (λ x. row_at after x) (sym (some_is e)) ∙ stands);
          own = λ j e q f. absurd (vacant n free q (f ∙ sym e));
          gone = λ j e f. ap (λ x. row_at after x) (sym (some_is (sym h ∙ e))) ∙ gone;
          others = λ j e f. rest j (λ s. f (h ∙ ap (λ x. Some x) (sym s))) ∙ others j (λ s. e (ap (λ x. Some x) (sym s)));
        }

  -- the row of the key is dropped
  pub exchange_none : (m : ℕ) → lookup (is_at (R k)) index ≡ Some m → (after : KeyedRows K T) → row_at after m ≡ None → ((j : ℕ) → j ≢ m → row_at after j ≡ row_at rows j) → IsExchanged o k None index rows after
  exchange_none m h after gone rest = record {
    new = λ j e. absurd cc;
    own = λ j e. absurd cc;
    gone = λ j e f. ap (λ x. row_at after x) (sym (some_is (sym h ∙ e))) ∙ gone;
    others = λ j e f. rest j (λ s. f (h ∙ ap (λ x. Some x) (sym s)));
  }

  -- the key has none
  pub exchange_absent : lookup (is_at (R k)) index ≡ None → IsExchanged o k None index rows rows
  exchange_absent none = record {
    new = λ j e. absurd cc;
    own = λ j e. absurd cc;
    gone = λ j e f. absurd (not_some (lookup (is_at (R k)) index) none e);
    others = λ j e f. refl;
  }

  -- ---- what comes of the index with these

  module _ (n : Option ℕ) (after : KeyedRows K T) (x : IsExchanged o k n index rows after) (later : List (K × ℕ)) (up : (q : K) → lookup (is_at (R q)) later ≡ cond (is_at (R k) q) n (lookup (is_at (R q)) index)) (s : IsStrictlySortedBy R (keys_of later)) where
    pub tied_so : IsTied R later after
    tied_so = exchanged o k n index later rows after t x up s

    pub puts_so : (p : Option (Place T)) → place_in after n ≡ p → (m : Rowed K (Place T)) → rowed index rows ≡ m.entries → (q : K) → lookup (is_at (R q)) (rowed later after) ≡ cond (is_at (R k) q) p (lookup (is_at (R q)) m.entries)
    puts_so p e m f q = puts o k n index later rows after t x up s q
        ∙ ap (λ y. cond (is_at (R k) q) y (lookup (is_at (R q)) (rowed index rows))) e
        ∙ ap (λ (es : List (K × Place T)). cond (is_at (R k) q) p (lookup (is_at (R q)) es)) f
