-- Keys in order with a cell for each: what is found at a key, and what a change of one cell changes.
use Rattle.std.proofs.Common.{◌≡◌, ℕ, suc, zero, ◌<◌, ◌≤◌, Bool, true, false, cond, List, [], ◌∷◌, length, get_or, set, take, drop, ◌++◌, Option, None, Some, is_some, refl, sym, subst, ap, ◌∙◌, arith}
use Rattle.std.proofs.Math.Seq.{take-append_seam}
use Rattle.std.proofs.lemmas.List.{set-get_or}
use Rattle.std.specs.Prelude.{◌||◌}
use Rattle.std.specs.BTreeMap.{is_at}
use Rattle.std.specs.Cmp.{nat_cmp_total}
use Rattle.std.specs.Cmp.Lexicographic.{nat_list_cmp_total}
use Rattle.std.specs.FinMap as finite
use Rattle.std.specs.Map.{lookup}
use Rattle.std.specs.Ordering.{nat_cmp}
use Rattle.std.specs.declared.cmp.Ordering.{Ordering}
use Rattle.gw_base.specs.declared.ids.CtxNum.{CtxNum}
use Rattle.gw_base.specs.declared.key.Key.{Key}
use Rattle.gw_base.specs.declared.key.Key.TheVariants.{Term, Ctx, Whole}
use Rattle.gw_base.specs.Keys.{same_key, has}
use Rattle.gw_base.specs.NameLists.{name_cmp}
use Rattle.gw_base.proofs.KeyTests.{same-itself}
use Rattle.gw_base.proofs.NameTests.{name_test}
use Rattle.gw_base.proofs.Views.{seen}
use Rattle.gw_term.specs.declared.record.Termination.{Termination}
use Rattle.gw_ctx.specs.Contexts.{ContextRecord}
use Rattle.gw_table.specs.declared.place.Place.{Place}
use Rattle.gw_table.specs.declared.cell.Cell.{Cell}
use Rattle.gw_table.specs.Cells.{cell_term, cell_ctx, with_term, with_ctx, cells_by, term_cells, ctx_cells, celled, out_cell, or_empty, cell_from, with_cell, IsFound}
use Rattle.gw_table.specs.KeyLists.{IsInOrder}
use Rattle.gw_table.specs.Parts.{Only, IsPart}
use Rattle.gw_table.specs.Stored.{Stored, visible, maps_of, is_ready, with_out, put_term_place, put_ctx_place, NoneIsOut, ArePacked}
use Rattle.gw_table.proofs.Exchanged.{nothing_found}
use Rattle.gw_table.proofs.KeyOrder.{same_key_is}
use Rattle.gw_table.proofs.Places.{term-maps_of, ctx-maps_of, got_term, got_ctx, same_stored}
use Rattle.gw_table.proofs.Prepared.{first}

-- ---- one more key

pub one_term : (t : List ℕ) (k : Key) (c : Cell) (es : List (List ℕ × Place Termination)) → lookup (is_at (name_cmp t)) (with_term k c es) ≡ cond (same_key (Term t) k) (Some (cell_term c)) (lookup (is_at (name_cmp t)) es)
one_term t k c es = grind (arith, name_test)

-- the key of a context's number
abbrev pub of_number : ℕ → Key
of_number n = Ctx (record { 0 = n })

pub one_ctx : (n : ℕ) (k : Key) (c : Cell) (es : List (ℕ × Place ContextRecord)) → lookup (is_at (nat_cmp n)) (with_ctx k c es) ≡ cond (same_key (of_number n) k) (Some (cell_ctx c)) (lookup (is_at (nat_cmp n)) es)
one_ctx n k c es = grind arith

-- ---- tests

off_first : (a b : Bool) → (a || b) ≡ false → a ≡ false
off_first a b h = grind arith

off_rest : (a b : Bool) → (a || b) ≡ false → b ≡ false
off_rest a b h = grind arith

there : {A : Type 0} (b h : Bool) (p : A) (o : Option A) → is_some o ≡ h → is_some (cond b (Some p) o) ≡ (b || h)
there b h p o e = grind arith

hit : {A : Type 0} (b : Bool) (x y : A) → b ≡ true → cond b x y ≡ x
hit b x y h = grind arith

over : {A : Type 0} (b : Bool) (x y z : A) → cond b x z ≡ cond b x (cond b y z)
over b x y z = grind arith

-- only one of two tests holds
apart : {A : Type 0} (a b : Bool) (x y z : A) → (a ≡ true → b ≡ true → ⊥) → cond a x (cond b y z) ≡ cond b y (cond a x z)
apart a b x y z h = grind arith

-- ---- a cell is set, or put behind the last one

abbrev put : List Cell → ℕ → Cell → List Cell
put [] i c = c ∷ []
put (x ∷ cells) zero c = c ∷ cells
put (x ∷ cells) (suc i) c = x ∷ put cells i c

put_set : (cells : List Cell) (i : ℕ) (c : Cell) → i < length cells → put cells i c ≡ set cells i c
put_set [] i c h = absurd (omega arith)
put_set (x ∷ cells) zero c h = refl
put_set (x ∷ cells) (suc i) c h = ap (λ l. x ∷ l) (put_set cells i c (omega arith))

put_last : (cells : List Cell) (c : Cell) → put cells (length cells) c ≡ cells ++ c ∷ []
put_last [] c = refl
put_last (x ∷ cells) c = ap (λ l. x ∷ l) (put_last cells c)

-- ---- entries of one kind, by the key of each

module _ {K X : Type 0} (R : K → K → Ordering) (key : K → Key) (value : Cell → X) (add : Key → Cell → List (K × X) → List (K × X))
    (one : (q : K) (k : Key) (c : Cell) (es : List (K × X)) → lookup (is_at (R q)) (add k c es) ≡ cond (same_key (key q) k) (Some (value c)) (lookup (is_at (R q)) es)) where
  found_by : (keys : List Key) (cells : List Cell) → length cells ≡ length keys → (q : K) → is_some (lookup (is_at (R q)) (cells_by add keys cells)) ≡ has keys (key q)
  found_by [] [] h q = refl
  found_by [] (c ∷ cells) h q = refl
  found_by (k ∷ keys) [] h q = absurd (omega arith)
  found_by (k ∷ keys) (c ∷ cells) h q = ap (λ o. is_some o) (one q k c (cells_by add keys cells)) ∙ there (same_key (key q) k) (has keys (key q)) (value c) (lookup (is_at (R q)) (cells_by add keys cells)) (found_by keys cells (omega arith) q)

  -- a cell is put at a key that is none of those before it, and changes what is found there alone
  put_by : (keys : List Key) (cells : List Cell) (i : ℕ) (k : Key) (c : Cell) → i ≤ length cells → IsFound keys k (Some i) → has (take i keys) k ≡ false
      → (q : K) → lookup (is_at (R q)) (cells_by add keys (put cells i c)) ≡ cond (same_key (key q) k) (Some (value c)) (lookup (is_at (R q)) (cells_by add keys cells))
  put_by [] cells i k c l found new q = absurd (omega (arith, found.0))
  put_by (y ∷ keys) [] zero k c l found new q = one q y c [] ∙ ap (λ z. cond (same_key (key q) z) (Some (value c)) None) found.1
  put_by (y ∷ keys) [] (suc i) k c l found new q = absurd (omega arith)
  put_by (y ∷ keys) (x ∷ cells) zero k c l found new q =
      let es : List (K × X) = cells_by add keys cells in
      subst (λ z. lookup (is_at (R q)) (add y c es) ≡ cond (same_key (key q) z) (Some (value c)) (lookup (is_at (R q)) (add y x es))) found.1
      (one q y c es ∙ over (same_key (key q) y) (Some (value c)) (Some (value x)) (lookup (is_at (R q)) es) ∙ ap (cond (same_key (key q) y) (Some (value c))) (sym (one q y x es)))
  put_by (y ∷ keys) (x ∷ cells) (suc i) k c l found new q =
      one q y x (cells_by add keys (put cells i c))
      ∙ ap (cond (same_key (key q) y) (Some (value x))) (put_by keys cells i k c (omega arith) (omega (arith, found.0), found.1) (off_rest (same_key k y) (has (take i keys) k) new) q)
      ∙ apart (same_key (key q) y) (same_key (key q) k) (Some (value x)) (Some (value c)) (lookup (is_at (R q)) (cells_by add keys cells)) clash
      ∙ ap (cond (same_key (key q) k) (Some (value c))) (sym (one q y x (cells_by add keys cells)))
    where
      clash : same_key (key q) y ≡ true → same_key (key q) k ≡ true → ⊥
      clash a b =
          let met : same_key k y ≡ true = ap (same_key k) (sym (same_key_is (key q) y a) ∙ same_key_is (key q) k b) ∙ same-itself k in
          let off : true ≡ false = sym met ∙ off_first (same_key k y) (has (take i keys) k) new in
          cc

-- ---- both kinds

pub found_term : (keys : List Key) (cells : List Cell) → length cells ≡ length keys → (t : List ℕ) → is_some (finite.get (celled keys cells).terms t) ≡ has keys (Term t)
found_term keys cells h t = ap (λ o. is_some o) (seen nat_list_cmp_total (term_cells keys cells) t) ∙ found_by name_cmp (λ q. Term q) cell_term with_term one_term keys cells h t

pub found_ctx : (keys : List Key) (cells : List Cell) → length cells ≡ length keys → (n : CtxNum) → is_some (finite.get (celled keys cells).contexts n.0) ≡ has keys (Ctx n)
found_ctx keys cells h n = ap (λ o. is_some o) (seen nat_cmp_total (ctx_cells keys cells) n.0) ∙ found_by nat_cmp of_number cell_ctx with_ctx one_ctx keys cells h n.0

pub no_term : (keys : List Key) (cells : List Cell) → length cells ≡ length keys → (t : List ℕ) → has keys (Term t) ≡ false → finite.get (celled keys cells).terms t ≡ None
no_term keys cells h t off = nothing_found (finite.get (celled keys cells).terms t) (found_term keys cells h t ∙ off)

pub no_ctx : (keys : List Key) (cells : List Cell) → length cells ≡ length keys → (n : CtxNum) → has keys (Ctx n) ≡ false → finite.get (celled keys cells).contexts n.0 ≡ None
no_ctx keys cells h n off = nothing_found (finite.get (celled keys cells).contexts n.0) (found_ctx keys cells h n ∙ off)

pub ready_celled : (keys : List Key) (cells : List Cell) → length cells ≡ length keys → (k : Key) → has keys k ≡ true → is_ready (celled keys cells) k ≡ true
ready_celled keys cells h k e = grind (arith, found_term, found_ctx)

-- where nothing is out, keys with a cell for each are a part's
pub packed : (keys : List Key) (cells : List Cell) → length cells ≡ length keys → NoneIsOut (celled keys cells) → ArePacked keys (celled keys cells)
packed keys cells l none = record { terms = found_term keys cells l; contexts = found_ctx keys cells l; here = none }

-- a cell is put at its key
module _ (keys : List Key) (cells : List Cell) (i : ℕ) (c : Cell) (order : IsInOrder keys) (l : i ≤ length cells) where
  got_terms : (k : Key) → IsFound keys k (Some i) → (q : List ℕ) → finite.get (celled keys (put cells i c)).terms q ≡ cond (same_key (Term q) k) (Some (cell_term c)) (finite.get (celled keys cells).terms q)
  got_terms k found q =
      seen nat_list_cmp_total (term_cells keys (put cells i c)) q ∙ put_by name_cmp (λ y. Term y) cell_term with_term one_term keys cells i k c l found (first keys i k found order) q
      ∙ ap (cond (same_key (Term q) k) (Some (cell_term c))) (sym (seen nat_list_cmp_total (term_cells keys cells) q))

  got_contexts : (k : Key) → IsFound keys k (Some i) → (q : CtxNum) → finite.get (celled keys (put cells i c)).contexts q.0 ≡ cond (same_key (Ctx q) k) (Some (cell_ctx c)) (finite.get (celled keys cells).contexts q.0)
  got_contexts k found q =
      seen nat_cmp_total (ctx_cells keys (put cells i c)) q.0 ∙ put_by nat_cmp of_number cell_ctx with_ctx one_ctx keys cells i k c l found (first keys i k found order) q.0
      ∙ ap (cond (same_key (Ctx q) k) (Some (cell_ctx c))) (sym (seen nat_cmp_total (ctx_cells keys cells) q.0))

  put_cell : (k : Key) → IsFound keys k (Some i) → celled keys (put cells i c) ≡ with_cell k c (celled keys cells)
  put_cell (Term t) found = same_stored _ _ (λ q. got_terms (Term t) found q ∙ sym (got_term (celled keys cells) t (cell_term c) q)) (got_contexts (Term t) found)
  put_cell (Ctx n) found = same_stored _ _ (got_terms (Ctx n) found) (λ q. got_contexts (Ctx n) found q ∙ sym (got_ctx (celled keys cells) n (cell_ctx c) q))
  put_cell Whole found = same_stored _ _ (got_terms Whole found) (got_contexts Whole found)

-- the cells so far, and one more
pub one_cell_more : (keys : List Key) (cells : List Cell) (i : ℕ) (k : Key) (c : Cell) → IsInOrder keys → length cells ≡ i → IsFound keys k (Some i) → celled keys (cells ++ c ∷ []) ≡ with_cell k c (celled keys cells)
one_cell_more keys cells i k c order l found =
    ap (celled keys) (sym (put_last cells c) ∙ ap (λ n. put cells n c) l) ∙ put_cell keys cells i c order (omega arith) k found

-- a cell for each key
module _ (keys : List Key) (cells : List Cell) (i : ℕ) (order : IsInOrder keys) (l : length cells ≡ length keys) where
  pub set_cell : (k : Key) (c : Cell) → IsFound keys k (Some i) → celled keys (set cells i c) ≡ with_cell k c (celled keys cells)
  set_cell k c found = let h : i < length keys = found.0 in ap (celled keys) (sym (put_set cells i c (omega arith))) ∙ put_cell keys cells i c order (omega arith) k found

  own : (e : Cell) → i < length keys → cells ≡ put cells i (get_or cells i e)
  own e h = sym (put_set cells i (get_or cells i e) (omega arith) ∙ set-get_or cells i e)

  pub term_here : (t : List ℕ) (e : Cell) → IsFound keys (Term t) (Some i) → finite.get (celled keys cells).terms t ≡ Some (cell_term (get_or cells i e))
  term_here t e found =
      let h : i < length keys = found.0 in
      ap (λ x. finite.get (celled keys x).terms t) (own e h) ∙ got_terms keys cells i (get_or cells i e) order (omega arith) (Term t) found t ∙ hit (same_key (Term t) (Term t)) _ _ (same-itself (Term t))

  pub ctx_here : (n : CtxNum) (e : Cell) → IsFound keys (Ctx n) (Some i) → finite.get (celled keys cells).contexts n.0 ≡ Some (cell_ctx (get_or cells i e))
  ctx_here n e found =
      let h : i < length keys = found.0 in
      ap (λ x. finite.get (celled keys x).contexts n.0) (own e h) ∙ got_contexts keys cells i (get_or cells i e) order (omega arith) (Ctx n) found n ∙ hit (same_key (Ctx n) (Ctx n)) _ _ (same-itself (Ctx n))

  -- the place of the key is that of its cell
  pub with_cell_here : (k : Key) (e : Cell) (s : Stored) → IsFound keys k (Some i) → with_cell k (get_or cells i e) s ≡ with_cell k (cell_from (celled keys cells) k) s
  with_cell_here (Term t) e s found = ap (λ (o : Option (Place Termination)). put_term_place s t (or_empty o)) (sym (term_here t e found))
  with_cell_here (Ctx n) e s found = ap (λ (o : Option (Place ContextRecord)). put_ctx_place s n (or_empty o)) (sym (ctx_here n e found))
  with_cell_here Whole e s found = refl

-- ---- what went out of a cell

pub with_cell_out : (s : Stored) (k : Key) (c : Cell) → with_cell k (out_cell k c) s ≡ with_out s k
with_cell_out s k c = grind arith

-- ---- cells that a slice of them wrote back

pub written_back : {X : Type 0} (new old : List X) (n : ℕ) → length new ≡ n → length old ≡ n → take n (new ++ drop (length new) old) ≡ new
written_back new old n h g = ap (λ m. take m (new ++ drop (length new) old)) (sym h) ∙ take-append_seam new (drop (length new) old)

-- ---- no entry is but at the keys

entry_placed : {A : Type 0} (o : Option (Place A)) → is_some (visible o) ≡ true → is_some o ≡ true
entry_placed o h = grind arith

pub packed_part : (keys : List Key) (s : Stored) → ArePacked keys s → IsPart (Only keys) (maps_of s)
packed_part keys s p = record {
  terms = λ t h. sym (p.terms t) ∙ entry_placed (finite.get s.terms t) (ap (λ o. is_some o) (sym (term-maps_of s t)) ∙ h);
  contexts = λ n h. sym (p.contexts n) ∙ entry_placed (finite.get s.contexts n.0) (ap (λ o. is_some o) (sym (ctx-maps_of s n)) ∙ h);
}
