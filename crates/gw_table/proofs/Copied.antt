-- Copies of the entries at keys: a cell for each.
use Rattle.std.proofs.Common.{◌≡◌, ℕ, Bool, true, false, cond, List, [], ◌∷◌, map, Option, None, Some, refl, sym, ap, ◌∙◌, arith}
use Rattle.std.proofs.lemmas.List.{length-map}
use Rattle.std.specs.Prelude.{◌||◌}
use Rattle.std.specs.BTreeMap.{is_at}
use Rattle.std.specs.Cmp.{nat_cmp_total}
use Rattle.std.specs.Cmp.Lexicographic.{nat_list_cmp_total}
use Rattle.std.specs.FinMap as finite
use Rattle.std.specs.Map.{lookup}
use Rattle.std.specs.Ordering.{nat_cmp}
use Rattle.std.specs.declared.cmp.Ordering.{Ordering}
use Rattle.gw_base.specs.declared.ids.CtxNum.{CtxNum}
use Rattle.gw_base.specs.declared.key.Key.{Key}
use Rattle.gw_base.specs.declared.key.Key.TheVariants.{Term, Ctx, Whole}
use Rattle.gw_base.specs.Keys.{same_key, has}
use Rattle.gw_base.specs.NameLists.{name_cmp}
use Rattle.gw_base.proofs.Views.{seen}
use Rattle.gw_table.specs.declared.cell.Cell.{Cell}
use Rattle.gw_table.specs.Cells.{cell_term, cell_ctx, with_term, with_ctx, cells_by, term_cells, ctx_cells, celled, visible_cell}
use Rattle.gw_table.specs.KeyLists.{IsInOrder}
use Rattle.gw_table.specs.Maps.{Maps, term, ctx}
use Rattle.gw_table.specs.Parts.{restricted}
use Rattle.gw_table.specs.Stored.{visible, placed, has_left, maps_of, NoneIsOut}
use Rattle.gw_table.proofs.Celled.{of_number, one_term, one_ctx, packed}
use Rattle.gw_table.proofs.KeyOrder.{same_key_is}
use Rattle.gw_table.proofs.Lookups.{same_maps}
use Rattle.gw_table.proofs.PartLookups.{term-restricted, ctx-restricted}
use Rattle.gw_table.proofs.PartWrites.{IsFilled}
use Rattle.gw_table.proofs.Places.{term-maps_of, ctx-maps_of}

-- the cells of a list of keys, each made of its key alone: what is found at a key is what is made of it
found_by : {K X : Type 0} (R : K → K → Ordering) (key : K → Key) (value : Cell → X) (add : Key → Cell → List (K × X) → List (K × X))
    → ((q : K) (k : Key) (c : Cell) (es : List (K × X)) → lookup (is_at (R q)) (add k c es) ≡ cond (same_key (key q) k) (Some (value c)) (lookup (is_at (R q)) es))
    → (f : Key → Cell) (keys : List Key) (q : K) → lookup (is_at (R q)) (cells_by add keys (map f keys)) ≡ cond (has keys (key q)) (Some (value (f (key q)))) None
found_by R key value add one f [] q = refl
found_by {X = X} R key value add one f (k ∷ keys) q =
    one q k (f k) (cells_by add keys (map f keys)) ∙ ap (cond (same_key (key q) k) (Some (value (f k)))) (found_by R key value add one f keys q) ∙ at (same_key (key q) k) refl
  where
    at : (b : Bool) → same_key (key q) k ≡ b → cond b (Some (value (f k))) (cond (has keys (key q)) (Some (value (f (key q)))) None) ≡ cond (b || has keys (key q)) (Some (value (f (key q)))) None
    at true e = ap (λ (x : Key). Some (value (f x))) (sym (same_key_is (key q) k e))
    at false e = refl

entry_of : {A : Type 0} (b : Bool) (o : Option A) → visible (cond b (Some (placed o)) None) ≡ cond b o None
entry_of b o = grind arith

none_left : {A : Type 0} (b : Bool) (o : Option A) → has_left (cond b (Some (placed o)) None) ≡ false
none_left b o = grind arith

module _ (m : Maps) (keys : List Key) where
  abbrev pub copies : List Cell
  copies = map (visible_cell m) keys

  copied_term : (t : List ℕ) → finite.get (celled keys copies).terms t ≡ cond (has keys (Term t)) (Some (placed (term m t))) None
  copied_term t = seen nat_list_cmp_total (term_cells keys copies) t ∙ found_by name_cmp (λ q. Term q) cell_term with_term one_term (visible_cell m) keys t

  copied_ctx : (n : CtxNum) → finite.get (celled keys copies).contexts n.0 ≡ cond (has keys (Ctx n)) (Some (placed (ctx m n))) None
  copied_ctx n = seen nat_cmp_total (ctx_cells keys copies) n.0 ∙ found_by nat_cmp of_number cell_ctx with_ctx one_ctx (visible_cell m) keys n.0

  copies_here : NoneIsOut (celled keys copies)
  copies_here (Term t) = ap (λ o. has_left o) (copied_term t) ∙ none_left (has keys (Term t)) (term m t)
  copies_here (Ctx n) = ap (λ o. has_left o) (copied_ctx n) ∙ none_left (has keys (Ctx n)) (ctx m n)
  copies_here Whole = refl

  pub copies_fill : IsInOrder keys → IsFilled keys copies
  copies_fill order = (order, length-map keys (visible_cell m), packed keys copies (length-map keys (visible_cell m)) copies_here)

  pub maps_copied : maps_of (celled keys copies) ≡ restricted keys m
  maps_copied = same_maps (maps_of (celled keys copies)) (restricted keys m)
      (λ t. term-maps_of (celled keys copies) t ∙ ap (λ o. visible o) (copied_term t) ∙ entry_of (has keys (Term t)) (term m t) ∙ sym (term-restricted keys m t))
      (λ n. ctx-maps_of (celled keys copies) n ∙ ap (λ o. visible o) (copied_ctx n) ∙ entry_of (has keys (Ctx n)) (ctx m n) ∙ sym (ctx-restricted keys m n))
