-- A part that is laid over maps, a key after the other.
use Rattle.std.proofs.Common.{◌≡◌, ℕ, ◌+◌, Bool, false, cond, List, [], ◌∷◌, ◌++◌, get_or, take, Some, refl, sym, ap, ◌∙◌, arith}
use Rattle.std.proofs.lemmas.List.{take_more}
use Rattle.std.specs.Prelude.{◌||◌}
use Rattle.gw_base.specs.declared.key.Key.{Key}
use Rattle.gw_base.specs.declared.key.Key.TheVariants.{Term, Ctx, Whole}
use Rattle.gw_base.specs.Keys.{same_key, has}
use Rattle.gw_table.specs.declared.cell.Cell.{Cell}
use Rattle.gw_table.specs.Cells.{celled, put_cell, IsFound}
use Rattle.gw_table.specs.Maps.{Maps, term, ctx, put_term, put_ctx}
use Rattle.gw_table.specs.Parts.{overlaid}
use Rattle.gw_table.specs.Stored.{maps_of}
use Rattle.gw_table.proofs.Lookups.{same_maps}
use Rattle.gw_table.proofs.Moved.{has-pushed}
use Rattle.gw_table.proofs.PartLookups.{term-overlaid, ctx-overlaid}
use Rattle.gw_table.proofs.PartWrites.{IsFilled, stood_term, stood_ctx}

either_time : {A : Type 0} (h s : Bool) (x y : A) → cond (h || s) x y ≡ cond (s || false) x (cond h x y)
either_time h s x y = grind arith

-- the last key is laid over those before it
last_laid : (keys : List Key) (k : Key) (part m : Maps) → overlaid (keys ++ k ∷ []) part m ≡ overlaid (k ∷ []) part (overlaid keys part m)
last_laid keys k part m = same_maps _ _
    (λ q. term-overlaid (keys ++ k ∷ []) part m q ∙ ap (λ b. cond b (term part q) (term m q)) (has-pushed keys k (Term q)) ∙ either_time (has keys (Term q)) (same_key (Term q) k) (term part q) (term m q)
    ∙ sym (term-overlaid (k ∷ []) part (overlaid keys part m) q ∙ ap (cond (has (k ∷ []) (Term q)) (term part q)) (term-overlaid keys part m q)))
    (λ q. ctx-overlaid (keys ++ k ∷ []) part m q ∙ ap (λ b. cond b (ctx part q) (ctx m q)) (has-pushed keys k (Ctx q)) ∙ either_time (has keys (Ctx q)) (same_key (Ctx q) k) (ctx part q) (ctx m q)
    ∙ sym (ctx-overlaid (k ∷ []) part (overlaid keys part m) q ∙ ap (cond (has (k ∷ []) (Ctx q)) (ctx part q)) (ctx-overlaid keys part m q)))

module _ (keys : List Key) (cells : List Cell) (i : ℕ) (f : IsFilled keys cells) (k : Key) (e : Cell) (found : IsFound keys k (Some i)) (m now new : Maps) where
  by_cell : (k : Key) → IsFound keys k (Some i) → put_cell k (get_or cells i e) now ≡ overlaid (k ∷ []) (maps_of (celled keys cells)) now
  by_cell (Term t) found = ap (put_term now t) (stood_term keys cells i f t e found)
  by_cell (Ctx n) found = ap (put_ctx now n) (stood_ctx keys cells i f n e found)
  by_cell Whole found = refl

  -- one key more of a part, whose entry is in its cell
  pub laid_next : now ≡ overlaid (take i keys) (maps_of (celled keys cells)) m → new ≡ put_cell k (get_or cells i e) now → new ≡ overlaid (take (i + 1) keys) (maps_of (celled keys cells)) m
  laid_next so_far put =
      put ∙ by_cell k found ∙ ap (overlaid (k ∷ []) (maps_of (celled keys cells))) so_far ∙ sym (last_laid (take i keys) k (maps_of (celled keys cells)) m)
      ∙ ap (λ (l : List Key). overlaid l (maps_of (celled keys cells)) m) (sym (take_more keys i k found.0 ∙ ap (λ x. take i keys ++ x ∷ []) found.1))
