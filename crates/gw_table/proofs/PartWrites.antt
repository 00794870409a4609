-- What is set at a key of a part: what stood there, and the part after it.
use Rattle.std.proofs.Common.{◌≡◌, ℕ, List, length, get_or, set, map, Option, Some, subst, sym, ap, ◌∙◌}
use Rattle.std.proofs.lemmas.List.{length-set}
use Rattle.gw_base.specs.declared.ids.CtxNum.{CtxNum}
use Rattle.gw_base.specs.declared.key.Key.{Key}
use Rattle.gw_base.specs.declared.key.Key.TheVariants.{Term, Ctx}
use Rattle.gw_term.specs.declared.record.Termination.{Termination}
use Rattle.gw_ctx.specs.Contexts.{ContextRecord}
use Rattle.gw_table.specs.declared.cell.Cell.{Cell}
use Rattle.gw_table.specs.declared.cell.Cell.TheVariants.{OfTerm, OfCtx}
use Rattle.gw_table.specs.Cells.{cell_term, cell_ctx, celled, IsFound}
use Rattle.gw_table.specs.KeyLists.{IsInOrder}
use Rattle.gw_table.specs.Maps.{number, term, ctx, put_term, put_ctx, names, numbers}
use Rattle.gw_table.specs.Parts.{Parted, Only, IsPart}
use Rattle.gw_table.specs.Stored.{Stored, visible, placed, maps_of, NoneIsOut, ArePacked}
use Rattle.gw_table.proofs.Celled.{term_here, ctx_here, packed, set_cell, packed_part}
use Rattle.gw_table.proofs.Picked.{name_in, number_in, has_name, has_number, picked, names_picked, numbers_picked}
use Rattle.gw_table.proofs.Places.{term-maps_of, ctx-maps_of, maps-put_term_place, maps-put_ctx_place, in-put_term, in-put_ctx, shown_placed, placed_here}

-- what a part keeps to: its keys are in order, with a place for each and no other, and nothing is out
abbrev pub IsFilled : List Key → List Cell → Type 0
IsFilled keys cells = IsInOrder keys × (length cells ≡ length keys) × ArePacked keys (celled keys cells)

-- ---- where a key stands

pub found_at : (l keys : List Key) (k : Key) (o : Option ℕ) (i : ℕ) → l ≡ keys → o ≡ Some i → IsFound l k o → IsFound keys k (Some i)
found_at l keys k o i same is found = subst (λ (x : List Key). IsFound x k (Some i)) same (subst (λ (x : Option ℕ). IsFound l k x) is found)

module _ (keys : List Key) (cells : List Cell) (i : ℕ) (f : IsFilled keys cells) where
  pub stood_term : (t : List ℕ) (e : Cell) → IsFound keys (Term t) (Some i) → visible (Some (cell_term (get_or cells i e))) ≡ term (maps_of (celled keys cells)) t
  stood_term t e found =
      ap (λ o. visible o) (sym (term_here keys cells i f.0 f.1 t e found)) ∙ sym (term-maps_of (celled keys cells) t)

  pub stood_ctx : (n : CtxNum) (e : Cell) → IsFound keys (Ctx n) (Some i) → visible (Some (cell_ctx (get_or cells i e))) ≡ ctx (maps_of (celled keys cells)) n
  stood_ctx n e found =
      ap (λ o. visible o) (sym (ctx_here keys cells i f.0 f.1 n e found)) ∙ sym (ctx-maps_of (celled keys cells) n)

  -- ---- what is set there

  pub term_set : (t : List ℕ) (o : Option Termination) (x : Cell) → x ≡ OfTerm (placed o) → IsFound keys (Term t) (Some i) → IsFilled keys (set cells i x)
  term_set t o x is found = subst (λ (y : Cell). IsFilled keys (set cells i y)) (sym is) (
    f.0,
    length-set cells i (OfTerm (placed o)) ∙ f.1,
    packed keys (set cells i (OfTerm (placed o))) (length-set cells i (OfTerm (placed o)) ∙ f.1) (subst NoneIsOut (sym (set_cell keys cells i f.0 f.1 (Term t) (OfTerm (placed o)) found)) (in-put_term (celled keys cells) t (placed o) (placed_here o) f.2.here)),
  )

  pub ctx_set : (n : CtxNum) (o : Option ContextRecord) (x : Cell) → x ≡ OfCtx (placed o) → IsFound keys (Ctx n) (Some i) → IsFilled keys (set cells i x)
  ctx_set n o x is found = subst (λ (y : Cell). IsFilled keys (set cells i y)) (sym is) (
    f.0,
    length-set cells i (OfCtx (placed o)) ∙ f.1,
    packed keys (set cells i (OfCtx (placed o))) (length-set cells i (OfCtx (placed o)) ∙ f.1) (subst NoneIsOut (sym (set_cell keys cells i f.0 f.1 (Ctx n) (OfCtx (placed o)) found)) (in-put_ctx (celled keys cells) n (placed o) (placed_here o) f.2.here)),
  )

  pub maps_term_set : (t : List ℕ) (o : Option Termination) (x : Cell) → x ≡ OfTerm (placed o) → IsFound keys (Term t) (Some i) → maps_of (celled keys (set cells i x)) ≡ put_term (maps_of (celled keys cells)) t o
  maps_term_set t o x is found =
      ap (λ (y : Cell). maps_of (celled keys (set cells i y))) is ∙ ap (λ (s : Stored). maps_of s) (set_cell keys cells i f.0 f.1 (Term t) (OfTerm (placed o)) found)
      ∙ maps-put_term_place (celled keys cells) t (placed o) ∙ ap (put_term (maps_of (celled keys cells)) t) (shown_placed o)

  pub maps_ctx_set : (n : CtxNum) (o : Option ContextRecord) (x : Cell) → x ≡ OfCtx (placed o) → IsFound keys (Ctx n) (Some i) → maps_of (celled keys (set cells i x)) ≡ put_ctx (maps_of (celled keys cells)) n o
  maps_ctx_set n o x is found =
      ap (λ (y : Cell). maps_of (celled keys (set cells i y))) is ∙ ap (λ (s : Stored). maps_of s) (set_cell keys cells i f.0 f.1 (Ctx n) (OfCtx (placed o)) found)
      ∙ maps-put_ctx_place (celled keys cells) n (placed o) ∙ ap (put_ctx (maps_of (celled keys cells)) n) (shown_placed o)

-- ---- names and numbers by the part's keys

module _ (keys : List Key) (cells : List Cell) (f : IsFilled keys cells) (now : Parted) (is : ◌≡◌ {A = Parted} (record { keys = Only keys; maps = maps_of (celled keys cells) }) now) where
  at_keys : IsPart (Only keys) now.maps
  at_keys = subst (λ (p : Parted). IsPart (Only keys) p.maps) is (packed_part keys (celled keys cells) f.2)

  pub names_of_part : (l : List Key) → l ≡ keys → picked name_in (has_name now.maps) l ≡ names now.maps
  names_of_part l same = ap (λ (x : List Key). picked name_in (has_name now.maps) x) same ∙ names_picked keys now.maps f.0 at_keys

  pub numbers_of_part : (l : List Key) → l ≡ keys → map number (picked number_in (has_number now.maps) l) ≡ numbers now.maps
  numbers_of_part l same = ap (λ (x : List Key). map number (picked number_in (has_number now.maps) x)) same ∙ numbers_picked keys now.maps f.0 at_keys

-- ---- what was taken out and is set again
