-- Keys with a place for each (own).
use Rattle.std.specs.Prelude.{◌≡◌, ℕ, ◌<◌, false, List, [], ◌∷◌, length, slice_index_or, Option, None, Some}
use Rattle.std.specs.FinMap as finite
use Rattle.std.specs.FinMap.{from_entries}
use Rattle.gw_base.specs.declared.key.Key.{Key}
use Rattle.gw_base.specs.declared.key.Key.TheVariants.{Term, Ctx, Whole}
use Rattle.gw_base.specs.Keys.{has}
use Rattle.gw_term.specs.declared.record.Termination.{Termination}
use Rattle.gw_ctx.specs.Contexts.{ContextRecord}
use Rattle.gw_table.specs.declared.place.Place.{Place}
use Rattle.gw_table.specs.declared.place.Place.TheVariants.{Empty, Out}
use Rattle.gw_table.specs.declared.cell.Cell.{Cell}
use Rattle.gw_table.specs.declared.cell.Cell.TheVariants.{OfTerm, OfCtx, OfWhole}
use Rattle.gw_table.specs.Maps.{Maps, term, ctx, put_term, put_ctx}
use Rattle.gw_table.specs.Stored.{Stored, placed, visible, put_term_place, put_ctx_place}

-- the place of a termination; in the cell of another kind it is empty
abbrev pub cell_term : Cell → Place Termination
cell_term (OfTerm p) = p
cell_term (OfCtx p) = Empty
cell_term OfWhole = Empty

-- the place of a context
abbrev pub cell_ctx : Cell → Place ContextRecord
cell_ctx (OfTerm p) = Empty
cell_ctx (OfCtx p) = p
cell_ctx OfWhole = Empty

-- ---- the places as tables

abbrev pub with_term : Key → Cell → List (List ℕ × Place Termination) → List (List ℕ × Place Termination)
with_term (Term t) c es = (t, cell_term c) ∷ es
with_term (Ctx n) c es = es
with_term Whole c es = es

abbrev pub with_ctx : Key → Cell → List (ℕ × Place ContextRecord) → List (ℕ × Place ContextRecord)
with_ctx (Term t) c es = es
with_ctx (Ctx n) c es = (n.0, cell_ctx c) ∷ es
with_ctx Whole c es = es

-- a cell for each key, or for the first of them, each added to what those behind it come to
abbrev pub cells_by : {E : Type 0} → (Key → Cell → List E → List E) → List Key → List Cell → List E
cells_by add keys [] = []
cells_by add [] (c ∷ cells) = []
cells_by add (k ∷ keys) (c ∷ cells) = add k c (cells_by add keys cells)

abbrev pub term_cells : List Key → List Cell → List (List ℕ × Place Termination)
term_cells keys cells = cells_by with_term keys cells

abbrev pub ctx_cells : List Key → List Cell → List (ℕ × Place ContextRecord)
ctx_cells keys cells = cells_by with_ctx keys cells

abbrev pub celled : List Key → List Cell → Stored
celled keys cells = record { terms = from_entries (term_cells keys cells); contexts = from_entries (ctx_cells keys cells) }

-- ---- one cell

-- the cell of a key, from which what stood there went out
abbrev pub out_cell : Key → Cell → Cell
out_cell (Term t) c = OfTerm Out
out_cell (Ctx n) c = OfCtx Out
out_cell Whole c = c

-- where there is no place it is empty
abbrev pub or_empty : {A : Type 0} → Option (Place A) → Place A
or_empty None = Empty
or_empty (Some p) = p

-- the cell of a key with what stands at it in tables
abbrev pub cell_from : Stored → Key → Cell
cell_from s (Term t) = OfTerm (or_empty (finite.get s.terms t))
cell_from s (Ctx n) = OfCtx (or_empty (finite.get s.contexts n.0))
cell_from s Whole = OfWhole

-- the cell of a key with its entry in maps
abbrev pub visible_cell : Maps → Key → Cell
visible_cell m (Term t) = OfTerm (placed (term m t))
visible_cell m (Ctx n) = OfCtx (placed (ctx m n))
visible_cell m Whole = OfWhole

-- the tables with the place of a cell at its key
abbrev pub with_cell : Key → Cell → Stored → Stored
with_cell (Term t) c s = put_term_place s t (cell_term c)
with_cell (Ctx n) c s = put_ctx_place s n (cell_ctx c)
with_cell Whole c s = s

-- maps with the entry in a cell at its key
abbrev pub put_cell : Key → Cell → Maps → Maps
put_cell (Term t) c m = put_term m t (visible (Some (cell_term c)))
put_cell (Ctx n) c m = put_ctx m n (visible (Some (cell_ctx c)))
put_cell Whole c m = m

-- ---- where a key stands in a list in order

abbrev pub IsFound : List Key → Key → Option ℕ → Type 0
IsFound keys k None = has keys k ≡ false
IsFound keys k (Some i) = (i < length keys) × (slice_index_or keys i k ≡ k)
