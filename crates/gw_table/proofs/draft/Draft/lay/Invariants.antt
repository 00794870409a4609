use Rattle.std.proofs.Common.{◌≡◌, ◌≤◌, ℕ, length, get_or, take}
use Rattle.gw_table.specs.declared.cell.Cell.{Cell}
use Rattle.gw_table.specs.Cells.{celled}
use Rattle.gw_table.specs.Parts.{overlaid}
use Rattle.gw_table.specs.Stored.{maps_of}
use Rattle.gw_table.proofs.draft.Draft.lay.Given as goal

-- the keys so far were laid, and the cells of the others are those of the part
abbrev pub invariant-loop-i : goal.invariant-loop-i
invariant-loop-i l = record {
  keys : l.self.keys ≡ l.fn.self.keys;
  laid : l.self.maps ≡ overlaid (take l.i l.key-items) (maps_of (celled l.key-items l.initial.cells.items)) l.fn.self.maps;
  rest : (e : Cell) (j : ℕ) → l.i ≤ j → get_or l.cells.items j e ≡ get_or l.initial.cells.items j e;
  as_many : length l.cells.items ≡ length l.key-items;
}
