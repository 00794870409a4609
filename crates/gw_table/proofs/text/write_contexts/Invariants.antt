use Rattle.std.proofs.Common.{◌≡◌, ◌++◌, take}
use Rattle.gw_table.specs.Stored.{maps_of}
use Rattle.gw_table.specs.TableTexts.{context_lines}
use Rattle.gw_table.proofs.text.write_contexts.Given as goal

-- the contexts so far are written
abbrev pub invariant-loop-number : goal.invariant-loop-number
invariant-loop-number l = l.out.items ≡ l.fn.out.items ++ context_lines (maps_of l.tables) (take l.number-index l.numbers)
