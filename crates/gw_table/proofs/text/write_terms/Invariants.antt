use Rattle.std.proofs.Common.{◌≡◌, ◌++◌, take}
use Rattle.gw_table.specs.Stored.{maps_of}
use Rattle.gw_table.specs.TableTexts.{term_lines}
use Rattle.gw_table.proofs.text.write_terms.Given as goal

-- the terminations so far are written
abbrev pub invariant-loop-name : goal.invariant-loop-name
invariant-loop-name l = l.out.items ≡ l.fn.out.items ++ term_lines (maps_of l.tables) (take l.name-index l.names)
