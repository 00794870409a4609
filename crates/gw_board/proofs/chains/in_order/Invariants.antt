use Rattle.std.specs.List.{AllZip}
use Rattle.gw_board.specs.Stretches.{IsListedAs}
use Rattle.gw_board.proofs.chains.in_order.Given as goal

-- the lists so far are in order
abbrev pub invariant-loop-list : goal.invariant-loop-list
invariant-loop-list l = AllZip IsListedAs l.yielded l.ordered.items
