use Rattle.std.proofs.Common.{ℕ, List, [], sym, subst, arith}
use Rattle.gw_board.specs.Results.{slots_of}
use Rattle.gw_reserve.proofs.Fresh.{free_unused}
use Rattle.gw_reserve.specs.Reservations.{slots_left}
use Rattle.gw_table.specs.Maps.{Maps}
use Rattle.gw_table.specs.Stored.{maps_of}
use Rattle.gw_table.specs.Unused.{AreUnused}
use Rattle.gw_tx.proofs.Unowned.{front_unused}
use Rattle.cases_board.proofs.asking.requests_in.Goals as goal

pub returns : goal.returns
returns c =
    let m : Maps = maps_of c.args.tables.now in
    front_unused m (slots_of c.loop-item.requested.items) (slots_left m c.loop-item.reservation)
    (subst (λ (l : List ℕ). AreUnused m [] l) (sym c.loop-item.invariant) (free_unused m 0 c.args.limits.slots (omega arith) c.args.limits.few_slots))
