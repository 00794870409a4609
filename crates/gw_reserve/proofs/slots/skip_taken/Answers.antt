use Rattle.std.proofs.Common.{◌+◌, ◌-◌, arith}
use Rattle.gw_table.specs.Stored.{maps_of}
use Rattle.gw_reserve.proofs.Skipped.{slots_passed}
use Rattle.gw_reserve.proofs.slots.skip_taken.Goals as goal

pub returns-clause-same : goal.returns-clause-same
returns-clause-same c =
    slots_passed (maps_of c.args.tables.now) c.args.order c.requires.start c.args.rank c.stretch-stretch.result.from (c.next_slot.result - c.stretch-stretch.result.from) (omega arith) (λ k h. c.stretch-stretch.ensures.rising k (omega arith))
    (λ k h. c.next_slot.ensures.passed (c.stretch-stretch.result.from + k) (omega arith) (omega arith))
