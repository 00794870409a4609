use Rattle.std.proofs.Common.{◌≡◌, ℕ, ◌+◌, ◌-◌, true, is_some, arith, subst}
use Rattle.gw_table.specs.Stored.{maps_of}
use Rattle.gw_table.specs.Maps.{number, ctx}
use Rattle.gw_reserve.proofs.Skipped.{numbers_passed}
use Rattle.gw_reserve.proofs.numbers.skip_taken.Goals as goal

next : (a k : ℕ) → a + 1 + k ≡ a + k + 1
next a k = omega arith

pub returns-clause-same : goal.returns-clause-same
returns-clause-same c =
    numbers_passed (maps_of c.args.tables.now) c.args.order c.requires.start c.args.rank c.stretch-stretch.result.from (c.next_number.result - (c.stretch-stretch.result.from + 1)) (omega arith) (λ k h. c.stretch-stretch.ensures.rising k (omega arith))
    (λ k h. subst (λ (n : ℕ). is_some (ctx (maps_of c.args.tables.now) (number n)) ≡ true) (next c.stretch-stretch.result.from k) (c.next_number.ensures.passed (c.stretch-stretch.result.from + 1 + k) (omega arith) (omega arith)))
