-- What a handle lends (own).
use Rattle.std.specs.Borrow.{Lends, MutBor, Fml}
use denote.RattleType.{RattleType}
use Rattle.gw_base.specs.declared.held.Held.{Held}
use Rattle.gw_base.specs.contracts.held.Held.{the_row as held_row}

-- it has the last value that was behind the reference
abbrev pub LendsAll : (R : RattleType) → MutBor (Held R.Denot) → MutBor R.Denot → Fml
LendsAll R h r = Lends (held_row R) R h r (λ w. w)
