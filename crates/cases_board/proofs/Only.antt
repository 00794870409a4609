-- What the first request of a burst owns is unused, where that of all of them is.
use Rattle.std.proofs.Common.{◌≡◌, ◌<◌, List, [], ◌∷◌, length, get_or, sym, subst, arith}
use Rattle.gw_board.specs.Results.{slots_of}
use Rattle.gw_board.specs.declared.requested.BurstRequest.{BurstRequest}
use Rattle.gw_table.specs.Maps.{Maps}
use Rattle.gw_table.specs.Unused.{owned, AreUnused}
use Rattle.gw_tx.proofs.Unowned.{front_unused}

pub first_unused : (m : Maps) (requested : List BurstRequest) (a : BurstRequest) → 0 < length requested → a ≡ get_or requested 0 a → AreUnused m [] (slots_of requested) → AreUnused m [] (owned a.owned.slots)
first_unused m [] a l e u = absurd (omega (arith, l))
first_unused m (b ∷ more) a l e u =
    subst (λ (x : BurstRequest). AreUnused m [] (owned x.owned.slots)) (sym e) (front_unused m (owned b.owned.slots) (slots_of more) u)
