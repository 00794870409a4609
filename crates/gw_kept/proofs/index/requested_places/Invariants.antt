use Rattle.std.proofs.Common.{◌≡◌, take}
use Rattle.std.specs.BTreeMap.{get}
use Rattle.gw_kept.specs.declared.entry.RequestKey.{RequestKey}
use Rattle.gw_kept.specs.Classes.{keys_of}
use Rattle.gw_kept.specs.Index.{is_requested}
use Rattle.gw_kept.specs.Order.{key_cmp}
use Rattle.gw_kept.proofs.Indexes.{placed}
use Rattle.gw_kept.proofs.index.requested_places.Given as goal

abbrev pub invariant-loop-point : goal.invariant-loop-point
invariant-loop-point l = (q : RequestKey) → get key_cmp l.places q ≡ placed q (keys_of l.kept) (is_requested q (take l.point-index l.points))
