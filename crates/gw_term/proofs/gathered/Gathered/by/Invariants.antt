use Rattle.std.proofs.Common.{◌≡◌, drop}
use Rattle.std.specs.List.{last_or}
use Rattle.gw_term.specs.Gathered.{in_turn, last_tail, with_descriptor, media_sent}
use Rattle.gw_term.specs.Lookups.{tails_sent}
use Rattle.gw_term.specs.Places.{at_kind, kinds_read, of_kinds}
use Rattle.gw_term.proofs.gathered.Gathered.by.Given as goal

-- what is left does the rest; the last of those tails that are left, or the one that was found
abbrev pub invariant-loop-descriptor : goal.invariant-loop-descriptor
invariant-loop-descriptor l =
    (media_sent l.descriptors ≡ in_turn with_descriptor (drop l.descriptor-index l.descriptors) l.media)
    × (of_kinds (λ kind. last_tail kind l.descriptors) ≡ of_kinds (λ kind. last_or (at_kind kind (kinds_read l.tails)) (tails_sent kind (drop l.descriptor-index l.descriptors))))
