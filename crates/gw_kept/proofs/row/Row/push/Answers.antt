use Rattle.std.proofs.Common.{◌≡◌, ◌-◌, length, ap, ◌∙◌, length-append, arith}
use Rattle.std.proofs.lemmas.List.{map-append}
use Rattle.circular_buffer.specs.Buffer.{keep_last}
use Rattle.gw_kept.specs.Pairs.{KeptList, key_of, bytes_for}
use Rattle.gw_kept.specs.Rows.{Gapped, present}
use Rattle.gw_kept.proofs.Last.{few_last, last_kept, last_dropped}
use Rattle.gw_kept.proofs.Changed.{absent_drop}
use Rattle.gw_kept.proofs.Rows.{none_nowhere, keys_count, present_append}
use Rattle.gw_kept.proofs.row.Row.push.Goals as goal

pub insert-requires-clause-new : goal.insert-requires-clause-new
insert-requires-clause-new c =
    let now = c.args.self.now in
    let si = c.self.inside in
    let made = c.make_room-dropped in
    let pairs : present si.ring.items ≡ keep_last (now.most - 1) (present now.row) = ap (λ (g : Gapped). present g.row) c.self.view_is ∙ ap (λ (k : KeptList). k.pairs) made.ensures.pairs in
    none_nowhere (key_of c.args.entry) si.ring.items
    (ap (bytes_for (key_of c.args.entry)) pairs ∙ absent_drop (length (present now.row) - (now.most - 1)) (key_of c.args.entry) (present now.row) c.requires)

pub insert-requires-clause-room : goal.insert-requires-clause-room
insert-requires-clause-room c = grind (arith, keys_count)

pub invariant_of-self : goal.invariant_of-self
invariant_of-self c = grind (arith, present_append, map-append, length-append, few_last)

pub returns-clause-pairs : goal.returns-clause-pairs
returns-clause-pairs c = grind (arith, present_append, last_kept)

pub returns-clause-dropped : goal.returns-clause-dropped
returns-clause-dropped c = grind (arith, last_dropped)
