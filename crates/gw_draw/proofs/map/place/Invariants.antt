use Rattle.std.proofs.Common.{◌≡◌, ℕ, ◌<◌, length, slice_index_or}
use Rattle.gw_draw.specs.Answers.{placed}
use Rattle.gw_draw.proofs.map.place.Given as goal

abbrev pub invariant-loop-number : goal.invariant-loop-number
invariant-loop-number g l =
    (goal.iterator-loop-number g).can_next l.number-iterator ×
    (goal.iterator-loop-number g).is_finite l.number-iterator ×
    (placed l.places.items l.number-iterator.rest.items ≡ placed l.fn.places.items l.fn.answers.items) ×
    ((k : ℕ) (a : _) → k < length l.number-iterator.rest.items → (slice_index_or l.number-iterator.rest.items k a).0 < length l.places.items)
