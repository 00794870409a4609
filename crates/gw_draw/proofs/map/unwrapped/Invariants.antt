use Rattle.std.proofs.Common.{◌≡◌, ℕ, ◌<◌, ◌++◌, length, slice_index_or, map, Some, None, IsSome}
use Rattle.gw_draw.proofs.map.unwrapped.Given as goal

abbrev pub invariant-loop-place : goal.invariant-loop-place
invariant-loop-place g l =
    (map (λ x. Some x) l.answers.items ++ l.place-iterator.rest.items ≡ l.fn.places.items) ×
    ((k : ℕ) → k < length l.place-iterator.rest.items → IsSome (slice_index_or l.place-iterator.rest.items k None))
