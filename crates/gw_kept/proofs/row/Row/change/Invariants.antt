use Rattle.std.proofs.Common.{◌≡◌, length, drop}
use Rattle.std.specs.Vec.Iter.{into_iter_items, into_iter_len}
use Rattle.gw_kept.specs.Changes.{changes_of, kept_after, AreNew}
use Rattle.gw_kept.specs.Rows.{kept_in}
use Rattle.gw_kept.proofs.row.Row.change.Given as goal

-- what is still to be changed is new, and leads to where all changes do
abbrev pub invariant-loop-turn : goal.invariant-loop-turn
invariant-loop-turn l = record {
  whole : into_iter_len l.entries ≡ length (into_iter_items l.entries);
  new : AreNew (kept_in l.self) (changes_of (drop l.turn-index l.turns) (into_iter_items l.entries));
  so_far : kept_after (kept_in l.self) (changes_of (drop l.turn-index l.turns) (into_iter_items l.entries)) ≡ kept_after (kept_in l.initial.self) (changes_of l.turns (into_iter_items l.initial.entries));
}
