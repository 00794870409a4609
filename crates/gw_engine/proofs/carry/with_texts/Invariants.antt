use Rattle.std.proofs.Common.{◌≡◌, ◌+◌, ◌≤◌, ◌++◌, length, drop, vec_len}
use Rattle.std.specs.Prelude.{vec_capacity}
use Rattle.gw_engine.specs.Replies.{entries_with}
use Rattle.gw_engine.proofs.carry.with_texts.Given as goal

-- with the texts that are left, they are all
abbrev pub invariant-loop-bytes : goal.invariant-loop-bytes
invariant-loop-bytes l = record {
  so_far : l.entries.items ++ entries_with (drop (vec_len l.entries) l.jobs) l.bytes-iterator.rest.items ≡ entries_with l.jobs l.initial.bytes-iterator.rest.items;
  each : vec_len l.entries + length l.bytes-iterator.rest.items ≡ length l.jobs;
  room : length l.jobs ≤ vec_capacity l.entries;
}
