use Rattle.std.proofs.Common.{◌≡◌, ◌≤◌, ◌++◌, length, take, drop}
use Rattle.gw_engine.specs.Phases.{classified}
use Rattle.gw_engine.proofs.classify.fill.Given as goal

-- with the items that are left, they are all
abbrev pub invariant-loop-place : goal.invariant-loop-place
invariant-loop-place l = record {
  so_far : take l.place l.items ++ classified l.before (drop l.place l.items) (drop l.place l.classes) ≡ classified 0 l.fn.items l.classes;
  few : l.before ≤ l.place;
  each : length l.items ≤ length l.classes;
}
