use Rattle.std.proofs.Common.{◌≡◌, ◌++◌, flat_map}
use Rattle.std.specs.Prelude.{is_ok}
use Rattle.std.specs.List.{list_all}
use Rattle.gw_engine.specs.Drawn.{given}
use Rattle.gw_engine.proofs.drawn.present_in.Given as goal

-- with those that are left, the answers so far are all
abbrev pub invariant-loop-answer : goal.invariant-loop-answer
invariant-loop-answer g l = record {
  present : l.present ++ flat_map given l.answer-iterator.rest.items ≡ flat_map given l.fn.answers.items;
  ok : list_all is_ok l.answer-iterator.rest.items ≡ list_all is_ok l.fn.answers.items;
}
