use Rattle.std.proofs.Common.{◌≡◌, ◌++◌, map}
use Rattle.std.specs.Prelude.{is_ok}
use Rattle.std.specs.List.{list_all}
use Rattle.std.specs.Vec.Iter.{into_iter_items}
use Rattle.gw_board.specs.Chained.{all_overlaid, texts_in}
use Rattle.gw_board.proofs.side_by_side.lay_all.Given as goal

-- with those that are left, the answers so far are all
abbrev pub invariant-loop-answer : goal.invariant-loop-answer
invariant-loop-answer l = record {
  maps : all_overlaid l.answer-iterator.rest.items l.draft.maps ≡ all_overlaid l.fn.answers.items l.fn.draft.maps;
  texts : map into_iter_items l.texts.items ++ map texts_in l.answer-iterator.rest.items ≡ map texts_in l.fn.answers.items;
  ok : list_all is_ok l.answer-iterator.rest.items ≡ list_all is_ok l.fn.answers.items;
  keys : l.draft.keys ≡ l.fn.draft.keys;
}
