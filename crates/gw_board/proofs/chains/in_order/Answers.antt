use Rattle.std.proofs.Common.{[], ◌∷◌, ◌++◌, sym, subst}
use Rattle.std.specs.List.{AllZip}
use Rattle.std.proofs.lemmas.Slice.Zip.{all_zipped_more}
use Rattle.gw_board.specs.Stretches.{IsListedAs}
use Rattle.gw_board.proofs.chains.in_order.Goals as goal

pub loop-list-preserved : goal.loop-list-preserved
loop-list-preserved c =
    subst (AllZip IsListedAs (c.loop-list.yielded ++ c.in-Some.list ∷ [])) (sym c.in_ok-push.ensures.items)
    (all_zipped_more IsListedAs c.loop-list.yielded c.loop-list.ordered.items c.in-Some.list c.listed.result c.loop-list.invariant c.listed.ensures)
