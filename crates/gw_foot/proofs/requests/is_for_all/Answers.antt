use Rattle.std.proofs.Common.{List, sym, ap, ◌∙◌}
use Rattle.std.specs.List.{list_any}
use Rattle.gw_msg.specs.declared.message.Action.{Action}
use Rattle.gw_foot.specs.Gathered.{spans_all}
use Rattle.gw_foot.proofs.MeantForAll.{for_all}
use Rattle.gw_foot.proofs.requests.is_for_all.Goals as goal

pub returns : goal.returns
returns c = λ owned m.
    for_all owned.contexts owned.slots c.args.request.now.actions m
    ∙ ap (λ (l : List Action). list_any spans_all l) (sym c.as_slice.ensures)
    ∙ sym c.any_spans_all.ensures
