use Rattle.std.proofs.Common.{rules, ◌≡◌, List, IfOk, map, ◌∙◌}
use Rattle.std.specs.Option.{option_to_list}
use Rattle.gw_engine.specs.declared.datagram.Datagram.{Datagram}
use Rattle.gw_engine.specs.declared.items.BurstItem.{BurstItem}
use Rattle.gw_engine.specs.Phases.{text_for, answer_for}
use Rattle.gw_board.proofs.Beside.{side_by_side}
use Rattle.gw_engine.proofs.AllGiven.{all_given}
use Rattle.gw_engine.proofs.Carrying.{ok_with}
use Rattle.gw_engine.proofs.answers.by_workers.Goals as goal

pub returns : goal.returns
returns g c =
    let due : BurstItem → List Datagram = λ i. answer_for i.peer (text_for c.args.mid.now c.args.kept.now (map (λ r. r.now) c.args.replies.now) i) in
    ok_with c.present_in.result c.present_in.ensures.present c.present_in.ensures.ok
    (λ all is ok. is ∙ all_given due c.args.items.now c.in_ok-answers.answers.items
    (side_by_side _ _ (λ i r. IfOk r (λ o. option_to_list o ≡ due i)) (λ p r t. search rules) _ _ c.in_ok-answers.ensures) ok)
