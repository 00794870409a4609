use Rattle.std.proofs.Common.{◌≡◌, Option, List, Result, Ok, Err, ap, sym, subst, ◌∙◌}
use Rattle.std.proofs.lemmas.Result.{err_from_is_err_and}
use Rattle.gw_base.specs.declared.code.Code.{Code}
use Rattle.gw_reply.specs.declared.parts.ReplyPart.{ReplyPart}
use Rattle.gw_term.specs.declared.record.Termination.{Termination}
use Rattle.gw_term.specs.Record.{ephemeral}
use Rattle.gw_table.specs.Maps.{Maps, Outcome, term, place_of}
use Rattle.gw_cmd.specs.declared.change.Decided.{Decided}
use Rattle.gw_cmd.specs.Plans.{answered, decided_if}
use Rattle.gw_cmd.specs.Refused.{Answers, Gives}
use Rattle.gw_cmd.specs.Tasks.{act_place, act_verb, decided_by}
use Rattle.gw_cmd.proofs.Suited.{suits}
use Rattle.gw_cmd.proofs.Tasks.{record_done, lawful, gives_done, gives_err}
use Rattle.gw_cmd.proofs.effects.on_new.Goals as goal

pub changed-requires : goal.changed-requires
changed-requires c =
    let a = c.args in
    let m : Maps = a.draft.now.maps in
    let p = a.prepared.now in
    let there : place_of (term m a.name.now) ≡ (ephemeral a.slot).place = ap (λ (o : Option Termination). place_of o) c.requires.unused in
    suits p.rules.now a.draft.now.keys (act_verb a.act) (act_place a.act) a.name.now (ephemeral a.slot) m c.in_ok-decided.decided.change
    c.requires.sound c.requires.term_key c.requires.ctx_key (λ _. tt) there
    (lawful p.rules.now p.merger.rules.now p.merger.descriptors.now a.act p.command.now a.name.now (ephemeral a.slot) m c.requires.does p.ruled p.merged a.wanted c.in_ok-decided.decided
    (c.in_ok-decided.ensures.decided ∙ ap (λ (r : Termination). decided_if a.wanted (decided_by p.merger.rules.now p.merger.descriptors.now a.act m r)) c.ephemeral-new.ensures))

pub returns-in_err-decided-clause-gives : goal.returns-in_err-decided-clause-gives
returns-in_err-decided-clause-gives c =
    let a = c.args in
    let p = a.prepared.now in
    let m : Maps = a.draft.now.maps in
    let is = record_done p.rules.now p.merger.rules.now p.merger.descriptors.now a.act p.command.now a.name.now (ephemeral a.slot) m c.requires.does p.ruled p.merged in
    let e = err_from_is_err_and c.from_residual.result c.from_residual.ensures.1 in
    rw (e.1, e.2)
    (subst (λ (o : Outcome (Result (List ReplyPart) Code)). Gives {A = List ReplyPart} (Err c.in_err-decided.field-0.0) m (answered a.wanted o)) (sym is)
    (gives_err a.wanted (decided_by p.merger.rules.now p.merger.descriptors.now a.act m (ephemeral a.slot)) c.in_err-decided.field-0.0 a.name.now m
    (subst (λ (r : Termination). Answers {A = Decided} (Err c.in_err-decided.field-0.0) (decided_if a.wanted (decided_by p.merger.rules.now p.merger.descriptors.now a.act m r))) c.ephemeral-new.ensures c.in_err-decided.ensures.decided)))

pub returns-clause-gives : goal.returns-clause-gives
returns-clause-gives c =
    let a = c.args in
    let p = a.prepared.now in
    let m : Maps = a.draft.now.maps in
    let is = record_done p.rules.now p.merger.rules.now p.merger.descriptors.now a.act p.command.now a.name.now (ephemeral a.slot) m c.requires.does p.ruled p.merged in
    subst (λ (o : Outcome (Result (List ReplyPart) Code)). Gives {A = List ReplyPart} (Ok c.in_ok-decided.decided.parts) c.changed.new.draft.maps (answered a.wanted o)) (sym is)
    (gives_done a.wanted (decided_by p.merger.rules.now p.merger.descriptors.now a.act m (ephemeral a.slot)) c.in_ok-decided.decided a.name.now m c.changed.new.draft.maps
    (c.in_ok-decided.ensures.decided ∙ ap (λ (r : Termination). decided_if a.wanted (decided_by p.merger.rules.now p.merger.descriptors.now a.act m r)) c.ephemeral-new.ensures) c.in_ok-changed.ensures.ok)
