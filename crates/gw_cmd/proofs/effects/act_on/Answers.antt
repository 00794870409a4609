use Rattle.std.proofs.Common.{◌≡◌, ℕ, Option, Some, is_some, List, Result, Ok, Err, sym, ap, subst, ◌∙◌}
use Rattle.std.proofs.lemmas.Result.{err_from_is_err_and}
use Rattle.gw_base.specs.declared.code.Code.{Code}
use Rattle.gw_base.specs.declared.ids.CtxNum.{CtxNum}
use Rattle.gw_reply.specs.declared.parts.ReplyPart.{ReplyPart}
use Rattle.gw_term.specs.declared.record.Termination.{Termination}
use Rattle.gw_table.specs.Maps.{Maps, Outcome, term, place_of}
use Rattle.gw_cmd.specs.Plans.{answered}
use Rattle.gw_cmd.specs.Refused.{Gives}
use Rattle.gw_cmd.specs.Suits.{Suits, HoldsMoved}
use Rattle.gw_cmd.specs.Tasks.{act_place, act_verb, decided_by}
use Rattle.gw_cmd.proofs.Suited.{suits}
use Rattle.gw_cmd.proofs.Tasks.{name_done, lawful, gives_done, gives_err}
use Rattle.gw_cmd.proofs.effects.act_on.Goals as goal

pub changed-requires : goal.changed-requires
changed-requires c =
    let a = c.args in
    let m : Maps = a.draft.now.maps in
    let r : Termination = c.in-Some.old.now in
    let p = a.prepared.now in
    let found : term m a.target.now ≡ Some r = ap (term m) (sym c.name-name.ensures) ∙ sym c.in-Some.ensures in
    let there : place_of (term m a.target.now) ≡ r.place = ap (λ (o : Option Termination). place_of o) found in
    subst (λ (t : List ℕ). Suits p.rules.now a.draft.now.keys t c.in_ok-decided.decided.change m) (sym c.name-name.ensures)
    (suits p.rules.now a.draft.now.keys (act_verb a.act) (act_place a.act) a.target.now r m c.in_ok-decided.decided.change
    c.requires.sound (c.requires.term_key (ap (λ (o : Option Termination). is_some o) found)) c.requires.ctx_key
    (subst (λ (o : Option CtxNum). HoldsMoved a.draft.now.keys (act_verb a.act) o) there c.requires.moved_key) there
    (lawful p.rules.now p.merger.rules.now p.merger.descriptors.now a.act p.command.now a.target.now r m c.requires.does p.ruled p.merged a.wanted c.in_ok-decided.decided c.in_ok-decided.ensures.decided))

pub returns-in_err-decided-clause-gives : goal.returns-in_err-decided-clause-gives
returns-in_err-decided-clause-gives c =
    let a = c.args in
    let p = a.prepared.now in
    let m : Maps = a.draft.now.maps in
    let r : Termination = c.in-Some.old.now in
    let is = name_done p.rules.now p.merger.rules.now p.merger.descriptors.now a.act p.command.now a.target.now r m c.requires.does p.ruled p.merged (ap (term m) (sym c.name-name.ensures) ∙ sym c.in-Some.ensures) in
    let e = err_from_is_err_and c.from_residual.result c.from_residual.ensures.1 in
    rw (e.1, e.2)
    (subst (λ (o : Outcome (Result (List ReplyPart) Code)). Gives {A = List ReplyPart} (Err c.in_err-decided.field-0.0) m (answered a.wanted o)) (sym is)
    (gives_err a.wanted (decided_by p.merger.rules.now p.merger.descriptors.now a.act m r) c.in_err-decided.field-0.0 a.target.now m c.in_err-decided.ensures.decided))

pub returns-clause-gives : goal.returns-clause-gives
returns-clause-gives c =
    let a = c.args in
    let p = a.prepared.now in
    let m : Maps = a.draft.now.maps in
    let r : Termination = c.in-Some.old.now in
    let is = name_done p.rules.now p.merger.rules.now p.merger.descriptors.now a.act p.command.now a.target.now r m c.requires.does p.ruled p.merged (ap (term m) (sym c.name-name.ensures) ∙ sym c.in-Some.ensures) in
    subst (λ (o : Outcome (Result (List ReplyPart) Code)). Gives {A = List ReplyPart} (Ok c.in_ok-decided.decided.parts) c.changed.new.draft.maps (answered a.wanted o)) (sym is)
    (gives_done a.wanted (decided_by p.merger.rules.now p.merger.descriptors.now a.act m r) c.in_ok-decided.decided a.target.now m c.changed.new.draft.maps c.in_ok-decided.ensures.decided (rw c.name-name.ensures at c.in_ok-changed.ensures.ok))
