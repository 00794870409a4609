use Rattle.std.proofs.Common.{◌≡◌, ℕ, ◌≤◌, true, List, sym, subst, ◌∙◌, rules}
use Rattle.std.specs.List.{AllZip}
use Rattle.gw_board.specs.declared.requested.BurstRequest.{BurstRequest}
use Rattle.gw_kept.specs.Changes.{changes_of}
use Rattle.gw_engine.specs.declared.datagram.Datagram.{Datagram}
use Rattle.gw_engine.specs.declared.reading.ReadDatagram.{ReadDatagram}
use Rattle.gw_engine.specs.Bursts.{IsReadAs}
use Rattle.gw_engine.specs.Configuration.{is_within, most_slots}
use Rattle.gw_engine.specs.GatewayView.{value_of}
use Rattle.gw_engine.specs.Phases.{new_of, done_by, kept_of, texts_of, answers_of, IsOutcome}
use Rattle.gw_engine.specs.Readable.{IsAnswerTo, questions}
use Rattle.gw_engine.specs.State.{GatewayValue, IsWellFormed}
use Rattle.gw_engine.proofs.InForm.{datagrams_in_form}
use Rattle.gw_engine.proofs.Outcomes.{jobs_unused, outcome_of_jobs}
use Rattle.gw_engine.proofs.gateway.Gateway.run_counted.Goals as goal

few_slots : (n : ℕ) → is_within 0 most_slots n ≡ true → n ≤ 4096
few_slots n h = search rules

-- what every gateway keeps
abbrev IsKept : GatewayValue → Type 0
IsKept g = IsWellFormed g.settings g.state × (g.settings.slots ≤ 4096)

pub perform-requires-clause-unused : goal.perform-requires-clause-unused
perform-requires-clause-unused types c = λ lifetimes outlive.
    let g : GatewayValue = c.args.self.now in
    let kept : IsKept g = subst IsKept c.self.view_is (c.self.invariant.well_formed, few_slots (value_of c.self.inside).settings.slots c.self.invariant.slots) in
    jobs_unused g (new_of g c.as_slice.result.now) c.in_ok-plan.plan.jobs c.in_ok-plan.ensures.jobs kept.0 kept.1

pub perform-requires-clause-new : goal.perform-requires-clause-new
perform-requires-clause-new types c = λ lifetimes outlive.
    let g : GatewayValue = c.args.self.now in
    let messages : List ReadDatagram = c.as_slice.result.now in
    let jobs : List BurstRequest = c.in_ok-plan.plan.jobs in
    let kept : IsKept g = subst IsKept c.self.view_is (c.self.invariant.well_formed, few_slots (value_of c.self.inside).settings.slots c.self.invariant.slots) in
    let read : AllZip IsReadAs c.args.burst.now messages = subst (λ (l : List ReadDatagram). AllZip IsReadAs c.args.burst.now l) (sym c.as_slice.ensures) c.in_ok-messages.ensures in
    let out : IsOutcome g messages (answers_of g.settings.mid g.state.kept (texts_of (kept_of g jobs)) c.in_ok-plan.plan.items.items) (done_by g.settings.rules jobs g.state.maps).maps c.in_ok-plan.plan.cursors (changes_of c.in_ok-plan.plan.turns (kept_of g jobs)) =
    outcome_of_jobs g messages c.in_ok-plan.plan.items.items jobs c.in_ok-plan.plan.cursors c.in_ok-plan.plan.turns kept.0 kept.1 (datagrams_in_form c.args.burst.now messages read) c.in_ok-plan.ensures.items c.in_ok-plan.ensures.jobs c.in_ok-plan.ensures.cursors c.in_ok-plan.ensures.within c.in_ok-plan.ensures.turns in
    out.new

pub perform-requires-clause-fits : goal.perform-requires-clause-fits
perform-requires-clause-fits types c = λ lifetimes outlive.
    let g : GatewayValue = c.args.self.now in
    let messages : List ReadDatagram = c.as_slice.result.now in
    let jobs : List BurstRequest = c.in_ok-plan.plan.jobs in
    let kept : IsKept g = subst IsKept c.self.view_is (c.self.invariant.well_formed, few_slots (value_of c.self.inside).settings.slots c.self.invariant.slots) in
    let read : AllZip IsReadAs c.args.burst.now messages = subst (λ (l : List ReadDatagram). AllZip IsReadAs c.args.burst.now l) (sym c.as_slice.ensures) c.in_ok-messages.ensures in
    let out : IsOutcome g messages (answers_of g.settings.mid g.state.kept (texts_of (kept_of g jobs)) c.in_ok-plan.plan.items.items) (done_by g.settings.rules jobs g.state.maps).maps c.in_ok-plan.plan.cursors (changes_of c.in_ok-plan.plan.turns (kept_of g jobs)) =
    outcome_of_jobs g messages c.in_ok-plan.plan.items.items jobs c.in_ok-plan.plan.cursors c.in_ok-plan.plan.turns kept.0 kept.1 (datagrams_in_form c.args.burst.now messages read) c.in_ok-plan.ensures.items c.in_ok-plan.ensures.jobs c.in_ok-plan.ensures.cursors c.in_ok-plan.ensures.within c.in_ok-plan.ensures.turns in
    out.fits

pub returns-clause-ok : goal.returns-clause-ok
returns-clause-ok types c =
    let g : GatewayValue = c.args.self.now in
    let messages : List ReadDatagram = c.as_slice.result.now in
    let jobs : List BurstRequest = c.in_ok-plan.plan.jobs in
    let kept : IsKept g = subst IsKept c.self.view_is (c.self.invariant.well_formed, few_slots (value_of c.self.inside).settings.slots c.self.invariant.slots) in
    let read : AllZip IsReadAs c.args.burst.now messages = subst (λ (l : List ReadDatagram). AllZip IsReadAs c.args.burst.now l) (sym c.as_slice.ensures) c.in_ok-messages.ensures in
    let out : IsOutcome g messages (answers_of g.settings.mid g.state.kept (texts_of (kept_of g jobs)) c.in_ok-plan.plan.items.items) (done_by g.settings.rules jobs g.state.maps).maps c.in_ok-plan.plan.cursors (changes_of c.in_ok-plan.plan.turns (kept_of g jobs)) =
    outcome_of_jobs g messages c.in_ok-plan.plan.items.items jobs c.in_ok-plan.plan.cursors c.in_ok-plan.plan.turns kept.0 kept.1 (datagrams_in_form c.args.burst.now messages read) c.in_ok-plan.ensures.items c.in_ok-plan.ensures.jobs c.in_ok-plan.ensures.cursors c.in_ok-plan.ensures.within c.in_ok-plan.ensures.turns in
    record {
      messages = messages;
      read = read;
      answers_are = c.in_ok-answers.ensures.answers ∙ out.answers_are;
      state = λ i. record { settings = c.perform.ensures.settings i; state = (c.in_ok-answers.ensures.state ∙ out.state) i };
    }

pub returns-clause-readable : goal.returns-clause-readable
returns-clause-readable types c =
    let g : GatewayValue = c.args.self.now in
    let messages : List ReadDatagram = c.as_slice.result.now in
    let jobs : List BurstRequest = c.in_ok-plan.plan.jobs in
    let kept : IsKept g = subst IsKept c.self.view_is (c.self.invariant.well_formed, few_slots (value_of c.self.inside).settings.slots c.self.invariant.slots) in
    let read : AllZip IsReadAs c.args.burst.now messages = subst (λ (l : List ReadDatagram). AllZip IsReadAs c.args.burst.now l) (sym c.as_slice.ensures) c.in_ok-messages.ensures in
    let out : IsOutcome g messages (answers_of g.settings.mid g.state.kept (texts_of (kept_of g jobs)) c.in_ok-plan.plan.items.items) (done_by g.settings.rules jobs g.state.maps).maps c.in_ok-plan.plan.cursors (changes_of c.in_ok-plan.plan.turns (kept_of g jobs)) =
    outcome_of_jobs g messages c.in_ok-plan.plan.items.items jobs c.in_ok-plan.plan.cursors c.in_ok-plan.plan.turns kept.0 kept.1 (datagrams_in_form c.args.burst.now messages read) c.in_ok-plan.ensures.items c.in_ok-plan.ensures.jobs c.in_ok-plan.ensures.cursors c.in_ok-plan.ensures.within c.in_ok-plan.ensures.turns in
    record {
      messages = messages;
      read = read;
      answers_are = subst (λ (l : List Datagram). AllZip (IsAnswerTo g.settings.mid) (questions messages) l) (sym c.in_ok-answers.ensures.answers) out.readable;
    }
