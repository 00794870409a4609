-- Under * no Add of $ is executed, so it does not matter which slot is owned there.
use Rattle.std.proofs.Common.{◌≡◌, ℕ, Bool, true, false, Option, None, Some, refl, sym, ap, ◌∙◌}
use Rattle.std.specs.Prelude.{if◌then◌else◌, not}
use Rattle.gw_base.specs.declared.code.Code.{Code}
use Rattle.gw_base.specs.declared.code.Code.TheVariants.{UnknownCommand, NotImplemented, IllegalCombination, UnknownContext}
use Rattle.gw_base.specs.declared.ids.CtxNum.{CtxNum}
use Rattle.gw_base.specs.declared.command_words.Rules.{Rules}
use Rattle.gw_base.specs.declared.term_ref.TermRef.{TermRef}
use Rattle.gw_base.specs.declared.term_ref.TermRef.TheVariants.{Root, All, Under, Choose, Name, Other}
use Rattle.gw_base.proofs.NamesInLists.{or_right}
use Rattle.gw_desc.specs.Checks.{check_code}
use Rattle.gw_msg.specs.declared.message.Command.{Command}
use Rattle.gw_table.specs.Maps.{Maps, Outcome}
use Rattle.gw_refusal.specs.declared.at.At.TheVariants.{Each}
use Rattle.gw_refusal.specs.Requested.{is_unsupported, is_wildcard}
use Rattle.gw_refusal.specs.Places.{made}
use Rattle.gw_refusal.specs.Forms.{is_left_out, is_misplaced, refusal_by_form}
use Rattle.gw_cmd.specs.declared.outcome.CmdOutcome.{CmdOutcome}
use Rattle.gw_cmd.specs.Refusals.{has_ended, code_if, missing, refusal_by_tables, first_code}
use Rattle.gw_cmd.specs.Commands.{executed, unless_refused, command}

left_out : (n : CtxNum) (c : Command) → c.term ≡ Choose → is_left_out (Each n) c ≡ true
left_out n c e = or_right _ _ (ap (λ (r : TermRef). not (is_wildcard r)) e)

-- with a code by its form a command is refused, whatever it owns
refused_alike : (rules : Rules) (n : CtxNum) (slot : Option ℕ) (c : Command) (m : Maps) (code : Code) → refusal_by_form (Each n) c ≡ Some code → command rules (Each n) slot c m ≡ command rules (Each n) None c m
unfolding command
refused_alike rules n slot c m code e =
    ap (λ (r : Option Code). unless_refused (first_code r (refusal_by_tables (Each n) slot c m)) (Each n) c m (executed rules (Each n) slot c m c.term)) e
    ∙ sym (ap (λ (r : Option Code). unless_refused (first_code r (refusal_by_tables (Each n) None c m)) (Each n) c m (executed rules (Each n) None c m c.term)) e)

-- a command that is not for $ does not look at what it owns
other_alike : (rules : Rules) (n : CtxNum) (slot : Option ℕ) (c : Command) (m : Maps) (r : TermRef) → c.term ≡ r → missing (Each n) slot c m r ≡ missing (Each n) None c m r → executed rules (Each n) slot c m r ≡ executed rules (Each n) None c m r → command rules (Each n) slot c m ≡ command rules (Each n) None c m
unfolding command refusal_by_tables
other_alike rules n slot c m r e p q =
    let whole : Option Code → Outcome CmdOutcome → Outcome CmdOutcome = λ x o. unless_refused (first_code (refusal_by_form (Each n) c) (first_code (code_if UnknownContext (has_ended (Each n) m)) (first_code x (check_code c.verb c.descriptors)))) (Each n) c m o in
    ap (λ (t : TermRef). whole (missing (Each n) slot c m t) (executed rules (Each n) slot c m t)) e
    ∙ ap (λ (x : Option Code). whole x (executed rules (Each n) slot c m r)) p ∙ ap (λ (o : Outcome CmdOutcome). whole (missing (Each n) None c m r) o) q
    ∙ sym (ap (λ (t : TermRef). whole (missing (Each n) None c m t) (executed rules (Each n) None c m t)) e)

by_form : (n : CtxNum) (c : Command) → c.term ≡ Choose → (u : Bool) → is_unsupported c.verb ≡ u → (code : Code) × (refusal_by_form (Each n) c ≡ Some code)
unfolding refusal_by_form
by_form n c e true f = (UnknownCommand, ap (λ b. if b then Some UnknownCommand else if is_left_out (Each n) c then Some NotImplemented else if is_misplaced (Each n) c then Some IllegalCombination else None) f)
by_form n c e false f = (
  NotImplemented,
  ap (λ b. if b then Some UnknownCommand else if is_left_out (Each n) c then Some NotImplemented else if is_misplaced (Each n) c then Some IllegalCombination else None) f
      ∙ ap (λ b. if b then Some NotImplemented else if is_misplaced (Each n) c then Some IllegalCombination else None) (left_out n c e),
)

pub each_takes_none : (rules : Rules) (n : CtxNum) (slot : Option ℕ) (c : Command) (m : Maps) → command rules (Each n) slot c m ≡ command rules (Each n) None c m
each_takes_none rules n slot c m = by c.term refl
  where
    by : (r : TermRef) → c.term ≡ r → command rules (Each n) slot c m ≡ command rules (Each n) None c m
    by Choose e = let form = by_form n c e (is_unsupported c.verb) refl in refused_alike rules n slot c m form.0 form.1
    by (Name t) e = other_alike rules n slot c m (Name t) e refl refl
    by Root e = other_alike rules n slot c m Root e refl refl
    by All e = other_alike rules n slot c m All e refl refl
    by (Under p) e = other_alike rules n slot c m (Under p) e refl refl
    by (Other t) e = other_alike rules n slot c m (Other t) e refl refl

pub stays_each : (n : CtxNum) (b : Bool) → (if b then made (Each n) else Each n) ≡ Each n
stays_each n true = refl
stays_each n false = refl
