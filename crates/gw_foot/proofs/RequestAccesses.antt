-- A transaction as single reads and writes of entries, and that these do what the transaction does.
use Rattle.std.proofs.Common.{◌≡◌, ℕ, Bool, true, false, List, [], ◌∷◌, Option, None, Some, is_none, Ok, refl, ap, ◌∙◌}
use Rattle.std.specs.Prelude.{◌||◌, not, if◌then◌else◌}
use Rattle.std.specs.List.{list_any}
use Rattle.gw_base.specs.declared.code.Code.{Code}
use Rattle.gw_base.specs.declared.code.Code.TheVariants.{UnknownContext, NoContextLeft, UnknownTermination, NoWildcardMatch, NotInContext}
use Rattle.gw_base.specs.declared.ids.CtxNum.{CtxNum}
use Rattle.gw_base.specs.declared.command_words.CtxRef.{CtxRef}
use Rattle.gw_base.specs.declared.command_words.CtxRef.TheVariants as ref
use Rattle.gw_base.specs.declared.command_words.Rules.{Rules}
use Rattle.gw_ctx.specs.Contexts.{ContextRecord}
use Rattle.gw_msg.specs.declared.message.Command.{Command}
use Rattle.gw_msg.specs.declared.message.ContextProp.{ContextProp}
use Rattle.gw_msg.specs.declared.message.Request.{Request}
use Rattle.gw_reply.specs.declared.reply.ActionReply.{ActionReply}
use Rattle.gw_reply.specs.declared.reply.CommandReply.{CommandReply}
use Rattle.gw_reply.specs.declared.reply.TxReply.{TxReply}
use Rattle.gw_table.specs.declared.attempts.Attempts.{Attempts}
use Rattle.gw_table.specs.Accesses.{Accesses, Done, ReadTerm, ReadCtx, ReadAll, PutCtx, effect, and_then}
use Rattle.gw_table.specs.Maps.{Maps, Outcome, term, ctx, numbers, place_of}
use Rattle.gw_table.proofs.Frames.{effect-then}
use Rattle.gw_term.specs.declared.record.Termination.{Termination}
use Rattle.gw_refusal.specs.declared.at.At.{At}
use Rattle.gw_refusal.specs.declared.at.At.TheVariants.{Null, Live, Unmade, Each}
use Rattle.gw_refusal.specs.Places.{same_place}
use Rattle.gw_cmd.specs.declared.outcome.CmdOutcome.{CmdOutcome}
use Rattle.gw_cmd.specs.Commands.{command}
use Rattle.gw_cmd.proofs.Programs.{program, effect-program}
use Rattle.gw_reserve.specs.Owned.{OwnedAction}
use Rattle.gw_tx.specs.Properties.{linked_names, refusal_of_properties, is_absent, refusal_of_links, with_property_if, set_property, set_properties, context_parts_if}
use Rattle.gw_tx.specs.Transactions.{attempted, set_when_made, attempt, commands, action_error, replied, unless_refused, in_context, remembered, in_each, in_all, after_all, action_for_each, action_in, action_for, action_on, action, actions, paired_transaction}
use Rattle.gw_foot.proofs.InTurn.{mapped, effect-mapped, in_turn, effect-in_turn}

-- maps and an answer
abbrev pub giving : {A : Type 0} → Maps → A → Outcome A
giving m a = record { maps = m; answer = a }

-- ---- properties

abbrev pub of_sets : CtxNum → List ContextProp → Accesses (Unit {0})
of_sets n [] = Done tt
of_sets n (p ∷ ps) = ReadCtx n (λ o. PutCtx n (with_property_if p o) (of_sets n ps))

pub effect-of_sets : (n : CtxNum) (ps : List ContextProp) (m : Maps) → effect (of_sets n ps) m ≡ giving (set_properties n ps m) tt
effect-of_sets n [] m = refl
effect-of_sets n (p ∷ ps) m = effect-of_sets n ps (set_property n p m)

abbrev pub of_made : Bool → At → List ContextProp → Accesses (Unit {0})
of_made true (Unmade n) late = of_sets n late
of_made true Null late = Done tt
of_made true (Live n) late = Done tt
of_made true (Each n) late = Done tt
of_made false at late = Done tt

pub effect-of_made : (b : Bool) (at : At) (late : List ContextProp) (m : Maps) → effect (of_made b at late) m ≡ giving (set_when_made b at late m) tt
effect-of_made true (Unmade n) late m = effect-of_sets n late m
effect-of_made true Null late m = refl
effect-of_made true (Live n) late m = refl
effect-of_made true (Each n) late m = refl
effect-of_made false at late m = refl

-- whether the record of one of the names passes the test
abbrev pub of_any : (Option Termination → Bool) → List (List ℕ) → Accesses Bool
of_any test [] = Done false
of_any test (t ∷ ts) = ReadTerm t (λ o. and_then (of_any test ts) (λ b. Done (test o || b)))

pub effect-of_any : (test : Option Termination → Bool) (ts : List (List ℕ)) (m : Maps) → effect (of_any test ts) m ≡ giving m (list_any (λ t. test (term m t)) ts)
effect-of_any test [] m = refl
effect-of_any test (t ∷ ts) m =
    effect-then (of_any test ts) (λ b. Done (test (term m t) || b)) m
    ∙ ap (λ (o : Outcome Bool). giving o.maps (test (term m t) || o.answer)) (effect-of_any test ts m)

abbrev pub lacks_record : Option Termination → Bool
lacks_record o = is_none o

abbrev pub is_placed_elsewhere : CtxNum → Option Termination → Bool
is_placed_elsewhere n o = not (same_place (place_of o) (Some n))

abbrev pub first_refusal : Bool → Bool → Option Code
first_refusal absent elsewhere = if absent then Some UnknownTermination else if elsewhere then Some NotInContext else None

abbrev pub of_links : CtxNum → List (List ℕ) → Accesses (Option Code)
of_links n names = and_then (of_any lacks_record names) (λ a. and_then (of_any (is_placed_elsewhere n) names) (λ e. Done (first_refusal a e)))

pub effect-of_links : (n : CtxNum) (names : List (List ℕ)) (m : Maps) → effect (of_links n names) m ≡ giving m (refusal_of_links n names m)
effect-of_links n names m =
    let absent : Bool = list_any (is_absent m) names in
    let second : Bool → Accesses (Option Code) = λ a. and_then (of_any (is_placed_elsewhere n) names) (λ e. Done (first_refusal a e)) in
    effect-then (of_any lacks_record names) second m
    ∙ ap (λ (o : Outcome Bool). effect (second o.answer) o.maps) (effect-of_any lacks_record names m)
    ∙ effect-then (of_any (is_placed_elsewhere n) names) (λ e. Done (first_refusal absent e)) m
    ∙ ap (λ (o : Outcome Bool). giving o.maps (first_refusal absent o.answer)) (effect-of_any (is_placed_elsewhere n) names m)

-- ---- the commands of an action

abbrev pub behind_command : List ContextProp → At → Option ℕ × Command → CmdOutcome → Accesses (Attempts At CommandReply)
behind_command late at p done = and_then (of_made done.made at late) (λ _. Done (attempted at p.1 done))

abbrev pub of_attempt : Rules → List ContextProp → At → Option ℕ × Command → Accesses (Attempts At CommandReply)
of_attempt rules late at p = and_then (program rules at p.0 p.1) (behind_command late at p)

abbrev pub of_commands : Rules → List ContextProp → At → List (Option ℕ × Command) → Accesses (Attempts At CommandReply)
of_commands rules late at ps = in_turn (of_attempt rules late) at ps

pub effect-of_attempt : (rules : Rules) (late : List ContextProp) (at : At) (p : Option ℕ × Command) (m : Maps) → effect (of_attempt rules late at p) m ≡ attempt rules late at p m
effect-of_attempt rules late at p m =
    let done : Outcome CmdOutcome = command rules at p.0 p.1 m in
    effect-then (program rules at p.0 p.1) (behind_command late at p) m
    ∙ ap (λ (o : Outcome CmdOutcome). effect (behind_command late at p o.answer) o.maps) (effect-program rules at p.0 p.1 m)
    ∙ effect-then (of_made done.answer.made at late) (λ _. Done (attempted at p.1 done.answer)) done.maps
    ∙ ap (λ (o : Outcome (Unit {0})). giving o.maps (attempted at p.1 done.answer)) (effect-of_made done.answer.made at late done.maps)

pub effect-of_commands : (rules : Rules) (late : List ContextProp) (at : At) (ps : List (Option ℕ × Command)) (m : Maps) → effect (of_commands rules late at ps) m ≡ commands rules late at ps m
effect-of_commands rules late at ps m = effect-in_turn (attempt rules late) (of_attempt rules late) (effect-of_attempt rules late) at ps m

-- ---- an action in one context

abbrev pub behind_sets : Rules → OwnedAction → At → CtxNum → Accesses (Attempts Unit ActionReply)
behind_sets rules a at n = ReadCtx n (λ o. mapped (replied (context_parts_if a.sent o)) (of_commands rules [] at a.commands))

abbrev pub of_context : Rules → OwnedAction → At → CtxNum → Accesses (Attempts Unit ActionReply)
of_context rules a at n = and_then (of_sets n a.sent.props) (λ _. behind_sets rules a at n)

pub effect-of_context : (rules : Rules) (a : OwnedAction) (at : At) (n : CtxNum) (m : Maps) → effect (of_context rules a at n) m ≡ in_context rules a at n m
effect-of_context rules a at n m =
    let ready : Maps = set_properties n a.sent.props m in
    effect-then (of_sets n a.sent.props) (λ _. behind_sets rules a at n) m
    ∙ ap (λ (o : Outcome (Unit {0})). effect (behind_sets rules a at n) o.maps) (effect-of_sets n a.sent.props m)
    ∙ effect-mapped (replied (context_parts_if a.sent (ctx ready n))) (of_commands rules [] at a.commands) ready (commands rules [] at a.commands ready) (effect-of_commands rules [] at a.commands ready)

-- ---- an action for each context

abbrev pub of_each : Rules → OwnedAction → Bool → CtxNum → Accesses (Attempts Bool ActionReply)
of_each rules a stopped n = mapped (remembered stopped) (of_context rules a (Each n) n)

abbrev pub of_all : Rules → OwnedAction → Bool → List CtxNum → Accesses (Attempts Bool ActionReply)
of_all rules a stopped ns = in_turn (of_each rules a) stopped ns

pub effect-of_each : (rules : Rules) (a : OwnedAction) (stopped : Bool) (n : CtxNum) (m : Maps) → effect (of_each rules a stopped n) m ≡ in_each rules a stopped n m
effect-of_each rules a stopped n m = effect-mapped (remembered stopped) (of_context rules a (Each n) n) m (in_context rules a (Each n) n m) (effect-of_context rules a (Each n) n m)

abbrev pub of_for_each : Rules → OwnedAction → List CtxNum → Accesses (Attempts Unit ActionReply)
of_for_each rules a [] = Done (action_error ref.All NoWildcardMatch)
of_for_each rules a (n ∷ ns) = mapped after_all (of_all rules a false (n ∷ ns))

effect-of_for_each : (rules : Rules) (a : OwnedAction) (ns : List CtxNum) (m : Maps) → effect (of_for_each rules a ns) m ≡ action_for_each rules a m ns
effect-of_for_each rules a [] m = refl
effect-of_for_each rules a (n ∷ ns) m = effect-mapped after_all (of_all rules a false (n ∷ ns)) m (in_all rules a (n ∷ ns) m) (effect-in_turn (in_each rules a) (of_each rules a) (effect-of_each rules a) false (n ∷ ns) m)

-- ---- actions

abbrev pub of_unless : Option Code → CtxRef → Accesses (Attempts Unit ActionReply) → Accesses (Attempts Unit ActionReply)
of_unless (Some code) sent p = Done (action_error sent code)
of_unless None sent p = p

effect-of_unless : (x : Option Code) (sent : CtxRef) (p : Accesses (Attempts Unit ActionReply)) (m : Maps) (o : Outcome (Attempts Unit ActionReply)) → effect p m ≡ o → effect (of_unless x sent p) m ≡ unless_refused x sent m o
effect-of_unless (Some code) sent p m o e = refl
effect-of_unless None sent p m o e = e

abbrev pub behind_links : Rules → CtxNum → OwnedAction → Option Code → Accesses (Attempts Unit ActionReply)
behind_links rules n a x = of_unless x (ref.Num n) (of_context rules a (Live n) n)

abbrev pub of_in : Rules → CtxNum → OwnedAction → Option ContextRecord → Accesses (Attempts Unit ActionReply)
of_in rules n a None = Done (action_error (ref.Num n) UnknownContext)
of_in rules n a (Some c) = and_then (of_links n (linked_names a.sent.props)) (behind_links rules n a)

abbrev pub of_for : Rules → OwnedAction → Option CtxNum → Accesses (Attempts Unit ActionReply)
of_for rules a None = Done (action_error ref.Choose NoContextLeft)
of_for rules a (Some n) = mapped (replied []) (of_commands rules a.sent.props (Unmade n) a.commands)

abbrev pub of_on : Rules → OwnedAction → CtxRef → Accesses (Attempts Unit ActionReply)
of_on rules a (ref.Num n) = ReadCtx n (λ o. of_in rules n a o)
of_on rules a ref.Choose = of_for rules a a.number
of_on rules a ref.Null = mapped (replied []) (of_commands rules [] Null a.commands)
of_on rules a ref.All = ReadAll (λ m. of_for_each rules a (numbers m))

abbrev pub of_action : Rules → Unit {0} → OwnedAction → Accesses (Attempts Unit ActionReply)
of_action rules u a = of_unless (refusal_of_properties a.sent) a.sent.ctx (of_on rules a a.sent.ctx)

effect-of_in : (rules : Rules) (n : CtxNum) (a : OwnedAction) (o : Option ContextRecord) (m : Maps) → effect (of_in rules n a o) m ≡ action_in rules n a m o
effect-of_in rules n a None m = refl
effect-of_in rules n a (Some c) m =
    let names : List (List ℕ) = linked_names a.sent.props in
    effect-then (of_links n names) (behind_links rules n a) m
    ∙ ap (λ (o : Outcome (Option Code)). effect (behind_links rules n a o.answer) o.maps) (effect-of_links n names m)
    ∙ effect-of_unless (refusal_of_links n names m) (ref.Num n) (of_context rules a (Live n) n) m (in_context rules a (Live n) n m) (effect-of_context rules a (Live n) n m)

effect-of_for : (rules : Rules) (a : OwnedAction) (o : Option CtxNum) (m : Maps) → effect (of_for rules a o) m ≡ action_for rules a m o
effect-of_for rules a None m = refl
effect-of_for rules a (Some n) m = effect-mapped (replied []) (of_commands rules a.sent.props (Unmade n) a.commands) m (commands rules a.sent.props (Unmade n) a.commands m) (effect-of_commands rules a.sent.props (Unmade n) a.commands m)

effect-of_on : (rules : Rules) (a : OwnedAction) (sent : CtxRef) (m : Maps) → effect (of_on rules a sent) m ≡ action_on rules a m sent
effect-of_on rules a (ref.Num n) m = effect-of_in rules n a (ctx m n) m
effect-of_on rules a ref.Choose m = effect-of_for rules a a.number m
effect-of_on rules a ref.Null m = effect-mapped (replied []) (of_commands rules [] Null a.commands) m (commands rules [] Null a.commands m) (effect-of_commands rules [] Null a.commands m)
effect-of_on rules a ref.All m = effect-of_for_each rules a (numbers m) m

pub effect-of_action : (rules : Rules) (u : Unit {0}) (a : OwnedAction) (m : Maps) → effect (of_action rules u a) m ≡ action rules u a m
effect-of_action rules u a m = effect-of_unless (refusal_of_properties a.sent) a.sent.ctx (of_on rules a a.sent.ctx) m (action_on rules a m a.sent.ctx) (effect-of_on rules a a.sent.ctx m)

-- ---- a request

abbrev pub of_actions : Rules → List OwnedAction → Accesses (Attempts Unit ActionReply)
of_actions rules owners = in_turn (of_action rules) tt owners

abbrev pub tree : Request → Attempts Unit ActionReply → TxReply
tree r done = record { id = r.id; result = Ok done.answers }

abbrev pub of_request : Rules → Request → List OwnedAction → Accesses TxReply
of_request rules r owners = mapped (tree r) (of_actions rules owners)

pub effect-of_request : (rules : Rules) (r : Request) (owners : List OwnedAction) (m : Maps) → effect (of_request rules r owners) m ≡ paired_transaction rules r owners m
unfolding paired_transaction
effect-of_request rules r owners m = effect-mapped (tree r) (of_actions rules owners) m (actions rules owners m) (effect-in_turn (action rules) (of_action rules) (effect-of_action rules) tt owners m)
