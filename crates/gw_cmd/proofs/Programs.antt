-- A command as single reads and writes of entries, and that these do what the command does.
use Rattle.std.proofs.Common.{nat_le, ◌≡◌, ℕ, Bool, false, List, [], ◌∷◌, length, Option, None, Some, is_none, Result, Ok, Err, refl, sym, ap, ◌∙◌}
use Rattle.std.specs.Prelude.{not}
use Rattle.std.specs.List.{filter}
use Rattle.gw_base.specs.declared.code.Code.{Code}
use Rattle.gw_base.specs.declared.code.Code.TheVariants.{UnknownContext, UnknownTermination, NoWildcardMatch, NoTerminationLeft}
use Rattle.gw_base.specs.declared.ids.CtxNum.{CtxNum}
use Rattle.gw_base.specs.declared.command_words.Rules.{Rules}
use Rattle.gw_base.specs.declared.command_words.Service.{Service}
use Rattle.gw_base.specs.declared.command_words.Verb.{Verb}
use Rattle.gw_base.specs.declared.command_words.Verb.TheVariants.{Add, Modify, Move, Subtract, AuditValue, AuditCapability, Notify, ServiceChange}
use Rattle.gw_base.specs.declared.term_ref.TermRef.{TermRef}
use Rattle.gw_base.specs.declared.term_ref.TermRef.TheVariants.{Root, All, Under, Choose, Name, Other}
use Rattle.gw_desc.specs.Checks.{check_code}
use Rattle.gw_ctx.specs.Contexts.{joined, left}
use Rattle.gw_desc.specs.declared.descriptor.Descriptor.{Descriptor}
use Rattle.gw_msg.specs.declared.message.Command.{Command}
use Rattle.gw_reply.specs.declared.parts.ReplyPart.{ReplyPart}
use Rattle.gw_reply.specs.declared.reply.CommandReply.{CommandReply}
use Rattle.gw_term.specs.declared.record.Termination.{Termination}
use Rattle.gw_term.specs.Record.{ephemeral, serviced}
use Rattle.gw_table.specs.declared.attempts.Attempts.{Attempts}
use Rattle.gw_table.specs.Accesses.{Accesses, Done, ReadTerm, ReadCtx, ReadAll, PutTerm, PutCtx, effect, and_then}
use Rattle.gw_table.specs.Maps.{Maps, Outcome, term, ctx, names, context_of, members_of}
use Rattle.gw_table.specs.Reserved.{slot_name}
use Rattle.gw_table.proofs.Folding.{in_order-more, in_order-none}
use Rattle.gw_table.proofs.Frames.{effect-then}
use Rattle.gw_refusal.specs.declared.at.At.{At}
use Rattle.gw_refusal.specs.declared.at.At.TheVariants.{Null, Live, Unmade, Each}
use Rattle.gw_cmd.specs.declared.change.Change.{Change}
use Rattle.gw_cmd.specs.declared.change.Change.TheVariants.{Stays, Becomes, Joins, Crosses, Leaves}
use Rattle.gw_cmd.specs.declared.change.Decided.{Decided}
use Rattle.gw_cmd.specs.declared.outcome.CmdOutcome.{CmdOutcome}
use Rattle.gw_refusal.specs.Requested.{matches, is_some_list, requested_service}
use Rattle.gw_cmd.specs.Commands as commands
use Rattle.gw_cmd.specs.Effects.{decided_in, decided_in_null, done, on_record, on_found, on_name}
use Rattle.gw_table.specs.Members.{put_service, unless_empty}
use Rattle.gw_cmd.specs.Changes.{changed}
use Rattle.gw_refusal.specs.Places.{place_at}
use Rattle.gw_refusal.specs.Forms.{refusal_by_form}
use Rattle.gw_cmd.specs.Refusals.{has_ended, code_if, missing, first_code, refusal_by_tables}
use Rattle.gw_refusal.specs.Targets.{is_free, those_in, source, matched, targets_of, targets}

-- maps and an answer
abbrev pub giving : {A : Type 0} → Maps → A → Outcome A
giving m a = record { maps = m; answer = a }

-- ---- one termination

unfoldable pub make : List ℕ → Change → Accesses (Unit {0})
make t Stays = Done tt
make t (Becomes r) = PutTerm t (Some r) (Done tt)
make t (Joins n r) = PutTerm t (Some r) (ReadCtx n (λ c. PutCtx n (Some (joined t (context_of c))) (Done tt)))
make t (Crosses p n r) = PutTerm t (Some r) (ReadCtx p (λ c. PutCtx p (unless_empty (left t (context_of c))) (ReadCtx n (λ d. PutCtx n (Some (joined t (context_of d))) (Done tt)))))
make t (Leaves n o) = PutTerm t o (ReadCtx n (λ c. PutCtx n (unless_empty (left t (context_of c))) (Done tt)))

pub effect-make : (t : List ℕ) (change : Change) (m : Maps) → effect (make t change) m ≡ giving (changed t change m) tt
unfolding make
effect-make t Stays m = refl
effect-make t (Becomes r) m = refl
effect-make t (Joins n r) m = refl
effect-make t (Crosses p n r) m = refl
effect-make t (Leaves n o) m = refl

abbrev pub finish : List ℕ → Result Decided Code → Accesses (Result (List ReplyPart) Code)
finish t (Err code) = Done (Err code)
finish t (Ok d) = and_then (make t d.change) (λ _. Done (Ok d.parts))

pub effect-finish : (t : List ℕ) (x : Result Decided Code) (m : Maps) → effect (finish t x) m ≡ done t m x
effect-finish t (Err code) m = refl
effect-finish t (Ok d) m =
    effect-then (make t d.change) (λ _. Done (Ok d.parts)) m
    ∙ ap (λ (o : Outcome (Unit {0})). giving {A = Result (List ReplyPart) Code} o.maps (Ok d.parts)) (effect-make t d.change m)

abbrev pub of_record : Rules → Option CtxNum → Command → List ℕ → Termination → Accesses (Result (List ReplyPart) Code)
of_record rules None c t r = finish t (decided_in_null rules c.verb c.descriptors r)
of_record rules (Some n) c t r = ReadCtx n (λ x. finish t (decided_in rules c.verb c.descriptors (nat_le rules.members (length (members_of x))) n r))

pub effect-of_record : (rules : Rules) (place : Option CtxNum) (c : Command) (t : List ℕ) (r : Termination) (m : Maps) → effect (of_record rules place c t r) m ≡ on_record rules place c t r m
unfolding on_record
effect-of_record rules None c t r m = effect-finish t (decided_in_null rules c.verb c.descriptors r) m
effect-of_record rules (Some n) c t r m = effect-finish t (decided_in rules c.verb c.descriptors (nat_le rules.members (length (members_of (ctx m n)))) n r) m

abbrev pub of_found : Rules → Option CtxNum → Command → List ℕ → Option Termination → Accesses (Result (List ReplyPart) Code)
of_found rules place c t None = Done (Err UnknownTermination)
of_found rules place c t (Some r) = of_record rules place c t r

pub effect-of_found : (rules : Rules) (place : Option CtxNum) (c : Command) (t : List ℕ) (o : Option Termination) (m : Maps) → effect (of_found rules place c t o) m ≡ on_found rules place c t o m
effect-of_found rules place c t None m = refl
effect-of_found rules place c t (Some r) m = effect-of_record rules place c t r m

abbrev pub of_name : Rules → Option CtxNum → Command → List ℕ → Accesses (Result (List ReplyPart) Code)
of_name rules place c t = ReadTerm t (λ o. of_found rules place c t o)

-- ---- several

abbrev pub of_names : Rules → At → Command → List (List ℕ) → Accesses (List CommandReply)
of_names rules at c [] = Done []
of_names rules at c (t ∷ ts) = and_then (of_name rules (place_at at) c t) (λ x. and_then (of_names rules at c ts) (λ rs. Done (commands.reply c (Name t) x ∷ rs)))

-- the maps and the answers after some attempts
abbrev pub plain : Outcome (Attempts Unit CommandReply) → Outcome (List CommandReply)
plain o = giving o.maps o.answer.answers

pub effect-of_names : (rules : Rules) (at : At) (c : Command) (ts : List (List ℕ)) (m : Maps) → effect (of_names rules at c ts) m ≡ plain (commands.on_targets rules at c ts m)
effect-of_names rules at c [] m = ap (λ o. plain o) (sym (in_order-none (commands.on_target rules at c) tt m))
effect-of_names rules at c (t ∷ ts) m =
    let now : Outcome (Result (List ReplyPart) Code) = on_name rules (place_at at) c t m in
    effect-then (of_name rules (place_at at) c t) (λ x. and_then (of_names rules at c ts) (λ rs. Done (commands.reply c (Name t) x ∷ rs))) m
    ∙ ap (λ (o : Outcome (Result (List ReplyPart) Code)). effect (and_then (of_names rules at c ts) (λ rs. Done (commands.reply c (Name t) o.answer ∷ rs))) o.maps) (effect-of_found rules (place_at at) c t (term m t) m)
    ∙ effect-then (of_names rules at c ts) (λ rs. Done (commands.reply c (Name t) now.answer ∷ rs)) now.maps
    ∙ ap (λ (o : Outcome (List CommandReply)). giving o.maps (commands.reply c (Name t) now.answer ∷ o.answer)) (effect-of_names rules at c ts now.maps)
    ∙ ap (λ o. plain o) (sym (in_order-more (commands.on_target rules at c) tt t ts m))

-- ---- whom it is for

-- a context of an action with * may have ended, so that all is read
abbrev pub of_members : At → CtxNum → Accesses (List (List ℕ))
of_members Null n = ReadCtx n (λ c. Done (members_of c))
of_members (Live k) n = ReadCtx n (λ c. Done (members_of c))
of_members (Unmade k) n = ReadCtx n (λ c. Done (members_of c))
of_members (Each k) n = ReadAll (λ m. Done (members_of (ctx m n)))

abbrev pub of_those : At → Option CtxNum → Accesses (List (List ℕ))
of_those at None = ReadAll (λ m. Done (filter (is_free m) (names m)))
of_those at (Some n) = of_members at n

abbrev pub of_matched : At → Command → Accesses (List (List ℕ))
of_matched at c = and_then (of_those at (source at c)) (λ l. Done (filter (matches c.term) l))

abbrev pub of_targets : TermRef → At → Command → Accesses (List (List ℕ))
of_targets (Name t) at c = Done (t ∷ [])
of_targets All at c = of_matched at c
of_targets (Under prefix) at c = of_matched at c
of_targets Root at c = Done []
of_targets Choose at c = Done []
of_targets (Other text) at c = Done []

pub effect-of_those : (at : At) (o : Option CtxNum) (m : Maps) → effect (of_those at o) m ≡ giving m (those_in o m)
effect-of_those at None m = refl
effect-of_those Null (Some n) m = refl
effect-of_those (Live k) (Some n) m = refl
effect-of_those (Unmade k) (Some n) m = refl
effect-of_those (Each k) (Some n) m = refl

effect-of_matched : (at : At) (c : Command) (m : Maps) → effect (of_matched at c) m ≡ giving m (matched at c m)
unfolding matched
effect-of_matched at c m =
    effect-then (of_those at (source at c)) (λ l. Done (filter (matches c.term) l)) m
    ∙ ap (λ (o : Outcome (List (List ℕ))). giving o.maps (filter (matches c.term) o.answer)) (effect-of_those at (source at c) m)

pub effect-of_targets : (r : TermRef) (at : At) (c : Command) (m : Maps) → effect (of_targets r at c) m ≡ giving m (targets_of r at c m)
effect-of_targets (Name t) at c m = refl
effect-of_targets All at c m = effect-of_matched at c m
effect-of_targets (Under prefix) at c m = effect-of_matched at c m
effect-of_targets Root at c m = refl
effect-of_targets Choose at c m = refl
effect-of_targets (Other text) at c m = refl

-- ---- refusals by the tables

abbrev pub of_ended : At → Accesses Bool
of_ended Null = Done false
of_ended (Live n) = ReadCtx n (λ o. Done (is_none o))
of_ended (Unmade n) = Done false
of_ended (Each n) = ReadAll (λ m. Done (is_none (ctx m n)))

-- the targets are known by then
abbrev pub of_missing : Option ℕ → List (List ℕ) → TermRef → Accesses (Option Code)
of_missing slot ts (Name t) = ReadTerm t (λ o. Done (code_if UnknownTermination (is_none o)))
of_missing slot ts All = Done (code_if NoWildcardMatch (not (is_some_list ts)))
of_missing slot ts (Under prefix) = Done (code_if NoWildcardMatch (not (is_some_list ts)))
of_missing slot ts Choose = Done (code_if NoTerminationLeft (is_none slot))
of_missing slot ts Root = Done None
of_missing slot ts (Other text) = Done None

abbrev pub of_tables : At → Option ℕ → Command → List (List ℕ) → Accesses (Option Code)
of_tables at slot c ts = and_then (of_ended at) (λ e. and_then (of_missing slot ts c.term) (λ x. Done (first_code (code_if UnknownContext e) (first_code x (check_code c.verb c.descriptors)))))

pub effect-of_ended : (at : At) (m : Maps) → effect (of_ended at) m ≡ giving m (has_ended at m)
effect-of_ended Null m = refl
effect-of_ended (Live n) m = refl
effect-of_ended (Unmade n) m = refl
effect-of_ended (Each n) m = refl

effect-of_missing : (at : At) (slot : Option ℕ) (c : Command) (r : TermRef) (m : Maps) → effect (of_missing slot (targets at c m) r) m ≡ giving m (missing at slot c m r)
effect-of_missing at slot c (Name t) m = refl
effect-of_missing at slot c All m = refl
effect-of_missing at slot c (Under prefix) m = refl
effect-of_missing at slot c Choose m = refl
effect-of_missing at slot c Root m = refl
effect-of_missing at slot c (Other text) m = refl

pub effect-of_tables : (at : At) (slot : Option ℕ) (c : Command) (m : Maps) → effect (of_tables at slot c (targets at c m)) m ≡ giving m (refusal_by_tables at slot c m)
unfolding refusal_by_tables
effect-of_tables at slot c m =
    let later : Bool → Accesses (Option Code) = λ e. and_then (of_missing slot (targets at c m) c.term) (λ x. Done (first_code (code_if UnknownContext e) (first_code x (check_code c.verb c.descriptors)))) in
    effect-then (of_ended at) later m
    ∙ ap (λ (o : Outcome Bool). effect (later o.answer) o.maps) (effect-of_ended at m)
    ∙ effect-then (of_missing slot (targets at c m) c.term) (λ x. Done (first_code (code_if UnknownContext (has_ended at m)) (first_code x (check_code c.verb c.descriptors)))) m
    ∙ ap (λ (o : Outcome (Option Code)). giving o.maps (first_code (code_if UnknownContext (has_ended at m)) (first_code o.answer (check_code c.verb c.descriptors)))) (effect-of_missing at slot c c.term m)

-- ---- on the gateway itself, and on a new termination

-- a service state for one, and then for the others
abbrev pub of_service : Service → List ℕ → Option Termination → Accesses (Unit {0}) → Accesses (Unit {0})
of_service s t None p = p
of_service s t (Some r) p = PutTerm t (Some (serviced r s)) p

abbrev pub of_services : Service → List (List ℕ) → Accesses (Unit {0})
of_services s [] = Done tt
of_services s (t ∷ ts) = ReadTerm t (λ o. of_service s t o (of_services s ts))

effect-of_services : (s : Service) (ts : List (List ℕ)) (m : Maps) → effect (of_services s ts) m ≡ giving (commands.all_serviced s ts m) tt
effect-of_services s [] m = refl
effect-of_services s (t ∷ ts) m = by (term m t) (λ n. effect-of_services s ts n)
  where
    by : (o : Option Termination) → ((n : Maps) → effect (of_services s ts) n ≡ giving (commands.all_serviced s ts n) tt) → effect (of_service s t o (of_services s ts)) m ≡ giving (commands.all_serviced s ts (put_service s t m o)) tt
    by None later = later m
    by (Some r) later = later (put_service s t m (Some r))

abbrev pub of_serviced_if : Option Service → Accesses (Unit {0})
of_serviced_if None = Done tt
of_serviced_if (Some s) = ReadAll (λ m. of_services s (names m))

abbrev pub of_root : Verb → List Descriptor → Accesses (Unit {0})
of_root ServiceChange ds = of_serviced_if (requested_service ds)
of_root _ ds = Done tt

effect-of_serviced_if : (o : Option Service) (m : Maps) → effect (of_serviced_if o) m ≡ giving (commands.serviced_if o m) tt
effect-of_serviced_if None m = refl
effect-of_serviced_if (Some s) m = effect-of_services s (names m) m

effect-of_root : (v : Verb) (ds : List Descriptor) (m : Maps) → effect (of_root v ds) m ≡ giving (commands.root_maps v ds m) tt
effect-of_root ServiceChange ds m = effect-of_serviced_if (requested_service ds) m
effect-of_root Add ds m = refl
effect-of_root Modify ds m = refl
effect-of_root Move ds m = refl
effect-of_root Subtract ds m = refl
effect-of_root AuditValue ds m = refl
effect-of_root AuditCapability ds m = refl
effect-of_root Notify ds m = refl

abbrev pub of_new : Rules → At → Command → Option ℕ → Accesses CmdOutcome
of_new rules at c None = Done (commands.outcome_of at (commands.reply c c.term (Err NoTerminationLeft) ∷ []))
of_new rules at c (Some slot) = and_then (of_record rules (place_at at) c (slot_name slot) (ephemeral slot)) (λ x. Done (commands.outcome_of at (commands.new_reply c slot x ∷ [])))

effect-of_new : (rules : Rules) (at : At) (c : Command) (slot : Option ℕ) (m : Maps) → effect (of_new rules at c slot) m ≡ commands.on_new rules at c slot m
effect-of_new rules at c None m = refl
effect-of_new rules at c (Some slot) m =
    effect-then (of_record rules (place_at at) c (slot_name slot) (ephemeral slot)) (λ x. Done (commands.outcome_of at (commands.new_reply c slot x ∷ []))) m
    ∙ ap (λ (o : Outcome (Result (List ReplyPart) Code)). giving o.maps (commands.outcome_of at (commands.new_reply c slot o.answer ∷ []))) (effect-of_record rules (place_at at) c (slot_name slot) (ephemeral slot) m)

-- ---- the command

abbrev pub of_each : Rules → At → Command → List (List ℕ) → Accesses CmdOutcome
of_each rules at c ts = and_then (of_names rules at c ts) (λ rs. Done (commands.outcome_written at c rs))

effect-of_each : (rules : Rules) (at : At) (c : Command) (m : Maps) → effect (of_each rules at c (targets at c m)) m ≡ commands.on_names rules at c m
effect-of_each rules at c m =
    effect-then (of_names rules at c (targets at c m)) (λ rs. Done (commands.outcome_written at c rs)) m
    ∙ ap (λ (o : Outcome (List CommandReply)). giving o.maps (commands.outcome_written at c o.answer)) (effect-of_names rules at c (targets at c m) m)

abbrev pub of_gateway : At → Command → Accesses CmdOutcome
of_gateway at c = and_then (of_root c.verb c.descriptors) (λ _. Done (commands.outcome_of at (commands.reply c Root (Ok (commands.root_parts c)) ∷ [])))

effect-of_gateway : (at : At) (c : Command) (m : Maps) → effect (of_gateway at c) m ≡ commands.on_root at c m
effect-of_gateway at c m =
    effect-then (of_root c.verb c.descriptors) (λ _. Done (commands.outcome_of at (commands.reply c Root (Ok (commands.root_parts c)) ∷ []))) m
    ∙ ap (λ (o : Outcome (Unit {0})). giving o.maps (commands.outcome_of at (commands.reply c Root (Ok (commands.root_parts c)) ∷ []))) (effect-of_root c.verb c.descriptors m)

abbrev pub of_executed : Rules → At → Option ℕ → Command → List (List ℕ) → TermRef → Accesses CmdOutcome
of_executed rules at slot c ts Root = of_gateway at c
of_executed rules at slot c ts Choose = of_new rules at c slot
of_executed rules at slot c ts (Name t) = of_each rules at c ts
of_executed rules at slot c ts All = of_each rules at c ts
of_executed rules at slot c ts (Under prefix) = of_each rules at c ts
of_executed rules at slot c ts (Other text) = of_each rules at c ts

effect-of_executed : (rules : Rules) (at : At) (slot : Option ℕ) (c : Command) (r : TermRef) (m : Maps) → effect (of_executed rules at slot c (targets at c m) r) m ≡ commands.executed rules at slot c m r
effect-of_executed rules at slot c Root m = effect-of_gateway at c m
effect-of_executed rules at slot c Choose m = effect-of_new rules at c slot m
effect-of_executed rules at slot c (Name t) m = effect-of_each rules at c m
effect-of_executed rules at slot c All m = effect-of_each rules at c m
effect-of_executed rules at slot c (Under prefix) m = effect-of_each rules at c m
effect-of_executed rules at slot c (Other text) m = effect-of_each rules at c m

abbrev pub unless_code : At → Command → Option Code → Accesses CmdOutcome → Accesses CmdOutcome
unless_code at c (Some code) p = Done (commands.outcome_of at (commands.reply c c.term (Err code) ∷ []))
unless_code at c None p = p

abbrev pub of_rest : Rules → At → Option ℕ → Command → List (List ℕ) → Accesses CmdOutcome
of_rest rules at slot c ts = and_then (of_tables at slot c ts) (λ x. unless_code at c x (of_executed rules at slot c ts c.term))

abbrev pub of_allowed : Rules → At → Option ℕ → Command → Accesses CmdOutcome
of_allowed rules at slot c = and_then (of_targets c.term at c) (λ ts. of_rest rules at slot c ts)

unfoldable pub program : Rules → At → Option ℕ → Command → Accesses CmdOutcome
program rules at slot c = unless_code at c (refusal_by_form at c) (of_allowed rules at slot c)

effect-unless : (at : At) (c : Command) (x : Option Code) (p : Accesses CmdOutcome) (o : Outcome CmdOutcome) (m : Maps) → effect p m ≡ o → effect (unless_code at c x p) m ≡ commands.unless_refused x at c m o
effect-unless at c (Some code) p o m e = refl
effect-unless at c None p o m e = e

both_refusals : (x y : Option Code) (at : At) (c : Command) (m : Maps) (o : Outcome CmdOutcome) → commands.unless_refused x at c m (commands.unless_refused y at c m o) ≡ commands.unless_refused (first_code x y) at c m o
both_refusals (Some code) y at c m o = refl
both_refusals None y at c m o = refl

pub effect-program : (rules : Rules) (at : At) (slot : Option ℕ) (c : Command) (m : Maps) → effect (program rules at slot c) m ≡ commands.command rules at slot c m
unfolding program commands.command
effect-program rules at slot c m =
    let ts : List (List ℕ) = targets at c m in
    let whole : Outcome CmdOutcome = commands.executed rules at slot c m c.term in
    let rest = λ (l : List (List ℕ)). of_rest rules at slot c l in
    effect-unless at c (refusal_by_form at c) (of_allowed rules at slot c) (commands.unless_refused (refusal_by_tables at slot c m) at c m whole) m
    (effect-then (of_targets c.term at c) rest m
    ∙ ap (λ (o : Outcome (List (List ℕ))). effect (rest o.answer) o.maps) (effect-of_targets c.term at c m)
    ∙ effect-then (of_tables at slot c ts) (λ x. unless_code at c x (of_executed rules at slot c ts c.term)) m
    ∙ ap (λ (o : Outcome (Option Code)). effect (unless_code at c o.answer (of_executed rules at slot c ts c.term)) o.maps) (effect-of_tables at slot c m)
    ∙ effect-unless at c (refusal_by_tables at slot c m) (of_executed rules at slot c ts c.term) whole m (effect-of_executed rules at slot c c.term m))
    ∙ both_refusals (refusal_by_form at c) (refusal_by_tables at slot c m) at c m whole
