-- Idle commands: what comes of a target, and of all of them.
use Rattle.std.proofs.Common.{◌≡◌, ℕ, Bool, true, false, List, [], ◌∷◌, map, Option, None, Some, is_some, is_none, Result, Ok, Err, bytes_eq, refl, sym, ap, ◌∙◌}
use Rattle.std.specs.Prelude.{◌||◌, ◌&&◌, not, is_err, if◌then◌else◌}
use Rattle.std.specs.List.{list_any, filter, find}
use Rattle.gw_base.specs.declared.code.Code.{Code}
use Rattle.gw_base.specs.declared.code.Code.TheVariants.{ContextFull, NotInContext, NoWildcardMatch}
use Rattle.gw_base.specs.declared.ids.CtxNum.{CtxNum}
use Rattle.gw_base.specs.declared.key.Key.{Key}
use Rattle.gw_base.specs.declared.key.Key.TheVariants.{Term}
use Rattle.gw_base.specs.declared.command_words.Rules.{Rules}
use Rattle.gw_base.specs.declared.command_words.Verb.{Verb}
use Rattle.gw_base.specs.declared.command_words.Verb.TheVariants.{Add, Modify, Move, Subtract, AuditValue, AuditCapability, Notify, ServiceChange}
use Rattle.gw_base.specs.declared.term_ref.TermRef.{TermRef}
use Rattle.gw_base.specs.declared.term_ref.TermRef.TheVariants.{Root, All, Under, Choose, Name, Other}
use Rattle.gw_base.specs.Keys.{has}
use Rattle.gw_base.specs.NameLists.{is_in}
use Rattle.gw_base.proofs.NameTests.{same_name, number_itself}
use Rattle.gw_base.proofs.NamesInLists.{or_left, or_right, or_cases, either, itself}
use Rattle.gw_desc.specs.Checks.{check_code}
use Rattle.gw_reply.specs.declared.writer.ReplyWriter.TheVariants.{TooLong}
use Rattle.gw_msg.specs.declared.message.Command.{Command}
use Rattle.gw_reply.specs.declared.parts.ReplyPart.{ReplyPart}
use Rattle.gw_reply.specs.declared.reply.CommandReply.{CommandReply}
use Rattle.gw_term.specs.Audit.{audit_parts}
use Rattle.gw_term.specs.declared.record.Termination.{Termination}
use Rattle.gw_table.specs.declared.attempts.Attempts.{Attempts}
use Rattle.gw_table.specs.Folds.{attempts_behind, in_order}
use Rattle.gw_table.specs.Maps.{Maps, Outcome, term, ctx, names, place_of, members_of, is_free}
use Rattle.gw_table.specs.Parts.{PartKeys, holds, Holds}
use Rattle.gw_table.specs.WellFormed.{IsSound}
use Rattle.gw_table.proofs.Folding.{ended, in_order-more, in_order-none}
use Rattle.gw_refusal.specs.declared.at.At.{At}
use Rattle.gw_refusal.specs.declared.at.At.TheVariants.{Null, Live, Unmade, Each}
use Rattle.gw_refusal.specs.Requested.{is_add, is_wildcard, matches, audited, is_some_list}
use Rattle.gw_refusal.specs.Places.{place_at, same_place, is_each}
use Rattle.gw_refusal.specs.Targets.{those_in, source, matched, targets_of, targets}
use Rattle.gw_cmd.specs.declared.change.Change.TheVariants.{Stays}
use Rattle.gw_cmd.specs.declared.outcome.CmdOutcome.{CmdOutcome}
use Rattle.gw_cmd.specs.declared.outcome.Seen.{Seen}
use Rattle.gw_cmd.specs.Commands.{reply, has_error, is_done, error_of, error_in, first_error, outcome_written, on_target, on_targets, on_names, executed, unless_refused, allowed}
use Rattle.gw_cmd.specs.Effects.{refusal_elsewhere, refusal_to_add, is_full, joins, unless, decided_in, decided_in_null, done, on_record, on_found, on_name}
use Rattle.gw_cmd.specs.Idle.{is_full_at, leaves_all, code_idle, seen_idle, IsIdle}
use Rattle.gw_cmd.specs.Keys.{member_keys, term_keys, command_keys}
use Rattle.gw_cmd.specs.Refusals.{code_if, missing, first_code, refusal_by_tables}
use Rattle.gw_cmd.specs.Written.{code_of, seen}
use Rattle.gw_cmd.proofs.AsItIs.{left_alone, modify_alone, refused_at_once}
use Rattle.gw_cmd.proofs.Ready.{has_term, is_named, in_filter, among_term}

-- ---- one target

place_itself : (p : Option CtxNum) → same_place p p ≡ true
place_itself None = refl
place_itself (Some n) = number_itself n n refl

pub stands_here : (place there : Option CtxNum) → there ≡ place → refusal_elsewhere place there ≡ None
stands_here place there e = ap (λ (p : Option CtxNum). refusal_elsewhere place p) e ∙ by (same_place place place) (place_itself place)
  where
    by : (b : Bool) → b ≡ true → (if b then None else Some NotInContext) ≡ None
    by true h = refl
    by false h = absurd cc

pub audit_alone : (rules : Rules) (place : Option CtxNum) (c : Command) (t : List ℕ) (r : Termination) (m : Maps) → c.verb ≡ AuditValue → r.place ≡ place
    → on_record rules place c t r m ≡ record { maps = m; answer = Ok (audit_parts (audited c.descriptors) r) }
unfolding on_record
audit_alone rules None c t r m verb there =
    ap (λ (v : Verb). done t m (decided_in_null rules v c.descriptors r)) verb
    ∙ ap (λ (o : Option Code). done t m (unless o (record { change = Stays; parts = audit_parts (audited c.descriptors) r }))) (stands_here None r.place there)
audit_alone rules (Some n) c t r m verb there =
    ap (λ (v : Verb). done t m (decided_in rules v c.descriptors (is_full rules n m) n r)) verb
    ∙ ap (λ (o : Option Code). done t m (unless o (record { change = Stays; parts = audit_parts (audited c.descriptors) r }))) (stands_here (Some n) r.place there)

add_alone : (rules : Rules) (n : CtxNum) (c : Command) (t : List ℕ) (r : Termination) (m : Maps) → c.verb ≡ Add → c.descriptors ≡ [] → is_full rules n m ≡ true → r.place ≡ None
    → on_record rules (Some n) c t r m ≡ record { maps = m; answer = Err ContextFull }
unfolding on_record
add_alone rules n c t r m verb none full free =
    ap (λ (v : Verb). done t m (decided_in rules v c.descriptors (is_full rules n m) n r)) verb
    ∙ ap (λ x. done t m (joins n x)) (sym (refused_at_once rules c.descriptors r (Some n) (refusal_to_add (is_full rules n m) r.place) ContextFull none (λ i. refusal_to_add (full i) (free i))))

no_items : {X : Type 0} (l : List X) → not (is_some_list l) ≡ true → l ≡ []
no_items [] h = refl
no_items (x ∷ xs) h = absurd cc

both_of : (a b : Bool) → (a && b) ≡ true → (a ≡ true) × (b ≡ true)
both_of true b h = (refl, h)
both_of false b h = absurd cc

-- it leaves the maps as they are, and its answer has this code, or none
record IsLeft (m : Maps) (k : Option Code) (o : Outcome (Result (List ReplyPart) Code)) : Type 0 where
  maps : o.maps ≡ m
  code : code_of o.answer ≡ k

left : (m : Maps) (answer : Result (List ReplyPart) Code) (code : Option Code) (o : Outcome (Result (List ReplyPart) Code)) → o ≡ record { maps = m; answer = answer } → code_of answer ≡ code → IsLeft m code o
left m answer code o e h = record { maps = ap (λ (x : Outcome (Result (List ReplyPart) Code)). x.maps) e; code = ap (λ (x : Outcome (Result (List ReplyPart) Code)). code_of x.answer) e ∙ h }

left_one : (rules : Rules) (at : At) (c : Command) (t : List ℕ) (r : Termination) (m : Maps) → leaves_all c.verb (is_some_list c.descriptors) (is_full_at rules (place_at at) m) ≡ true → term m t ≡ Some r → r.place ≡ source at c
    → IsLeft m (code_idle c.verb) (on_name rules (place_at at) c t m)
left_one rules at c t r m leaves found there = by c.verb refl leaves there
  where
    here : on_name rules (place_at at) c t m ≡ on_record rules (place_at at) c t r m
    here = ap (λ (o : Option Termination). on_found rules (place_at at) c t o m) found

    code : (v : Verb) → c.verb ≡ v → code_idle v ≡ code_idle c.verb
    code v e = ap (λ (w : Verb). code_idle w) (sym e)

    add : (p : Option CtxNum) → place_at at ≡ p → c.verb ≡ Add → c.descriptors ≡ [] → is_full_at rules p m ≡ true → r.place ≡ None → IsLeft m (code_idle c.verb) (on_name rules (place_at at) c t m)
    add None e verb none full free = absurd cc
    add (Some n) e verb none full free = left m (Err ContextFull) _ _ (here ∙ ap (λ (p : Option CtxNum). on_record rules p c t r m) e ∙ add_alone rules n c t r m verb none full free) (code Add verb)

    by : (v : Verb) → c.verb ≡ v → leaves_all v (is_some_list c.descriptors) (is_full_at rules (place_at at) m) ≡ true → r.place ≡ (if is_add v then None else place_at at) → IsLeft m (code_idle c.verb) (on_name rules (place_at at) c t m)
    by AuditValue verb h there = left m (Ok (audit_parts (audited c.descriptors) r)) _ _ (here ∙ audit_alone rules (place_at at) c t r m verb there) (code AuditValue verb)
    by Modify verb h there =
        left m (Ok []) _ _ (here ∙ modify_alone rules (place_at at) c t r m verb (no_items c.descriptors h) found ∙ ap (λ (o : Option Code). left_alone o m) (stands_here (place_at at) r.place there)) (code Modify verb)
    by Add verb h there = let two = both_of (not (is_some_list c.descriptors)) (is_full_at rules (place_at at) m) h in add (place_at at) refl verb (no_items c.descriptors two.0) two.1 there
    by Move verb h there = absurd cc
    by Subtract verb h there = absurd cc
    by AuditCapability verb h there = absurd cc
    by Notify verb h there = absurd cc
    by ServiceChange verb h there = absurd cc

-- ---- one after another

-- the reply of one, in these maps
abbrev reply_at : Rules → At → Command → Maps → List ℕ → CommandReply
reply_at rules at c m t = reply c (Name t) (on_name rules (place_at at) c t m).answer

left_all : (rules : Rules) (at : At) (c : Command) (m : Maps) (ts : List (List ℕ)) → ((t : List ℕ) → is_in t ts ≡ true → (on_name rules (place_at at) c t m).maps ≡ m) → on_targets rules at c ts m ≡ ended m tt (map (reply_at rules at c m) ts) false
left_all rules at c m [] each = in_order-none (on_target rules at c) tt m
left_all rules at c m (t ∷ ts) each =
    in_order-more (on_target rules at c) tt t ts m
    ∙ ap (λ (x : Maps). attempts_behind (reply_at rules at c m t ∷ []) (in_order (on_target rules at c) tt ts x)) (each t (or_left (bytes_eq t t) (is_in t ts) (itself t)))
    ∙ ap (λ (o : Outcome (Attempts Unit CommandReply)). attempts_behind (reply_at rules at c m t ∷ []) o) (left_all rules at c m ts (λ q h. each q (or_right (bytes_eq q t) (is_in q ts) h)))

-- ---- the errors among replies that have this code, or none

first_by : (r : CommandReply) (rest : List CommandReply) (x : Result (List ReplyPart) Code) (b : Bool) (k : Option Code) → r.result ≡ x → code_of x ≡ k → code_of (first_error rest) ≡ (if b then k else None) → code_of (first_error (r ∷ rest)) ≡ k
first_by r rest (Ok parts) b k is code h = ap (λ y. code_of (error_in (if is_err y then Some r else find has_error rest))) is ∙ h ∙ neither b ∙ code
  where
    neither : (b : Bool) → (if b then k else None) ≡ None
    neither true = sym code
    neither false = refl
first_by r rest (Err e) b k is code h = ap (λ y. code_of (error_in (if is_err y then Some r else find has_error rest))) is ∙ ap (λ y. code_of (error_of y)) is ∙ code

any_by : (rest : List CommandReply) (x : Result (List ReplyPart) Code) (b : Bool) (k : Option Code) → code_of x ≡ k → list_any is_done rest ≡ (b && is_none k) → (not (is_err x) || list_any is_done rest) ≡ is_none k
any_by rest (Ok parts) b k code h = ap (λ o. is_none o) code
any_by rest (Err e) b k code h = h ∙ ap (λ o. b && is_none o) (sym code) ∙ none b ∙ ap (λ o. is_none o) code
  where
    none : (b : Bool) → (b && false) ≡ false
    none true = refl
    none false = refl

module _ (f : List ℕ → CommandReply) (k : Option Code) where
  first_of_all : (ts : List (List ℕ)) → ((t : List ℕ) → is_in t ts ≡ true → code_of (f t).result ≡ k) → code_of (first_error (map f ts)) ≡ (if is_some_list ts then k else None)
  first_of_all [] each = refl
  first_of_all (t ∷ ts) each = first_by (f t) (map f ts) (f t).result (is_some_list ts) k refl (each t (or_left (bytes_eq t t) (is_in t ts) (itself t))) (first_of_all ts (λ q h. each q (or_right (bytes_eq q t) (is_in q ts) h)))

  any_of_all : (ts : List (List ℕ)) → ((t : List ℕ) → is_in t ts ≡ true → code_of (f t).result ≡ k) → list_any is_done (map f ts) ≡ (is_some_list ts && is_none k)
  any_of_all [] each = refl
  any_of_all (t ∷ ts) each = any_by (map f ts) (f t).result (is_some_list ts) k (each t (or_left (bytes_eq t t) (is_in t ts) (itself t))) (any_of_all ts (λ q h. each q (or_right (bytes_eq q t) (is_in q ts) h)))

-- ---- a wildcard that is not refused

first_none : (a b : Option Code) → first_code a b ≡ None → (a ≡ None) × (b ≡ None)
first_none None b h = (refl, h)
first_none (Some x) b h = absurd cc

module _ (at : At) (slot : Option ℕ) (c : Command) (m : Maps) where
  matched_by : (r : TermRef) → is_wildcard r ≡ true → missing at slot c m r ≡ None → is_some_list (targets at c m) ≡ true
  matched_by r w h = by r w h
    where
      found : (code : Code) (b : Bool) → code_if code (not b) ≡ None → b ≡ true
      found code true h = refl
      found code false h = absurd cc

      by : (r : TermRef) → is_wildcard r ≡ true → missing at slot c m r ≡ None → is_some_list (targets at c m) ≡ true
      by All w h = found NoWildcardMatch (is_some_list (targets at c m)) h
      by (Under x) w h = found NoWildcardMatch (is_some_list (targets at c m)) h
      by Root w h = absurd cc
      by Choose w h = absurd cc
      by (Name x) w h = absurd cc
      by (Other x) w h = absurd cc

  -- it matches a termination
  pub some_matched : is_wildcard c.term ≡ true → refusal_by_tables at slot c m ≡ None → is_some_list (targets at c m) ≡ true
  unfolding refusal_by_tables
  some_matched wildcard h =
      let rest = (first_none _ (first_code (missing at slot c m c.term) (check_code c.verb c.descriptors)) h).1 in
      matched_by c.term wildcard (first_none (missing at slot c m c.term) (check_code c.verb c.descriptors) rest).0

  pub executed_on : (rules : Rules) (r : TermRef) → is_wildcard r ≡ true → executed rules at slot c m r ≡ on_names rules at c m
  executed_on rules All w = refl
  executed_on rules (Under x) w = refl
  executed_on rules Root w = absurd cc
  executed_on rules Choose w = absurd cc
  executed_on rules (Name x) w = absurd cc
  executed_on rules (Other x) w = absurd cc

-- ---- the targets of a command

passes : (p : List ℕ → Bool) (l : List (List ℕ)) (t : List ℕ) → is_in t (filter p l) ≡ true → p t ≡ true
passes p [] t h = absurd cc
passes p (x ∷ xs) t h = by (p x) refl h (passes p xs t)
  where
    by : (b : Bool) → p x ≡ b → is_in t (if b then x ∷ filter p xs else filter p xs) ≡ true → (is_in t (filter p xs) ≡ true → p t ≡ true) → p t ≡ true
    by true e h later = either (or_cases (bytes_eq t x) (is_in t (filter p xs)) h) (λ a. ap p (same_name t x a) ∙ e) later
    by false e h later = later h

-- a termination that is in this place
abbrev pub StandsIn : Option CtxNum → List ℕ → Maps → Type 0
StandsIn place t m = (r : Termination) × (term m t ≡ Some r) × (r.place ≡ place)

pub free_one : (t : List ℕ) (m : Maps) → is_in t (filter (is_free m) (names m)) ≡ true → StandsIn None t m
free_one t m h = by (term m t) refl (sym (is_named m t) ∙ in_filter (is_free m) (names m) t h) (passes (is_free m) (names m) t h)
  where
    free : (p : Option CtxNum) → is_none p ≡ true → p ≡ None
    free None h = refl
    free (Some n) h = absurd cc

    by : (o : Option Termination) → term m t ≡ o → is_some (term m t) ≡ true → is_none (place_of (term m t)) ≡ true → StandsIn None t m
    by None e s f = absurd (let clash : false ≡ true = sym (ap (λ o. is_some o) e) ∙ s in cc)
    by (Some r) e s f = (r, e, free r.place (sym (ap (λ o. is_none (place_of o)) e) ∙ f))

pub member_one : (t : List ℕ) (n : CtxNum) (m : Maps) → place_of (term m t) ≡ Some n → StandsIn (Some n) t m
member_one t n m h = by (term m t) refl h
  where
    by : (o : Option Termination) → term m t ≡ o → place_of (term m t) ≡ Some n → StandsIn (Some n) t m
    by None e s = absurd (let clash : None ≡ Some n = sym (ap (λ o. place_of o) e) ∙ s in cc)
    by (Some r) e s = (r, e, sym (ap (λ o. place_of o) e) ∙ s)

module _ (keys : PartKeys) (at : At) (slot : Option ℕ) (c : Command) (m : Maps) (sound : IsSound keys m) (covered : Holds keys (command_keys at slot c m)) (wildcard : is_wildcard c.term ≡ true) (every : is_each at ≡ true → (k : Key) → holds keys k ≡ true) where
  in_matched : (t : List ℕ) (r : TermRef) → is_wildcard r ≡ true → is_in t (targets_of r at c m) ≡ true → is_in t (matched at c m) ≡ true
  in_matched t All w h = h
  in_matched t (Under x) w h = h
  in_matched t Root w h = absurd cc
  in_matched t Choose w h = absurd cc
  in_matched t (Name x) w h = absurd cc
  in_matched t (Other x) w h = absurd cc

  in_place : (t : List ℕ) → is_in t (matched at c m) ≡ true → is_in t (those_in (source at c) m) ≡ true
  unfolding matched
  in_place t h = in_filter (matches c.term) (those_in (source at c) m) t h

  -- the key of each member of the action's context
  by_members : (t : List ℕ) (r : TermRef) → is_wildcard r ≡ true → has (term_keys at slot c m r) (Term t) ≡ has (member_keys at m) (Term t)
  by_members t All w = refl
  by_members t (Under x) w = refl
  by_members t Root w = absurd cc
  by_members t Choose w = absurd cc
  by_members t (Name x) w = absurd cc
  by_members t (Other x) w = absurd cc

  member_key : (t : List ℕ) → has (member_keys at m) (Term t) ≡ true → holds keys (Term t) ≡ true
  member_key t h = covered (Term t) (among_term at slot c m (Term t) (by_members t c.term wildcard ∙ h))

  held : (t : List ℕ) (a : At) → at ≡ a → (n : CtxNum) → place_at a ≡ Some n → is_in t (those_in (place_at a) m) ≡ true → holds keys (Term t) ≡ true
  held t Null e n is h = absurd cc
  held t (Live k) e n is h = member_key t (ap (λ (x : At). has (member_keys x m) (Term t)) e ∙ has_term (members_of (ctx m k)) t h)
  held t (Unmade k) e n is h = member_key t (ap (λ (x : At). has (member_keys x m) (Term t)) e ∙ has_term (members_of (ctx m k)) t h)
  held t (Each k) e n is h = every (ap (λ (x : At). is_each x) e) (Term t)

  stands : (t : List ℕ) (add : Bool) → is_in t (those_in (if add then None else place_at at) m) ≡ true → StandsIn (if add then None else place_at at) t m
  stands t true h = free_one t m h
  stands t false h = in_action (place_at at) refl h
    where
      in_action : (p : Option CtxNum) → place_at at ≡ p → is_in t (those_in p m) ≡ true → StandsIn p t m
      in_action None e h = free_one t m h
      in_action (Some n) e h = member_one t n m (sound.recorded t n (held t at refl n e (ap (λ (p : Option CtxNum). is_in t (those_in p m)) e ∙ h)) h)

  -- each target is where the command looks for it
  pub each_stands : (t : List ℕ) → is_in t (targets at c m) ≡ true → StandsIn (source at c) t m
  each_stands t h = stands t (is_add c.verb) (in_place t (in_matched t c.term wildcard h))

module _ (keys : PartKeys) (rules : Rules) (at : At) (slot : Option ℕ) (c : Command) (m : Maps) (sound : IsSound keys m) (covered : Holds keys (command_keys at slot c m)) (idle : IsIdle keys rules at c m) where
  each_left : (t : List ℕ) → is_in t (targets at c m) ≡ true → IsLeft m (code_idle c.verb) (on_name rules (place_at at) c t m)
  each_left t h = let one = each_stands keys at slot c m sound covered idle.wildcard idle.held t h in left_one rules at c t one.0 m idle.leaves one.1 one.2

  -- the maps stay, and what comes of the targets shows without them
  pub idle_executed : refusal_by_tables at slot c m ≡ None
      → (replies : List CommandReply) × (allowed rules at slot c m ≡ record { maps = m; answer = outcome_written at c replies }) × (seen_idle c.verb ≡ seen TooLong replies)
  idle_executed h =
      let ts : List (List ℕ) = targets at c m in
      let some = some_matched at slot c m idle.wildcard h in
      let k : Option Code = code_idle c.verb in
      let f : List ℕ → CommandReply = reply_at rules at c m in
      let first = first_of_all f k ts (λ t i. (each_left t i).code) ∙ ap (λ (b : Bool). if b then k else None) some in
      let any = any_of_all f k ts (λ t i. (each_left t i).code) ∙ ap (λ (b : Bool). b && is_none k) some in
      let made : Option Code → Bool → Seen = λ e d. record { written = TooLong; first_error = e; any_done = d } in (
        map f ts,
        ap (λ (o : Option Code). unless_refused o at c m (executed rules at slot c m c.term)) h ∙ executed_on at slot c m rules c.term idle.wildcard
            ∙ ap (λ (o : Outcome (Attempts Unit CommandReply)). let x : Outcome CmdOutcome = record { maps = o.maps; answer = outcome_written at c o.answer.answers } in x) (left_all rules at c m ts (λ t i. (each_left t i).maps)),
        (λ i. made (sym first i) (sym any i)),
      )
