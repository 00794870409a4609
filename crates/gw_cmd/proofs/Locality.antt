-- A command on the entries of its keys alone, in well-formed maps.
use Rattle.std.proofs.Common.{◌≡◌, ℕ, Bool, true, false, List, [], ◌∷◌, ◌++◌, map, Option, None, Some, is_some, bytes_eq, Ok, refl, sym, ap, subst, ◌∙◌}
use Rattle.std.specs.Prelude.{◌||◌, ◌&&◌, if◌then◌else◌}
use Rattle.std.specs.List.{filter}
use Rattle.std.specs.FinMap.{contains_key-keys}
use Rattle.std.specs.Ordering.{eq_by_cmp}
use Rattle.gw_base.specs.declared.code.Code.{Code}
use Rattle.gw_base.specs.declared.ids.CtxNum.{CtxNum}
use Rattle.gw_base.specs.declared.command_words.Rules.{Rules}
use Rattle.gw_base.specs.declared.command_words.Service.{Service}
use Rattle.gw_base.specs.declared.command_words.Verb.{Verb}
use Rattle.gw_base.specs.declared.command_words.Verb.TheVariants.{Add, Modify, Move, Subtract, AuditValue, AuditCapability, Notify, ServiceChange}
use Rattle.gw_base.specs.declared.key.Key.{Key}
use Rattle.gw_base.specs.declared.key.Key.TheVariants.{Term, Ctx, Whole}
use Rattle.gw_base.specs.declared.term_ref.TermRef.{TermRef}
use Rattle.gw_base.specs.declared.term_ref.TermRef.TheVariants.{Root, All, Under, Choose, Name, Other}
use Rattle.gw_base.specs.Keys.{has, same_key, AreApart}
use Rattle.gw_base.specs.NameLists.{is_in, name_cmp}
use Rattle.gw_base.proofs.Booleans.{refuted}
use Rattle.gw_base.proofs.KeyTests.{has-head, any-append_cases}
use Rattle.gw_base.proofs.NameTests.{name_test}
use Rattle.gw_base.proofs.NamesInLists.{or_left, or_right, either}
use Rattle.gw_base.specs.declared.code.Code.TheVariants.{UnknownContext}
use Rattle.gw_desc.specs.Checks.{check_code}
use Rattle.gw_msg.specs.declared.message.Command.{Command}
use Rattle.gw_term.specs.declared.record.Termination.{Termination}
use Rattle.gw_table.specs.Accesses.{Accesses, Done, and_then, Within}
use Rattle.gw_table.specs.Maps.{Maps, Outcome, term, ctx, names, numbers, place_of, members_of}
use Rattle.gw_table.specs.Parts.{Only, restricted, Holds, HoldsPlace}
use Rattle.gw_table.specs.WellFormed.{AreWellFormed}
use Rattle.gw_table.specs.Locality.{KeepsTo, ChangePlaces}
use Rattle.gw_table.proofs.Frames.{within-then, Lists}
use Rattle.gw_table.proofs.Localities.{keeps_to, change_places, part_is_all}
use Rattle.gw_refusal.specs.declared.at.At.{At}
use Rattle.gw_refusal.specs.declared.at.At.TheVariants.{Null, Live, Unmade, Each}
use Rattle.gw_refusal.specs.Requested.{is_add, is_root, is_service_change, is_wildcard, matches, requested_service}
use Rattle.gw_cmd.specs.Commands as commands
use Rattle.gw_cmd.specs.Keys.{every_key, is_for_all, keys_if, action_keys, place_key, slot_key, member_keys, term_keys, command_keys}
use Rattle.gw_refusal.specs.Places.{place_at, is_null, is_each}
use Rattle.gw_refusal.specs.Forms.{refusal_by_form}
use Rattle.gw_cmd.specs.Refusals.{refusal_by_tables, has_ended, first_code, code_if}
use Rattle.gw_cmd.specs.Suits.{HoldsSlot, IsReady}
use Rattle.gw_refusal.specs.Targets.{those_in, source, targets_of, targets, matched, is_free}
use Rattle.gw_cmd.proofs.Programs.{of_members, of_those, of_matched, of_targets, of_ended, of_missing, of_tables, of_names, of_new, of_root, of_serviced_if, of_executed, unless_code, of_rest, of_allowed, program, effect-of_targets, effect-of_ended, effect-of_tables, effect-program}
use Rattle.gw_cmd.proofs.Ready.{among_all, among_action, among_term, every_term, every_ctx, named, in_filter, same_any, ready, ready_new}
use Rattle.gw_cmd.proofs.Within.{within-names, within-one, within-new, within-services}

-- ---- terminations that are there

pub entered_name : (m : Maps) (t : List ℕ) → is_in t (names m) ≡ true → is_some (term m t) ≡ true
entered_name m t h = contains_key-keys m.terms t ∙ same_any (λ q. eq_by_cmp name_cmp t q) (bytes_eq t) (names m) (name_test t) ∙ h

member_there : (limit : ℕ) (m : Maps) (n : CtxNum) (t : List ℕ) → AreWellFormed limit m → is_in t (members_of (ctx m n)) ≡ true → is_some (term m t) ≡ true
member_there limit m n t w h = at (term m t) (w.recorded t n h)
  where
    at : (o : Option Termination) → place_of o ≡ Some n → is_some o ≡ true
    at None e = absurd cc
    at (Some r) e = refl

those_there : (limit : ℕ) (m : Maps) (o : Option CtxNum) (t : List ℕ) → AreWellFormed limit m → is_in t (those_in o m) ≡ true → is_some (term m t) ≡ true
those_there limit m None t w h = entered_name m t (in_filter (is_free m) (names m) t h)
those_there limit m (Some n) t w h = member_there limit m n t w h

matched_there : (limit : ℕ) (at : At) (c : Command) (m : Maps) (t : List ℕ) → AreWellFormed limit m → is_in t (matched at c m) ≡ true → is_some (term m t) ≡ true
unfolding matched
matched_there limit at c m t w h = those_there limit m (source at c) t w (in_filter (matches c.term) (those_in (source at c) m) t h)

-- ---- within the keys

module _ (rules : Rules) (at : At) (slot : Option ℕ) (c : Command) (m : Maps) (w : AreWellFormed rules.members m) where
  keys : List Key
  keys = command_keys at slot c m

  covered : Holds (Only keys) (command_keys at slot c m)
  unfolding keys
  covered k h = h

  whole : is_for_all at c ≡ true → has keys Whole ≡ true
  unfolding keys
  whole e = among_all at slot c m Whole e (has-head Whole (map Term (names m) ++ map Ctx (numbers m)))

  for_each : is_each at ≡ true → is_for_all at c ≡ true
  for_each e = or_left (is_each at || (is_wildcard c.term && (is_null at || is_add c.verb))) (is_root c.term && is_service_change c.verb) (or_left (is_each at) (is_wildcard c.term && (is_null at || is_add c.verb)) e)

  for_all : is_wildcard c.term ≡ true → (is_null at || is_add c.verb) ≡ true → is_for_all at c ≡ true
  for_all e f =
      or_left (is_each at || (is_wildcard c.term && (is_null at || is_add c.verb))) (is_root c.term && is_service_change c.verb)
      (or_right (is_each at) (is_wildcard c.term && (is_null at || is_add c.verb)) (ap (λ (b : Bool). b && (is_null at || is_add c.verb)) e ∙ f))

  in_action : (k : Key) → has (action_keys at) k ≡ true → has keys k ≡ true
  unfolding keys
  in_action k h = among_action at slot c m k h

  in_term : (r : TermRef) → c.term ≡ r → (k : Key) → has (term_keys at slot c m r) k ≡ true → has keys k ≡ true
  unfolding keys
  in_term r e k h = among_term at slot c m k (ap (λ (x : TermRef). has (term_keys at slot c m x) k) e ∙ h)

  -- whom it is for
  read_those : (a : At) → at ≡ a → is_wildcard c.term ≡ true → (b : Bool) → is_add c.verb ≡ b → Within keys (of_those at (if b then None else place_at a)) m
  read_those a e v true f = (whole (for_all v (ap (λ (b : Bool). is_null at || b) f ∙ or_right (is_null at) true refl)), tt)
  read_those Null e v false f = (whole (for_all v (or_left (is_null at) (is_add c.verb) (ap (λ (x : At). is_null x) e))), tt)
  read_those (Live n) e v false f = subst (λ (x : At). Within keys (of_members x n) m) (sym e) (in_action (Ctx n) (ap (λ (x : At). has (action_keys x) (Ctx n)) e ∙ has-head (Ctx n) []), tt)
  read_those (Unmade n) e v false f = subst (λ (x : At). Within keys (of_members x n) m) (sym e) (in_action (Ctx n) (ap (λ (x : At). has (action_keys x) (Ctx n)) e ∙ has-head (Ctx n) []), tt)
  read_those (Each n) e v false f = subst (λ (x : At). Within keys (of_members x n) m) (sym e) (whole (for_each (ap (λ (x : At). is_each x) e)), tt)

  read_matched : is_wildcard c.term ≡ true → Within keys (of_matched at c) m
  read_matched v = within-then keys (of_those at (source at c)) (λ l. Done (filter (matches c.term) l)) m (read_those at refl v (is_add c.verb) refl) tt

  read_targets : (r : TermRef) → c.term ≡ r → Within keys (of_targets r at c) m
  read_targets (Name t) e = tt
  read_targets All e = read_matched (ap (λ (r : TermRef). is_wildcard r) e)
  read_targets (Under x) e = read_matched (ap (λ (r : TermRef). is_wildcard r) e)
  read_targets Root e = tt
  read_targets Choose e = tt
  read_targets (Other x) e = tt

  -- refusals by the tables
  read_ended : (a : At) → at ≡ a → Within keys (of_ended a) m
  read_ended Null e = tt
  read_ended (Live n) e = (in_action (Ctx n) (ap (λ (x : At). has (action_keys x) (Ctx n)) e ∙ has-head (Ctx n) []), tt)
  read_ended (Unmade n) e = tt
  read_ended (Each n) e = (whole (for_each (ap (λ (x : At). is_each x) e)), tt)

  read_missing : (ts : List (List ℕ)) (r : TermRef) → c.term ≡ r → (n : Maps) → n ≡ m → Within keys (of_missing slot ts r) n
  read_missing ts (Name t) e n s = (in_term (Name t) e (Term t) (has-head (Term t) (place_key (place_of (term m t)))), tt)
  read_missing ts All e n s = tt
  read_missing ts (Under x) e n s = tt
  read_missing ts Root e n s = tt
  read_missing ts Choose e n s = tt
  read_missing ts (Other x) e n s = tt

  -- what is done
  target_key : (r : TermRef) → c.term ≡ r → IsReady (Only keys) at c m → (t : List ℕ) → is_in t (targets_of r at c m) ≡ true → has keys (Term t) ≡ true
  target_key (Name q) e r t h = in_term (Name q) e (Term t) (or_left (bytes_eq t q) (has (place_key (place_of (term m q))) (Term t)) (only t q h))
    where
      only : (t q : List ℕ) → (bytes_eq t q || false) ≡ true → bytes_eq t q ≡ true
      only t q h = by (bytes_eq t q) h
        where
          by : (b : Bool) → (b || false) ≡ true → b ≡ true
          by true k = refl
          by false k = absurd cc
  target_key All e r t h = r.targets t (ap (λ (x : TermRef). is_in t (targets_of x at c m)) e ∙ h) (matched_there rules.members at c m t w h)
  target_key (Under x) e r t h = r.targets t (ap (λ (x : TermRef). is_in t (targets_of x at c m)) e ∙ h) (matched_there rules.members at c m t w h)
  target_key Root e r t h = absurd cc
  target_key Choose e r t h = absurd cc
  target_key (Other x) e r t h = absurd cc

  do_wild : IsReady (Only keys) at c m → (r : TermRef) → c.term ≡ r → ((t : List ℕ) → r ≡ Name t → ⊥) → Within keys (of_names rules at c (targets_of r at c m)) m
  do_wild p r e other = within-names keys rules at c (targets_of r at c m) m p.place (p.stays (λ t f. other t (sym e ∙ f))) (λ q i. target_key r e p q i)

  do_services : is_for_all at c ≡ true → (o : Option Service) → Within keys (of_serviced_if o) m
  unfolding keys
  do_services e None = tt
  do_services e (Some s) = (whole e, within-services keys s (names m) m (λ q i. among_all at slot c m (Term q) e (every_term m q i)))

  do_root : c.term ≡ Root → (v : Verb) → c.verb ≡ v → Within keys (of_root v c.descriptors) m
  do_root e ServiceChange f =
      do_services (or_right (is_each at || (is_wildcard c.term && (is_null at || is_add c.verb))) (is_root c.term && is_service_change c.verb) (ap (λ (r : TermRef). is_root r && is_service_change c.verb) e ∙ ap (λ (v : Verb). is_service_change v) f)) (requested_service c.descriptors)
  do_root e Add f = tt
  do_root e Modify f = tt
  do_root e Move f = tt
  do_root e Subtract f = tt
  do_root e AuditValue f = tt
  do_root e AuditCapability f = tt
  do_root e Notify f = tt

  do_new : (o : Option ℕ) → HoldsSlot (Only keys) o → HoldsPlace (Only keys) (place_at at) → Within keys (of_new rules at c o) m
  do_new None h p = tt
  do_new (Some s) h p = within-then keys _ (λ x. Done (commands.outcome_of at (commands.new_reply c s x ∷ []))) m (within-new keys rules (place_at at) c s m h p) tt

  do_executed : refusal_by_form at c ≡ None → IsReady (Only keys) at c m → (r : TermRef) → c.term ≡ r → Within keys (of_executed rules at slot c (targets_of r at c m) r) m
  do_executed f p Root e = within-then keys (of_root c.verb c.descriptors) (λ _. Done (commands.outcome_of at (commands.reply c Root (Ok (commands.root_parts c)) ∷ []))) m (do_root e c.verb refl) tt
  do_executed f p Choose e = do_new slot (ready_new (Only keys) at slot c m covered f e) p.place
  do_executed f p (Name t) e =
      within-then keys (of_names rules at c (t ∷ [])) (λ rs. Done (commands.outcome_written at c rs)) m
      (within-one keys rules at c t m p.place (in_term (Name t) e (Term t) (has-head (Term t) (place_key (place_of (term m t))))) (p.moved t e)) tt
  do_executed f p All e = within-then keys (of_names rules at c (targets_of All at c m)) (λ rs. Done (commands.outcome_written at c rs)) m (do_wild p All e (λ t x. cc)) tt
  do_executed f p (Under x) e = within-then keys (of_names rules at c (targets_of (Under x) at c m)) (λ rs. Done (commands.outcome_written at c rs)) m (do_wild p (Under x) e (λ t y. cc)) tt
  do_executed f p (Other x) e = within-then keys (of_names rules at c []) (λ rs. Done (commands.outcome_written at c rs)) m tt tt

  do_unless : refusal_by_form at c ≡ None → (x : Option Code) → refusal_by_tables at slot c m ≡ x → Within keys (unless_code at c x (of_executed rules at slot c (targets at c m) c.term)) m
  do_unless f (Some code) e = tt
  do_unless f None e = do_executed f (ready (Only keys) at slot c m covered f e) c.term refl

  ended_then : Bool → Accesses (Option Code)
  ended_then e = and_then (of_missing slot (targets at c m) c.term) (λ x. Done (first_code (code_if UnknownContext e) (first_code x (check_code c.verb c.descriptors))))

  read_tables : Within keys (of_tables at slot c (targets at c m)) m
  unfolding ended_then
  read_tables =
      within-then keys (of_ended at) ended_then m (read_ended at refl)
      (subst (λ (o : Outcome Bool). Within keys (ended_then o.answer) o.maps) (sym (effect-of_ended at m))
      (within-then keys (of_missing slot (targets at c m) c.term) (λ x. Done (first_code (code_if UnknownContext (has_ended at m)) (first_code x (check_code c.verb c.descriptors)))) m (read_missing (targets at c m) c.term refl m refl) tt))

  do_rest : refusal_by_form at c ≡ None → Within keys (of_rest rules at slot c (targets at c m)) m
  do_rest f =
      within-then keys (of_tables at slot c (targets at c m)) (λ x. unless_code at c x (of_executed rules at slot c (targets at c m) c.term)) m read_tables
      (subst (λ (o : Outcome (Option Code)). Within keys (unless_code at c o.answer (of_executed rules at slot c (targets at c m) c.term)) o.maps) (sym (effect-of_tables at slot c m)) (do_unless f (refusal_by_tables at slot c m) refl))

  do_form : (x : Option Code) → refusal_by_form at c ≡ x → Within keys (unless_code at c x (of_allowed rules at slot c)) m
  do_form (Some code) e = tt
  do_form None e =
      within-then keys (of_targets c.term at c) (λ ts. of_rest rules at slot c ts) m (read_targets c.term refl)
      (subst (λ (o : Outcome (List (List ℕ))). Within keys (of_rest rules at slot c o.answer) o.maps) (sym (effect-of_targets c.term at c m)) (do_rest e))

  pub within-program : Within (command_keys at slot c m) (program rules at slot c) m
  unfolding program keys
  within-program = do_form (refusal_by_form at c) refl

-- ---- the keys of a command for all are all keys

no_whole_names : (l : List (List ℕ)) → has (map Term l) Whole ≡ false
no_whole_names [] = refl
no_whole_names (t ∷ ts) = no_whole_names ts

no_whole_place : (o : Option CtxNum) → has (place_key o) Whole ≡ false
no_whole_place None = refl
no_whole_place (Some p) = refl

no_whole_action : (at : At) → has (action_keys at) Whole ≡ false
no_whole_action Null = refl
no_whole_action (Live n) = refl
no_whole_action (Unmade n) = refl
no_whole_action (Each n) = refl

no_whole_members : (at : At) (m : Maps) → has (member_keys at m) Whole ≡ false
no_whole_members Null m = refl
no_whole_members (Live n) m = no_whole_names (members_of (ctx m n))
no_whole_members (Unmade n) m = no_whole_names (members_of (ctx m n))
no_whole_members (Each n) m = refl

no_whole_slot : (b : Bool) (slot : Option ℕ) → has (keys_if b (slot_key slot)) Whole ≡ false
no_whole_slot true None = refl
no_whole_slot true (Some s) = refl
no_whole_slot false slot = refl

no_whole_term : (at : At) (slot : Option ℕ) (c : Command) (m : Maps) (r : TermRef) → has (term_keys at slot c m r) Whole ≡ false
no_whole_term at slot c m (Name t) = no_whole_place (place_of (term m t))
no_whole_term at slot c m Choose = no_whole_slot (is_add c.verb) slot
no_whole_term at slot c m All = no_whole_members at m
no_whole_term at slot c m (Under x) = no_whole_members at m
no_whole_term at slot c m Root = refl
no_whole_term at slot c m (Other x) = refl

none_in_both : (a b : List Key) → has a Whole ≡ false → has b Whole ≡ false → has (a ++ b) Whole ≡ false
none_in_both a b h k = refuted (has (a ++ b) Whole) (λ e. either (any-append_cases (same_key Whole) a b e) (λ x. let clash : true ≡ false = sym x ∙ h in cc) (λ x. let clash : true ≡ false = sym x ∙ k in cc))

lists : (at : At) (slot : Option ℕ) (c : Command) (m : Maps) → Lists (command_keys at slot c m) m
unfolding command_keys
lists at slot c m = by (is_for_all at c) refl
  where
    by : (b : Bool) → is_for_all at c ≡ b → has (keys_if b (every_key m) ++ action_keys at ++ term_keys at slot c m c.term) Whole ≡ true → m ≡ restricted (keys_if (is_for_all at c) (every_key m) ++ action_keys at ++ term_keys at slot c m c.term) m
    by true e h = part_is_all (keys_if (is_for_all at c) (every_key m) ++ action_keys at ++ term_keys at slot c m c.term) m (record {
      terms = λ q i. among_all at slot c m (Term q) e (every_term m q (named m q i));
      contexts = λ q i. among_all at slot c m (Ctx q) e (every_ctx m q i);
    })
    by false e h =
        let none : has (action_keys at ++ term_keys at slot c m c.term) Whole ≡ false = none_in_both (action_keys at) (term_keys at slot c m c.term) (no_whole_action at) (no_whole_term at slot c m c.term) in
        absurd (let clash : true ≡ false = sym h ∙ none in cc)

pub command_keeps : (rules : Rules) (at : At) (slot : Option ℕ) (c : Command) (m : Maps) → AreWellFormed rules.members m → KeepsTo (command_keys at slot c m) (commands.command rules at slot c) m
command_keeps rules at slot c m w = keeps_to (command_keys at slot c m) (program rules at slot c) (commands.command rules at slot c) m (effect-program rules at slot c) (within-program rules at slot c m w) (lists at slot c m)

pub commands_change : (rules : Rules) (m : Maps) (at : At) (slot : Option ℕ) (c : Command) (other_at : At) (other_slot : Option ℕ) (d : Command) → AreWellFormed rules.members m → AreApart (command_keys at slot c m) (command_keys other_at other_slot d m)
    → ChangePlaces (commands.command rules at slot c) (commands.command rules other_at other_slot d) m
commands_change rules m at slot c other_at other_slot d w h =
    change_places (command_keys at slot c m) (command_keys other_at other_slot d m) (program rules at slot c) (program rules other_at other_slot d) (commands.command rules at slot c) (commands.command rules other_at other_slot d) m
    (effect-program rules at slot c) (effect-program rules other_at other_slot d) (within-program rules at slot c m w) (within-program rules other_at other_slot d m w) h
