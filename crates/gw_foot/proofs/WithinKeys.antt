-- A transaction keeps to keys that hold its footprint.
use Rattle.std.proofs.Common.{◌≡◌, ℕ, Bool, true, false, List, [], ◌∷◌, length, drop, Option, None, Some, refl, sym, ap, subst, ◌∙◌, inl}
use Rattle.std.specs.List.{flat_map, list_any}
use Rattle.std.specs.Prelude.{◌||◌, All}
use Rattle.std.proofs.lemmas.List.Elements.{All-head, All-tail}
use Rattle.gw_base.specs.declared.code.Code.{Code}
use Rattle.gw_base.specs.declared.ids.CtxNum.{CtxNum}
use Rattle.gw_base.specs.declared.command_words.CtxRef.{CtxRef}
use Rattle.gw_base.specs.declared.command_words.CtxRef.TheVariants as ref
use Rattle.gw_base.specs.declared.command_words.Rules.{Rules}
use Rattle.gw_base.specs.declared.key.Key.{Key}
use Rattle.gw_base.specs.declared.key.Key.TheVariants.{Term, Ctx, Whole}
use Rattle.gw_base.specs.NameLists.{is_in}
use Rattle.gw_base.specs.Keys.{has}
use Rattle.gw_base.proofs.KeyTests.{has-head}
use Rattle.gw_ctx.specs.Contexts.{ContextRecord}
use Rattle.gw_msg.specs.declared.message.Action.{Action}
use Rattle.gw_msg.specs.declared.message.Command.{Command}
use Rattle.gw_msg.specs.declared.message.ContextProp.{ContextProp}
use Rattle.gw_msg.specs.declared.message.Request.{Request}
use Rattle.gw_reply.specs.declared.reply.ActionReply.{ActionReply}
use Rattle.gw_reply.specs.declared.reply.CommandReply.{CommandReply}
use Rattle.gw_table.specs.declared.attempts.Attempts.{Attempts}
use Rattle.gw_table.specs.Accesses.{Accesses, Done, Within, effect, and_then}
use Rattle.gw_table.specs.Maps.{Maps, Outcome, term, ctx, numbers, place_of}
use Rattle.gw_term.specs.declared.record.Termination.{Termination}
use Rattle.gw_table.specs.Parts.{Only, IsPart, Holds}
use Rattle.gw_table.specs.WellFormed.{AreWellFormed}
use Rattle.gw_table.proofs.Frames.{within-then}
use Rattle.gw_refusal.specs.declared.at.At.{At}
use Rattle.gw_refusal.specs.declared.at.At.TheVariants.{Null, Live, Unmade, Each}
use Rattle.gw_cmd.specs.declared.outcome.CmdOutcome.{CmdOutcome}
use Rattle.gw_cmd.specs.Commands.{command}
use Rattle.gw_cmd.specs.Keys.{place_key, name_keys, action_keys}
use Rattle.gw_cmd.proofs.Ready.{among_action}
use Rattle.gw_cmd.proofs.Programs.{program}
use Rattle.gw_reserve.specs.Owned.{OwnedAction, AreFreeSlots, first_owned, later_owned, paired_commands, paired_action, paired_actions}
use Rattle.gw_tx.specs.Footprints.{keys_in_action, keys_of_links, action_footprint, footprint_of}
use Rattle.gw_tx.specs.Properties.{linked_names, is_chosen_or_each, is_absent, refusal_of_properties, refusal_of_links, set_property, set_properties, context_parts_if}
use Rattle.gw_tx.specs.Transactions.{attempted, attempt, replied, remembered, in_each, after_all, action, paired_transaction}
use Rattle.gw_tx.proofs.EachContext.{stays_each}
use Rattle.gw_tx.proofs.Facts.{IsHeld}
use Rattle.gw_tx.proofs.FreeSlots.{AnySlot}
use Rattle.gw_tx.proofs.HeldKeys.{footprint_in, left_held, right_held, without_links, numbers_held}
use Rattle.gw_tx.proofs.Kept.{CommandsKeep, Oks, OksIn, AllOks, With, all_live, kept_set, kept_attempt, kept_there_attempt, kept_in_each, kept_action, kept_actions}
use Rattle.gw_tx.proofs.SetProperties.{CanAlwaysSet, IsAllowed, never_late, members-if, allowed, can_set_in, can_set_always}
use Rattle.gw_tx.proofs.Parts.{listed_in}
use Rattle.gw_foot.proofs.InTurn.{within-mapped, within-more}
use Rattle.gw_foot.proofs.RequestAccesses.{of_sets, effect-of_sets, of_made, of_any, effect-of_any, lacks_record, is_placed_elsewhere, first_refusal, of_links, effect-of_links, behind_command, behind_sets, of_context, of_unless, behind_links, of_attempt, of_commands, of_each, of_all, of_for_each, of_in, of_for, of_on, of_action, of_actions, tree, of_request, effect-of_attempt, effect-of_each, effect-of_action}
use Rattle.gw_foot.proofs.Staying.{Stays, stays_not, within_command, commands_stay}

module _ (rules : Rules) (keys : List Key) (start : Maps) where
  -- a command's keys at the start are among the keys
  abbrev Ok : At → Option ℕ → Command → Type 0
  Ok = IsHeld (Only keys) start

  abbrev Q : Maps → Type 0
  Q = Stays rules.members keys start

  keep : CommandsKeep rules (IsHeld (Only keys) start) AnySlot (Stays rules.members keys start)
  keep = commands_stay rules keys start

  -- ---- properties

  within_sets : (n : CtxNum) (ps : List ContextProp) (m : Maps) → has keys (Ctx n) ≡ true → Within keys (of_sets n ps) m
  within_sets n [] m h = tt
  within_sets n (p ∷ ps) m h = (h, (h, λ t i. inl (ap (is_in t) (sym (members-if p (ctx m n))) ∙ i), within_sets n ps (set_property n p m) h))

  -- the key of a context that is to be made
  key_to_make : (at : At) (slot : Option ℕ) (c : Command) → Ok at slot c → (n : CtxNum) → at ≡ Unmade n → has keys (Ctx n) ≡ true
  key_to_make at slot c o n e = o (Ctx n) (among_action at slot c start (Ctx n) (ap (λ (a : At). has (action_keys a) (Ctx n)) e ∙ has-head (Ctx n) []))

  within_made : (b : Bool) (at : At) (late : List ContextProp) (m : Maps) → ((n : CtxNum) → at ≡ Unmade n → has keys (Ctx n) ≡ true) → Within keys (of_made b at late) m
  within_made true (Unmade n) late m h = within_sets n late m (h n refl)
  within_made true Null late m h = tt
  within_made true (Live n) late m h = tt
  within_made true (Each n) late m h = tt
  within_made false at late m h = tt

  within_any : (test : Option Termination → Bool) (ts : List (List ℕ)) (m : Maps) → Holds (Only keys) (flat_map (λ t. name_keys t start) ts) → Within keys (of_any test ts) m
  within_any test [] m h = tt
  within_any test (t ∷ ts) m h =
      let mine : List Key = name_keys t start in
      let rest : List Key = flat_map (λ t. name_keys t start) ts in (
        left_held (Only keys) mine rest h (Term t) (has-head (Term t) (place_key (place_of (term start t)))),
        within-then keys (of_any test ts) (λ b. Done (test (term m t) || b)) m (within_any test ts m (right_held (Only keys) mine rest h)) tt,
      )

  within_links : (n : CtxNum) (names : List (List ℕ)) (m : Maps) → Holds (Only keys) (flat_map (λ t. name_keys t start) names) → Within keys (of_links n names) m
  within_links n names m h =
      let second : Bool → Accesses (Option Code) = λ a. and_then (of_any (is_placed_elsewhere n) names) (λ e. Done (first_refusal a e)) in
      within-then keys (of_any lacks_record names) second m (within_any lacks_record names m h)
      (subst (λ (o : Outcome Bool). Within keys (second o.answer) o.maps) (sym (effect-of_any lacks_record names m))
      (within-then keys (of_any (is_placed_elsewhere n) names) (λ e. Done (first_refusal (list_any (is_absent m) names) e)) m (within_any (is_placed_elsewhere n) names m h) tt))

  -- ---- the commands of an action

  within_attempt : (late : List ContextProp) (at : At) (slot : Option ℕ) (c : Command) (m : Maps) → Ok at slot c → Q m → Within keys (of_attempt rules late at (slot, c)) m
  within_attempt late at slot c m o s =
      let done : Outcome CmdOutcome = effect (program rules at slot c) m in
      within-then keys (program rules at slot c) (behind_command late at (slot, c)) m (within_command rules keys start at slot c m o s)
      (within-then keys (of_made done.answer.made at late) (λ _. Done (attempted at c done.answer)) done.maps (within_made done.answer.made at late done.maps (key_to_make at slot c o)) tt)

  within_commands : (late : List ContextProp) (at : At) (slots : List (Option ℕ)) (cs : List Command) (m : Maps) → CanAlwaysSet late → Oks Ok at (paired_commands slots cs) → With AnySlot Q slots m → Within keys (of_commands rules late at (paired_commands slots cs)) m
  within_commands late at slots [] m can o w = tt
  within_commands late at slots (c ∷ cs) m can o w =
      let now : Outcome (Attempts At CommandReply) = attempt rules late at (first_owned slots, c) m in
      within-more (attempt rules late) (of_attempt rules late) (effect-of_attempt rules late) keys at (first_owned slots, c) (paired_commands (later_owned slots) cs) m
      (within_attempt late at (first_owned slots) c m o.0 w.kept)
      (within_commands late now.answer.next (later_owned slots) cs now.maps can (all_live rules keep at (command rules at (first_owned slots) c m).answer.made (paired_commands (later_owned slots) cs) o.1) (kept_attempt rules keep late at slots c m can o.0 w))

  -- ---- an action in one context

  within_context : (a : OwnedAction) (at : At) (n : CtxNum) (m : Maps) → has keys (Ctx n) ≡ true → Within keys (of_commands rules [] at a.commands) (set_properties n a.sent.props m) → Within keys (of_context rules a at n) m
  within_context a at n m h w =
      let ready : Maps = set_properties n a.sent.props m in
      within-then keys (of_sets n a.sent.props) (λ _. behind_sets rules a at n) m (within_sets n a.sent.props m h)
      (subst (λ (o : Outcome (Unit {0})). Within keys (behind_sets rules a at n) o.maps) (sym (effect-of_sets n a.sent.props m))
      (h, within-mapped keys (replied (context_parts_if a.sent (ctx ready n))) (of_commands rules [] at a.commands) ready w))

  -- ---- an action for each context

  within_there : (late : List ContextProp) (at : At) (n : CtxNum) (held slots : List (Option ℕ)) (cs : List Command) (m : Maps) → at ≡ Each n → CanAlwaysSet late → Oks Ok at (paired_commands slots cs) → With AnySlot Q held m → Within keys (of_commands rules late at (paired_commands slots cs)) m
  within_there late at n held slots [] m e can o w = tt
  within_there late at n held slots (c ∷ cs) m e can o w =
      let now : Outcome (Attempts At CommandReply) = attempt rules late at (first_owned slots, c) m in
      let one : With AnySlot Q held now.maps = kept_there_attempt rules keep late at n held slots c m e can o.0 w in
      let next : now.answer.next ≡ Each n = ap (λ (x : At). (attempted x c (command rules at (first_owned slots) c m).answer).next) e ∙ stays_each n (command rules at (first_owned slots) c m).answer.made in
      within-more (attempt rules late) (of_attempt rules late) (effect-of_attempt rules late) keys at (first_owned slots, c) (paired_commands (later_owned slots) cs) m
      (within_attempt late at (first_owned slots) c m o.0 w.kept)
      (within_there late now.answer.next n held (later_owned slots) cs now.maps next can (all_live rules keep at (command rules at (first_owned slots) c m).answer.made (paired_commands (later_owned slots) cs) o.1) one)

  -- the numbers are among the keys
  abbrev AreKeys : List CtxNum → Type 0
  AreKeys [] = Unit {0}
  AreKeys (n ∷ ns) = (has keys (Ctx n) ≡ true) × AreKeys ns

  listed_keys : (ns : List CtxNum) → All (λ n. has keys (Ctx n) ≡ true) ns → AreKeys ns
  listed_keys [] h = tt
  listed_keys (n ∷ ns) h = (All-head (λ n. has keys (Ctx n) ≡ true) n ns h, listed_keys ns (All-tail (λ n. has keys (Ctx n) ≡ true) n ns h))

  within_all : (owned : Option CtxNum) (stopped : Bool) (slots : List (Option ℕ)) (a : Action) (ns : List CtxNum) (m : Maps) → CanAlwaysSet a.props → AreKeys ns → ((n : CtxNum) → Oks Ok (Each n) (paired_commands slots a.commands)) → With AnySlot Q slots m → Within keys (of_all rules (paired_action owned slots a) stopped ns) m
  within_all owned stopped slots a [] m can h o w = tt
  within_all owned stopped slots a (n ∷ ns) m can h o w =
      let pair : OwnedAction = paired_action owned slots a in
      let now : Outcome (Attempts Bool ActionReply) = in_each rules pair stopped n m in
      let ready : Maps = set_properties n a.props m in
      within-more (in_each rules pair) (of_each rules pair) (effect-of_each rules pair) keys stopped n ns m
      (within-mapped keys (remembered stopped) (of_context rules pair (Each n) n) m
      (within_context pair (Each n) n m h.0 (within_there [] (Each n) n slots slots a.commands ready refl never_late (o n) (kept_set rules keep n a.props slots m (can n m) w))))
      (within_all owned now.answer.next slots a ns now.maps can h.1 o (kept_in_each rules keep owned n slots a m can (o n) w))

  within_for_each : (owned : Option CtxNum) (slots : List (Option ℕ)) (a : Action) (ns : List CtxNum) (m : Maps) → CanAlwaysSet a.props → AreKeys ns → ((n : CtxNum) → Oks Ok (Each n) (paired_commands slots a.commands)) → With AnySlot Q slots m → Within keys (of_for_each rules (paired_action owned slots a) ns) m
  within_for_each owned slots a [] m can h o w = tt
  within_for_each owned slots a (n ∷ ns) m can h o w = within-mapped keys after_all (of_all rules (paired_action owned slots a) false (n ∷ ns)) m (within_all owned false slots a (n ∷ ns) m can h o w)

  -- ---- actions

  within_in : (owned : Option CtxNum) (n : CtxNum) (slots : List (Option ℕ)) (a : Action) (c : Option ContextRecord) (m : Maps) → IsAllowed a → has keys (Ctx n) ≡ true → Holds (Only keys) (flat_map (λ t. name_keys t start) (linked_names a.props)) → Oks Ok (Live n) (paired_commands slots a.commands) → With AnySlot Q slots m → Within keys (of_in rules n (paired_action owned slots a) c) m
  within_in owned n slots a None m good h l o w = tt
  within_in owned n slots a (Some c) m good h l o w =
      let pair : OwnedAction = paired_action owned slots a in
      let names : List (List ℕ) = linked_names a.props in
      within-then keys (of_links n names) (behind_links rules n pair) m (within_links n names m l)
      (subst (λ (x : Outcome (Option Code)). Within keys (behind_links rules n pair x.answer) x.maps) (sym (effect-of_links n names m)) (by (refusal_of_links n names m) refl))
    where
      by : (x : Option Code) → refusal_of_links n (linked_names a.props) m ≡ x → Within keys (behind_links rules n (paired_action owned slots a) x) m
      by (Some code) e = tt
      by None e =
          within_context (paired_action owned slots a) (Live n) n m h
          (within_commands [] (Live n) slots a.commands (set_properties n a.props m) never_late o (kept_set rules keep n a.props slots m (can_set_in a n m good e) w))

  within_for : (number : Option CtxNum) (slots : List (Option ℕ)) (a : Action) (m : Maps) → CanAlwaysSet a.props → OksIn Ok (paired_commands slots a.commands) ref.Choose number → With AnySlot Q slots m → Within keys (of_for rules (paired_action number slots a) number) m
  within_for None slots a m can o w = tt
  within_for (Some n) slots a m can o w = within-mapped keys (replied []) (of_commands rules a.props (Unmade n) (paired_commands slots a.commands)) m (within_commands a.props (Unmade n) slots a.commands m can o w)

  within_on : (a : Action) (number : Option CtxNum) (slots : List (Option ℕ)) (m : Maps) (sent : CtxRef) → a.ctx ≡ sent → IsAllowed a → Holds (Only keys) (footprint_in start (paired_commands slots a.commands) sent number) → Holds (Only keys) (flat_map (λ t. name_keys t start) (linked_names a.props)) → OksIn Ok (paired_commands slots a.commands) sent number → With AnySlot Q slots m → Within keys (of_on rules (paired_action number slots a) sent) m
  within_on a number slots m (ref.Num n) e good h l o w =
      let here : has keys (Ctx n) ≡ true = h (Ctx n) (has-head (Ctx n) (flat_map (keys_in_action (ref.Num n) number start) (paired_commands slots a.commands))) in
      (here, within_in number n slots a (ctx m n) m good here l o w)
  within_on a number slots m ref.Choose e good h l o w = within_for number slots a m (can_set_always a good (ap (λ x. is_chosen_or_each x) e)) o w
  within_on a number slots m ref.Null e good h l o w = within-mapped keys (replied []) (of_commands rules [] Null (paired_commands slots a.commands)) m (within_commands [] Null slots a.commands m never_late o w)
  within_on a number slots m ref.All e good h l o w =
      let whole : has keys Whole ≡ true = h Whole refl in
      (whole, within_for_each number slots a (numbers m) m (can_set_always a good (ap (λ x. is_chosen_or_each x) e)) (listed_keys (numbers m) (numbers_held (Only keys) m (w.kept.entries whole))) o w)

  within_action : (a : Action) (number : Option CtxNum) (slots : List (Option ℕ)) (m : Maps) → Holds (Only keys) (action_footprint (paired_action number slots a) start) → With AnySlot Q slots m → Within keys (of_action rules tt (paired_action number slots a)) m
  within_action a number slots m h w = by (refusal_of_properties a) refl
    where
      pair : OwnedAction
      pair = paired_action number slots a

      by : (x : Option Code) → refusal_of_properties a ≡ x → Within keys (of_unless x a.ctx (of_on rules pair a.ctx)) m
      by (Some code) e = tt
      by None e =
          within_on a number slots m a.ctx refl (allowed a e) (without_links (Only keys) pair start h)
          (right_held (Only keys) (footprint_in start pair.commands a.ctx number) (keys_of_links pair start) h) (listed_in (Only keys) start pair h) w

  within_actions : (held : List (Option CtxNum)) (slots : List (Option ℕ)) (requested : List Action) (m : Maps) → Holds (Only keys) (footprint_of (paired_actions held slots requested) start) → With AnySlot Q slots m → Within keys (of_actions rules (paired_actions held slots requested)) m
  within_actions held slots [] m h w = tt
  within_actions held slots (a ∷ more) m h w =
      let one : OwnedAction = paired_action (first_owned held) slots a in
      let rest : List OwnedAction = paired_actions (later_owned held) (drop (length a.commands) slots) more in
      let now : Outcome (Attempts Unit ActionReply) = action rules tt one m in
      let mine : Holds (Only keys) (action_footprint one start) = left_held (Only keys) (action_footprint one start) (footprint_of rest start) h in
      within-more (action rules) (of_action rules) (effect-of_action rules) keys tt one rest m
      (within_action a (first_owned held) slots m mine w)
      (within_actions (later_owned held) (drop (length a.commands) slots) more now.maps (right_held (Only keys) (action_footprint one start) (footprint_of rest start) h)
      (kept_action rules keep a (first_owned held) slots m (listed_in (Only keys) start one mine) w))

  -- ---- a request

  all_listed : (owners : List OwnedAction) → Holds (Only keys) (footprint_of owners start) → AllOks Ok owners
  all_listed [] h = tt
  all_listed (a ∷ more) h =
      (listed_in (Only keys) start a (left_held (Only keys) (action_footprint a start) (footprint_of more start) h), all_listed more (right_held (Only keys) (action_footprint a start) (footprint_of more start) h))

  module _ (r : Request) (held : List (Option CtxNum)) (slots : List (Option ℕ)) (w : AreWellFormed rules.members start) (u : AreFreeSlots start slots) (p : has keys Whole ≡ true → IsPart (Only keys) start) (h : Holds (Only keys) (footprint_of (paired_actions held slots r.actions) start)) where
    begun : With AnySlot (Stays rules.members keys start) slots start
    begun = record { kept = stays_not rules.members keys start w p; free = u; kind = λ k d i. tt }

    pub within_request : Within keys (of_request rules r (paired_actions held slots r.actions)) start
    within_request = within-mapped keys (tree r) (of_actions rules (paired_actions held slots r.actions)) start (within_actions held slots r.actions start h begun)

    pub request_stays : Stays rules.members keys start (paired_transaction rules r (paired_actions held slots r.actions) start).maps
    unfolding paired_transaction
    request_stays = kept_actions rules keep held slots r.actions start (all_listed (paired_actions held slots r.actions) h) begun
