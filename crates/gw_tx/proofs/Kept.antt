-- What each command keeps, transactions keep.
use Rattle.std.proofs.Common.{◌≡◌, ℕ, zero, suc, Bool, true, false, List, [], ◌∷◌, length, drop, Option, None, Some, refl, sym, ap, subst, ◌∙◌}
use Rattle.std.specs.Prelude.{if◌then◌else◌, All}
use Rattle.gw_base.specs.declared.code.Code.{Code}
use Rattle.gw_base.specs.declared.ids.CtxNum.{CtxNum}
use Rattle.gw_base.specs.declared.command_words.Rules.{Rules}
use Rattle.gw_base.specs.declared.command_words.CtxRef.{CtxRef}
use Rattle.gw_base.specs.declared.command_words.CtxRef.TheVariants as ref
use Rattle.gw_ctx.specs.Contexts.{ContextRecord}
use Rattle.gw_msg.specs.declared.message.Command.{Command}
use Rattle.gw_msg.specs.declared.message.Action.{Action}
use Rattle.gw_msg.specs.declared.message.ContextProp.{ContextProp}
use Rattle.gw_reply.specs.declared.reply.ActionReply.{ActionReply}
use Rattle.gw_reply.specs.declared.reply.CommandReply.{CommandReply}
use Rattle.gw_table.specs.declared.attempts.Attempts.{Attempts}
use Rattle.gw_table.specs.Folds.{none_from, in_order}
use Rattle.gw_table.specs.Maps.{Maps, Outcome, ctx, numbers}
use Rattle.gw_table.specs.Reserved.{slot_name}
use Rattle.gw_table.specs.Unused.{owned}
use Rattle.gw_refusal.specs.declared.at.At.{At}
use Rattle.gw_refusal.specs.declared.at.At.TheVariants.{Null, Live, Unmade, Each}
use Rattle.gw_refusal.specs.Places.{made}
use Rattle.gw_cmd.specs.Commands.{command}
use Rattle.gw_cmd.specs.Suits.{IsUnused}
use Rattle.gw_reserve.specs.Owned.{OwnedAction, first_owned, later_owned, paired_commands, paired_action, paired_actions, AreFreeSlots}
use Rattle.gw_tx.specs.Properties.{linked_names, refusal_of_properties, refusal_of_links, is_chosen_or_each, set_property, set_properties}
use Rattle.gw_tx.specs.Transactions.{unless_refused, attempted, set_when_made, attempt, commands, in_context, in_each, in_all, action_for_each, action_in, action_for, action_on, action, actions}
use Rattle.gw_tx.proofs.FreeSlots.{IsOfKind, makes_none, free_slot, free_later, free_on, free_after, kind_first, kind_later}
use Rattle.gw_tx.proofs.EachContext.{each_takes_none, stays_each}
use Rattle.gw_tx.proofs.SetProperties.{CanSet, AllCanSet, CanAlwaysSet, IsAllowed, term-set, set_all, allowed, never_late, can_set_in, can_set_always}

-- What commands of some kind keep that find their slot free and of a kind, and what setting a property keeps. A
-- command is of its kind when its action's context is made too, and without its slot.
pub record CommandsKeep (rules : Rules) (Ok : At → Option ℕ → Command → Type 0) (S : ℕ → Type 0) (Q : Maps → Type 0) : Type 0 where
  pub keeps : (at : At) (slot : Option ℕ) (c : Command) (m : Maps) → Ok at slot c → IsUnused slot m → IsOfKind S slot → Q m → Q (command rules at slot c m).maps
  pub lives : (at : At) (slot : Option ℕ) (c : Command) → Ok at slot c → Ok (made at) slot c
  pub less : (at : At) (slot : Option ℕ) (c : Command) → Ok at slot c → Ok at None c
  pub sets : (n : CtxNum) (p : ContextProp) (m : Maps) → CanSet n p m → Q m → Q (set_property n p m)

-- each of the commands is of the kind
abbrev pub Oks : (At → Option ℕ → Command → Type 0) → At → List (Option ℕ × Command) → Type 0
Oks Ok at [] = Unit {0}
Oks Ok at (p ∷ ps) = Ok at p.0 p.1 × Oks Ok at ps

-- so are those of an action, in the context that it is for
abbrev pub OksIn : (At → Option ℕ → Command → Type 0) → List (Option ℕ × Command) → CtxRef → Option CtxNum → Type 0
OksIn Ok ps ref.Null owned = Oks Ok Null ps
OksIn Ok ps (ref.Num n) owned = Oks Ok (Live n) ps
OksIn Ok ps ref.Choose None = Unit {0}
OksIn Ok ps ref.Choose (Some n) = Oks Ok (Unmade n) ps
OksIn Ok ps ref.All owned = (n : CtxNum) → Oks Ok (Each n) ps

abbrev pub AllOks : (At → Option ℕ → Command → Type 0) → List OwnedAction → Type 0
AllOks Ok [] = Unit {0}
AllOks Ok (a ∷ more) = OksIn Ok a.commands a.sent.ctx a.number × AllOks Ok more

-- the same of the maps, and that slots are free and of the kind
pub record With (S : ℕ → Type 0) (Q : Maps → Type 0) (slots : List (Option ℕ)) (m : Maps) : Type 0 where
  pub kept : Q m
  pub free : AreFreeSlots m slots
  pub kind : All S (owned slots)

-- one of two outcomes
one_of : {A : Type 0} (P : Maps → Type 0) (b : Bool) (x y : Outcome A) → P x.maps → P y.maps → P (if b then x else y).maps
one_of P true x y p q = p
one_of P false x y p q = q

-- the entries behind one more
pub drop_later : {X : Type 0} (k : ℕ) (l : List (Option X)) → drop k (later_owned l) ≡ drop (suc k) l
drop_later zero [] = refl
drop_later (suc k) [] = refl
drop_later k (x ∷ xs) = refl

module _ {Ok : At → Option ℕ → Command → Type 0} {S : ℕ → Type 0} {Q : Maps → Type 0} (rules : Rules) (k : CommandsKeep rules Ok S Q) where
  later : (slots : List (Option ℕ)) (m : Maps) → With S Q slots m → With S Q (later_owned slots) m
  later slots m w = record { kept = w.kept; free = free_later m slots w.free; kind = kind_later S slots w.kind }

  pub behind : (slots : List (Option ℕ)) (n : ℕ) (m : Maps) → With S Q slots m → With S Q (drop n slots) m
  behind slots zero m w = w
  behind slots (suc n) m w = subst (λ (l : List (Option ℕ)). With S Q l m) (drop_later n slots) (behind (later_owned slots) n m (later slots m w))

  pub all_live : (at : At) (b : Bool) (ps : List (Option ℕ × Command)) → Oks Ok at ps → Oks Ok (if b then made at else at) ps
  all_live at b [] o = tt
  all_live at true (p ∷ ps) o = (k.lives at p.0 p.1 o.0, all_live at true ps o.1)
  all_live at false (p ∷ ps) o = o

  pub kept_command : (at : At) (slots : List (Option ℕ)) (c : Command) (m : Maps) → Ok at (first_owned slots) c → With S Q slots m → With S Q (later_owned slots) (command rules at (first_owned slots) c m).maps
  kept_command at slots c m o w = record {
    kept = k.keeps at (first_owned slots) c m o (free_slot m slots w.free) (kind_first S slots w.kind) w.kept;
    free = free_after m (command rules at (first_owned slots) c m).maps slots (makes_none rules at (first_owned slots) c m (free_slot m slots w.free)) w.free;
    kind = kind_later S slots w.kind;
  }

  -- ---- properties

  set_one : (slots : List (Option ℕ)) (n : CtxNum) (p : ContextProp) (m : Maps) → CanSet n p m → With S Q slots m → With S Q slots (set_property n p m)
  set_one slots n p m c w = record {
    kept = k.sets n p m c w.kept;
    free = free_on m (set_property n p m) None slots (λ i d h. tt) (λ t o none. term-set n p m (slot_name t) ∙ none) w.free;
    kind = w.kind;
  }

  pub kept_set : (n : CtxNum) (ps : List ContextProp) (slots : List (Option ℕ)) (m : Maps) → AllCanSet n ps m → With S Q slots m → With S Q slots (set_properties n ps m)
  kept_set n ps slots m c w = set_all (With S Q slots) (set_one slots) n ps m c w

  pub kept_made : (made : Bool) (at : At) (late : List ContextProp) (slots : List (Option ℕ)) (m : Maps) → CanAlwaysSet late → With S Q slots m → With S Q slots (set_when_made made at late m)
  kept_made true (Unmade n) late slots m c w = kept_set n late slots m (c n m) w
  kept_made true Null late slots m c w = w
  kept_made true (Live n) late slots m c w = w
  kept_made true (Each n) late slots m c w = w
  kept_made false at late slots m c w = w

  -- ---- commands

  pub kept_attempt : (late : List ContextProp) (at : At) (slots : List (Option ℕ)) (c : Command) (m : Maps) → CanAlwaysSet late → Ok at (first_owned slots) c → With S Q slots m → With S Q (later_owned slots) (attempt rules late at (first_owned slots, c) m).maps
  kept_attempt late at slots c m can o w =
      let done = command rules at (first_owned slots) c m in
      kept_made done.answer.made at late (later_owned slots) done.maps can (kept_command at slots c m o w)

  pub kept_commands : (late : List ContextProp) (at : At) (slots : List (Option ℕ)) (cs : List Command) (m : Maps) → CanAlwaysSet late → Oks Ok at (paired_commands slots cs) → With S Q slots m → With S Q (drop (length cs) slots) (commands rules late at (paired_commands slots cs) m).maps
  unfolding in_order
  kept_commands late at slots [] m can o w = w
  kept_commands late at slots (c ∷ cs) m can o w =
      let now : Outcome (Attempts At CommandReply) = attempt rules late at (first_owned slots, c) m in
      let one : With S Q (later_owned slots) now.maps = kept_attempt late at slots c m can o.0 w in
      subst (λ (l : List (Option ℕ)). With S Q l (commands rules late at (paired_commands slots (c ∷ cs)) m).maps) (drop_later (length cs) slots)
      (one_of (λ n. With S Q (drop (length cs) (later_owned slots)) n) now.answer.stopped (none_from now.answer.next true now.maps) (in_order (attempt rules late) now.answer.next (paired_commands (later_owned slots) cs) now.maps)
      (behind (later_owned slots) (length cs) now.maps one)
      (kept_commands late now.answer.next (later_owned slots) cs now.maps can (all_live at (command rules at (first_owned slots) c m).answer.made (paired_commands (later_owned slots) cs) o.1) one))

  -- in one of the contexts under *, the slots are left
  pub kept_there : (n : CtxNum) (held : List (Option ℕ)) (slot : Option ℕ) (c : Command) (m : Maps) → Ok (Each n) slot c → With S Q held m → With S Q held (command rules (Each n) slot c m).maps
  kept_there n held slot c m o w =
      subst (λ x. With S Q held x.maps) (sym (each_takes_none rules n slot c m))
      (record { kept = k.keeps (Each n) None c m (k.less (Each n) slot c o) tt tt w.kept; free = free_on m (command rules (Each n) None c m).maps None held (λ i d h. tt) (makes_none rules (Each n) None c m tt) w.free; kind = w.kind })

  pub kept_there_attempt : (late : List ContextProp) (at : At) (n : CtxNum) (held slots : List (Option ℕ)) (c : Command) (m : Maps) → at ≡ Each n → CanAlwaysSet late → Ok at (first_owned slots) c → With S Q held m → With S Q held (attempt rules late at (first_owned slots, c) m).maps
  kept_there_attempt late at n held slots c m e can o w =
      let there : Ok (Each n) (first_owned slots) c = subst (λ (x : At). Ok x (first_owned slots) c) e o in
      let done = command rules at (first_owned slots) c m in
      kept_made done.answer.made at late held done.maps can
      (subst (λ (x : At). With S Q held (command rules x (first_owned slots) c m).maps) (sym e) (kept_there n held (first_owned slots) c m there w))

  kept_each : (late : List ContextProp) (at : At) (n : CtxNum) (held slots : List (Option ℕ)) (cs : List Command) (m : Maps) → at ≡ Each n → CanAlwaysSet late → Oks Ok at (paired_commands slots cs) → With S Q held m → With S Q held (commands rules late at (paired_commands slots cs) m).maps
  unfolding in_order
  kept_each late at n held slots [] m e can o w = w
  kept_each late at n held slots (c ∷ cs) m e can o w =
      let now : Outcome (Attempts At CommandReply) = attempt rules late at (first_owned slots, c) m in
      let one : With S Q held now.maps = kept_there_attempt late at n held slots c m e can o.0 w in
      let next : now.answer.next ≡ Each n = ap (λ (x : At). (attempted x c (command rules at (first_owned slots) c m).answer).next) e ∙ stays_each n (command rules at (first_owned slots) c m).answer.made in
      one_of (λ x. With S Q held x) now.answer.stopped (none_from now.answer.next true now.maps) (in_order (attempt rules late) now.answer.next (paired_commands (later_owned slots) cs) now.maps)
      one
      (kept_each late now.answer.next n held (later_owned slots) cs now.maps next can (all_live at (command rules at (first_owned slots) c m).answer.made (paired_commands (later_owned slots) cs) o.1) one)

  -- ---- actions

  pub kept_in_each : (owned : Option CtxNum) (n : CtxNum) (slots : List (Option ℕ)) (a : Action) (m : Maps) → CanAlwaysSet a.props → Oks Ok (Each n) (paired_commands slots a.commands) → With S Q slots m → With S Q slots (in_context rules (paired_action owned slots a) (Each n) n m).maps
  kept_in_each owned n slots a m can o w = kept_each [] (Each n) n slots slots a.commands (set_properties n a.props m) refl never_late o (kept_set n a.props slots m (can n m) w)

  kept_in_all : (owned : Option CtxNum) (stopped : Bool) (slots : List (Option ℕ)) (a : Action) (ns : List CtxNum) (m : Maps) → CanAlwaysSet a.props → ((n : CtxNum) → Oks Ok (Each n) (paired_commands slots a.commands)) → With S Q slots m → With S Q slots (in_order (in_each rules (paired_action owned slots a)) stopped ns m).maps
  unfolding in_order
  kept_in_all owned stopped slots a [] m can o w = w
  kept_in_all owned stopped slots a (n ∷ ns) m can o w =
      let now : Outcome (Attempts Bool ActionReply) = in_each rules (paired_action owned slots a) stopped n m in
      kept_in_all owned now.answer.next slots a ns now.maps can o (kept_in_each owned n slots a m can (o n) w)

  kept_for_each : (owned : Option CtxNum) (slots : List (Option ℕ)) (a : Action) (m : Maps) (ns : List CtxNum) → CanAlwaysSet a.props → ((n : CtxNum) → Oks Ok (Each n) (paired_commands slots a.commands)) → With S Q slots m → With S Q (drop (length a.commands) slots) (action_for_each rules (paired_action owned slots a) m ns).maps
  kept_for_each owned slots a m [] can o w = behind slots (length a.commands) m w
  kept_for_each owned slots a m (n ∷ ns) can o w = behind slots (length a.commands) (in_all rules (paired_action owned slots a) (n ∷ ns) m).maps (kept_in_all owned false slots a (n ∷ ns) m can o w)

  kept_in : (owned : Option CtxNum) (n : CtxNum) (slots : List (Option ℕ)) (a : Action) (m : Maps) (o : Option ContextRecord) → IsAllowed a → Oks Ok (Live n) (paired_commands slots a.commands) → With S Q slots m → With S Q (drop (length a.commands) slots) (action_in rules n (paired_action owned slots a) m o).maps
  kept_in owned n slots a m None h o w = behind slots (length a.commands) m w
  kept_in owned n slots a m (Some c) h o w = by (refusal_of_links n (linked_names a.props) m) refl
    where
      by : (x : Option Code) → refusal_of_links n (linked_names a.props) m ≡ x → With S Q (drop (length a.commands) slots) (unless_refused x (ref.Num n) m (in_context rules (paired_action owned slots a) (Live n) n m)).maps
      by (Some code) e = behind slots (length a.commands) m w
      by None e = kept_commands [] (Live n) slots a.commands (set_properties n a.props m) never_late o (kept_set n a.props slots m (can_set_in a n m h e) w)

  kept_for : (number : Option CtxNum) (slots : List (Option ℕ)) (a : Action) (m : Maps) → CanAlwaysSet a.props → OksIn Ok (paired_commands slots a.commands) ref.Choose number → With S Q slots m → With S Q (drop (length a.commands) slots) (action_for rules (paired_action number slots a) m number).maps
  kept_for None slots a m can o w = behind slots (length a.commands) m w
  kept_for (Some n) slots a m can o w = kept_commands a.props (Unmade n) slots a.commands m can o w

  kept_on : (a : Action) (number : Option CtxNum) (slots : List (Option ℕ)) (m : Maps) (sent : CtxRef) → a.ctx ≡ sent → IsAllowed a → OksIn Ok (paired_commands slots a.commands) sent number → With S Q slots m → With S Q (drop (length a.commands) slots) (action_on rules (paired_action number slots a) m sent).maps
  kept_on a number slots m (ref.Num n) e h o w = kept_in number n slots a m (ctx m n) h o w
  kept_on a number slots m ref.Choose e h o w = kept_for number slots a m (can_set_always a h (ap (λ x. is_chosen_or_each x) e)) o w
  kept_on a number slots m ref.Null e h o w = kept_commands [] Null slots a.commands m never_late o w
  kept_on a number slots m ref.All e h o w = kept_for_each number slots a m (numbers m) (can_set_always a h (ap (λ x. is_chosen_or_each x) e)) o w

  pub kept_action : (a : Action) (number : Option CtxNum) (slots : List (Option ℕ)) (m : Maps) → OksIn Ok (paired_commands slots a.commands) a.ctx number → With S Q slots m → With S Q (drop (length a.commands) slots) (action rules tt (paired_action number slots a) m).maps
  kept_action a number slots m o w = by (refusal_of_properties a) refl
    where
      by : (x : Option Code) → refusal_of_properties a ≡ x → With S Q (drop (length a.commands) slots) (unless_refused x a.ctx m (action_on rules (paired_action number slots a) m a.ctx)).maps
      by (Some code) e = behind slots (length a.commands) m w
      by None e = kept_on a number slots m a.ctx refl (allowed a e) o w

  pub kept_actions : (held : List (Option CtxNum)) (slots : List (Option ℕ)) (requested : List Action) (m : Maps) → AllOks Ok (paired_actions held slots requested) → With S Q slots m → Q (actions rules (paired_actions held slots requested) m).maps
  unfolding in_order
  kept_actions held slots [] m o w = w.kept
  kept_actions held slots (a ∷ more) m o w =
      let now : Outcome (Attempts Unit ActionReply) = action rules tt (paired_action (first_owned held) slots a) m in
      let one : With S Q (drop (length a.commands) slots) now.maps = kept_action a (first_owned held) slots m o.0 w in
      one_of Q now.answer.stopped (none_from now.answer.next true now.maps) (in_order (action rules) now.answer.next (paired_actions (later_owned held) (drop (length a.commands) slots) more) now.maps)
      one.kept
      (kept_actions (later_owned held) (drop (length a.commands) slots) more now.maps o.1 one)
