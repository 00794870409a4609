-- A transaction keeps the forms of what is kept, and its reply can be read.
use Rattle.std.proofs.Common.{◌≡◌, ℕ, Bool, true, false, cond, List, [], ◌∷◌, Option, None, Some, Err, refl, sym, subst}
use Rattle.std.specs.List.{All, flat_map}
use Rattle.std.proofs.lemmas.List.Elements.{All-nil, All-cons, All-head, All-tail, All-append, All-filter}
use Rattle.gw_base.specs.Addresses.{IsAddress}
use Rattle.gw_base.specs.Choose.{is_choose}
use Rattle.gw_base.specs.declared.code.Code.{Code}
use Rattle.gw_base.specs.declared.context_words.Flow.{Flow}
use Rattle.gw_base.specs.declared.context_words.Flow.TheVariants.{Bothway, Isolate, Oneway}
use Rattle.gw_base.specs.declared.context_words.Link.{Link}
use Rattle.gw_base.specs.declared.term_ref.TermRef.{TermRef}
use Rattle.gw_base.specs.declared.term_ref.TermRef.TheVariants as term_ref
use Rattle.gw_base.specs.Names.{IsName}
use Rattle.gw_base.specs.Wildcards.{IsTermText}
use Rattle.gw_base.specs.declared.ids.CtxNum.{CtxNum}
use Rattle.gw_reserve.specs.Ids.{Ids}
use Rattle.gw_base.specs.declared.command_words.Rules.{Rules}
use Rattle.gw_base.specs.declared.command_words.CtxRef.{CtxRef}
use Rattle.gw_base.specs.declared.command_words.CtxRef.TheVariants as ref
use Rattle.gw_ctx.specs.Contexts.{ContextRecord, is_other_pair, links_beside, kept_link}
use Rattle.gw_msg.specs.declared.message.Action.{Action}
use Rattle.gw_msg.specs.declared.message.Command.{Command}
use Rattle.gw_msg.specs.declared.message.Request.{Request}
use Rattle.gw_msg.specs.declared.message.ContextItem.{ContextItem}
use Rattle.gw_msg.specs.declared.message.ContextItem.TheVariants as item
use Rattle.gw_msg.specs.declared.message.ContextProp.{ContextProp}
use Rattle.gw_msg.specs.declared.message.ContextProp.TheVariants.{Priority, Emergency, Topology, ContextAudit}
use Rattle.gw_msg.specs.declared.message.Triple.{Triple}
use Rattle.gw_reply.specs.declared.context_parts.ContextPart.{ContextPart}
use Rattle.gw_reply.specs.declared.context_parts.ContextPart.TheVariants as part
use Rattle.gw_reply.specs.KeptReplies.{HasForm, HasNames, IsKeptPart, IsKeptCommand, IsKeptAction, IsKeptTree}
use Rattle.gw_reply.specs.declared.reply.ActionReply.{ActionReply}
use Rattle.gw_reply.specs.declared.reply.CommandReply.{CommandReply}
use Rattle.gw_reply.specs.Messages.{reply_text}
use Rattle.gw_reply_law.specs.Spellings.{IsReplyMessage}
use Rattle.gw_table.specs.declared.attempts.Attempts.{Attempts}
use Rattle.gw_table.specs.Folds.{none_from, attempts_behind, in_order}
use Rattle.gw_table.specs.Maps.{Maps, Outcome, ctx, numbers, context_of}
use Rattle.gw_refusal.specs.declared.at.At.{At}
use Rattle.gw_refusal.specs.declared.at.At.TheVariants.{Null, Live, Unmade, Each}
use Rattle.gw_cmd.specs.KeptForms.{AreKept, IsRequested, IsSlot}
use Rattle.gw_cmd.proofs.FormsKept.{command_kept, put_ctx_kept}
use Rattle.gw_cmd.specs.Commands.{command}
use Rattle.gw_tx.specs.KeptForms.{HasForms, IsRequestedProperty, AreRequested, IsReadRequest, AreSlots}
use Rattle.gw_reserve.specs.Owned.{OwnedAction, first_owned, later_owned, is_adding, with_slots, slots_behind, owning, with_owned}
use Rattle.gw_tx.specs.Properties.{name_of, linked_names, is_nothing, refusal_of_properties, refusal_of_links, link_of, linked_if, linked_by, with_property_if, set_property, set_properties, reply_items, link_parts, emergency_parts, item_parts, minimum_priority, context_parts_if}
use Rattle.gw_tx.proofs.SetProperties.{members-if}
use Rattle.gw_tx.specs.Transactions.{set_when_made, attempt, commands, action_reply, refused_action, unless_refused, carried_action, in_context, in_each, in_all, action_for_each, action_in, action_for, action_on, action, paired_transaction, transaction}

-- ---- in order

-- what each step keeps and answers, all of them do
module _ {X S A : Type 0} (step : S → X → Maps → Outcome (Attempts S A)) (IsGood : X → Type 0) (IsForm : A → Type 0)
    (each : (s : S) (x : X) (m : Maps) → IsGood x → AreKept m → AreKept (step s x m).maps × All IsForm (step s x m).answer.answers) where
  abbrev Keeps : Outcome (Attempts S A) → Type 0
  Keeps o = AreKept o.maps × All IsForm o.answer.answers

  order_kept : (s : S) (xs : List X) (m : Maps) → All IsGood xs → AreKept m → Keeps (in_order step s xs m)
  unfolding in_order
  order_kept s [] m good k = (k, All-nil IsForm)
  order_kept s (x ∷ xs) m good k =
      let now = step s x m in
      let one = each s x m (All-head IsGood x xs good) k in
      let more = order_kept now.answer.next xs now.maps (All-tail IsGood x xs good) one.0 in
      by now.answer.stopped one more
    where
      by : (b : Bool) → Keeps (step s x m) → Keeps (in_order step (step s x m).answer.next xs (step s x m).maps)
          → Keeps (attempts_behind (step s x m).answer.answers (cond b (none_from (step s x m).answer.next true (step s x m).maps) (in_order step (step s x m).answer.next xs (step s x m).maps)))
      by true one more = (one.0, All-append IsForm (step s x m).answer.answers [] one.1 (All-nil IsForm))
      by false one more = (more.0, All-append IsForm (step s x m).answer.answers (in_order step (step s x m).answer.next xs (step s x m).maps).answer.answers one.1 more.1)

-- ---- what is owned

-- a command with its slot
abbrev IsGoodPair : Option ℕ × Command → Type 0
IsGoodPair p = IsSlot p.0 × IsRequested p.1

first_slot : (slots : List (Option ℕ)) → All IsSlot slots → IsSlot (first_owned slots)
first_slot [] h = tt
first_slot (o ∷ os) h = All-head IsSlot o os h

later_slots : (slots : List (Option ℕ)) → All IsSlot slots → All IsSlot (later_owned slots)
later_slots [] h = All-nil IsSlot
later_slots (o ∷ os) h = All-tail IsSlot o os h

slot_if : (b : Bool) (slots : List (Option ℕ)) → All IsSlot slots → IsSlot (cond b (first_owned slots) None)
slot_if true slots h = first_slot slots h
slot_if false slots h = tt

slots_if : (b : Bool) (slots : List (Option ℕ)) → All IsSlot slots → All IsSlot (cond b (later_owned slots) slots)
slots_if true slots h = later_slots slots h
slots_if false slots h = h

pairs_kept : (slots : List (Option ℕ)) (cs : List Command) → All IsSlot slots → All IsRequested cs → All IsGoodPair (with_slots slots cs)
pairs_kept slots [] h k = All-nil IsGoodPair
pairs_kept slots (c ∷ cs) h k =
    let more : List (Option ℕ) = cond (is_adding c) (later_owned slots) slots in
    All-cons IsGoodPair (cond (is_adding c) (first_owned slots) None, c) (with_slots more cs) (slot_if (is_adding c) slots h, All-head IsRequested c cs k)
    (pairs_kept more cs (slots_if (is_adding c) slots h) (All-tail IsRequested c cs k))

behind_kept : (slots : List (Option ℕ)) (cs : List Command) → All IsSlot slots → All IsSlot (slots_behind slots cs)
behind_kept slots [] h = h
behind_kept slots (c ∷ cs) h = behind_kept (cond (is_adding c) (later_owned slots) slots) cs (slots_if (is_adding c) slots h)

abbrev IsGoodAction : OwnedAction → Type 0
IsGoodAction a = All IsRequestedProperty a.sent.props × All IsGoodPair a.commands

owned_kept : (ns : List (Option CtxNum)) (slots : List (Option ℕ)) (more_actions : List Action) → All IsSlot slots → All AreRequested more_actions → All IsGoodAction (with_owned ns slots more_actions)
owned_kept ns slots [] h k = All-nil IsGoodAction
owned_kept ns slots (a ∷ rest) h k =
    let more : List (Option CtxNum) = cond (is_choose a.ctx) (later_owned ns) ns in
    let first = All-head AreRequested a rest k in
    All-cons IsGoodAction (owning ns slots a) (with_owned more (slots_behind slots a.commands) rest) (first.props, pairs_kept slots a.commands h first.commands)
    (owned_kept more (slots_behind slots a.commands) rest (behind_kept slots a.commands h) (All-tail AreRequested a rest k))

-- ---- what is asked of contexts

named_form : (r : TermRef) (t : List ℕ) → name_of r ≡ Some t → HasForm r → IsTermText t
named_form (term_ref.Name n) t e h = let same : n ≡ t = cc in subst IsTermText same h
named_form term_ref.Root t e h = absurd cc
named_form term_ref.All t e h = absurd cc
named_form term_ref.Choose t e h = absurd cc
named_form (term_ref.Under prefix) t e h = absurd cc
named_form (term_ref.Other text) t e h = absurd cc

kept_link_named : (link : Link) (w : Flow) → HasNames link → All HasNames (kept_link link w)
kept_link_named link Bothway h = All-nil HasNames
kept_link_named link Isolate h = All-cons HasNames link [] h (All-nil HasNames)
kept_link_named link Oneway h = All-cons HasNames link [] h (All-nil HasNames)

linked_named : (ts : List Triple) (c : ContextRecord) → All HasForms ts → All HasNames c.links → All HasNames (linked_by ts c).links
linked_named [] c f h = h
linked_named (t ∷ ts) c f h =
    let form = All-head HasForms t ts f in
    linked_named ts (linked_if (link_of (name_of t.a) (name_of t.b) t.flow) c) (All-tail HasForms t ts f) (one form (name_of t.a) (name_of t.b) refl refl)
  where
    one : HasForms t → (x y : Option (List ℕ)) → name_of t.a ≡ x → name_of t.b ≡ y → All HasNames (linked_if (link_of x y t.flow) c).links
    one form (Some a) (Some b) d e =
        let link : Link = record { a = a; b = b; flow = t.flow } in
        All-append HasNames (links_beside link c.links) (kept_link link t.flow) (All-filter (is_other_pair link) HasNames c.links h) (kept_link_named link t.flow (named_form t.a a d form.0, named_form t.b b e form.1))
    one form (Some a) None d e = h
    one form None (Some b) d e = h
    one form None None d e = h

property_named : (p : ContextProp) (o : Option ContextRecord) → IsRequestedProperty p → All HasNames (context_of o).links → All HasNames (context_of (with_property_if p o)).links
property_named p None f h = h
property_named (Priority q) (Some c) f h = h
property_named Emergency (Some c) f h = h
property_named (Topology ts) (Some c) f h = linked_named ts c f h
property_named (ContextAudit items) (Some c) f h = h

set_kept : (n : CtxNum) (ps : List ContextProp) (m : Maps) → All IsRequestedProperty ps → AreKept m → AreKept (set_properties n ps m)
set_kept n [] m f k = k
set_kept n (p ∷ ps) m f k =
    let o : Option ContextRecord = with_property_if p (ctx m n) in
    set_kept n ps (set_property n p m) (All-tail IsRequestedProperty p ps f)
    (put_ctx_kept n o m (subst (All IsName) (sym (members-if p (ctx m n))) (k.members n)) (property_named p (ctx m n) (All-head IsRequestedProperty p ps f) (k.links n)) k)

made_kept : (made : Bool) (at : At) (late : List ContextProp) (m : Maps) → All IsRequestedProperty late → AreKept m → AreKept (set_when_made made at late m)
made_kept true (Unmade n) late m f k = set_kept n late m f k
made_kept true Null late m f k = k
made_kept true (Live n) late m f k = k
made_kept true (Each n) late m f k = k
made_kept false at late m f k = k

-- ---- the properties of contexts in replies

links_part : (links : List Link) → All HasNames links → All IsKeptPart (link_parts links)
links_part [] h = All-nil IsKeptPart
links_part (link ∷ links) h = All-cons IsKeptPart (part.Topology (link ∷ links)) [] h (All-nil IsKeptPart)

emergency_part : (b : Bool) → All IsKeptPart (emergency_parts b)
emergency_part true = All-cons IsKeptPart part.Emergency [] tt (All-nil IsKeptPart)
emergency_part false = All-nil IsKeptPart

priority_part : (q : ℕ) → All IsKeptPart (part.Priority q ∷ [])
priority_part q = All-cons IsKeptPart (part.Priority q) [] tt (All-nil IsKeptPart)

item_part : (c : ContextRecord) (i : ContextItem) → All HasNames c.links → All IsKeptPart (item_parts c i)
item_part c item.Priority h = priority_part c.priority
item_part c item.Emergency h = emergency_part c.emergency
item_part c item.Topology h = links_part c.links h

items_parts : (c : ContextRecord) (items : List ContextItem) → All HasNames c.links → All IsKeptPart (flat_map (item_parts c) items)
items_parts c [] h = All-nil IsKeptPart
items_parts c (i ∷ is) h = All-append IsKeptPart (item_parts c i) (flat_map (item_parts c) is) (item_part c i h) (items_parts c is h)

some_part : (c : ContextRecord) (b : Bool) (parts : List ContextPart) → All IsKeptPart parts → All IsKeptPart (minimum_priority c b parts)
some_part c true [] h = priority_part c.priority
some_part c true (p ∷ ps) h = h
some_part c false parts h = h

parts_kept : (a : Action) (o : Option ContextRecord) → All HasNames (context_of o).links → All IsKeptPart (context_parts_if a o)
parts_kept a None h = All-nil IsKeptPart
parts_kept a (Some c) h = some_part c (is_nothing a.commands) (flat_map (item_parts c) (reply_items a)) (items_parts c (reply_items a) h)

-- ---- actions

abbrev Tells : {S : Type 0} → Outcome (Attempts S ActionReply) → Type 0
Tells o = AreKept o.maps × All IsKeptAction o.answer.answers

one_told : (r : ActionReply) → IsKeptAction r → All IsKeptAction (r ∷ [])
one_told r h = All-cons IsKeptAction r [] h (All-nil IsKeptAction)

refused_kept : (sent : CtxRef) (code : Code) (m : Maps) → AreKept m → Tells (refused_action sent code m)
refused_kept sent code m k = (k, one_told (record { ctx = sent; parts = []; result = Err code }) (record { parts = All-nil IsKeptPart; commands = tt }))

unless_kept : (x : Option Code) (sent : CtxRef) (m : Maps) (o : Outcome (Attempts Unit ActionReply)) → AreKept m → Tells o → Tells (unless_refused x sent m o)
unless_kept (Some code) sent m o k h = refused_kept sent code m k
unless_kept None sent m o k h = h

carried_kept : (parts : List ContextPart) (o : Outcome (Attempts At CommandReply)) → All IsKeptPart parts → AreKept o.maps → All IsKeptCommand o.answer.answers → Tells (carried_action parts o)
carried_kept parts o f k h = (k, one_told (action_reply parts o.answer) (record { parts = f; commands = h }))

module _ (rules : Rules) (address : IsAddress rules.media) where
  attempt_kept : (late : List ContextProp) → All IsRequestedProperty late → (at : At) (p : Option ℕ × Command) (m : Maps) → IsGoodPair p → AreKept m → AreKept (attempt rules late at p m).maps × All IsKeptCommand (attempt rules late at p m).answer.answers
  attempt_kept late f at p m good k =
      let done = command rules at p.0 p.1 m in
      let h = command_kept rules address at p.0 p.1 m good.0 good.1 k in
      (made_kept done.answer.made at late done.maps f h.maps, h.replies)

  commands_kept : (late : List ContextProp) → All IsRequestedProperty late → (at : At) (cs : List (Option ℕ × Command)) (m : Maps) → All IsGoodPair cs → AreKept m → AreKept (commands rules late at cs m).maps × All IsKeptCommand (commands rules late at cs m).answer.answers
  commands_kept late f at cs m good k = order_kept (attempt rules late) IsGoodPair IsKeptCommand (attempt_kept late f) at cs m good k

  never : All IsRequestedProperty []
  never = All-nil IsRequestedProperty

  context_kept : (a : OwnedAction) → IsGoodAction a → (at : At) (n : CtxNum) (m : Maps) → AreKept m → Tells (in_context rules a at n m)
  context_kept a good at n m k =
      let ready : Maps = set_properties n a.sent.props m in
      let set : AreKept ready = set_kept n a.sent.props m good.0 k in
      let h = commands_kept [] never at a.commands ready good.1 set in
      carried_kept (context_parts_if a.sent (ctx ready n)) (commands rules [] at a.commands ready) (parts_kept a.sent (ctx ready n) (set.links n)) h.0 h.1

  each_kept : (a : OwnedAction) → IsGoodAction a → (stopped : Bool) (n : CtxNum) (m : Maps) → Unit {0} → AreKept m → Tells (in_each rules a stopped n m)
  each_kept a good stopped n m any k = context_kept a good (Each n) n m k

  any_number : (ns : List CtxNum) → All (λ (n : CtxNum). Unit {0}) ns
  any_number ns k d lt = tt

  all_kept : (a : OwnedAction) (ns : List CtxNum) (m : Maps) → IsGoodAction a → AreKept m → Tells (in_all rules a ns m)
  all_kept a ns m good k = order_kept (in_each rules a) (λ (n : CtxNum). Unit {0}) IsKeptAction (each_kept a good) false ns m (any_number ns) k

  for_each_kept : (a : OwnedAction) (m : Maps) (ns : List CtxNum) → IsGoodAction a → AreKept m → Tells (action_for_each rules a m ns)
  for_each_kept a m [] good k = refused_kept ref.All _ m k
  for_each_kept a m (n ∷ ns) good k = all_kept a (n ∷ ns) m good k

  in_kept : (n : CtxNum) (a : OwnedAction) (m : Maps) (o : Option ContextRecord) → IsGoodAction a → AreKept m → Tells (action_in rules n a m o)
  in_kept n a m None good k = refused_kept (ref.Num n) _ m k
  in_kept n a m (Some c) good k = unless_kept (refusal_of_links n (linked_names a.sent.props) m) (ref.Num n) m (in_context rules a (Live n) n m) k (context_kept a good (Live n) n m k)

  for_kept : (o : Option CtxNum) (a : OwnedAction) (m : Maps) → IsGoodAction a → AreKept m → Tells (action_for rules a m o)
  for_kept None a m good k = refused_kept ref.Choose _ m k
  for_kept (Some n) a m good k =
      let h = commands_kept a.sent.props good.0 (Unmade n) a.commands m good.1 k in
      carried_kept [] (commands rules a.sent.props (Unmade n) a.commands m) (All-nil IsKeptPart) h.0 h.1

  on_kept : (a : OwnedAction) (m : Maps) (c : CtxRef) → IsGoodAction a → AreKept m → Tells (action_on rules a m c)
  on_kept a m (ref.Num n) good k = in_kept n a m (ctx m n) good k
  on_kept a m ref.Choose good k = for_kept a.number a m good k
  on_kept a m ref.Null good k = let h = commands_kept [] never Null a.commands m good.1 k in carried_kept [] (commands rules [] Null a.commands m) (All-nil IsKeptPart) h.0 h.1
  on_kept a m ref.All good k = for_each_kept a m (numbers m) good k

  action_kept : (u : Unit {0}) (a : OwnedAction) (m : Maps) → IsGoodAction a → AreKept m → Tells (action rules u a m)
  action_kept u a m good k = unless_kept (refusal_of_properties a.sent) a.sent.ctx m (action_on rules a m a.sent.ctx) k (on_kept a m a.sent.ctx good k)

  pub transaction_kept : (r : Request) (ids : Ids) (m : Maps) → AreSlots ids → IsReadRequest r → AreKept m → AreKept (transaction rules r ids m).maps × IsKeptTree (transaction rules r ids m).answer
  unfolding transaction paired_transaction
  transaction_kept r ids m slots requested k =
      let h = order_kept (action rules) IsGoodAction IsKeptAction action_kept tt (with_owned ids.contexts ids.slots r.actions) m (owned_kept ids.contexts ids.slots r.actions slots requested.actions) k in
      (h.0, (requested.number, h.1))

-- the reply has the number of the request
pub transaction_id : (rules : Rules) (mid : List ℕ) (r : Request) (ids : Ids) (m : Maps) → IsReplyMessage mid (transaction rules r ids m).answer.id.0 (reply_text mid (transaction rules r ids m).answer) → IsReplyMessage mid r.id.0 (reply_text mid (transaction rules r ids m).answer)
unfolding transaction paired_transaction
transaction_id rules mid r ids m h = h
