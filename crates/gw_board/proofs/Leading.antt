-- The keys of a request lead on: with a termination among them there is the context that it is in.
use Rattle.std.proofs.Common.{◌≡◌, ℕ, zero, suc, Bool, true, false, List, [], ◌∷◌, ◌++◌, length, drop, bytes_eq, Option, None, Some, is_some, refl, sym, ap, subst, ◌∙◌}
use Rattle.std.specs.Prelude.{All}
use Rattle.std.specs.List.{flat_map}
use Rattle.gw_base.specs.declared.ids.CtxNum.{CtxNum}
use Rattle.gw_base.specs.declared.command_words.CtxRef.{CtxRef}
use Rattle.gw_base.specs.declared.key.Key.{Key}
use Rattle.gw_base.specs.declared.key.Key.TheVariants.{Term, Ctx}
use Rattle.gw_base.specs.declared.term_ref.TermRef.{TermRef}
use Rattle.gw_base.specs.declared.term_ref.TermRef.TheVariants as term_ref
use Rattle.gw_base.specs.Keys.{has, same_key, Among}
use Rattle.gw_base.specs.NameLists.{is_in}
use Rattle.gw_base.proofs.KeyTests.{any-append_cases, any-append_left, any-append_right, has-head, has-tail, has-names}
use Rattle.gw_base.proofs.NamesInLists.{or_cases, either}
use Rattle.gw_base.proofs.NameTests.{same_name}
use Rattle.gw_msg.specs.declared.message.Action.{Action}
use Rattle.gw_msg.specs.declared.message.Command.{Command}
use Rattle.gw_ctx.specs.Contexts.{ContextRecord}
use Rattle.gw_table.specs.Maps.{Maps, term, ctx, place_of, members_of}
use Rattle.gw_table.specs.Reserved.{slot_name}
use Rattle.gw_table.specs.Unused.{owned}
use Rattle.gw_table.specs.WellFormed.{AreWellFormed}
use Rattle.gw_refusal.specs.Requested.{is_add}
use Rattle.gw_cmd.specs.Keys.{every_key, keys_if, place_key, name_keys, slot_key}
use Rattle.gw_cmd.proofs.Ready.{every_ctx}
use Rattle.gw_reserve.specs.Owned.{first_owned, later_owned, paired_commands, paired_action, paired_actions, AreFreeSlots}
use Rattle.gw_tx.specs.Footprints.{is_for_each, one_context, stands_for_all, keys_of_members, named_keys, keys_in_action, keys_of_links, action_footprint, footprint_of}
use Rattle.gw_tx.specs.Properties.{linked_names}
use Rattle.gw_tx.proofs.FreeSlots.{IsOfKind, kind_first, kind_later}
use Rattle.gw_board.specs.Carried.{BurstRequest, keys_of}

-- a context with a member is there
pub there_is : (o : Option ContextRecord) (t : List ℕ) → is_in t (members_of o) ≡ true → is_some o ≡ true
there_is None t h = absurd cc
there_is (Some c) t h = refl

-- with a termination among them these keys lead to the context that it is in
abbrev pub Leads : List Key → Maps → Type 0
Leads keys m = (t : List ℕ) (c : CtxNum) → has keys (Term t) ≡ true → place_of (term m t) ≡ Some c → has keys (Ctx c) ≡ true

-- a slot has no termination
abbrev IsEmptyIn : Maps → ℕ → Type 0
IsEmptyIn m s = term m (slot_name s) ≡ None

kind_behind : {X : Type 0} (S : X → Type 0) (n : ℕ) (slots : List (Option X)) → All S (owned slots) → All S (owned (drop n slots))
kind_behind S zero slots f = f
kind_behind S (suc n) [] f = f
kind_behind S (suc n) (o ∷ os) f = kind_behind S n os (kind_later S (o ∷ os) f)

module _ (limit : ℕ) (m : Maps) (w : AreWellFormed limit m) (keys : List Key) where
  -- these lead to one of the keys
  abbrev Lead : List Key → Type 0
  Lead l = (t : List ℕ) (c : CtxNum) → has l (Term t) ≡ true → place_of (term m t) ≡ Some c → has keys (Ctx c) ≡ true

  left : (a b : List Key) → Among (a ++ b) keys → Among a keys
  left a b h k i = h k (any-append_left (same_key k) a b i)

  right : (a b : List Key) → Among (a ++ b) keys → Among b keys
  right a b h k i = h k (any-append_right (same_key k) a b i)

  lead_both : (a b : List Key) → Lead a → Lead b → Lead (a ++ b)
  lead_both a b f g t c h e = either (any-append_cases (same_key (Term t)) a b h) (λ i. f t c i e) (λ i. g t c i e)

  lead_none : Lead []
  lead_none t c h e = absurd cc

  lead_every : (b : Bool) → Among (keys_if b (every_key m)) keys → Lead (keys_if b (every_key m))
  lead_every true h = λ t c i e. h (Ctx c) (every_ctx m c (there_is (ctx m c) t (w.listed t c e)))
  lead_every false h = lead_none

  lead_place : (o : Option CtxNum) → Lead (place_key o)
  lead_place None t c h e = absurd cc
  lead_place (Some n) t c h e = absurd cc

  lead_name : (t : List ℕ) → Among (name_keys t m) keys → Lead (name_keys t m)
  lead_name t h q c i e = either (or_cases (bytes_eq q t) (has (place_key (place_of (term m t))) (Term q)) i)
      (λ s. h (Ctx c) (has-tail (Term t) (Ctx c) (place_key (place_of (term m t)))
      (ap (λ o. has (place_key o) (Ctx c)) (ap (λ (x : List ℕ). place_of (term m x)) (sym (same_name q t s)) ∙ e) ∙ has-head (Ctx c) [])))
      (λ s. lead_place (place_of (term m t)) q c s e)

  lead_slot : (b : Bool) (slot : Option ℕ) → IsOfKind (IsEmptyIn m) slot → Lead (keys_if b (slot_key slot))
  lead_slot false slot f = lead_none
  lead_slot true None f = lead_none
  lead_slot true (Some s) f = λ t c h e. either (or_cases (bytes_eq t (slot_name s)) false h)
      (λ i. absurd (let none : place_of (term m t) ≡ None = ap (λ (x : List ℕ). place_of (term m x)) (same_name t (slot_name s) i) ∙ ap (λ o. place_of o) f in cc))
      (λ i. absurd cc)

  lead_members : (one : Option CtxNum) → Among (place_key one) keys → Lead (keys_of_members one m)
  lead_members None h = lead_none
  lead_members (Some n) h = λ t c i e.
      let here : place_of (term m t) ≡ Some n = w.recorded t n (sym (has-names (members_of (ctx m n)) t) ∙ i) in
      let same : n ≡ c = cc in
      h (Ctx c) (subst (λ (x : CtxNum). has (Ctx n ∷ []) (Ctx x) ≡ true) same (has-head (Ctx n) []))

  lead_named : (one : Option CtxNum) (slot : Option ℕ) (c : Command) (r : TermRef) → Among (place_key one) keys → IsOfKind (IsEmptyIn m) slot → Among (named_keys one slot c m r) keys → Lead (named_keys one slot c m r)
  lead_named one slot c (term_ref.Name t) o f h = lead_name t h
  lead_named one slot c term_ref.Choose o f h = lead_slot (is_add c.verb) slot f
  lead_named one slot c term_ref.All o f h = lead_members one o
  lead_named one slot c (term_ref.Under prefix) o f h = lead_members one o
  lead_named one slot c term_ref.Root o f h = lead_none
  lead_named one slot c (term_ref.Other text) o f h = lead_none

  lead_commands : (sent : CtxRef) (number : Option CtxNum) → Among (place_key (one_context sent number)) keys → (slots : List (Option ℕ)) (cs : List Command) → All (IsEmptyIn m) (owned slots)
      → Among (flat_map (keys_in_action sent number m) (paired_commands slots cs)) keys → Lead (flat_map (keys_in_action sent number m) (paired_commands slots cs))
  lead_commands sent number o slots [] f h = lead_none
  lead_commands sent number o slots (c ∷ cs) f h =
      let all : List Key = keys_if (stands_for_all sent c) (every_key m) in
      let mine : List Key = named_keys (one_context sent number) (first_owned slots) c m c.term in
      let later : List Key = flat_map (keys_in_action sent number m) (paired_commands (later_owned slots) cs) in
      let front : Among (all ++ mine) keys = left (all ++ mine) later h in
      lead_both (all ++ mine) later
      (lead_both all mine (lead_every (stands_for_all sent c) (left all mine front)) (lead_named (one_context sent number) (first_owned slots) c c.term o (kind_first (IsEmptyIn m) slots f) (right all mine front)))
      (lead_commands sent number o (later_owned slots) cs (kind_later (IsEmptyIn m) slots f) (right (all ++ mine) later h))

  lead_links : (ts : List (List ℕ)) → Among (flat_map (λ t. name_keys t m) ts) keys → Lead (flat_map (λ t. name_keys t m) ts)
  lead_links [] h = lead_none
  lead_links (t ∷ ts) h =
      let mine : List Key = name_keys t m in
      let later : List Key = flat_map (λ t. name_keys t m) ts in
      lead_both mine later (lead_name t (left mine later h)) (lead_links ts (right mine later h))

  lead_action : (number : Option CtxNum) (slots : List (Option ℕ)) (a : Action) → All (IsEmptyIn m) (owned slots) → Among (action_footprint (paired_action number slots a) m) keys → Lead (action_footprint (paired_action number slots a) m)
  lead_action number slots a f h =
      let all : List Key = keys_if (is_for_each a.ctx) (every_key m) in
      let one : List Key = place_key (one_context a.ctx number) in
      let requested : List Key = flat_map (keys_in_action a.ctx number m) (paired_commands slots a.commands) in
      let links : List Key = keys_of_links (paired_action number slots a) m in
      let named : Among (all ++ one ++ requested) keys = left (all ++ one ++ requested) links h in
      let front : Among (all ++ one) keys = left (all ++ one) requested named in
      lead_both (all ++ one ++ requested) links
      (lead_both (all ++ one) requested
      (lead_both all one (lead_every (is_for_each a.ctx) (left all one front)) (lead_place (one_context a.ctx number)))
      (lead_commands a.ctx number (right all one front) slots a.commands f (right (all ++ one) requested named)))
      (lead_links (linked_names a.props) (right (all ++ one ++ requested) links h))

  lead_actions : (numbers : List (Option CtxNum)) (slots : List (Option ℕ)) (actions : List Action) → All (IsEmptyIn m) (owned slots) → Among (footprint_of (paired_actions numbers slots actions) m) keys → Lead (footprint_of (paired_actions numbers slots actions) m)
  lead_actions numbers slots [] f h = lead_none
  lead_actions numbers slots (a ∷ more) f h =
      let mine : List Key = action_footprint (paired_action (first_owned numbers) slots a) m in
      let later : List Key = footprint_of (paired_actions (later_owned numbers) (drop (length a.commands) slots) more) m in
      lead_both mine later
      (lead_action (first_owned numbers) slots a f (left mine later h))
      (lead_actions (later_owned numbers) (drop (length a.commands) slots) more (kind_behind (IsEmptyIn m) (length a.commands) slots f) (right mine later h))

pub keys_lead : (limit : ℕ) (a : BurstRequest) (m : Maps) → AreWellFormed limit m → AreFreeSlots m a.owned.slots → Leads (keys_of a m) m
keys_lead limit a m w f = lead_actions limit m w (keys_of a m) a.owned.contexts a.owned.slots a.request.actions f.no_terminations (λ k h. h)
