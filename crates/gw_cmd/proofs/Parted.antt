-- A command that a part covers leaves it sound, with no entry but at its keys; who is new in a place or a list is one
-- of them.
use Rattle.std.proofs.Common.{nat_eq, ◌≡◌, ℕ, Bool, true, false, cond, ◌⊎◌, inl, inr, List, bytes_eq, Option, None, Some, is_some, refl, sym, ap, subst, ◌∙◌}
use Rattle.gw_base.specs.declared.code.Code.{Code}
use Rattle.gw_base.specs.declared.ids.CtxNum.{CtxNum}
use Rattle.gw_base.specs.declared.command_words.Rules.{Rules}
use Rattle.gw_base.specs.declared.command_words.Verb.{Verb}
use Rattle.gw_base.specs.declared.key.Key.TheVariants.{Term, Ctx}
use Rattle.gw_base.specs.NameLists.{is_in}
use Rattle.gw_base.proofs.NameTests.{same_name, same_number}
use Rattle.gw_base.proofs.NamesInLists.{either, in_pushed, in_without}
use Rattle.gw_ctx.specs.Contexts.{ContextRecord, joined, left}
use Rattle.gw_msg.specs.declared.message.Command.{Command}
use Rattle.gw_term.specs.declared.record.Termination.{Termination}
use Rattle.gw_table.specs.Maps.{Maps, term, ctx, put_term, place_of, context_of, members_of}
use Rattle.gw_table.specs.Parts.{PartKeys, IsPart, holds, Holds, HoldsPlace}
use Rattle.gw_table.specs.Members.{with_member, without_member, unless_empty}
use Rattle.gw_table.specs.WellFormed.{IsSound}
use Rattle.gw_table.proofs.Growth.{Grows, grows_on}
use Rattle.gw_table.proofs.Lookups.{term-put_term, ctx-put_term}
use Rattle.gw_refusal.specs.declared.at.At.{At}
use Rattle.gw_refusal.specs.Forms.{refusal_by_form}
use Rattle.gw_cmd.specs.declared.change.Change.{Change}
use Rattle.gw_cmd.specs.declared.change.Change.TheVariants.{Stays, Becomes, Joins, Crosses, Leaves}
use Rattle.gw_cmd.specs.Commands.{command}
use Rattle.gw_cmd.specs.Keys.{command_keys}
use Rattle.gw_cmd.specs.Changes.{changed}
use Rattle.gw_cmd.specs.Refusals.{first_code, refusal_by_tables, refusal}
use Rattle.gw_cmd.specs.Suits.{IsUnused}
use Rattle.gw_cmd.proofs.Covered.{Enters, IsKeptOn, on_command}
use Rattle.gw_cmd.proofs.Kept.{IsKnown, MayMake}
use Rattle.gw_cmd.proofs.KeptSound.{known_place, nowhere_after, sound_is_kept}
use Rattle.gw_cmd.proofs.Lawful.{Lawful}
use Rattle.gw_cmd.proofs.Ready.{ready}
use Rattle.gw_cmd.proofs.Sound.{members-unless_empty, ctx-with_member, ctx-without_member, term-with_member, term-without_member}

-- what a part is and stays, from the maps at a start on
pub record StaysPart (keys : PartKeys) (start m : Maps) : Type 0 where
  pub sound : IsSound keys m
  pub entries : IsPart keys m
  pub grown : Grows keys start m

-- ---- who is a member after a name joined or left

members-joined : (n : CtxNum) (t : List ℕ) (m : Maps) (c : CtxNum) (q : List ℕ) → is_in q (members_of (ctx (with_member n t m) c)) ≡ true → (is_in q (members_of (ctx m c)) ≡ true) ⊎ (bytes_eq q t ≡ true)
members-joined n t m c q h = by (nat_eq c.0 n.0) refl (ap (λ o. is_in q (members_of o)) (sym (ctx-with_member n t m c)) ∙ h)
  where
    by : (b : Bool) → nat_eq c.0 n.0 ≡ b → is_in q (members_of (cond b (Some (joined t (context_of (ctx m n)))) (ctx m c))) ≡ true → (is_in q (members_of (ctx m c)) ≡ true) ⊎ (bytes_eq q t ≡ true)
    by true e i = either (in_pushed q t (members_of (ctx m n)) i) (λ x. inl (ap (λ (y : CtxNum). is_in q (members_of (ctx m y))) (same_number c n e) ∙ x)) (λ x. inr x)
    by false e i = inl i

members-left : (n : CtxNum) (t : List ℕ) (m : Maps) (c : CtxNum) (q : List ℕ) → is_in q (members_of (ctx (without_member n t m) c)) ≡ true → is_in q (members_of (ctx m c)) ≡ true
members-left n t m c q h = by (nat_eq c.0 n.0) refl (ap (λ o. is_in q (members_of o)) (sym (ctx-without_member n t m c)) ∙ h)
  where
    rest : ContextRecord
    rest = left t (context_of (ctx m n))

    by : (b : Bool) → nat_eq c.0 n.0 ≡ b → is_in q (members_of (cond b (unless_empty (left t (context_of (ctx m n)))) (ctx m c))) ≡ true → is_in q (members_of (ctx m c)) ≡ true
    by true e i = ap (λ (y : CtxNum). is_in q (members_of (ctx m y))) (same_number c n e) ∙ in_without t q (members_of (ctx m n)) (ap (is_in q) (sym (members-unless_empty (left t (context_of (ctx m n))))) ∙ i)
    by false e i = i

members-put : (t : List ℕ) (o : Option Termination) (m : Maps) (c : CtxNum) (q : List ℕ) → is_in q (members_of (ctx (put_term m t o) c)) ≡ true → is_in q (members_of (ctx m c)) ≡ true
members-put t o m c q h = ap (λ x. is_in q (members_of x)) (sym (ctx-put_term m t o c)) ∙ h

-- ---- which contexts are there

-- a context that is there after someone left was there before
left_there : (t : List ℕ) (o : Option ContextRecord) → is_some (unless_empty (left t (context_of o))) ≡ true → is_some o ≡ true
left_there t None h = absurd cc
left_there t (Some c) h = refl

ctx-there_joined : (P : CtxNum → Type 0) (n : CtxNum) (t : List ℕ) (m : Maps) → P n → ((c : CtxNum) → is_some (ctx m c) ≡ true → P c) → (c : CtxNum) → is_some (ctx (with_member n t m) c) ≡ true → P c
ctx-there_joined P n t m p f c h = by (nat_eq c.0 n.0) refl (ap (λ o. is_some o) (sym (ctx-with_member n t m c)) ∙ h)
  where
    by : (b : Bool) → nat_eq c.0 n.0 ≡ b → is_some (cond b (Some (joined t (context_of (ctx m n)))) (ctx m c)) ≡ true → P c
    by true e i = subst P (sym (same_number c n e)) p
    by false e i = f c i

ctx-there_left : (P : CtxNum → Type 0) (n : CtxNum) (t : List ℕ) (m : Maps) → ((c : CtxNum) → is_some (ctx m c) ≡ true → P c) → (c : CtxNum) → is_some (ctx (without_member n t m) c) ≡ true → P c
ctx-there_left P n t m f c h = by (nat_eq c.0 n.0) refl (ap (λ o. is_some o) (sym (ctx-without_member n t m c)) ∙ h)
  where
    by : (b : Bool) → nat_eq c.0 n.0 ≡ b → is_some (cond b (unless_empty (left t (context_of (ctx m n)))) (ctx m c)) ≡ true → P c
    by true e i = subst P (sym (same_number c n e)) (f n (left_there t (ctx m n) i))
    by false e i = f c i

-- what holds of each context that is there holds after a change that enters one of which it holds
pub ctx-there : (P : CtxNum → Type 0) (t : List ℕ) (change : Change) (m : Maps) → Enters P change → ((c : CtxNum) → is_some (ctx m c) ≡ true → P c) → (c : CtxNum) → is_some (ctx (changed t change m) c) ≡ true → P c
ctx-there P t Stays m e f = f
ctx-there P t (Becomes r) m e f = λ c h. f c (ap (λ o. is_some o) (sym (ctx-put_term m t (Some r) c)) ∙ h)
ctx-there P t (Joins n r) m e f = ctx-there_joined P n t (put_term m t (Some r)) e (λ c h. f c (ap (λ o. is_some o) (sym (ctx-put_term m t (Some r) c)) ∙ h))
ctx-there P t (Crosses p n r) m e f = ctx-there_joined P n t (without_member p t (put_term m t (Some r))) e (ctx-there_left P p t (put_term m t (Some r)) (λ c h. f c (ap (λ o. is_some o) (sym (ctx-put_term m t (Some r) c)) ∙ h)))
ctx-there P t (Leaves n o) m e f = ctx-there_left P n t (put_term m t o) (λ c h. f c (ap (λ x. is_some x) (sym (ctx-put_term m t o c)) ∙ h))

-- ---- one change

-- the record of the name after a change
record_after : Change → Option Termination → Option Termination
record_after Stays old = old
record_after (Becomes r) old = Some r
record_after (Joins n r) old = Some r
record_after (Crosses p n r) old = Some r
record_after (Leaves n o) old = o

term-changed : (t : List ℕ) (change : Change) (m : Maps) (q : List ℕ) → term (changed t change m) q ≡ cond (bytes_eq q t) (record_after change (term m t)) (term m q)
unfolding record_after
term-changed t Stays m q = by (bytes_eq q t) (same_name q t)
  where
    by : (b : Bool) → (b ≡ true → q ≡ t) → term m q ≡ cond b (term m t) (term m q)
    by true is = ap (λ (y : List ℕ). term m y) (is refl)
    by false is = refl
term-changed t (Becomes r) m q = term-put_term m t (Some r) q
term-changed t (Joins n r) m q = term-with_member n t (put_term m t (Some r)) q ∙ term-put_term m t (Some r) q
term-changed t (Crosses p n r) m q = term-with_member n t (without_member p t (put_term m t (Some r))) q ∙ term-without_member p t (put_term m t (Some r)) q ∙ term-put_term m t (Some r) q
term-changed t (Leaves n o) m q = term-without_member n t (put_term m t o) q ∙ term-put_term m t o q

module _ (rules : Rules) (keys : PartKeys) {makes : ℕ → Type 0} (v : Verb) (place : Option CtxNum) (t : List ℕ) (r : Termination) (m : Maps) (k : holds keys (Term t) ≡ true) (i : IsKnown makes t r m) where
  entries_changed : (change : Change) → IsPart keys m → Enters (λ n. holds keys (Ctx n) ≡ true) change → IsPart keys (changed t change m)
  entries_changed change p e = record {
    terms = λ q h. at q (bytes_eq q t) refl (ap (λ o. is_some o) (sym (term-changed t change m q)) ∙ h);
    contexts = ctx-there (λ n. holds keys (Ctx n) ≡ true) t change m e p.contexts;
  }
    where
      at : (q : List ℕ) (b : Bool) → bytes_eq q t ≡ b → is_some (cond b (record_after change (term m t)) (term m q)) ≡ true → holds keys (Term q) ≡ true
      at q true a h = subst (λ (y : List ℕ). holds keys (Term y) ≡ true) (sym (same_name q t a)) k
      at q false a h = p.terms q h

  -- a record that is in another place than before is in a context that is a key
  new_place : (change : Change) (c : CtxNum) → Lawful rules v place r change m → Enters (λ n. holds keys (Ctx n) ≡ true) change → place_of (record_after change (term m t)) ≡ Some c → (place_of (term m t) ≡ Some c) ⊎ (holds keys (Ctx c) ≡ true)
  unfolding record_after
  new_place Stays c l e h = inl h
  new_place (Becomes new) c l e h = inl (known_place t r m i ∙ l.0 ∙ sym l.1 ∙ h)
  new_place (Joins n new) c l e h = let same : n ≡ c = (let both : Some n ≡ Some c = sym l.2 ∙ h in cc) in inr (subst (λ (y : CtxNum). holds keys (Ctx y) ≡ true) same e)
  new_place (Crosses p n new) c l e h = let same : n ≡ c = (let both : Some n ≡ Some c = sym l.3 ∙ h in cc) in inr (subst (λ (y : CtxNum). holds keys (Ctx y) ≡ true) same e)
  new_place (Leaves n o) c l e h = let none : None ≡ Some c = sym (nowhere_after r o l.2) ∙ h in absurd cc

  it_or : (c : CtxNum) (q : List ℕ) → (is_in q (members_of (ctx m c)) ≡ true) ⊎ (bytes_eq q t ≡ true) → (is_in q (members_of (ctx m c)) ≡ true) ⊎ (holds keys (Term q) ≡ true)
  it_or c q x = either x (λ a. inl a) (λ a. inr (subst (λ (y : List ℕ). holds keys (Term y) ≡ true) (sym (same_name q t a)) k))

  new_members : (change : Change) (c : CtxNum) (q : List ℕ) → is_in q (members_of (ctx (changed t change m) c)) ≡ true → (is_in q (members_of (ctx m c)) ≡ true) ⊎ (bytes_eq q t ≡ true)
  new_members Stays c q h = inl h
  new_members (Becomes new) c q h = inl (members-put t (Some new) m c q h)
  new_members (Joins n new) c q h = either (members-joined n t (put_term m t (Some new)) c q h) (λ x. inl (members-put t (Some new) m c q x)) (λ x. inr x)
  new_members (Crosses p n new) c q h = either (members-joined n t (without_member p t (put_term m t (Some new))) c q h) (λ x. inl (members-put t (Some new) m c q (members-left p t (put_term m t (Some new)) c q x))) (λ x. inr x)
  new_members (Leaves n o) c q h = inl (members-put t o m c q (members-left n t (put_term m t o) c q h))

  grown_changed : (change : Change) → Lawful rules v place r change m → Enters (λ n. holds keys (Ctx n) ≡ true) change → Grows keys m (changed t change m)
  grown_changed change l e = record {
    places = λ q c h. at q c (bytes_eq q t) refl (ap (λ o. place_of o) (sym (term-changed t change m q)) ∙ h);
    members = λ c q h. it_or c q (new_members change c q h);
  }
    where
      at : (q : List ℕ) (c : CtxNum) (b : Bool) → bytes_eq q t ≡ b → place_of (cond b (record_after change (term m t)) (term m q)) ≡ Some c → (place_of (term m q) ≡ Some c) ⊎ (holds keys (Ctx c) ≡ true)
      at q c true a h = either (new_place change c l e h) (λ x. inl (ap (λ (y : List ℕ). place_of (term m y)) (same_name q t a) ∙ x)) (λ x. inr x)
      at q c false a h = inl h

part_is_kept : (rules : Rules) (keys : PartKeys) (start : Maps) → IsKeptOn rules keys (λ n. holds keys (Ctx n) ≡ true) (λ _. Unit {0}) (StaysPart keys start)
part_is_kept rules keys start = record {
  changes = λ v place t r change m p k i l e. record {
    sound = (sound_is_kept rules keys (λ _. Unit {0})).changes v place t r change m p.sound k i l;
    entries = entries_changed rules keys v place t r m k i change p.entries e;
    grown = grows_on keys start m (changed t change m) p.grown (grown_changed rules keys v place t r m k i change l e);
  };
}

any : (slot : Option ℕ) → MayMake (λ _. Unit {0}) slot
any None = tt
any (Some s) = tt

-- ---- a command

no_code : (at : At) (slot : Option ℕ) (c : Command) (m : Maps) → refusal at slot c m ≡ None → (refusal_by_form at c ≡ None) × (refusal_by_tables at slot c m ≡ None)
no_code at slot c m h = by (refusal_by_form at c) (refusal_by_tables at slot c m) h
  where
    by : (x y : Option Code) → first_code x y ≡ None → (x ≡ None) × (y ≡ None)
    by (Some code) y e = absurd cc
    by None (Some code) e = absurd cc
    by None None e = (refl, refl)

pub part_kept : (rules : Rules) (keys : PartKeys) (start : Maps) (at : At) (slot : Option ℕ) (c : Command) (m : Maps) → Holds keys (command_keys at slot c m) → IsUnused slot m → StaysPart keys start m → StaysPart keys start (command rules at slot c m).maps
part_kept rules keys start at slot c m covered u s =
    on_command rules keys (λ n. holds keys (Ctx n) ≡ true) (λ _. Unit {0}) (part_is_kept rules keys start) at slot c m covered
    (λ none n e. let two = no_code at slot c m none in subst (HoldsPlace keys) e (ready keys at slot c m covered two.0 two.1).place)
    u (any slot) s
