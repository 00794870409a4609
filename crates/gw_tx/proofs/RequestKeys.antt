-- The keys of a command alone are those of a request of its own, and when a request has every key.
use Rattle.std.proofs.Common.{◌≡◌, ℕ, Bool, true, false, List, [], ◌∷◌, ◌++◌, Option, None, Some, refl, sym, ap, ◌∙◌}
use Rattle.std.specs.Prelude.{◌||◌}
use Rattle.std.specs.List.{flat_map, list_any}
use Rattle.gw_base.specs.declared.ids.CtxNum.{CtxNum}
use Rattle.gw_base.specs.declared.command_words.CtxRef.{CtxRef}
use Rattle.gw_base.specs.declared.command_words.CtxRef.TheVariants as ref
use Rattle.gw_base.specs.declared.key.Key.{Key}
use Rattle.gw_base.specs.declared.key.Key.TheVariants.{Ctx, Whole}
use Rattle.gw_base.specs.declared.term_ref.TermRef.{TermRef}
use Rattle.gw_base.specs.declared.term_ref.TermRef.TheVariants as term_ref
use Rattle.gw_base.specs.Keys.{has, same_key}
use Rattle.gw_base.proofs.KeyTests.{names_no_whole}
use Rattle.gw_msg.specs.declared.message.Command.{Command}
use Rattle.gw_table.specs.Maps.{Maps, term, ctx, place_of, members_of}
use Rattle.gw_table.specs.Parts.{PartKeys, Only, Holds}
use Rattle.gw_refusal.specs.declared.at.At.{At}
use Rattle.gw_refusal.specs.declared.at.At.TheVariants.{Null, Live, Unmade, Each}
use Rattle.gw_refusal.specs.Requested.{is_add}
use Rattle.gw_cmd.specs.Keys.{every_key, is_for_all, keys_if, place_key, name_keys, slot_key, action_keys, member_keys, term_keys, command_keys}
use Rattle.gw_cmd.proofs.Ready.{among_all, among_action, among_term}
use Rattle.gw_reserve.specs.Owned.{OwnedAction}
use Rattle.gw_tx.specs.Footprints.{is_for_each, one_context, stands_for_all, keys_of_members, named_keys, keys_in_action, keys_of_links, footprint_of, is_whole_table, list_keys, sent_for, owned_for, alone}
use Rattle.gw_tx.specs.Properties.{linked_names}
use Rattle.gw_tx.proofs.HeldKeys.{footprint_in, both_held, left_held, none_held, in_null, in_live, in_unmade, in_each}

-- ---- a command alone

module _ (at : At) (slot : Option ℕ) (c : Command) (m : Maps) where
  keys : List Key
  keys = command_keys at slot c m

  -- each key of its request is one of its own
  of_every : (b : Bool) → (b ≡ true → is_for_all at c ≡ true) → Holds (Only keys) (keys_if b (every_key m))
  unfolding keys
  of_every true f = λ k h. among_all at slot c m k (f refl) h
  of_every false f = none_held (Only (command_keys at slot c m))

  of_place : (o : Option CtxNum) → ((n : CtxNum) → o ≡ Some n → action_keys at ≡ Ctx n ∷ []) → Holds (Only keys) (place_key o)
  unfolding keys
  of_place None f = none_held (Only (command_keys at slot c m))
  of_place (Some n) f = λ k h. among_action at slot c m k (ap (λ (l : List Key). has l k) (f n refl) ∙ h)

  of_named : (o : Option CtxNum) → ((k : Key) → has (keys_of_members o m) k ≡ true → has (member_keys at m) k ≡ true) → (r : TermRef) → c.term ≡ r → Holds (Only keys) (named_keys o slot c m r)
  unfolding keys
  of_named o f (term_ref.Name t) e = λ k h. among_term at slot c m k (ap (λ (x : TermRef). has (term_keys at slot c m x) k) e ∙ h)
  of_named o f term_ref.Choose e = λ k h. among_term at slot c m k (ap (λ (x : TermRef). has (term_keys at slot c m x) k) e ∙ h)
  of_named o f term_ref.All e = λ k h. among_term at slot c m k (ap (λ (x : TermRef). has (term_keys at slot c m x) k) e ∙ f k h)
  of_named o f (term_ref.Under p) e = λ k h. among_term at slot c m k (ap (λ (x : TermRef). has (term_keys at slot c m x) k) e ∙ f k h)
  of_named o f term_ref.Root e = λ k h. absurd cc
  of_named o f (term_ref.Other t) e = λ k h. absurd cc

  of_parts : (sent : CtxRef) (owned : Option CtxNum) → (is_for_each sent ≡ true → is_for_all at c ≡ true) → (stands_for_all sent c ≡ true → is_for_all at c ≡ true) → ((n : CtxNum) → one_context sent owned ≡ Some n → action_keys at ≡ Ctx n ∷ []) → ((k : Key) → has (keys_of_members (one_context sent owned) m) k ≡ true → has (member_keys at m) k ≡ true)
      → Holds (Only keys) (footprint_in m ((slot, c) ∷ []) sent owned)
  of_parts sent owned e s p f =
      both_held (Only keys) (keys_if (is_for_each sent) (every_key m) ++ place_key (one_context sent owned)) (keys_in_action sent owned m (slot, c) ++ [])
      (both_held (Only keys) (keys_if (is_for_each sent) (every_key m)) (place_key (one_context sent owned)) (of_every (is_for_each sent) e) (of_place (one_context sent owned) p))
      (both_held (Only keys) (keys_in_action sent owned m (slot, c)) []
      (both_held (Only keys) (keys_if (stands_for_all sent c) (every_key m)) (named_keys (one_context sent owned) slot c m c.term) (of_every (stands_for_all sent c) s) (of_named (one_context sent owned) f c.term refl))
      (none_held (Only keys)))

same_place_key : (n k : CtxNum) → Some n ≡ Some k → Ctx n ∷ [] ≡ Ctx k ∷ []
same_place_key n k e = let same : n ≡ k = cc in ap (λ (x : CtxNum). Ctx x ∷ []) same

theirs : (at : At) (slot : Option ℕ) (c : Command) (m : Maps) → Holds (Only (command_keys at slot c m)) (footprint_in m ((slot, c) ∷ []) (sent_for at) (owned_for at))
unfolding keys
theirs Null slot c m = of_parts Null slot c m ref.Null None (λ e. absurd cc) (λ e. e) (λ n e. absurd cc) (λ k h. h)
theirs (Live n) slot c m = of_parts (Live n) slot c m (ref.Num n) None (λ e. absurd cc) (λ e. e) (same_place_key n) (λ k h. h)
theirs (Unmade n) slot c m = of_parts (Unmade n) slot c m ref.Choose (Some n) (λ e. absurd cc) (λ e. e) (same_place_key n) (λ k h. h)
theirs (Each n) slot c m = of_parts (Each n) slot c m ref.All None (λ e. refl) (λ e. refl) (λ k e. absurd cc) (λ k h. h)

its_own : (at : At) (slot : Option ℕ) (c : Command) (m : Maps) (all : List Key) → Holds (Only all) (footprint_in m ((slot, c) ∷ []) (sent_for at) (owned_for at)) → Holds (Only all) (list_keys at ((slot, c) ∷ []) m)
its_own Null slot c m all h = in_null (Only all) m ((slot, c) ∷ []) ref.Null None refl h
its_own (Live n) slot c m all h = in_live (Only all) m ((slot, c) ∷ []) (ref.Num n) None n refl h
its_own (Unmade n) slot c m all h = in_unmade (Only all) m ((slot, c) ∷ []) ref.Choose (Some n) n refl refl h
its_own (Each n) slot c m all h = in_each (Only all) m ((slot, c) ∷ []) ref.All None n refl h

both_ways : (a b : Bool) → (a ≡ true → b ≡ true) → (b ≡ true → a ≡ true) → a ≡ b
both_ways true b f g = sym (f refl)
both_ways false true f g = g refl
both_ways false false f g = refl

pub command_alone : (at : At) (slot : Option ℕ) (c : Command) (m : Maps) (k : Key) → has (footprint_of (alone at slot c ∷ []) m) k ≡ has (command_keys at slot c m) k
command_alone at slot c m k =
    let mine : List Key = footprint_in m ((slot, c) ∷ []) (sent_for at) (owned_for at) in
    let keys : PartKeys = Only (command_keys at slot c m) in
    let all : PartKeys = Only ((mine ++ []) ++ []) in
    both_ways (has ((mine ++ []) ++ []) k) (has (command_keys at slot c m) k)
    (both_held keys (mine ++ []) [] (both_held keys mine [] (theirs at slot c m) (none_held keys)) (none_held keys) k)
    (left_held all (command_keys at slot c m) [] (its_own at slot c m ((mine ++ []) ++ []) (left_held all mine [] (left_held all (mine ++ []) [] (λ q h. h)))) k)

-- ---- every key

pub has-append : (a b : List Key) → has (a ++ b) Whole ≡ (has a Whole || has b Whole)
has-append [] b = refl
has-append (x ∷ xs) b = by (same_key Whole x) (has-append xs b)
  where
    by : (d : Bool) → has (xs ++ b) Whole ≡ (has xs Whole || has b Whole) → (d || has (xs ++ b) Whole) ≡ ((d || has xs Whole) || has b Whole)
    by true e = refl
    by false e = e

in_every : (b : Bool) (m : Maps) → has (keys_if b (every_key m)) Whole ≡ b
in_every true m = refl
in_every false m = refl

pub no_place : (o : Option CtxNum) → has (place_key o) Whole ≡ false
no_place None = refl
no_place (Some n) = refl

no_members : (o : Option CtxNum) (m : Maps) → has (keys_of_members o m) Whole ≡ false
no_members None m = refl
no_members (Some n) m = names_no_whole (members_of (ctx m n))

no_slot : (b : Bool) (slot : Option ℕ) → has (keys_if b (slot_key slot)) Whole ≡ false
no_slot true None = refl
no_slot true (Some s) = refl
no_slot false slot = refl

pub no_named : (o : Option CtxNum) (slot : Option ℕ) (c : Command) (m : Maps) (r : TermRef) → has (named_keys o slot c m r) Whole ≡ false
no_named o slot c m (term_ref.Name t) = no_place (place_of (term m t))
no_named o slot c m term_ref.Choose = no_slot (is_add c.verb) slot
no_named o slot c m term_ref.All = no_members o m
no_named o slot c m (term_ref.Under p) = no_members o m
no_named o slot c m term_ref.Root = refl
no_named o slot c m (term_ref.Other t) = refl

or_false_is : (a b : Bool) → b ≡ false → (a || b) ≡ a
or_false_is true b e = refl
or_false_is false b e = e

in_commands : (sent : CtxRef) (owned : Option CtxNum) (m : Maps) (ps : List (Option ℕ × Command)) → has (flat_map (keys_in_action sent owned m) ps) Whole ≡ list_any (λ p. stands_for_all sent p.1) ps
in_commands sent owned m [] = refl
in_commands sent owned m (p ∷ ps) =
    let every : List Key = keys_if (stands_for_all sent p.1) (every_key m) in
    let named : List Key = named_keys (one_context sent owned) p.0 p.1 m p.1.term in
    has-append (every ++ named) (flat_map (keys_in_action sent owned m) ps)
    ∙ ap (λ (b : Bool). b || has (flat_map (keys_in_action sent owned m) ps) Whole) (has-append every named ∙ or_false_is (has every Whole) (has named Whole) (no_named (one_context sent owned) p.0 p.1 m p.1.term) ∙ in_every (stands_for_all sent p.1) m)
    ∙ ap (λ (b : Bool). stands_for_all sent p.1 || b) (in_commands sent owned m ps)

pub no_links : (m : Maps) (names : List (List ℕ)) → has (flat_map (λ t. name_keys t m) names) Whole ≡ false
no_links m [] = refl
no_links m (t ∷ ts) =
    has-append (name_keys t m) (flat_map (λ t. name_keys t m) ts)
    ∙ ap (λ (b : Bool). b || has (flat_map (λ t. name_keys t m) ts) Whole) (no_place (place_of (term m t)))
    ∙ no_links m ts

pub whole_key : (m : Maps) (actions : List OwnedAction) → has (footprint_of actions m) Whole ≡ list_any is_whole_table actions
whole_key m [] = refl
whole_key m (a ∷ more) =
    let every : List Key = keys_if (is_for_each a.sent.ctx) (every_key m) in
    let one : List Key = place_key (one_context a.sent.ctx a.number) in
    let requested : List Key = flat_map (keys_in_action a.sent.ctx a.number m) a.commands in
    let links : List Key = keys_of_links a m in
    has-append (every ++ one ++ requested ++ links) (footprint_of more m)
    ∙ ap (λ (b : Bool). b || has (footprint_of more m) Whole) (has-append (every ++ one ++ requested) links
    ∙ or_false_is (has (every ++ one ++ requested) Whole) (has links Whole) (no_links m (linked_names a.sent.props))
    ∙ has-append (every ++ one) requested
    ∙ ap (λ (b : Bool). b || has requested Whole) (has-append every one ∙ or_false_is (has every Whole) (has one Whole) (no_place (one_context a.sent.ctx a.number)) ∙ in_every (is_for_each a.sent.ctx) m)
    ∙ ap (λ (b : Bool). is_for_each a.sent.ctx || b) (in_commands a.sent.ctx a.number m a.commands))
    ∙ ap (λ (b : Bool). is_whole_table a || b) (whole_key m more)
