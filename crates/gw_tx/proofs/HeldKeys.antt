-- Keys that a part holds, and goes on holding while commands change it.
use Rattle.std.proofs.lemmas.Grind.{common_steps}
use Rattle.std.proofs.Common.{nat_eq, ◌≡◌, ℕ, zero, suc, ◌<◌, Bool, true, false, List, [], ◌∷◌, ◌++◌, length, get_or, map, Option, None, Some, is_some, refl, sym, ap, subst, ◌∙◌, arith}
use Rattle.std.specs.Prelude.{◌||◌, All}
use Rattle.std.specs.List.{flat_map, list_any}
use Rattle.std.specs.FinMap as finite
use Rattle.std.specs.FinMap.{contains_key-keys}
use Rattle.std.specs.Ordering.{eq_by_cmp, nat_cmp}
use Rattle.gw_base.specs.declared.ids.CtxNum.{CtxNum}
use Rattle.gw_base.specs.declared.command_words.CtxRef.{CtxRef}
use Rattle.gw_base.specs.declared.command_words.CtxRef.TheVariants as ref
use Rattle.gw_base.specs.declared.key.Key.{Key}
use Rattle.gw_base.specs.declared.key.Key.TheVariants.{Term, Ctx, Whole}
use Rattle.gw_base.specs.declared.term_ref.TermRef.{TermRef}
use Rattle.gw_base.specs.declared.term_ref.TermRef.TheVariants as term_ref
use Rattle.gw_base.specs.Keys.{has, same_key}
use Rattle.gw_base.proofs.KeyTests.{any-append_cases, any-append_left, any-append_right, has-head, has-tail, has-names, names_no_ctx, names_no_whole}
use Rattle.gw_base.proofs.NamesInLists.{either}
use Rattle.gw_base.proofs.NameTests.{number_test, same_number}
use Rattle.gw_msg.specs.declared.message.Command.{Command}
use Rattle.gw_table.specs.Maps.{Maps, term, ctx, names, numbers, number, place_of, members_of}
use Rattle.gw_table.specs.Parts.{PartKeys, IsPart, holds, Holds}
use Rattle.gw_table.proofs.Growth.{Grows}
use Rattle.gw_refusal.specs.declared.at.At.{At}
use Rattle.gw_refusal.specs.declared.at.At.TheVariants.{Null, Live, Unmade, Each}
use Rattle.gw_refusal.specs.Places.{made}
use Rattle.gw_cmd.specs.Keys.{every_key, is_for_all, keys_if, action_keys, place_key, name_keys, member_keys, term_keys, command_keys}
use Rattle.gw_cmd.proofs.Locality.{entered_name}
use Rattle.gw_cmd.proofs.Ready.{same_any}
use Rattle.gw_reserve.specs.Owned.{OwnedAction}
use Rattle.gw_tx.specs.Footprints.{is_for_each, one_context, stands_for_all, keys_of_members, named_keys, keys_in_action, keys_of_links, action_footprint, list_keys}
use Rattle.gw_tx.specs.Properties.{linked_names}

-- the keys of an action but for its links, by its parts
abbrev pub footprint_in : Maps → List (Option ℕ × Command) → CtxRef → Option CtxNum → List Key
footprint_in m ps sent owned = keys_if (is_for_each sent) (every_key m) ++ place_key (one_context sent owned) ++ flat_map (keys_in_action sent owned m) ps

-- ---- lists of keys

module _ (keys : PartKeys) where
  pub both_held : (a b : List Key) → Holds keys a → Holds keys b → Holds keys (a ++ b)
  both_held a b h g k i = either (any-append_cases (same_key k) a b i) (λ x. h k x) (λ x. g k x)

  pub left_held : (a b : List Key) → Holds keys (a ++ b) → Holds keys a
  left_held a b h k i = h k (any-append_left (same_key k) a b i)

  pub right_held : (a b : List Key) → Holds keys (a ++ b) → Holds keys b
  right_held a b h k i = h k (any-append_right (same_key k) a b i)

  pub none_held : Holds keys []
  none_held k i = absurd cc

  one_held : (c : CtxNum) → holds keys (Ctx c) ≡ true → Holds keys (Ctx c ∷ [])
  one_held c h (Term t) i = absurd cc
  one_held c h Whole i = absurd cc
  one_held c h (Ctx n) i = by (nat_eq n.0 c.0) refl i
    where
      by : (b : Bool) → nat_eq n.0 c.0 ≡ b → (b || false) ≡ true → holds keys (Ctx n) ≡ true
      by true e j = ap (λ (y : CtxNum). holds keys (Ctx y)) (same_number n c e) ∙ h
      by false e j = absurd cc

  -- what holds of the keys of each item holds of those of all
  pub each_held : {X : Type 0} (f g : X → List Key) → ((x : X) → Holds keys (f x) → Holds keys (g x)) → (xs : List X) → Holds keys (flat_map f xs) → Holds keys (flat_map g xs)
  each_held f g each [] h = none_held
  each_held f g each (x ∷ xs) h = both_held (g x) (flat_map g xs) (each x (left_held (f x) (flat_map f xs) h)) (each_held f g each xs (right_held (f x) (flat_map f xs) h))

  -- ---- every key

  numbered_there : (m : Maps) (n : CtxNum) → has (map Ctx (numbers m)) (Ctx n) ≡ true → is_some (ctx m n) ≡ true
  numbered_there m n h = contains_key-keys m.contexts n.0 ∙ same_any (λ q. eq_by_cmp nat_cmp n.0 q) (nat_eq n.0) (finite.keys m.contexts) (number_test n.0) ∙ listed (finite.keys m.contexts) h
    where
      listed : (l : List ℕ) → has (map Ctx (map number l)) (Ctx n) ≡ true → list_any (nat_eq n.0) l ≡ true
      listed [] i = i
      listed (x ∷ xs) i = by (nat_eq n.0 x) (has (map Ctx (map number xs)) (Ctx n)) refl i (listed xs)
        where
          by : (b d : Bool) → has (map Ctx (map number xs)) (Ctx n) ≡ d → (b || d) ≡ true → (has (map Ctx (map number xs)) (Ctx n) ≡ true → list_any (nat_eq n.0) xs ≡ true) → (b || list_any (nat_eq n.0) xs) ≡ true
          by true d e j f = refl
          by false d e j f = f (e ∙ j)

  -- each number of a context is a key
  pub numbers_held : (m : Maps) → IsPart keys m → All (λ n. holds keys (Ctx n) ≡ true) (numbers m)
  numbers_held m p k d h = p.contexts (get_or (numbers m) k d) (numbered_there m (get_or (numbers m) k d) (listed (numbers m) k h))
    where
      listed : (l : List CtxNum) (k : ℕ) → k < length l → has (map Ctx l) (Ctx (get_or l k d)) ≡ true
      listed [] k h = absurd (omega arith)
      listed (x ∷ xs) zero h = has-head (Ctx x) (map Ctx xs)
      listed (x ∷ xs) (suc k) h = has-tail (Ctx x) (Ctx (get_or xs k d)) (map Ctx xs) (listed xs k (omega arith))

  no_name : (l : List CtxNum) (t : List ℕ) → has (map Ctx l) (Term t) ≡ false
  no_name [] t = refl
  no_name (n ∷ ns) t = no_name ns t

  pub every_held : (m : Maps) → IsPart keys m → holds keys Whole ≡ true → Holds keys (every_key m)
  every_held m p w Whole i = w
  every_held m p w (Term t) i =
      either (any-append_cases (same_key (Term t)) (map Term (names m)) (map Ctx (numbers m)) i)
      (λ x. p.terms t (entered_name m t (sym (has-names (names m) t) ∙ x)))
      (λ x. let clash : true ≡ false = sym x ∙ no_name (numbers m) t in cc)
  every_held m p w (Ctx n) i =
      either (any-append_cases (same_key (Ctx n)) (map Term (names m)) (map Ctx (numbers m)) i)
      (λ x. let clash : true ≡ false = sym x ∙ names_no_ctx (names m) n in cc)
      (λ x. p.contexts n (numbered_there m n x))

  -- ---- while it grows: one that has the whole has no entry but at its keys

  module _ (s m : Maps) (p : holds keys Whole ≡ true → IsPart keys m) (g : Grows keys s m) where
    every_stays : (b : Bool) → Holds keys (keys_if b (every_key s)) → Holds keys (keys_if b (every_key m))
    every_stays true h = let w : holds keys Whole ≡ true = h Whole (has-head Whole (map Term (names s) ++ map Ctx (numbers s))) in every_held m (p w) w
    every_stays false h = none_held

    name_stays : (t : List ℕ) → Holds keys (name_keys t s) → Holds keys (name_keys t m)
    name_stays t h = both_held (Term t ∷ []) (place_key (place_of (term m t))) (left_held (Term t ∷ []) (place_key (place_of (term s t))) h) (at (place_of (term m t)) refl)
      where
        at : (o : Option CtxNum) → place_of (term m t) ≡ o → Holds keys (place_key o)
        at None e = none_held
        at (Some c) e = one_held c (either (g.places t c e) (λ x. h (Ctx c) (ap (λ (o : Option CtxNum). has (Term t ∷ place_key o) (Ctx c)) x ∙ has-tail (Term t) (Ctx c) (Ctx c ∷ []) (has-head (Ctx c) []))) (λ x. x))

    members_stay : (n : CtxNum) → Holds keys (map Term (members_of (ctx s n))) → Holds keys (map Term (members_of (ctx m n)))
    members_stay n h (Term t) i = either (g.members n t (sym (has-names (members_of (ctx m n)) t) ∙ i)) (λ x. h (Term t) (has-names (members_of (ctx s n)) t ∙ x)) (λ x. x)
    members_stay n h (Ctx c) i = let clash : true ≡ false = sym i ∙ names_no_ctx (members_of (ctx m n)) c in cc
    members_stay n h Whole i = let clash : true ≡ false = sym i ∙ names_no_whole (members_of (ctx m n)) in cc

    in_action_stays : (at : At) → Holds keys (member_keys at s) → Holds keys (member_keys at m)
    in_action_stays Null h = h
    in_action_stays (Live n) h = members_stay n h
    in_action_stays (Unmade n) h = members_stay n h
    in_action_stays (Each n) h = h

    term_stays : (at : At) (slot : Option ℕ) (c : Command) (r : TermRef) → Holds keys (term_keys at slot c s r) → Holds keys (term_keys at slot c m r)
    term_stays at slot c (term_ref.Name t) h = name_stays t h
    term_stays at slot c term_ref.Choose h = h
    term_stays at slot c term_ref.All h = in_action_stays at h
    term_stays at slot c (term_ref.Under prefix) h = in_action_stays at h
    term_stays at slot c term_ref.Root h = h
    term_stays at slot c (term_ref.Other text) h = h

    -- the keys of a command
    pub command_stays : (at : At) (slot : Option ℕ) (c : Command) → Holds keys (command_keys at slot c s) → Holds keys (command_keys at slot c m)
    unfolding command_keys
    command_stays at slot c h =
        let all : List Key = keys_if (is_for_all at c) (every_key s) in
        let front : Holds keys (all ++ action_keys at) = left_held (all ++ action_keys at) (term_keys at slot c s c.term) h in
        both_held (keys_if (is_for_all at c) (every_key m) ++ action_keys at) (term_keys at slot c m c.term)
        (both_held (keys_if (is_for_all at c) (every_key m)) (action_keys at) (every_stays (is_for_all at c) (left_held all (action_keys at) front)) (right_held all (action_keys at) front))
        (term_stays at slot c c.term (right_held (all ++ action_keys at) (term_keys at slot c s c.term) h))

    named_stays : (one : Option CtxNum) (slot : Option ℕ) (c : Command) (r : TermRef) → Holds keys (named_keys one slot c s r) → Holds keys (named_keys one slot c m r)
    named_stays one slot c (term_ref.Name t) h = name_stays t h
    named_stays one slot c term_ref.Choose h = h
    named_stays None slot c term_ref.All h = h
    named_stays (Some n) slot c term_ref.All h = members_stay n h
    named_stays None slot c (term_ref.Under prefix) h = h
    named_stays (Some n) slot c (term_ref.Under prefix) h = members_stay n h
    named_stays one slot c term_ref.Root h = h
    named_stays one slot c (term_ref.Other text) h = h

    asked_stays : (sent : CtxRef) (owned : Option CtxNum) (q : Option ℕ × Command) → Holds keys (keys_in_action sent owned s q) → Holds keys (keys_in_action sent owned m q)
    asked_stays sent owned q h =
        let all : List Key = keys_if (stands_for_all sent q.1) (every_key s) in
        let named : List Key = named_keys (one_context sent owned) q.0 q.1 s q.1.term in
        both_held (keys_if (stands_for_all sent q.1) (every_key m)) (named_keys (one_context sent owned) q.0 q.1 m q.1.term)
        (every_stays (stands_for_all sent q.1) (left_held all named h))
        (named_stays (one_context sent owned) q.0 q.1 q.1.term (right_held all named h))

    -- the keys of an action
    commands_stay : (ps : List (Option ℕ × Command)) (sent : CtxRef) (owned : Option CtxNum) → Holds keys (footprint_in s ps sent owned) → Holds keys (footprint_in m ps sent owned)
    commands_stay ps sent owned h =
        let all : List Key = keys_if (is_for_each sent) (every_key s) in
        let one : List Key = place_key (one_context sent owned) in
        let requested : Maps → List Key = λ n. flat_map (keys_in_action sent owned n) ps in
        let front : Holds keys (all ++ one) = left_held (all ++ one) (requested s) h in
        both_held (keys_if (is_for_each sent) (every_key m) ++ one) (requested m)
        (both_held (keys_if (is_for_each sent) (every_key m)) one (every_stays (is_for_each sent) (left_held all one front)) (right_held all one front))
        (each_held (keys_in_action sent owned s) (keys_in_action sent owned m) (asked_stays sent owned) ps (right_held (all ++ one) (requested s) h))

    pub action_stays : (a : OwnedAction) → Holds keys (action_footprint a s) → Holds keys (action_footprint a m)
    action_stays a h =
        both_held (footprint_in m a.commands a.sent.ctx a.number) (keys_of_links a m)
        (commands_stay a.commands a.sent.ctx a.number (left_held (footprint_in s a.commands a.sent.ctx a.number) (keys_of_links a s) h))
        (each_held (λ t. name_keys t s) (λ t. name_keys t m) name_stays (linked_names a.sent.props) (right_held (footprint_in s a.commands a.sent.ctx a.number) (keys_of_links a s) h))

  -- ---- the keys of an action are those of its commands, in the context that it is for

  pub without_links : (a : OwnedAction) (m : Maps) → Holds keys (action_footprint a m) → Holds keys (footprint_in m a.commands a.sent.ctx a.number)
  without_links a m h = left_held (footprint_in m a.commands a.sent.ctx a.number) (keys_of_links a m) h

  module _ (m : Maps) where
    same_term : (at : At) (one : Option CtxNum) (slot : Option ℕ) (c : Command) (r : TermRef) → (Holds keys (keys_of_members one m) → Holds keys (member_keys at m)) → Holds keys (named_keys one slot c m r) → Holds keys (term_keys at slot c m r)
    same_term at one slot c (term_ref.Name t) e h = h
    same_term at one slot c term_ref.Choose e h = h
    same_term at one slot c term_ref.All e h = e h
    same_term at one slot c (term_ref.Under prefix) e h = e h
    same_term at one slot c term_ref.Root e h = h
    same_term at one slot c (term_ref.Other text) e h = h

    in_context : (at : At) (sent : CtxRef) (owned : Option CtxNum) → (Holds keys (keys_of_members (one_context sent owned) m) → Holds keys (member_keys at m)) → ((c : Command) → Holds keys (keys_if (stands_for_all sent c) (every_key m)) → Holds keys (keys_if (is_for_all at c) (every_key m))) → Holds keys (action_keys at)
        → (q : Option ℕ × Command) → Holds keys (keys_in_action sent owned m q) → Holds keys (command_keys at q.0 q.1 m)
    unfolding command_keys
    in_context at sent owned members all there q h =
        let every : List Key = keys_if (stands_for_all sent q.1) (every_key m) in
        let named : List Key = named_keys (one_context sent owned) q.0 q.1 m q.1.term in
        both_held (keys_if (is_for_all at q.1) (every_key m) ++ action_keys at) (term_keys at q.0 q.1 m q.1.term)
        (both_held (keys_if (is_for_all at q.1) (every_key m)) (action_keys at) (all q.1 (left_held every named h)) there)
        (same_term at (one_context sent owned) q.0 q.1 q.1.term members (right_held every named h))

    pub in_null : (ps : List (Option ℕ × Command)) (sent : CtxRef) (owned : Option CtxNum) → sent ≡ ref.Null → Holds keys (footprint_in m ps sent owned) → Holds keys (list_keys Null ps m)
    in_null ps sent owned e h = each_held (keys_in_action ref.Null owned m) (λ q. command_keys Null q.0 q.1 m) (in_context Null ref.Null owned (λ x. x) (λ c x. x) none_held) ps (subst (λ (x : CtxRef). Holds keys (footprint_in m ps x owned)) e h)

    pub in_live : (ps : List (Option ℕ × Command)) (sent : CtxRef) (owned : Option CtxNum) (n : CtxNum) → sent ≡ ref.Num n → Holds keys (footprint_in m ps sent owned) → Holds keys (list_keys (Live n) ps m)
    in_live ps sent owned n e h =
        let requested : List Key = flat_map (keys_in_action (ref.Num n) owned m) ps in
        let g : Holds keys ((Ctx n ∷ []) ++ requested) = subst (λ (x : CtxRef). Holds keys (footprint_in m ps x owned)) e h in
        each_held (keys_in_action (ref.Num n) owned m) (λ q. command_keys (Live n) q.0 q.1 m) (in_context (Live n) (ref.Num n) owned (λ x. x) (λ c x. x) (left_held (Ctx n ∷ []) requested g)) ps (right_held (Ctx n ∷ []) requested g)

    pub in_unmade : (ps : List (Option ℕ × Command)) (sent : CtxRef) (owned : Option CtxNum) (n : CtxNum) → sent ≡ ref.Choose → owned ≡ Some n → Holds keys (footprint_in m ps sent owned) → Holds keys (list_keys (Unmade n) ps m)
    in_unmade ps sent owned n e f h =
        let requested : List Key = flat_map (keys_in_action ref.Choose (Some n) m) ps in
        let g : Holds keys ((Ctx n ∷ []) ++ requested) = subst (λ (o : Option CtxNum). Holds keys (footprint_in m ps ref.Choose o)) f (subst (λ (x : CtxRef). Holds keys (footprint_in m ps x owned)) e h) in
        each_held (keys_in_action ref.Choose (Some n) m) (λ q. command_keys (Unmade n) q.0 q.1 m) (in_context (Unmade n) ref.Choose (Some n) (λ x. x) (λ c x. x) (left_held (Ctx n ∷ []) requested g)) ps (right_held (Ctx n ∷ []) requested g)

    pub in_each : (ps : List (Option ℕ × Command)) (sent : CtxRef) (owned : Option CtxNum) (n : CtxNum) → sent ≡ ref.All → Holds keys (footprint_in m ps sent owned) → Holds keys (list_keys (Each n) ps m)
    in_each ps sent owned n e h =
        let requested : List Key = flat_map (keys_in_action ref.All owned m) ps in
        let g : Holds keys ((every_key m ++ []) ++ requested) = subst (λ (x : CtxRef). Holds keys (footprint_in m ps x owned)) e h in
        let all : Holds keys (every_key m) = left_held (every_key m) [] (left_held (every_key m ++ []) requested g) in
        each_held (keys_in_action ref.All owned m) (λ q. command_keys (Each n) q.0 q.1 m) (in_context (Each n) ref.All owned (λ x. none_held) (λ c x. all) none_held) ps (right_held (every_key m ++ []) requested g)

-- ---- the context of an action stays its own

pub made_held : (keys : PartKeys) (at : At) (slot : Option ℕ) (c : Command) (m : Maps) → Holds keys (command_keys at slot c m) → Holds keys (command_keys (made at) slot c m)
unfolding command_keys
made_held keys at slot c m h = grind arith

-- without the slot there are fewer
pub less_held : (keys : PartKeys) (at : At) (slot : Option ℕ) (c : Command) (m : Maps) → Holds keys (command_keys at slot c m) → Holds keys (command_keys at None c m)
unfolding command_keys
less_held keys at slot c m h = grind (arith, common_steps)
