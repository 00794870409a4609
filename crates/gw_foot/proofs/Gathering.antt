-- What is gathered for a request has the same keys as its footprint.
use Rattle.std.proofs.Common.{◌≡◌, ℕ, Bool, true, false, List, [], ◌∷◌, ◌++◌, drop, length, Option, None, refl, sym, ap, ◌∙◌}
use Rattle.std.specs.Prelude.{◌&&◌, ◌||◌, flat_map}
use Rattle.std.specs.List.{list_any}
use Rattle.std.proofs.lemmas.List.Folds.{list_any-append}
use Rattle.gw_base.specs.declared.command_words.CtxRef.{CtxRef}
use Rattle.gw_base.specs.declared.ids.CtxNum.{CtxNum}
use Rattle.gw_base.specs.declared.key.Key.{Key}
use Rattle.gw_base.specs.declared.term_ref.TermRef.{TermRef}
use Rattle.gw_base.specs.declared.term_ref.TermRef.TheVariants as term_ref
use Rattle.gw_base.specs.Keys.{has, same_key}
use Rattle.gw_msg.specs.declared.message.Action.{Action}
use Rattle.gw_msg.specs.declared.message.Command.{Command}
use Rattle.gw_table.specs.Maps.{Maps}
use Rattle.gw_refusal.specs.Requested.{is_wildcard}
use Rattle.gw_cmd.specs.Keys.{every_key, keys_if, place_key}
use Rattle.gw_reserve.specs.Owned.{OwnedAction, first_owned, later_owned, paired_action, paired_actions, paired_commands}
use Rattle.gw_tx.specs.Footprints.{is_for_each, one_context, stands_for_all, keys_of_members, named_keys, keys_in_action, keys_of_links, action_footprint, footprint_of}
use Rattle.gw_foot.specs.Gathered.{spans_all, has_wildcard, own_keys, gathered, all_gathered}

-- ---- either of two tests

or_false : (b : Bool) → (b || false) ≡ b
or_false true = refl
or_false false = refl

pub or_assoc : (a b c : Bool) → ((a || b) || c) ≡ (a || (b || c))
or_assoc true b c = refl
or_assoc false b c = refl

interchange : (a b c d : Bool) → ((a || b) || (c || d)) ≡ ((a || c) || (b || d))
interchange true b c d = refl
interchange false true true d = refl
interchange false true false d = refl
interchange false false c d = refl

share : (a b c : Bool) → ((a && c) || (b && c)) ≡ ((a || b) && c)
share true true true = refl
share true true false = refl
share true false true = refl
share true false false = refl
share false b c = refl

-- three tests of the first and of the rest are three tests of all
three : (a b e c d f x y : Bool) → (((a && e) || ((c && f) || x)) || ((b && e) || ((d && f) || y))) ≡ (((a || b) && e) || (((c || d) && f) || (x || y)))
three a b e c d f x y =
    interchange (a && e) ((c && f) || x) (b && e) ((d && f) || y)
    ∙ ap (λ z. z || (((c && f) || x) || ((d && f) || y))) (share a b e)
    ∙ ap (λ z. ((a || b) && e) || z) (interchange (c && f) x (d && f) y ∙ ap (λ z. z || (x || y)) (share c d f))

two : (a b e x y : Bool) → (((a && e) || x) || ((b && e) || y)) ≡ (((a || b) && e) || (x || y))
two a b e x y = interchange (a && e) x (b && e) y ∙ ap (λ z. z || (x || y)) (share a b e)

module _ (k : Key) where
  has_both : (a b : List Key) → has (a ++ b) k ≡ (has a k || has b k)
  has_both a b = list_any-append (same_key k) a b

  has_if : (b : Bool) (keys : List Key) → has (keys_if b keys) k ≡ (b && has keys k)
  has_if true keys = refl
  has_if false keys = refl

  -- ---- a command, an action, a request

  module _ (m : Maps) where
    abbrev every : Bool
    every = has (every_key m) k

    abbrev members : CtxRef → Option CtxNum → Bool
    members sent owned = has (keys_of_members (one_context sent owned) m) k

    named_split : (one : Option CtxNum) (slot : Option ℕ) (c : Command) (r : TermRef) → has (named_keys one slot c m r) k ≡ ((is_wildcard r && has (keys_of_members one m) k) || has (named_keys None slot c m r) k)
    named_split one slot c (term_ref.Name t) = refl
    named_split one slot c term_ref.Choose = refl
    named_split one slot c term_ref.All = sym (or_false (has (keys_of_members one m) k))
    named_split one slot c (term_ref.Under prefix) = sym (or_false (has (keys_of_members one m) k))
    named_split one slot c term_ref.Root = refl
    named_split one slot c (term_ref.Other text) = refl

    command_split : (sent : CtxRef) (owned : Option CtxNum) (p : Option ℕ × Command) → has (keys_in_action sent owned m p) k ≡ ((stands_for_all sent p.1 && every) || ((is_wildcard p.1.term && members sent owned) || has (own_keys m p) k))
    command_split sent owned p =
        let named : List Key = named_keys (one_context sent owned) p.0 p.1 m p.1.term in
        has_both (keys_if (stands_for_all sent p.1) (every_key m)) named
        ∙ ap (λ z. z || has named k) (has_if (stands_for_all sent p.1) (every_key m))
        ∙ ap (λ z. (stands_for_all sent p.1 && every) || z) (named_split (one_context sent owned) p.0 p.1 p.1.term)

    commands_split : (sent : CtxRef) (owned : Option CtxNum) (slots : List (Option ℕ)) (cs : List Command)
        → has (flat_map (keys_in_action sent owned m) (paired_commands slots cs)) k ≡ ((list_any (stands_for_all sent) cs && every) || ((has_wildcard cs && members sent owned) || has (flat_map (own_keys m) (paired_commands slots cs)) k))
    commands_split sent owned slots [] = refl
    commands_split sent owned slots (c ∷ cs) =
        let p : Option ℕ × Command = (first_owned slots, c) in
        let rest : List (Option ℕ × Command) = paired_commands (later_owned slots) cs in
        let later : Bool = has (flat_map (keys_in_action sent owned m) rest) k in
        let first : Bool = (stands_for_all sent c && every) || ((is_wildcard c.term && members sent owned) || has (own_keys m p) k) in
        has_both (keys_in_action sent owned m p) (flat_map (keys_in_action sent owned m) rest)
        ∙ ap (λ z. z || later) (command_split sent owned p)
        ∙ ap (λ z. first || z) (commands_split sent owned (later_owned slots) cs)
        ∙ three (stands_for_all sent c) (list_any (stands_for_all sent) cs) every (is_wildcard c.term) (has_wildcard cs) (members sent owned) (has (own_keys m p) k) (has (flat_map (own_keys m) rest) k)
        ∙ ap (λ z. (list_any (stands_for_all sent) (c ∷ cs) && every) || ((has_wildcard (c ∷ cs) && members sent owned) || z)) (sym (has_both (own_keys m p) (flat_map (own_keys m) rest)))

    action_split : (number : Option CtxNum) (slots : List (Option ℕ)) (a : Action) → has (action_footprint (paired_action number slots a) m) k ≡ ((spans_all a && every) || has (gathered m (paired_action number slots a)) k)
    action_split number slots a =
        let each : Bool = is_for_each a.ctx in
        let place : List Key = place_key (one_context a.ctx number) in
        let those : List Key = keys_of_members (one_context a.ctx number) m in
        let ps : List (Option ℕ × Command) = paired_commands slots a.commands in
        let requested : List Key = flat_map (keys_in_action a.ctx number m) ps in
        let own : List Key = flat_map (own_keys m) ps in
        let links : List Key = keys_of_links (paired_action number slots a) m in
        let some : Bool = list_any (stands_for_all a.ctx) a.commands in
        let wild : Bool = has_wildcard a.commands in
        let rest : Bool = (wild && has those k) || has own k in
        let front : List Key = place ++ keys_if wild those ++ own in
        has_both (keys_if each (every_key m) ++ place ++ requested) links
        ∙ ap (λ z. z || has links k)
        (has_both (keys_if each (every_key m) ++ place) requested
        ∙ ap (λ z. z || has requested k) (has_both (keys_if each (every_key m)) place ∙ ap (λ z. z || has place k) (has_if each (every_key m)))
        ∙ ap (λ z. ((each && every) || has place k) || z) (commands_split a.ctx number slots a.commands)
        ∙ two each some every (has place k) rest
        ∙ ap (λ z. ((each || some) && every) || z)
        (sym (has_both (place ++ keys_if wild those) own ∙ ap (λ z. z || has own k) (has_both place (keys_if wild those) ∙ ap (λ z. has place k || z) (has_if wild those)) ∙ or_assoc (has place k) (wild && has those k) (has own k))))
        ∙ or_assoc ((each || some) && every) (has front k) (has links k)
        ∙ ap (λ z. ((each || some) && every) || z) (sym (has_both front links))

    all_split : (numbers : List (Option CtxNum)) (slots : List (Option ℕ)) (requested : List Action)
        → has (footprint_of (paired_actions numbers slots requested) m) k ≡ ((list_any spans_all requested && every) || has (all_gathered m (paired_actions numbers slots requested)) k)
    all_split numbers slots [] = refl
    all_split numbers slots (a ∷ more) =
        let pair : OwnedAction = paired_action (first_owned numbers) slots a in
        let rest : List OwnedAction = paired_actions (later_owned numbers) (drop (length a.commands) slots) more in
        has_both (action_footprint pair m) (footprint_of rest m)
        ∙ ap (λ z. z || has (footprint_of rest m) k) (action_split (first_owned numbers) slots a)
        ∙ ap (λ z. ((spans_all a && every) || has (gathered m pair) k) || z) (all_split (later_owned numbers) (drop (length a.commands) slots) more)
        ∙ two (spans_all a) (list_any spans_all more) every (has (gathered m pair) k) (has (all_gathered m rest) k)
        ∙ ap (λ z. (list_any spans_all (a ∷ more) && every) || z) (sym (has_both (gathered m pair) (all_gathered m rest)))

-- ---- the same keys

pub is_footprint : (m : Maps) (numbers : List (Option CtxNum)) (slots : List (Option ℕ)) (requested : List Action) (start : List Key) → start ≡ keys_if (list_any spans_all requested) (every_key m)
    → (k : Key) → has (start ++ all_gathered m (paired_actions numbers slots requested)) k ≡ has (footprint_of (paired_actions numbers slots requested) m) k
is_footprint m numbers slots requested start e k =
    let rest : List Key = all_gathered m (paired_actions numbers slots requested) in
    has_both k start rest ∙ ap (λ z. z || has rest k) (ap (λ l. has l k) e ∙ has_if k (list_any spans_all requested) (every_key m)) ∙ sym (all_split k m numbers slots requested)

-- ---- on the way
