-- The whole of the tables among the keys of a command.
use Rattle.std.proofs.Common.{◌≡◌, ℕ, Bool, true, false, List, [], ◌∷◌, ◌++◌, map, Option, None, Some, refl, ap, ◌∙◌}
use Rattle.std.specs.Prelude.{◌||◌}
use Rattle.gw_base.specs.declared.ids.CtxNum.{CtxNum}
use Rattle.gw_base.specs.declared.key.Key.{Key}
use Rattle.gw_base.specs.declared.key.Key.TheVariants.{Term, Whole}
use Rattle.gw_base.specs.declared.term_ref.TermRef.{TermRef}
use Rattle.gw_base.specs.declared.term_ref.TermRef.TheVariants as ref
use Rattle.gw_base.specs.Keys.{has, same_key}
use Rattle.gw_msg.specs.declared.message.Command.{Command}
use Rattle.gw_table.specs.Maps.{Maps, term, ctx, members_of, place_of}
use Rattle.gw_refusal.specs.declared.at.At.{At}
use Rattle.gw_refusal.specs.declared.at.At.TheVariants.{Null, Live, Unmade, Each}
use Rattle.gw_refusal.specs.Requested.{is_add}
use Rattle.gw_cmd.specs.Keys.{command_keys, is_for_all, every_key, keys_if, action_keys, place_key, slot_key, member_keys, term_keys}

or_none : (b : Bool) → (b || false) ≡ b
or_none true = refl
or_none false = refl

has-append : (a b : List Key) (k : Key) → has (a ++ b) k ≡ (has a k || has b k)
has-append [] b k = refl
has-append (x ∷ xs) b k = ap (λ t. same_key k x || t) (has-append xs b k) ∙ sym_or (same_key k x) (has xs k) (has b k)
  where
    sym_or : (p q r : Bool) → (p || (q || r)) ≡ ((p || q) || r)
    sym_or true q r = refl
    sym_or false q r = refl

no_terms : (ts : List (List ℕ)) → has (map Term ts) Whole ≡ false
no_terms [] = refl
no_terms (t ∷ ts) = no_terms ts

no_action : (at : At) → has (action_keys at) Whole ≡ false
no_action Null = refl
no_action (Live n) = refl
no_action (Unmade n) = refl
no_action (Each n) = refl

no_place : (o : Option CtxNum) → has (place_key o) Whole ≡ false
no_place None = refl
no_place (Some p) = refl

no_slot : (b : Bool) (o : Option ℕ) → has (keys_if b (slot_key o)) Whole ≡ false
no_slot true None = refl
no_slot true (Some s) = refl
no_slot false o = refl

no_members : (at : At) (m : Maps) → has (member_keys at m) Whole ≡ false
no_members Null m = refl
no_members (Live n) m = no_terms (members_of (ctx m n))
no_members (Unmade n) m = no_terms (members_of (ctx m n))
no_members (Each n) m = refl

no_named : (at : At) (slot : Option ℕ) (c : Command) (m : Maps) (r : TermRef) → has (term_keys at slot c m r) Whole ≡ false
no_named at slot c m (ref.Name t) = no_place (place_of (term m t))
no_named at slot c m ref.Choose = no_slot (is_add c.verb) slot
no_named at slot c m ref.All = no_members at m
no_named at slot c m (ref.Under prefix) = no_members at m
no_named at slot c m ref.Root = refl
no_named at slot c m (ref.Other text) = refl

all_or_none : (b : Bool) (m : Maps) → has (keys_if b (every_key m)) Whole ≡ b
all_or_none true m = refl
all_or_none false m = refl

pub whole_is_key : (at : At) (slot : Option ℕ) (c : Command) (m : Maps) → has (command_keys at slot c m) Whole ≡ is_for_all at c
unfolding command_keys
whole_is_key at slot c m =
    let all = keys_if (is_for_all at c) (every_key m) in
    let named = term_keys at slot c m c.term in
    has-append (all ++ action_keys at) named Whole
    ∙ ap (λ t. t || has named Whole) (has-append all (action_keys at) Whole ∙ ap (λ t. has all Whole || t) (no_action at) ∙ or_none (has all Whole))
    ∙ ap (λ t. has all Whole || t) (no_named at slot c m c.term) ∙ or_none (has all Whole) ∙ all_or_none (is_for_all at c) m
