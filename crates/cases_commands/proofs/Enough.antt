-- A command that is carried out on all of the tables and its own keys leaves what it leaves on the whole.
use Rattle.std.proofs.Common.{◌≡◌, ℕ, Bool, true, false, cond, List, [], ◌++◌, Option, None, refl, sym, ap, ◌∙◌}
use Rattle.gw_base.specs.declared.command_words.Rules.{Rules}
use Rattle.gw_base.specs.declared.key.Key.{Key}
use Rattle.gw_base.specs.declared.key.Key.TheVariants.{Term, Ctx}
use Rattle.gw_base.specs.declared.term_ref.TermRef.{TermRef}
use Rattle.gw_base.specs.declared.term_ref.TermRef.TheVariants as ref
use Rattle.gw_base.specs.Keys.{same_key, has, Among}
use Rattle.gw_base.proofs.Booleans.{refuted}
use Rattle.gw_base.proofs.KeyTests.{any-append_cases, any-append_left, any-append_right}
use Rattle.gw_base.proofs.NamesInLists.{either}
use Rattle.gw_msg.specs.declared.message.Command.{Command}
use Rattle.gw_refusal.specs.declared.at.At.{At}
use Rattle.gw_refusal.specs.Requested.{is_add}
use Rattle.gw_table.specs.Locality.{KeepsTo}
use Rattle.gw_table.specs.Maps.{Maps, term, ctx}
use Rattle.gw_table.specs.Parts.{Only, IsPart, restricted, cut, overlaid}
use Rattle.gw_table.specs.WellFormed.{AreWellFormed}
use Rattle.gw_table.proofs.Localities.{part_is_all}
use Rattle.gw_table.proofs.Lookups.{same_maps}
use Rattle.gw_table.proofs.PartLookups.{term-cut, ctx-cut, term-overlaid, ctx-overlaid}
use Rattle.gw_cmd.specs.Commands.{command}
use Rattle.gw_cmd.specs.Keys.{every_key, keys_if, action_keys, member_keys, term_keys, slot_key, is_for_all, command_keys}
use Rattle.gw_cmd.proofs.Locality.{command_keeps}
use Rattle.gw_cmd.proofs.Ready.{every_term, every_ctx, named}
use Rattle.cases_commands.specs.EnoughKeys.{AreEnough, own_name, all_keys}

none_of : (k : Key) → has [] k ≡ true → ⊥
none_of k h = cc

if_within : (b : Bool) (keys : List Key) → Among (keys_if b keys) keys
if_within true keys k h = h
if_within false keys k h = absurd (none_of k h)

-- the keys of a command are among what is gathered
term_within : (at : At) (slot : Option ℕ) (c : Command) (m : Maps) (t : TermRef) → Among (term_keys at slot c m t) ((member_keys at m ++ own_name t m) ++ slot_key slot)
term_within at slot c m (ref.Name t) k h = any-append_left (same_key k) (member_keys at m ++ own_name (ref.Name t) m) (slot_key slot) (any-append_right (same_key k) (member_keys at m) (own_name (ref.Name t) m) h)
term_within at slot c m ref.Choose k h = any-append_right (same_key k) (member_keys at m ++ []) (slot_key slot) (if_within (is_add c.verb) (slot_key slot) k h)
term_within at slot c m ref.All k h = any-append_left (same_key k) (member_keys at m ++ []) (slot_key slot) (any-append_left (same_key k) (member_keys at m) [] h)
term_within at slot c m (ref.Under prefix) k h = any-append_left (same_key k) (member_keys at m ++ []) (slot_key slot) (any-append_left (same_key k) (member_keys at m) [] h)
term_within at slot c m ref.Root k h = absurd (none_of k h)
term_within at slot c m (ref.Other text) k h = absurd (none_of k h)

pub gathered_own : (at : At) (slot : Option ℕ) (c : Command) (m : Maps) → Among (command_keys at slot c m) (all_keys at slot c m)
unfolding command_keys
gathered_own at slot c m k h =
    let every : List Key = every_key m in
    let context : List Key = action_keys at ++ member_keys at m in
    let named : List Key = own_name c.term m in
    let of_every : has every k ≡ true → has (all_keys at slot c m) k ≡ true = λ x. any-append_left (same_key k) ((every ++ context) ++ named) (slot_key slot) (any-append_left (same_key k) (every ++ context) named (any-append_left (same_key k) every context x)) in
    let of_context : has context k ≡ true → has (all_keys at slot c m) k ≡ true = λ x. any-append_left (same_key k) ((every ++ context) ++ named) (slot_key slot) (any-append_left (same_key k) (every ++ context) named (any-append_right (same_key k) every context x)) in
    let of_named : has named k ≡ true → has (all_keys at slot c m) k ≡ true = λ x. any-append_left (same_key k) ((every ++ context) ++ named) (slot_key slot) (any-append_right (same_key k) (every ++ context) named x) in
    let of_slot : has (slot_key slot) k ≡ true → has (all_keys at slot c m) k ≡ true = λ x. any-append_right (same_key k) ((every ++ context) ++ named) (slot_key slot) x in
    let of_term : has (term_keys at slot c m c.term) k ≡ true → has (all_keys at slot c m) k ≡ true = λ x.
    either (any-append_cases (same_key k) (member_keys at m ++ named) (slot_key slot) (term_within at slot c m c.term k x))
    (λ y. either (any-append_cases (same_key k) (member_keys at m) named y) (λ z. of_context (any-append_right (same_key k) (action_keys at) (member_keys at m) z)) of_named)
    of_slot in
    by_parts (keys_if (is_for_all at c) every) (action_keys at) (term_keys at slot c m c.term) h
    (λ x. of_every (if_within (is_for_all at c) every k x)) (λ x. of_context (any-append_left (same_key k) (action_keys at) (member_keys at m) x)) of_term
  where
    by_parts : {P : Type 0} (a b d : List Key) → has (a ++ b ++ d) k ≡ true → (has a k ≡ true → P) → (has b k ≡ true → P) → (has d k ≡ true → P) → P
    by_parts a b d h f g e = either (any-append_cases (same_key k) (a ++ b) d h) (λ x. either (any-append_cases (same_key k) a b x) f g) e

pub gathered_every : (at : At) (slot : Option ℕ) (c : Command) (m : Maps) → Among (every_key m) (all_keys at slot c m)
gathered_every at slot c m k h =
    let context : List Key = action_keys at ++ member_keys at m in
    any-append_left (same_key k) ((every_key m ++ context) ++ own_name c.term m) (slot_key slot) (any-append_left (same_key k) (every_key m ++ context) (own_name c.term m) (any-append_left (same_key k) (every_key m) context h))

module _ (keys : List Key) (at : At) (slot : Option ℕ) (c : Command) (m : Maps) (enough : AreEnough keys at slot c m) where
  -- no entry is at any other key
  all_listed : IsPart (Only keys) m
  all_listed = record {
    terms = λ t h. enough.every (Term t) (every_term m t (named m t h));
    contexts = λ n h. enough.every (Ctx n) (every_ctx m n h);
  }

  pub part_whole : restricted keys m ≡ m
  part_whole = sym (part_is_all keys m all_listed)

  -- what comes back is all that there is
  pub laid_back : (rules : Rules) → AreWellFormed rules.members m → overlaid keys (command rules at slot c m).maps (cut keys m) ≡ (command rules at slot c m).maps
  laid_back rules w =
      let new : Maps = (command rules at slot c m).maps in
      let keeps : KeepsTo (command_keys at slot c m) (command rules at slot c) m = command_keeps rules at slot c m w in
      let outside : (k : Key) → has keys k ≡ false → has (command_keys at slot c m) k ≡ false = λ k off. refuted (has (command_keys at slot c m) k) (λ h. let clash : true ≡ false = sym (enough.own k h) ∙ off in cc) in
      same_maps (overlaid keys new (cut keys m)) new
      (λ t. term-overlaid keys new (cut keys m) t ∙ at_key (has keys (Term t)) refl (term new t) (term (cut keys m) t) (term m t) (term-cut keys m t) (λ off. keeps.terms t (outside (Term t) off)))
      (λ n. ctx-overlaid keys new (cut keys m) n ∙ at_key (has keys (Ctx n)) refl (ctx new n) (ctx (cut keys m) n) (ctx m n) (ctx-cut keys m n) (λ off. keeps.contexts n (outside (Ctx n) off)))
    where
      at_key : {A : Type 0} {d : Bool} (b : Bool) → d ≡ b → (x y z : Option A) → y ≡ cond d None z → (d ≡ false → x ≡ z) → cond b x y ≡ x
      at_key true e x y z is f = refl
      at_key false e x y z is f = is ∙ ap (λ q. cond q None z) e ∙ sym (f e)
