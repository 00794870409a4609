-- A footprint that has the whole has every key of the tables.
use Rattle.std.proofs.Common.{◌≡◌, ℕ, Bool, true, false, List, [], ◌∷◌, ◌++◌, Option, sym, ◌∙◌}
use Rattle.std.specs.List.{flat_map}
use Rattle.gw_base.specs.declared.ids.CtxNum.{CtxNum}
use Rattle.gw_base.specs.declared.command_words.CtxRef.{CtxRef}
use Rattle.gw_base.specs.declared.key.Key.{Key}
use Rattle.gw_base.specs.declared.key.Key.TheVariants.{Term, Ctx, Whole}
use Rattle.gw_base.specs.Keys.{has, same_key}
use Rattle.gw_base.proofs.KeyTests.{any-append_cases, any-append_left, any-append_right}
use Rattle.gw_base.proofs.NamesInLists.{either}
use Rattle.gw_msg.specs.declared.message.Command.{Command}
use Rattle.gw_table.specs.Maps.{Maps}
use Rattle.gw_table.specs.Parts.{Only, IsPart}
use Rattle.gw_table.proofs.Frames.{Lists}
use Rattle.gw_table.proofs.Localities.{part_is_all}
use Rattle.gw_cmd.specs.Keys.{every_key, keys_if, place_key}
use Rattle.gw_cmd.proofs.Ready.{every_term, every_ctx, named}
use Rattle.gw_reserve.specs.Owned.{OwnedAction}
use Rattle.gw_tx.specs.Footprints.{is_for_each, one_context, stands_for_all, named_keys, keys_in_action, keys_of_links, action_footprint, footprint_of}
use Rattle.gw_tx.specs.Properties.{linked_names}
use Rattle.gw_tx.proofs.RequestKeys.{no_place, no_named, no_links}

-- with the whole they have every key
abbrev HasEvery : Maps → List Key → Type 0
HasEvery m keys = has keys Whole ≡ true → (k : Key) → has (every_key m) k ≡ true → has keys k ≡ true

none_has : (m : Maps) (keys : List Key) → has keys Whole ≡ false → HasEvery m keys
none_has m keys none h k i = absurd (let clash : true ≡ false = sym h ∙ none in cc)

both_have : (m : Maps) (a b : List Key) → HasEvery m a → HasEvery m b → HasEvery m (a ++ b)
both_have m a b f g h k i =
    either (any-append_cases (same_key Whole) a b h)
    (λ x. any-append_left (same_key k) a b (f x k i))
    (λ x. any-append_right (same_key k) a b (g x k i))

if_has : (m : Maps) (b : Bool) → HasEvery m (keys_if b (every_key m))
if_has m true h k i = i
if_has m false h k i = absurd cc

each_has : {X : Type 0} (m : Maps) (f : X → List Key) → ((x : X) → HasEvery m (f x)) → (xs : List X) → HasEvery m (flat_map f xs)
each_has m f each [] h k i = absurd cc
each_has m f each (x ∷ xs) h k i = both_have m (f x) (flat_map f xs) (each x) (each_has m f each xs) h k i

command_has : (m : Maps) (sent : CtxRef) (number : Option CtxNum) (p : Option ℕ × Command) → HasEvery m (keys_in_action sent number m p)
command_has m sent number p =
    let mine : List Key = named_keys (one_context sent number) p.0 p.1 m p.1.term in
    both_have m (keys_if (stands_for_all sent p.1) (every_key m)) mine (if_has m (stands_for_all sent p.1)) (none_has m mine (no_named (one_context sent number) p.0 p.1 m p.1.term))

action_has : (m : Maps) (a : OwnedAction) → HasEvery m (action_footprint a m)
action_has m a =
    let all : List Key = keys_if (is_for_each a.sent.ctx) (every_key m) in
    let one : List Key = place_key (one_context a.sent.ctx a.number) in
    let requested : List Key = flat_map (keys_in_action a.sent.ctx a.number m) a.commands in
    both_have m (all ++ one ++ requested) (keys_of_links a m)
    (both_have m (all ++ one) requested
    (both_have m all one (if_has m (is_for_each a.sent.ctx)) (none_has m one (no_place (one_context a.sent.ctx a.number))))
    (each_has m (keys_in_action a.sent.ctx a.number m) (command_has m a.sent.ctx a.number) a.commands))
    (none_has m (keys_of_links a m) (no_links m (linked_names a.sent.props)))

-- so there is no entry but at its keys
pub whole_part : (owners : List OwnedAction) (m : Maps) → has (footprint_of owners m) Whole ≡ true → IsPart (Only (footprint_of owners m)) m
whole_part owners m h =
    let every : HasEvery m (footprint_of owners m) = each_has m (λ a. action_footprint a m) (action_has m) owners in
    record {
      terms = λ t i. every h (Term t) (every_term m t (named m t i));
      contexts = λ n i. every h (Ctx n) (every_ctx m n i);
    }

pub lists : (owners : List OwnedAction) (m : Maps) → Lists (footprint_of owners m) m
lists owners m h = part_is_all (footprint_of owners m) m (whole_part owners m h)
