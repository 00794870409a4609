-- Requests on their keys alone, and beside others.
use Rattle.std.proofs.Common.{◌≡◌, true, List, [], ◌++◌, refl, sym, subst, ◌∙◌}
use Rattle.gw_base.specs.declared.command_words.Rules.{Rules}
use Rattle.gw_base.specs.declared.key.Key.{Key}
use Rattle.gw_base.specs.declared.key.Key.TheVariants.{Whole}
use Rattle.gw_base.specs.Keys.{has, same_key, Among, AreApart}
use Rattle.gw_base.proofs.KeyTests.{any-append_cases, any-append_left, any-append_right}
use Rattle.gw_base.proofs.NamesInLists.{either}
use Rattle.gw_msg.specs.declared.message.Request.{Request}
use Rattle.gw_table.specs.Accesses.{Within}
use Rattle.gw_table.specs.Locality.{KeepsTo, ChangePlaces}
use Rattle.gw_table.specs.Maps.{Maps}
use Rattle.gw_table.specs.Parts.{Every, Only, IsPart, Holds, restricted, cut, overlaid}
use Rattle.gw_table.specs.Unused.{owned, AreUnused}
use Rattle.gw_table.specs.WellFormed.{IsSound, AreWellFormed}
use Rattle.gw_table.proofs.Frames.{Apart, agree-apart, within_more}
use Rattle.gw_table.proofs.Localities.{keeps_to, change_places, part_more, part_is_all, part_grows, agree_cut}
use Rattle.gw_table.proofs.PartLookups.{sound_restricted, part_restricted}
use Rattle.gw_reserve.specs.declared.owned.Owned.{Owned}
use Rattle.gw_reserve.specs.Ids.{Ids}
use Rattle.gw_reserve.specs.Owned.{OwnedAction, AreFreeSlots, with_ids, paired, paired_actions}
use Rattle.gw_tx.specs.Footprints.{footprint_of, Covers}
use Rattle.gw_tx.specs.Transactions.{paired_transaction, transaction}
use Rattle.gw_tx.proofs.Entries.{number_entries, all_entries, all_behind, paired_all, front_of_all}
use Rattle.gw_tx.proofs.Unowned.{front_unused}
use Rattle.gw_foot.specs.OwnsUnused.{OwnsUnused}
use Rattle.gw_foot.proofs.OutAndBack.{laid_beside}
use Rattle.gw_foot.specs.PartOf.{part_of}
use Rattle.gw_foot.proofs.AfterAnother.{held_after, footprint_same}
use Rattle.gw_foot.proofs.RequestAccesses.{of_request, effect-of_request}
use Rattle.gw_foot.proofs.Staying.{Stays}
use Rattle.gw_foot.proofs.WholeKeys.{whole_part, lists}
use Rattle.gw_foot.proofs.WithinKeys.{within_request, request_stays}

-- ---- what is owned is unused

pub ids_unused : (r : Request) (ids : Ids) (m : Maps) → AreFreeSlots m ids.slots → OwnsUnused m r (with_ids r ids)
ids_unused r ids m u = record {
  numbers = number_entries ids.contexts r.actions;
  slots = all_entries ids.slots r.actions;
  pairs = sym (paired_all ids.contexts ids.slots r.actions);
  unused = front_unused m (owned (all_entries ids.slots r.actions)) (owned (all_behind ids.slots r.actions)) (subst (AreUnused m []) (front_of_all ids.slots r.actions) u);
}

pub entries_unused : (r : Request) (o : Owned) (m : Maps) → AreFreeSlots m o.slots → OwnsUnused m r (paired r o)
entries_unused r o m u = record { numbers = o.contexts; slots = o.slots; pairs = refl; unused = u }

pub ids_paired : (rules : Rules) (r : Request) (ids : Ids) (m : Maps) → transaction rules r ids m ≡ paired_transaction rules r (with_ids r ids) m
unfolding transaction
ids_paired rules r ids m = refl

-- ---- a part

pub part_covers : (keys : List Key) (owners : List OwnedAction) (m : Maps) → IsSound Every m → Among (footprint_of owners m) keys → Covers (part_of keys m) (footprint_of owners (restricted keys m))
part_covers keys owners m s h = record {
  sound = sound_restricted keys m s;
  entries = part_restricted keys m;
  held = held_after keys owners m (restricted keys m) h (λ _. part_restricted keys m) (part_grows keys m);
}

-- ---- one request

module _ (rules : Rules) (r : Request) (owners : List OwnedAction) (m : Maps) (w : AreWellFormed rules.members m) (o : OwnsUnused m r owners) where
  within_footprint : Within (footprint_of owners m) (of_request rules r owners) m
  within_footprint =
      let mine : List OwnedAction = paired_actions o.numbers o.slots r.actions in
      subst (λ (l : List OwnedAction). Within (footprint_of l m) (of_request rules r l) m) (sym o.pairs)
      (within_request rules (footprint_of mine m) m r o.numbers o.slots w o.unused (whole_part mine m) (λ k h. h))

  -- at keys that hold its footprint
  stays : (keys : List Key) → (has keys Whole ≡ true → IsPart (Only keys) m) → Holds (Only keys) (footprint_of owners m) → Stays rules.members keys m (paired_transaction rules r owners m).maps
  stays keys p h =
      subst (λ (l : List OwnedAction). Stays rules.members keys m (paired_transaction rules r l m).maps) (sym o.pairs)
      (request_stays rules keys m r o.numbers o.slots w o.unused p (subst (λ (l : List OwnedAction). Holds (Only keys) (footprint_of l m)) o.pairs h))

  pub request_keeps : KeepsTo (footprint_of owners m) (paired_transaction rules r owners) m
  request_keeps = keeps_to (footprint_of owners m) (of_request rules r owners) (paired_transaction rules r owners) m (effect-of_request rules r owners) within_footprint (lists owners m)

  -- keys that hold its footprint, and have the whole where that has it
  module _ (keys : List Key) (h : Among (footprint_of owners m) keys) (same : has keys Whole ≡ true → has (footprint_of owners m) Whole ≡ true) where
    pub holding_keeps : KeepsTo keys (paired_transaction rules r owners) m
    holding_keeps =
        keeps_to keys (of_request rules r owners) (paired_transaction rules r owners) m (effect-of_request rules r owners)
        (within_more (footprint_of owners m) keys (of_request rules r owners) m h within_footprint)
        (λ all. part_is_all keys m (part_more (footprint_of owners m) keys m h (whole_part owners m (same all))))

    pub put_back_after : overlaid keys (paired_transaction rules r owners (restricted keys m)).maps (cut keys m) ≡ (paired_transaction rules r owners m).maps
    put_back_after = laid_beside keys (paired_transaction rules r owners (restricted keys m)).maps m ∙ holding_keeps.maps

  pub request_whole : AreWellFormed rules.members (paired_transaction rules r owners m).maps
  request_whole = (stays (footprint_of owners m) (whole_part owners m) (λ k h. h)).whole

  -- ---- and another one

  both_part : (others : List OwnedAction) → has (footprint_of owners m ++ footprint_of others m) Whole ≡ true → IsPart (Only (footprint_of owners m ++ footprint_of others m)) m
  both_part others h =
      let a : List Key = footprint_of owners m in
      let b : List Key = footprint_of others m in
      either (any-append_cases (same_key Whole) a b h)
      (λ x. part_more a (a ++ b) m (λ k i. any-append_left (same_key k) a b i) (whole_part owners m x))
      (λ x. part_more b (a ++ b) m (λ k i. any-append_right (same_key k) a b i) (whole_part others m x))

  pub keys_after : (others : List OwnedAction) → Among (footprint_of others (paired_transaction rules r owners m).maps) (footprint_of owners m ++ footprint_of others m)
  keys_after others =
      let a : List Key = footprint_of owners m in
      let b : List Key = footprint_of others m in
      let s : Stays rules.members (a ++ b) m (paired_transaction rules r owners m).maps = stays (a ++ b) (both_part others) (λ k h. any-append_left (same_key k) a b h) in
      held_after (a ++ b) others m (paired_transaction rules r owners m).maps (λ k h. any-append_right (same_key k) a b h) s.entries s.grown

  pub keys_stay : (others : List OwnedAction) → AreApart (footprint_of owners m) (footprint_of others m) → footprint_of others (paired_transaction rules r owners m).maps ≡ footprint_of others m
  keys_stay others h =
      let rest : Apart (footprint_of owners m) m (paired_transaction rules r owners m).maps = record { terms = request_keeps.terms; contexts = request_keeps.contexts } in
      footprint_same others m (paired_transaction rules r owners m).maps (agree-apart (footprint_of owners m) (footprint_of others m) m (paired_transaction rules r owners m).maps h rest)

pub requests_change : (rules : Rules) (m : Maps) (a : Request) (owners : List OwnedAction) (b : Request) (others : List OwnedAction) → AreWellFormed rules.members m → OwnsUnused m a owners → OwnsUnused m b others → AreApart (footprint_of owners m) (footprint_of others m)
    → ChangePlaces (paired_transaction rules a owners) (paired_transaction rules b others) m
requests_change rules m a owners b others w o p h =
    change_places (footprint_of owners m) (footprint_of others m) (of_request rules a owners) (of_request rules b others) (paired_transaction rules a owners) (paired_transaction rules b others) m
    (effect-of_request rules a owners) (effect-of_request rules b others) (within_footprint rules a owners m w o) (within_footprint rules b others m w p) h

pub keys_beside : (owners : List OwnedAction) (out : List Key) (m : Maps) → AreApart (footprint_of owners (cut out m)) out → footprint_of owners m ≡ footprint_of owners (cut out m)
keys_beside owners out m h = footprint_same owners (cut out m) m (agree_cut (footprint_of owners (cut out m)) out m h)
