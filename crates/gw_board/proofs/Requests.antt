-- One request, and another one after it.
use Rattle.std.proofs.Common.{◌≡◌, ℕ, ◌<◌, List, ◌++◌, None, ap, get_or, arith}
use Rattle.std.specs.Prelude.{All}
use Rattle.gw_board.specs.declared.profile.Profile.{Profile}
use Rattle.gw_base.specs.Keys.{Among, AreApart}
use Rattle.gw_reply.specs.Messages.{reply_text}
use Rattle.gw_table.specs.Locality.{KeepsTo, ChangePlaces}
use Rattle.gw_table.specs.Maps.{Maps, term}
use Rattle.gw_table.specs.Reserved.{slot_name}
use Rattle.gw_table.specs.Unused.{owned}
use Rattle.gw_table.specs.WellFormed.{AreWellFormed}
use Rattle.gw_table.proofs.SlotNames.{slots_apart}
use Rattle.gw_reserve.specs.Owned.{OwnedAction, AreFreeSlots, paired}
use Rattle.gw_tx.specs.Transactions.{paired_transaction}
use Rattle.gw_tx.proofs.Facts.{IsNamedOtherThan, commands_keep_free}
use Rattle.gw_tx.proofs.Kept.{kept_actions}
use Rattle.gw_tx.proofs.Unowned.{any_of}
use Rattle.gw_foot.specs.OwnsUnused.{OwnsUnused, OwnOthers}
use Rattle.gw_foot.proofs.WithOthers as foot
use Rattle.gw_board.specs.Carried.{BurstRequest, keys_of, done}

own : (a : BurstRequest) (m : Maps) → AreFreeSlots m a.owned.slots → OwnsUnused m a.request (paired a.request a.owned)
own a m f = foot.entries_unused a.request a.owned m f

module _ (profile : Profile) (a : BurstRequest) (m : Maps) (w : AreWellFormed profile.rules.members m) (f : AreFreeSlots m a.owned.slots) where
  abbrev owners : List OwnedAction
  owners = paired a.request a.owned

  keeps_told : KeepsTo (keys_of a m) (paired_transaction profile.rules a.request owners) m
  keeps_told = foot.request_keeps profile.rules a.request owners m w (own a m f)

  pub keeps : KeepsTo (keys_of a m) (done profile a) m
  keeps = record {
    answer = ap (reply_text profile.mid) keeps_told.answer;
    maps = keeps_told.maps;
    terms = keeps_told.terms;
    contexts = keeps_told.contexts;
  }

  pub well_after : AreWellFormed profile.rules.members (done profile a m).maps
  well_after = foot.request_whole profile.rules a.request owners m w (own a m f)

  pub keys_grow : (b : BurstRequest) → Among (keys_of b (done profile a m).maps) (keys_of a m ++ keys_of b m)
  keys_grow b = foot.keys_after profile.rules a.request owners m w (own a m f) (paired b.request b.owned)

  pub keys_stay : (b : BurstRequest) → AreApart (keys_of a m) (keys_of b m) → keys_of b (done profile a m).maps ≡ keys_of b m
  keys_stay b h = foot.keys_stay profile.rules a.request owners m w (own a m f) (paired b.request b.owned) h

  pub change : (b : BurstRequest) → AreFreeSlots m b.owned.slots → AreApart (keys_of a m) (keys_of b m) → ChangePlaces (done profile a) (done profile b) m
  change b g h =
      let limited_text = foot.requests_change profile.rules m a.request owners b.request (paired b.request b.owned) w (own a m f) (own b m g) h in
      record { first = ap (reply_text profile.mid) limited_text.first; second = ap (reply_text profile.mid) limited_text.second; maps = limited_text.maps }

  -- a slot with another name than each of its own
  named_free : (t : ℕ) → All (IsNamedOtherThan t) (owned a.owned.slots) → term m (slot_name t) ≡ None → term (done profile a m).maps (slot_name t) ≡ None
  unfolding paired_transaction
  named_free t other none = kept_actions profile.rules (commands_keep_free profile.rules t) a.owned.contexts a.owned.slots a.request.actions m (any_of owners) (record { kept = none; free = f; kind = other })

  pub stays_free : (b : BurstRequest) → AreFreeSlots m b.owned.slots → OwnOthers a.owned.slots b.owned.slots → AreFreeSlots (done profile a m).maps b.owned.slots
  stays_free b g differ = record {
    numbers_apart = g.numbers_apart;
    no_contexts = λ k d h. absurd (omega arith);
    slots_apart = g.slots_apart;
    no_terminations = λ k d h.
        let t : ℕ = get_or (owned b.owned.slots) k d in
        let small : t < 4096 = g.slots_small k d h in
        named_free t
        (λ i e j same.
        let s : ℕ = get_or (owned a.owned.slots) i e in
        let low : s < 4096 = f.slots_small i e j in
        differ k d h i e j (slots_apart s t (omega (arith, low)) (omega (arith, small)) same))
        (g.no_terminations k d h);
    slots_small = g.slots_small;
  }
