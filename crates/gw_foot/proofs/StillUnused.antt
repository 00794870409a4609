-- What others own stays unused.
use Rattle.std.proofs.Common.{◌≡◌, ℕ, ◌<◌, List, None, get_or, sym, subst, arith}
use Rattle.std.specs.Prelude.{All}
use Rattle.gw_base.specs.declared.command_words.Rules.{Rules}
use Rattle.gw_msg.specs.declared.message.Request.{Request}
use Rattle.gw_table.specs.Maps.{Maps, term}
use Rattle.gw_table.specs.Reserved.{slot_name}
use Rattle.gw_table.specs.Unused.{owned}
use Rattle.gw_table.proofs.SlotNames.{slots_apart}
use Rattle.gw_reserve.specs.Owned.{OwnedAction, paired_actions}
use Rattle.gw_tx.specs.Transactions.{paired_transaction}
use Rattle.gw_tx.proofs.Facts.{IsNamedOtherThan, commands_keep_free}
use Rattle.gw_tx.proofs.Kept.{kept_actions}
use Rattle.gw_tx.proofs.Unowned.{any_of}
use Rattle.gw_foot.specs.OwnsUnused.{OwnsUnused, OwnOthers}

module _ (rules : Rules) (r : Request) (owners : List OwnedAction) (m : Maps) (o : OwnsUnused m r owners) where
  -- the name of a slot that is not its own
  stays_free : (t : ℕ) → All (IsNamedOtherThan t) (owned o.slots) → term m (slot_name t) ≡ None → term (paired_transaction rules r owners m).maps (slot_name t) ≡ None
  unfolding paired_transaction
  stays_free t other none =
      let mine : List OwnedAction = paired_actions o.numbers o.slots r.actions in
      subst (λ (l : List OwnedAction). term (paired_transaction rules r l m).maps (slot_name t) ≡ None) (sym o.pairs)
      (kept_actions rules (commands_keep_free rules t) o.numbers o.slots r.actions m (any_of mine) (record { kept = none; free = o.unused; kind = other }))

  pub still_unused : (other : Request) (others : List OwnedAction) (p : OwnsUnused m other others) → OwnOthers o.slots p.slots → OwnsUnused (paired_transaction rules r owners m).maps other others
  still_unused other others p differ = record {
    numbers = p.numbers;
    slots = p.slots;
    pairs = p.pairs;
    unused = record {
      numbers_apart = p.unused.numbers_apart;
      no_contexts = λ k d h. absurd (omega arith);
      slots_apart = p.unused.slots_apart;
      no_terminations = λ k d h.
          let t : ℕ = get_or (owned p.slots) k d in
          let small : t < 4096 = p.unused.slots_small k d h in
          stays_free t
          (λ i e j same.
          let s : ℕ = get_or (owned o.slots) i e in
          let low : s < 4096 = o.unused.slots_small i e j in
          differ k d h i e j (slots_apart s t (omega (arith, low)) (omega (arith, small)) same))
          (p.unused.no_terminations k d h);
      slots_small = p.unused.slots_small;
    };
  }
