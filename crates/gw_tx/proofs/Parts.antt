-- A part that covers a request, before its first command and at each command.
use Rattle.std.proofs.Common.{◌≡◌, ℕ, List, [], ◌∷◌, Option, None, Some, refl, sym, subst, ◌∙◌}
use Rattle.gw_base.specs.declared.ids.CtxNum.{CtxNum}
use Rattle.gw_base.specs.declared.command_words.CtxRef.{CtxRef}
use Rattle.gw_base.specs.declared.command_words.CtxRef.TheVariants as ref
use Rattle.gw_base.specs.declared.key.Key.{Key}
use Rattle.gw_msg.specs.declared.message.Command.{Command}
use Rattle.gw_table.specs.Maps.{Maps}
use Rattle.gw_table.specs.Parts.{Parted, PartKeys, IsPart, Holds}
use Rattle.gw_table.specs.WellFormed.{IsSound}
use Rattle.gw_table.proofs.Growth.{grows_not}
use Rattle.gw_refusal.specs.declared.at.At.{At}
use Rattle.gw_refusal.specs.declared.at.At.TheVariants.{Null, Live, Unmade, Each}
use Rattle.gw_cmd.specs.Keys.{command_keys}
use Rattle.gw_cmd.proofs.Parted.{StaysPart}
use Rattle.gw_reserve.specs.Owned.{OwnedAction, AreFreeSlots, paired_commands}
use Rattle.gw_tx.specs.Footprints.{action_footprint, list_keys, Covers}
use Rattle.gw_tx.proofs.Facts.{IsHeld}
use Rattle.gw_tx.proofs.FreeSlots.{AnySlot, free_on}
use Rattle.gw_tx.proofs.SetProperties.{stays_part_all, term-all}
use Rattle.gw_tx.specs.Properties.{set_properties}
use Rattle.gw_table.specs.Reserved.{slot_name}
use Rattle.gw_msg.specs.declared.message.ContextProp.{ContextProp}
use Rattle.gw_tx.proofs.HeldKeys.{left_held, right_held, without_links, each_held, command_stays, action_stays, footprint_in, in_null, in_live, in_unmade, in_each}
use Rattle.gw_tx.proofs.Kept.{With, Oks, OksIn}

-- as it begins
pub starts : (part : Parted) (slots : List (Option ℕ)) (needed : List Key) → Covers part needed → AreFreeSlots part.maps slots → With AnySlot (StaysPart part.keys part.maps) slots part.maps
starts part slots needed c u = record { kept = record { sound = c.sound; entries = c.entries; grown = grows_not part.keys part.maps }; free = u; kind = λ k d h. tt }

-- when the properties of a context were set
starts_set : (part : Parted) (slots : List (Option ℕ)) (needed : List Key) (n : CtxNum) (ps : List ContextProp) → Covers part needed → AreFreeSlots part.maps slots → With AnySlot (StaysPart part.keys part.maps) slots (set_properties n ps part.maps)
starts_set part slots needed n ps c u = record {
  kept = stays_part_all part.keys part.maps n ps part.maps (starts part slots needed c u).kept;
  free = free_on part.maps (set_properties n ps part.maps) None slots (λ k d h. tt) (λ t o none. term-all n ps part.maps (slot_name t) ∙ none) u;
  kind = λ k d h. tt;
}

-- the part is that of the start, changed
module _ (start now : Parted) (slots : List (Option ℕ)) (w : With AnySlot (StaysPart start.keys start.maps) slots now.maps) (same : now.keys ≡ start.keys) where
  covers : (needed : List Key) → Holds start.keys needed → Covers now needed
  covers needed h = record {
    sound = subst (λ (k : PartKeys). IsSound k now.maps) (sym same) w.kept.sound;
    entries = subst (λ (k : PartKeys). IsPart k now.maps) (sym same) w.kept.entries;
    held = subst (λ (k : PartKeys). Holds k needed) (sym same) h;
  }

  -- it covers a command whose keys it had
  pub covers_command : (at : At) (slot : Option ℕ) (c : Command) → IsHeld start.keys start.maps at slot c → Covers now (command_keys at slot c now.maps)
  covers_command at slot c h = covers (command_keys at slot c now.maps) (command_stays start.keys start.maps now.maps (λ _. w.kept.entries) w.kept.grown at slot c h)

  -- an action
  pub covers_action : (a : OwnedAction) → Holds start.keys (action_footprint a start.maps) → Covers now (action_footprint a now.maps)
  covers_action a h = covers (action_footprint a now.maps) (action_stays start.keys start.maps now.maps (λ _. w.kept.entries) w.kept.grown a h)

  -- and commands in one context
  pub covers_list : (at : At) (ps : List (Option ℕ × Command)) → Holds start.keys (list_keys at ps start.maps) → Covers now (list_keys at ps now.maps)
  covers_list at ps h =
      covers (list_keys at ps now.maps)
      (each_held start.keys (λ p. command_keys at p.0 p.1 start.maps) (λ p. command_keys at p.0 p.1 now.maps) (λ p k. command_stays start.keys start.maps now.maps (λ _. w.kept.entries) w.kept.grown at p.0 p.1 k) ps h)

-- commands in a context whose properties were set
module _ (start now : Parted) (slots : List (Option ℕ)) (n : CtxNum) (ps : List ContextProp) (at : At) (cs : List Command) (c : Covers start (list_keys at (paired_commands slots cs) start.maps)) (u : AreFreeSlots start.maps slots) (set : now.maps ≡ set_properties n ps start.maps) (same : now.keys ≡ start.keys) where
  set_with : With AnySlot (StaysPart start.keys start.maps) slots now.maps
  set_with = subst (λ (m : Maps). With AnySlot (StaysPart start.keys start.maps) slots m) (sym set) (starts_set start slots (list_keys at (paired_commands slots cs) start.maps) n ps c u)

  pub covers_set : Covers now (list_keys at (paired_commands slots cs) now.maps)
  covers_set = covers_list start now slots set_with same at (paired_commands slots cs) c.held

  pub unused_set : AreFreeSlots now.maps slots
  unused_set = set_with.free

-- ---- each command has its keys

pub listed : (keys : PartKeys) (m : Maps) (at : At) (ps : List (Option ℕ × Command)) → Holds keys (list_keys at ps m) → Oks (IsHeld keys m) at ps
listed keys m at [] h = tt
listed keys m at (p ∷ ps) h = (left_held keys (command_keys at p.0 p.1 m) (list_keys at ps m) h, listed keys m at ps (right_held keys (command_keys at p.0 p.1 m) (list_keys at ps m) h))

pub listed_in : (keys : PartKeys) (m : Maps) (a : OwnedAction) → Holds keys (action_footprint a m) → OksIn (IsHeld keys m) a.commands a.sent.ctx a.number
listed_in keys m a h = by a.sent.ctx a.number (without_links keys a m h)
  where
    by : (sent : CtxRef) (owned : Option CtxNum) → Holds keys (footprint_in m a.commands sent owned) → OksIn (IsHeld keys m) a.commands sent owned
    by ref.Null owned k = listed keys m Null a.commands (in_null keys m a.commands ref.Null owned refl k)
    by (ref.Num n) owned k = listed keys m (Live n) a.commands (in_live keys m a.commands (ref.Num n) owned n refl k)
    by ref.Choose None k = tt
    by ref.Choose (Some n) k = listed keys m (Unmade n) a.commands (in_unmade keys m a.commands ref.Choose (Some n) n refl refl k)
    by ref.All owned k = λ n. listed keys m (Each n) a.commands (in_each keys m a.commands ref.All owned n refl k)

-- commands, in the context that their action is for
pub covers_in : (part : Parted) (a : OwnedAction) → Covers part (action_footprint a part.maps) → (at : At) → (Holds part.keys (footprint_in part.maps a.commands a.sent.ctx a.number) → Holds part.keys (list_keys at a.commands part.maps)) → Covers part (list_keys at a.commands part.maps)
covers_in part a c at f = record { sound = c.sound; entries = c.entries; held = f (without_links part.keys a part.maps c.held) }
