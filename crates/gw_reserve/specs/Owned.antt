-- Requests paired with what they own (own): the first $ owns the first identifier, the next one the next, whether it is
-- reached or not.
use Rattle.std.specs.Prelude.{ℕ, Bool, if◌then◌else◌, List, [], ◌∷◌, length, drop, Option, None}
use Rattle.gw_base.specs.declared.ids.CtxNum.{CtxNum}
use Rattle.gw_reserve.specs.Ids.{Ids}
use Rattle.gw_base.specs.Choose.{is_choose}
use Rattle.gw_msg.specs.declared.message.Command.{Command}
use Rattle.gw_msg.specs.declared.message.Action.{Action}
use Rattle.gw_msg.specs.declared.message.Request.{Request}
use Rattle.gw_table.specs.Maps.{Maps}
use Rattle.gw_table.specs.Unused.{owns_slot, owned, AreUnused}
use Rattle.gw_reserve.specs.declared.owned.Owned.{Owned}

-- an action with the number that it owns, and its commands with the slots that they own
pub record OwnedAction : Type 0 where
  pub sent : Action
  pub number : Option CtxNum
  pub commands : List (Option ℕ × Command)

-- the first of what is owned; past the end nothing is
abbrev pub first_owned : {X : Type 0} → List (Option X) → Option X
first_owned [] = None
first_owned (o ∷ os) = o

abbrev pub later_owned : {X : Type 0} → List (Option X) → List (Option X)
later_owned [] = []
later_owned (o ∷ os) = os

-- ---- by the $ of each kind, one after another

-- an Add of $ or RTP/$ owns a slot
abbrev pub is_adding : Command → Bool
is_adding c = owns_slot c.verb c.term

-- each command with the slot that it owns
abbrev pub with_slots : List (Option ℕ) → List Command → List (Option ℕ × Command)
with_slots slots [] = []
with_slots slots (c ∷ cs) = (if is_adding c then first_owned slots else None, c) ∷ with_slots (if is_adding c then later_owned slots else slots) cs

-- the slots behind those of the commands
abbrev pub slots_behind : List (Option ℕ) → List Command → List (Option ℕ)
slots_behind slots [] = slots
slots_behind slots (c ∷ cs) = slots_behind (if is_adding c then later_owned slots else slots) cs

abbrev pub owning : List (Option CtxNum) → List (Option ℕ) → Action → OwnedAction
owning numbers slots a = record { sent = a; number = if is_choose a.ctx then first_owned numbers else None; commands = with_slots slots a.commands }

-- each action of a request with what it owns
abbrev pub with_owned : List (Option CtxNum) → List (Option ℕ) → List Action → List OwnedAction
with_owned numbers slots [] = []
with_owned numbers slots (a ∷ more) = owning numbers slots a ∷ with_owned (if is_choose a.ctx then later_owned numbers else numbers) (slots_behind slots a.commands) more

abbrev pub with_ids : Request → Ids → List OwnedAction
with_ids r ids = with_owned ids.contexts ids.slots r.actions

-- no two $ own the same slot, and none of the slots has a termination
abbrev pub AreFreeSlots : Maps → List (Option ℕ) → Type 0
AreFreeSlots m slots = AreUnused m [] (owned slots)

-- ---- with an entry for each action, and for each command

-- each command with its entry
abbrev pub paired_commands : List (Option ℕ) → List Command → List (Option ℕ × Command)
paired_commands slots [] = []
paired_commands slots (c ∷ cs) = (first_owned slots, c) ∷ paired_commands (later_owned slots) cs

abbrev pub paired_action : Option CtxNum → List (Option ℕ) → Action → OwnedAction
paired_action number slots a = record { sent = a; number = number; commands = paired_commands slots a.commands }

-- each action with its entry, and its commands with theirs
abbrev pub paired_actions : List (Option CtxNum) → List (Option ℕ) → List Action → List OwnedAction
paired_actions numbers slots [] = []
paired_actions numbers slots (a ∷ more) = paired_action (first_owned numbers) slots a ∷ paired_actions (later_owned numbers) (drop (length a.commands) slots) more

abbrev pub paired : Request → Owned → List OwnedAction
paired r o = paired_actions o.contexts o.slots r.actions
