-- Which changes a part of the tables takes: the keys that it must have, and room (own).
use Rattle.std.specs.Option.{is_some}
use Rattle.std.specs.Prelude.{◌≡◌, ◌≢◌, ◌<◌, ℕ, nat_eq, true, false, List, length, Option, None, Some}
use Rattle.gw_base.specs.declared.ids.CtxNum.{CtxNum}
use Rattle.gw_base.specs.declared.command_words.Rules.{Rules}
use Rattle.gw_base.specs.declared.command_words.Verb.{Verb}
use Rattle.gw_base.specs.declared.command_words.Verb.TheVariants.{ServiceChange}
use Rattle.gw_base.specs.declared.term_ref.TermRef.TheVariants.{Root, Choose, Name}
use Rattle.gw_msg.specs.declared.message.Command.{Command}
use Rattle.gw_base.specs.declared.key.Key.TheVariants.{Term, Ctx}
use Rattle.gw_base.specs.NameLists.{is_in}
use Rattle.gw_table.specs.Maps.{Maps, term, ctx, names, members_of, place_of}
use Rattle.gw_table.specs.Reserved.{slot_name}
use Rattle.gw_table.specs.WellFormed.{IsSound}
use Rattle.gw_table.specs.Parts.{PartKeys, holds, HoldsPlace}
use Rattle.gw_cmd.specs.declared.change.Change.{Change}
use Rattle.gw_cmd.specs.declared.change.Change.TheVariants.{Stays, Becomes, Joins, Crosses, Leaves}
use Rattle.gw_refusal.specs.declared.at.At.{At}
use Rattle.gw_refusal.specs.Requested.{is_move}
use Rattle.gw_refusal.specs.Places.{place_at}
use Rattle.gw_refusal.specs.Targets.{targets_of}
use Rattle.gw_cmd.specs.declared.task.Task.{Task}
use Rattle.gw_cmd.specs.Tasks.{task_place, targets_in, Does}

-- a Move needs the key of the context that the termination is in
abbrev pub HoldsMoved : PartKeys → Verb → Option CtxNum → Type 0
HoldsMoved keys verb place = is_move verb ≡ true → HoldsPlace keys place

-- the name is no member of the context, which has room for one more
pub record HasRoom (rules : Rules) (n : CtxNum) (t : List ℕ) (m : Maps) : Type 0 where
  pub new : is_in t (members_of (ctx m n)) ≡ false
  pub room : length (members_of (ctx m n)) < rules.members

abbrev pub Suits : Rules → PartKeys → List ℕ → Change → Maps → Type 0
Suits rules keys t Stays m = Unit {0}
Suits rules keys t (Becomes r) m = holds keys (Term t) ≡ true
Suits rules keys t (Joins n r) m = (holds keys (Term t) ≡ true) × (holds keys (Ctx n) ≡ true) × HasRoom rules n t m
Suits rules keys t (Crosses p n r) m = (holds keys (Term t) ≡ true) × (holds keys (Ctx p) ≡ true) × (holds keys (Ctx n) ≡ true) × HasRoom rules n t m × (nat_eq n.0 p.0 ≡ false)
Suits rules keys t (Leaves n o) m = (holds keys (Term t) ≡ true) × (holds keys (Ctx n) ≡ true)

-- some of these terminations have left the context that the task takes them out of, and it does the same to all of them
pub record LeaveFirst (keys : PartKeys) (task : Task) (named : List (List ℕ)) (old new : Maps) : Type 0 where
  pub same : (rules : Rules) (c : Command) → Does task c → targets_in rules (task_place task) c named new ≡ targets_in rules (task_place task) c named old
  pub terms : (t : List ℕ) → term new t ≡ term old t
  pub sound : IsSound keys new

-- the owned slot has no termination yet
abbrev pub IsUnused : Option ℕ → Maps → Type 0
IsUnused None m = Unit {0}
IsUnused (Some slot) m = term m (slot_name slot) ≡ None

-- the key of the termination that is made
abbrev pub HoldsSlot : PartKeys → Option ℕ → Type 0
HoldsSlot keys None = Unit {0}
HoldsSlot keys (Some slot) = holds keys (Term (slot_name slot)) ≡ true

-- the key of a termination, if there is one of this name
abbrev pub HoldsFound : PartKeys → List ℕ → Maps → Type 0
HoldsFound keys t m = is_some (term m t) ≡ true → holds keys (Term t) ≡ true

-- a command that is refused neither by its form nor by the tables, on a part that has its keys
pub record IsReady (keys : PartKeys) (at : At) (c : Command) (m : Maps) : Type 0 where
  pub targets : (t : List ℕ) → is_in t (targets_of c.term at c m) ≡ true → HoldsFound keys t m
  pub place : HoldsPlace keys (place_at at)
  pub moved : (t : List ℕ) → c.term ≡ Name t → HoldsMoved keys c.verb (place_of (term m t))
  pub stays : ((t : List ℕ) → c.term ≢ Name t) → is_move c.verb ≡ false
  pub root : c.term ≡ Root → c.verb ≡ ServiceChange → (t : List ℕ) → is_in t (names m) ≡ true → holds keys (Term t) ≡ true

-- the same of the slot, where a termination is to be made
abbrev pub HoldsNew : PartKeys → Option ℕ → Command → Type 0
HoldsNew keys slot c = c.term ≡ Choose → HoldsSlot keys slot
