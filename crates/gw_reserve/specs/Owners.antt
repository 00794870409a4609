-- Who owns which identifier (own): at the start of a burst the free numbers and the free slots are listed in cyclic
-- order from the cursors, and the j-th $ that needs one owns the j-th of them, whether it is reached or not.
use Rattle.std.specs.Prelude.{ℕ, ◌+◌, ◌-◌, ◌<◌, ◌≤◌, Bool, if◌then◌else◌, List, [], ◌∷◌, ◌++◌, map, length, drop, slice_get, Option, None, is_none, All, filter, flat_map}
use Rattle.std.specs.List.{range_with_len}
use Rattle.gw_base.specs.declared.ids.CtxNum.{CtxNum}
use Rattle.gw_reserve.specs.Ids.{Ids}
use Rattle.gw_base.specs.Choose.{is_choose}
use Rattle.gw_msg.specs.declared.message.Action.{Action}
use Rattle.gw_msg.specs.declared.message.Command.{Command}
use Rattle.gw_msg.specs.declared.message.Request.{Request}
use Rattle.gw_table.specs.Maps.{Maps, number, term, ctx}
use Rattle.gw_table.specs.Reserved.{slot_name}
use Rattle.gw_table.specs.Unused.{owns_slot, owned, AreUnused}
use Rattle.gw_reserve.specs.declared.owners.Cursors.{Cursors}

-- the indices below n, from d on and round
abbrev pub cyclic : ℕ → ℕ → List ℕ
cyclic d n = range_with_len d (n - d) ++ range_with_len 0 d

-- numbers run from 1
abbrev pub number_of_index : ℕ → CtxNum
number_of_index i = number (i + 1)

-- the numbers from 1 to n that no context has, from the one after c on and round
abbrev pub free_numbers : Maps → ℕ → ℕ → List CtxNum
free_numbers m c n = filter (λ k. is_none (ctx m k)) (map number_of_index (cyclic c n))

-- the slots below n whose name no termination has, from d on and round
abbrev pub free_slots : Maps → ℕ → ℕ → List ℕ
free_slots m d n = filter (λ s. is_none (term m (slot_name s))) (cyclic d n)

-- the j-th of so many choices (a $ is a CHOOSE) owns the j-th, and nothing past the end
abbrev pub choices : {X : Type 0} → ℕ → List X → List (Option X)
choices count free = map (slice_get free) (range_with_len 0 count)

-- how many of the actions have $
abbrev pub chosen : List Action → ℕ
chosen actions = length (filter (λ a. is_choose a.ctx) actions)

-- how many of the commands add $ or RTP/$
abbrev pub adding : List Command → ℕ
adding commands = length (filter (λ c. owns_slot c.verb c.term) commands)

abbrev pub all_commands : List Action → List Command
all_commands actions = flat_map (λ a. a.commands) actions

abbrev pub all_adding : List Action → ℕ
all_adding actions = adding (all_commands actions)

-- how many choices of each kind a request has
abbrev pub number_choices : Request → ℕ
number_choices r = chosen r.actions

abbrev pub slot_choices : Request → ℕ
slot_choices r = all_adding r.actions

-- each item that wants one takes the first of what those before it left
abbrev pub taken_by : {X Y : Type 0} → (X → Bool) → List X → List Y → List (Option Y)
taken_by wants [] free = []
taken_by wants (x ∷ xs) free = (if wants x then slice_get free 0 else None) ∷ taken_by wants xs (if wants x then drop 1 free else free)

-- what a request owns of what is left
abbrev pub ids_of : Request → List CtxNum → List ℕ → Ids
ids_of r numbers slots = record { contexts = choices (number_choices r) numbers; slots = choices (slot_choices r) slots }

-- the choices of all requests, in their order: each request has the first of what those before it left
abbrev pub owners_of : List Request → List CtxNum → List ℕ → List Ids
owners_of [] numbers slots = []
owners_of (r ∷ rs) numbers slots = ids_of r numbers slots ∷ owners_of rs (drop (number_choices r) numbers) (drop (slot_choices r) slots)

-- what the choices of the requests own
unfoldable pub owners : Maps → Cursors → ℕ → ℕ → List Request → List Ids
owners m cursors contexts slots rs = owners_of rs (free_numbers m cursors.context contexts) (free_slots m cursors.slot slots)

-- the numbers and the slots that are owned, in the order of the choices
abbrev pub owned_numbers : List Ids → List CtxNum
owned_numbers ids = flat_map (λ i. owned i.contexts) ids

abbrev pub owned_slots : List Ids → List ℕ
owned_slots ids = flat_map (λ i. owned i.slots) ids

-- the last of the numbers, or c
abbrev pub last_number : ℕ → List CtxNum → ℕ
last_number c [] = c
last_number c (n ∷ ns) = last_number n.0 ns

-- the slot behind the last of the slots, or d
abbrev pub behind_last : ℕ → List ℕ → ℕ
behind_last d [] = d
behind_last d (s ∷ ss) = behind_last (s + 1) ss

-- the cursors afterwards: the last number owned, and the slot behind the last one owned; one of which none was owned
-- stays
abbrev pub new_cursors : Cursors → List Ids → Cursors
new_cursors cursors ids = record { context = last_number cursors.context (owned_numbers ids); slot = behind_last cursors.slot (owned_slots ids) }

-- what is owned keeps the limits, and is unused
pub record AreFresh (m : Maps) (most_contexts most_slots : ℕ) (ids : List Ids) : Type 0 where
  pub unused : AreUnused m (owned_numbers ids) (owned_slots ids)
  pub numbers : All (λ n. (0 < n.0) × (n.0 ≤ most_contexts)) (owned_numbers ids)
  pub slots : All (λ s. s < most_slots) (owned_slots ids)

-- cursors are at most the limits
pub record AreWithin (most_contexts most_slots : ℕ) (cursors : Cursors) : Type 0 where
  pub context : cursors.context ≤ most_contexts
  pub slot : cursors.slot ≤ most_slots
