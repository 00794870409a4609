-- A request that is paired by its $ is paired by entries too: one for each action, and one for each command.
use Rattle.std.proofs.Common.{◌≡◌, ℕ, Bool, true, false, List, [], ◌∷◌, ◌++◌, length, drop, Option, None, Some, refl, sym, ap, ◌∙◌, append_assoc}
use Rattle.std.specs.Prelude.{if◌then◌else◌}
use Rattle.std.proofs.lemmas.List.Elements.{filter_map-append}
use Rattle.gw_base.specs.Choose.{is_choose}
use Rattle.gw_base.specs.declared.ids.CtxNum.{CtxNum}
use Rattle.gw_msg.specs.declared.message.Action.{Action}
use Rattle.gw_msg.specs.declared.message.Command.{Command}
use Rattle.gw_table.specs.Unused.{owned}
use Rattle.gw_reserve.specs.Owned.{OwnedAction, first_owned, later_owned, is_adding, with_slots, slots_behind, with_owned, paired_commands, paired_actions}

abbrev slot_entries : List (Option ℕ) → List Command → List (Option ℕ)
slot_entries slots [] = []
slot_entries slots (c ∷ cs) = (if is_adding c then first_owned slots else None) ∷ slot_entries (if is_adding c then later_owned slots else slots) cs

abbrev pub number_entries : List (Option CtxNum) → List Action → List (Option CtxNum)
number_entries numbers [] = []
number_entries numbers (a ∷ more) = (if is_choose a.ctx then first_owned numbers else None) ∷ number_entries (if is_choose a.ctx then later_owned numbers else numbers) more

abbrev pub all_entries : List (Option ℕ) → List Action → List (Option ℕ)
all_entries slots [] = []
all_entries slots (a ∷ more) = slot_entries slots a.commands ++ all_entries (slots_behind slots a.commands) more

paired_slots : (slots : List (Option ℕ)) (cs : List Command) (more : List (Option ℕ)) → paired_commands (slot_entries slots cs ++ more) cs ≡ with_slots slots cs
paired_slots slots [] more = refl
paired_slots slots (c ∷ cs) more = ap (λ (l : List (Option ℕ × Command)). (if is_adding c then first_owned slots else None, c) ∷ l) (paired_slots (if is_adding c then later_owned slots else slots) cs more)

behind_entries : (slots : List (Option ℕ)) (cs : List Command) (more : List (Option ℕ)) → drop (length cs) (slot_entries slots cs ++ more) ≡ more
behind_entries slots [] more = refl
behind_entries slots (c ∷ cs) more = behind_entries (if is_adding c then later_owned slots else slots) cs more

pub paired_all : (numbers : List (Option CtxNum)) (slots : List (Option ℕ)) (actions : List Action) → paired_actions (number_entries numbers actions) (all_entries slots actions) actions ≡ with_owned numbers slots actions
paired_all numbers slots [] = refl
paired_all numbers slots (a ∷ more) =
    let number : Option CtxNum = if is_choose a.ctx then first_owned numbers else None in
    let numbers' : List (Option CtxNum) = if is_choose a.ctx then later_owned numbers else numbers in
    let behind : List (Option ℕ) = all_entries (slots_behind slots a.commands) more in
    let whole : List (Option ℕ × Command) → List OwnedAction → List OwnedAction = λ p l. record { sent = a; number = number; commands = p } ∷ l in
    ap (λ (p : List (Option ℕ × Command)). whole p (paired_actions (number_entries numbers' more) (drop (length a.commands) (slot_entries slots a.commands ++ behind)) more)) (paired_slots slots a.commands behind)
    ∙ ap (λ (s : List (Option ℕ)). whole (with_slots slots a.commands) (paired_actions (number_entries numbers' more) s more)) (behind_entries slots a.commands behind)
    ∙ ap (λ (l : List OwnedAction). whole (with_slots slots a.commands) l) (paired_all numbers' (slots_behind slots a.commands) more)

-- ---- the entries own the first slots

front_of : (slots : List (Option ℕ)) (cs : List Command) → owned slots ≡ owned (slot_entries slots cs) ++ owned (slots_behind slots cs)
front_of slots [] = refl
front_of slots (c ∷ cs) = by (is_adding c) slots (front_of slots cs) (front_of (later_owned slots) cs)
  where
    by : (b : Bool) (slots : List (Option ℕ)) → owned slots ≡ owned (slot_entries slots cs) ++ owned (slots_behind slots cs) → owned (later_owned slots) ≡ owned (slot_entries (later_owned slots) cs) ++ owned (slots_behind (later_owned slots) cs)
        → owned slots ≡ owned ((if b then first_owned slots else None) ∷ slot_entries (if b then later_owned slots else slots) cs) ++ owned (slots_behind (if b then later_owned slots else slots) cs)
    by false slots e f = e
    by true [] e f = f
    by true (None ∷ os) e f = f
    by true (Some s ∷ os) e f = ap (λ l. s ∷ l) f

abbrev pub all_behind : List (Option ℕ) → List Action → List (Option ℕ)
all_behind slots [] = slots
all_behind slots (a ∷ more) = all_behind (slots_behind slots a.commands) more

pub front_of_all : (slots : List (Option ℕ)) (actions : List Action) → owned slots ≡ owned (all_entries slots actions) ++ owned (all_behind slots actions)
front_of_all slots [] = refl
front_of_all slots (a ∷ more) =
    let mine : List (Option ℕ) = slot_entries slots a.commands in
    let theirs : List (Option ℕ) = all_entries (slots_behind slots a.commands) more in
    let rest : List ℕ = owned (all_behind (slots_behind slots a.commands) more) in
    front_of slots a.commands ∙ ap (λ (l : List ℕ). owned mine ++ l) (front_of_all (slots_behind slots a.commands) more)
    ∙ sym (append_assoc (owned mine) (owned theirs) rest) ∙ ap (λ (l : List ℕ). l ++ rest) (sym (filter_map-append (λ o. o) mine theirs))
