-- Slots that are free, while commands use them up one after another.
use Rattle.std.proofs.Common.{◌≡◌, ℕ, suc, ◌<◌, ◌^◌, true, List, [], ◌∷◌, length, get_or, Option, None, Some, refl, arith}
use Rattle.std.specs.Prelude.{◌≢◌, All}
use Rattle.gw_base.specs.declared.command_words.Rules.{Rules}
use Rattle.gw_msg.specs.declared.message.Command.{Command}
use Rattle.gw_table.specs.Maps.{Maps, term}
use Rattle.gw_table.specs.Reserved.{slot_name}
use Rattle.gw_table.specs.Unused.{owned}
use Rattle.gw_table.proofs.SlotNames.{slots_apart}
use Rattle.gw_refusal.specs.declared.at.At.{At}
use Rattle.gw_cmd.specs.Commands.{command}
use Rattle.gw_cmd.specs.Suits.{IsUnused}
use Rattle.gw_cmd.proofs.Kept.{MayMake, kept_command}
use Rattle.gw_cmd.proofs.KeptSound.{absent_is_kept}
use Rattle.gw_reserve.specs.Owned.{first_owned, later_owned, AreFreeSlots}

-- another slot than the one that a command owns
abbrev pub IsOther : Option ℕ → ℕ → Type 0
IsOther None t = Unit {0}
IsOther (Some s) t = slot_name s ≢ slot_name t

-- no termination came into being in a slot but in this one
abbrev pub MakesNone : Option ℕ → Maps → Maps → Type 0
MakesNone slot m n = (t : ℕ) → IsOther slot t → term m (slot_name t) ≡ None → term n (slot_name t) ≡ None

-- what is owned, if anything, is of a kind
abbrev pub IsOfKind : {X : Type 0} → (X → Type 0) → Option X → Type 0
IsOfKind S None = Unit {0}
IsOfKind S (Some s) = S s

abbrev pub AnySlot : ℕ → Type 0
AnySlot s = Unit {0}

other : (t : ℕ) (slot : Option ℕ) → IsOther slot t → MayMake (λ s. slot_name s ≢ slot_name t) slot
other t slot o = grind arith

-- a command makes none but in its own
pub makes_none : (rules : Rules) (at : At) (slot : Option ℕ) (c : Command) (m : Maps) → IsUnused slot m → MakesNone slot m (command rules at slot c m).maps
makes_none rules at slot c m u t o none =
    kept_command rules (λ _. true) (λ s. slot_name s ≢ slot_name t) (absent_is_kept rules (slot_name t)) at slot c m (λ _. refl) u (other t slot o) none

pub free_slot : (m : Maps) (slots : List (Option ℕ)) → AreFreeSlots m slots → IsUnused (first_owned slots) m
free_slot m slots f = grind arith

pub kind_first : {X : Type 0} (S : X → Type 0) (slots : List (Option X)) → All S (owned slots) → IsOfKind S (first_owned slots)
kind_first S [] f = tt
kind_first S (None ∷ os) f = tt
kind_first S (Some s ∷ os) f = f 0 s (omega arith)

pub kind_later : {X : Type 0} (S : X → Type 0) (slots : List (Option X)) → All S (owned slots) → All S (owned (later_owned slots))
kind_later S [] f = f
kind_later S (None ∷ os) f = f
kind_later S (Some s ∷ os) f = λ k d h. f (suc k) d (omega arith)

behind_first : (m : Maps) (s : ℕ) (os : List (Option ℕ)) → AreFreeSlots m (Some s ∷ os) → AreFreeSlots m os
behind_first m s os f = record {
  numbers_apart = f.numbers_apart;
  no_contexts = f.no_contexts;
  slots_apart = λ i j d a b. f.slots_apart (suc i) (suc j) d (omega arith) (omega arith);
  no_terminations = λ k d h. f.no_terminations (suc k) d (omega arith);
  slots_small = λ k d h. f.slots_small (suc k) d (omega arith);
}

small : (m : Maps) (s : ℕ) (os : List (Option ℕ)) → AreFreeSlots m (Some s ∷ os) → s < 2 ^ 16
small m s os f = omega (arith, f.slots_small 0 s (omega arith))

later_small : (m : Maps) (s : ℕ) (os : List (Option ℕ)) → AreFreeSlots m (Some s ∷ os) → (k d : ℕ) → k < length (owned os) → get_or (owned os) k d < 2 ^ 16
later_small m s os f k d h = omega (arith, f.slots_small (suc k) d (omega arith))

pub free_later : (m : Maps) (slots : List (Option ℕ)) → AreFreeSlots m slots → AreFreeSlots m (later_owned slots)
free_later m [] f = f
free_later m (None ∷ os) f = f
free_later m (Some s ∷ os) f = behind_first m s os f

pub free_on : (m n : Maps) (slot : Option ℕ) (slots : List (Option ℕ)) → All (IsOther slot) (owned slots) → MakesNone slot m n → AreFreeSlots m slots → AreFreeSlots n slots
free_on m n slot slots other none f = grind arith

-- the slots behind the one that a command owns stay free
pub free_after : (m n : Maps) (slots : List (Option ℕ)) → MakesNone (first_owned slots) m n → AreFreeSlots m slots → AreFreeSlots n (later_owned slots)
free_after m n [] none f = free_on m n None [] (λ k d h. tt) none f
free_after m n (None ∷ os) none f = free_on m n None os (λ k d h. tt) none f
free_after m n (Some s ∷ os) none f = free_on m n (Some s) os
    (λ k d h e. f.slots_apart 0 (suc k) d (omega arith) (omega arith) (slots_apart s (get_or (owned os) k d) (small m s os f) (later_small m s os f k d h) e)) none (behind_first m s os f)
