-- Parts that are out, and parts that come back changed.
use Rattle.std.proofs.Common.{◌≡◌, ℕ, Bool, cond, List, Option, None, get_or, ◌∙◌, arith}
use Rattle.gw_base.specs.declared.key.Key.{Key}
use Rattle.gw_base.specs.declared.key.Key.TheVariants.{Term}
use Rattle.gw_base.specs.Keys.{has}
use Rattle.gw_term.specs.declared.record.Termination.{Termination}
use Rattle.gw_table.specs.Maps.{Maps, term}
use Rattle.gw_table.specs.Parts.{restricted, cut, overlaid}
use Rattle.gw_table.specs.Reserved.{slot_name}
use Rattle.gw_table.specs.Unused.{owned}
use Rattle.gw_table.proofs.Lookups.{same_maps}
use Rattle.gw_table.proofs.PartLookups.{term-restricted, term-cut, ctx-cut, term-overlaid, ctx-overlaid}
use Rattle.gw_reserve.specs.Owned.{AreFreeSlots}

-- what is laid over the keys does not depend on what was there
pub laid_beside : (keys : List Key) (part m : Maps) → overlaid keys part (cut keys m) ≡ overlaid keys part m
laid_beside keys part m = grind (arith, same_maps, term-overlaid, term-cut, ctx-overlaid, ctx-cut)

-- ---- slots that are unused

none_in : (b : Bool) (o : Option Termination) → o ≡ None → cond b o None ≡ None
none_in b o e = grind arith

none_beside : (b : Bool) (o : Option Termination) → o ≡ None → cond b None o ≡ None
none_beside b o e = grind arith

-- slots that have no termination in some maps have none in maps with fewer
fewer : (slots : List (Option ℕ)) (m n : Maps) → ((q : List ℕ) → term m q ≡ None → term n q ≡ None) → AreFreeSlots m slots → AreFreeSlots n slots
fewer slots m n none u = record {
  numbers_apart = u.numbers_apart;
  no_contexts = λ k d h. absurd (omega arith);
  slots_apart = u.slots_apart;
  no_terminations = λ k d h. none (slot_name (get_or (owned slots) k d)) (u.no_terminations k d h);
  slots_small = u.slots_small;
}

pub part_unused : (keys : List Key) (slots : List (Option ℕ)) (m : Maps) → AreFreeSlots m slots → AreFreeSlots (restricted keys m) slots
part_unused keys slots m u = fewer slots m (restricted keys m) (λ q e. term-restricted keys m q ∙ none_in (has keys (Term q)) (term m q) e) u

pub cut_unused : (out : List Key) (slots : List (Option ℕ)) (m : Maps) → AreFreeSlots m slots → AreFreeSlots (cut out m) slots
cut_unused out slots m u = fewer slots m (cut out m) (λ q e. term-cut out m q ∙ none_beside (has out (Term q)) (term m q) e) u
