-- Identifiers that $ places own (own): which commands own a slot, and that what is owned is unused.
use Rattle.std.specs.Prelude.{◌≡◌, ◌≢◌, ℕ, ◌<◌, Bool, true, false, List, All, AllPairs, filter_map, Option, None}
use Rattle.gw_base.specs.declared.command_words.Verb.{Verb}
use Rattle.gw_base.specs.declared.command_words.Verb.TheVariants.{Add, Modify, Move, Subtract, AuditValue, AuditCapability, Notify, ServiceChange}
use Rattle.gw_base.specs.declared.ids.CtxNum.{CtxNum}
use Rattle.gw_base.specs.declared.term_ref.TermRef.{TermRef}
use Rattle.gw_base.specs.declared.term_ref.TermRef.TheVariants.{Choose}
use Rattle.gw_table.specs.Maps.{Maps, term, ctx}
use Rattle.gw_table.specs.Reserved.{slot_name}

-- an Add of $ or RTP/$ owns a slot
abbrev pub owns_slot : Verb → TermRef → Bool
owns_slot Add Choose = true
owns_slot Add t = false
owns_slot Modify t = false
owns_slot Move t = false
owns_slot Subtract t = false
owns_slot AuditValue t = false
owns_slot AuditCapability t = false
owns_slot Notify t = false
owns_slot ServiceChange t = false

-- what places own, in their order
abbrev pub owned : {X : Type 0} → List (Option X) → List X
owned places = filter_map (λ o. o) places

-- no two places own the same, no context has one of the numbers, and no termination the name of one of the slots
pub record AreUnused (m : Maps) (numbers : List CtxNum) (slots : List ℕ) : Type 0 where
  pub numbers_apart : AllPairs (λ a b. a ≢ b) numbers
  pub no_contexts : All (λ n. ctx m n ≡ None) numbers
  pub slots_apart : AllPairs (λ a b. a ≢ b) slots
  pub no_terminations : All (λ s. term m (slot_name s) ≡ None) slots
  pub slots_small : All (λ s. s < 4096) slots
