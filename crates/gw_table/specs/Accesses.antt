-- What is done to the maps as single reads and writes of entries, one after another (own): what executes transactions
-- side by side may rely on.
use Rattle.std.specs.Prelude.{◌≡◌, ℕ, true, List, Option, Some, ◌⊎◌}
use Rattle.gw_base.specs.declared.ids.CtxNum.{CtxNum}
use Rattle.gw_base.specs.declared.key.Key.{Key}
use Rattle.gw_base.specs.declared.key.Key.TheVariants.{Term, Ctx, Whole}
use Rattle.gw_base.specs.Keys.{has}
use Rattle.gw_base.specs.NameLists.{is_in}
use Rattle.gw_term.specs.declared.record.Termination.{Termination}
use Rattle.gw_ctx.specs.Contexts.{ContextRecord}
use Rattle.gw_table.specs.Maps.{Maps, Outcome, term, ctx, put_term, put_ctx, members_of, place_of}

pub data Accesses (A : Type 0) : Type 0 where
  Done : A → Accesses A
  ReadTerm : List ℕ → (Option Termination → Accesses A) → Accesses A
  ReadCtx : CtxNum → (Option ContextRecord → Accesses A) → Accesses A
  ReadAll : (Maps → Accesses A) → Accesses A
  PutTerm : List ℕ → Option Termination → Accesses A → Accesses A
  PutCtx : CtxNum → Option ContextRecord → Accesses A → Accesses A

-- what they do to the maps, and what they answer
abbrev pub effect : {A : Type 0} → Accesses A → Maps → Outcome A
effect (Done a) m = record { maps = m; answer = a }
effect (ReadTerm t f) m = effect (f (term m t)) m
effect (ReadCtx n f) m = effect (f (ctx m n)) m
effect (ReadAll f) m = effect (f m) m
effect (PutTerm t o p) m = effect p (put_term m t o)
effect (PutCtx n o p) m = effect p (put_ctx m n o)

-- some, and then those that their answer leads to
abbrev pub and_then : {A B : Type 0} → Accesses A → (A → Accesses B) → Accesses B
and_then (Done a) g = g a
and_then (ReadTerm t f) g = ReadTerm t (λ o. and_then (f o) g)
and_then (ReadCtx n f) g = ReadCtx n (λ o. and_then (f o) g)
and_then (ReadAll f) g = ReadAll (λ m. and_then (f m) g)
and_then (PutTerm t o p) g = PutTerm t o (and_then p g)
and_then (PutCtx n o p) g = PutCtx n o (and_then p g)

-- who is new in a list is one of the keys
abbrev pub NewIn : List Key → List (List ℕ) → List (List ℕ) → Type 0
NewIn keys old new = (t : List ℕ) → is_in t new ≡ true → (is_in t old ≡ true) ⊎ (has keys (Term t) ≡ true)

-- a place that is not the one before is one of the keys
abbrev pub NewPlace : List Key → Option CtxNum → Option CtxNum → Type 0
NewPlace keys old new = (c : CtxNum) → new ≡ Some c → (old ≡ Some c) ⊎ (has keys (Ctx c) ≡ true)

-- On these maps they read and write at these keys alone, and what they write names no place and no member beyond the
-- keys and who was there.
abbrev pub Within : {A : Type 0} → List Key → Accesses A → Maps → Type 0
Within keys (Done a) m = Unit {0}
Within keys (ReadTerm t f) m = (has keys (Term t) ≡ true) × Within keys (f (term m t)) m
Within keys (ReadCtx n f) m = (has keys (Ctx n) ≡ true) × Within keys (f (ctx m n)) m
Within keys (ReadAll f) m = (has keys Whole ≡ true) × Within keys (f m) m
Within keys (PutTerm t o p) m = (has keys (Term t) ≡ true) × NewPlace keys (place_of (term m t)) (place_of o) × Within keys p (put_term m t o)
Within keys (PutCtx n o p) m = (has keys (Ctx n) ≡ true) × NewIn keys (members_of (ctx m n)) (members_of o) × Within keys p (put_ctx m n o)
