-- Four places by the number of a stream, and four by the kind of a tail (own): what stands at each, what is made of
-- all, and what holds of all.
use denote.Ref.{Bor}
use Rattle.std.specs.Prelude.{◌⊎◌, ℕ, ◌==◌, if◌then◌else◌, List, ◌++◌, Option}
use Rattle.std.specs.Option.{option_copied}
use Rattle.gw_desc.specs.Checks.{same_kept}
use Rattle.gw_desc.specs.declared.descriptor.KeptKind.{KeptKind}
use Rattle.gw_desc.specs.declared.descriptor.KeptKind.TheVariants.{Events, Signals, DigitMap, EventBuffer}
use Rattle.gw_term.specs.declared.places.PerKind.{PerKind}
use Rattle.gw_term.specs.declared.places.PerStream.{PerStream}

-- ---- by the number of a stream, 1 to 4

-- what each number has
abbrev pub numbered : {A : Type 0} → (ℕ → A) → PerStream A
numbered f = record { first = f 1; second = f 2; third = f 3; fourth = f 4 }

-- what stands at a number
abbrev pub at_number : {A : Type 0} → ℕ → PerStream A → A
at_number number p = if number == 1 then p.first else if number == 2 then p.second else if number == 3 then p.third else p.fourth

-- the places, with this at a number; there is none for a number that no stream has
abbrev pub put_number : {A : Type 0} → ℕ → A → PerStream A → PerStream A
put_number number a p = record {
  first = if number == 1 then a else p.first;
  second = if number == 2 then a else p.second;
  third = if number == 3 then a else p.third;
  fourth = if number == 4 then a else p.fourth;
}

-- what references lead to
abbrev pub numbers_read : {A : Type 0} → PerStream (Option (Bor A)) → PerStream (Option A)
numbers_read p = numbered (λ number. option_copied (at_number number p))

-- how each place is written, in rising order
abbrev pub rising : {A B : Type 0} → (ℕ → A → List B) → PerStream A → List B
rising f p = f 1 p.first ++ f 2 p.second ++ f 3 p.third ++ f 4 p.fourth

-- it holds of each place
pub record AtEach {A : Type 0} (P : ℕ → A → Type 0) (p : PerStream A) : Type 0 where
  pub first : P 1 p.first
  pub second : P 2 p.second
  pub third : P 3 p.third
  pub fourth : P 4 p.fourth

-- it holds between what stands in each place of the one and of the other
pub record Between {A B : Type 0} (P : ℕ → A → B → Type 0) (p : PerStream A) (q : PerStream B) : Type 0 where
  pub first : P 1 p.first q.first
  pub second : P 2 p.second q.second
  pub third : P 3 p.third q.third
  pub fourth : P 4 p.fourth q.fourth

-- it holds of one of the places
abbrev pub AtSome : {A : Type 0} → (ℕ → A → Type 0) → PerStream A → Type 0
AtSome P p = P 1 p.first ⊎ P 2 p.second ⊎ P 3 p.third ⊎ P 4 p.fourth

-- ---- by the kind of a tail

-- what each kind has
abbrev pub of_kinds : {A : Type 0} → (KeptKind → A) → PerKind A
of_kinds f = record { events = f Events; signals = f Signals; digit_map = f DigitMap; event_buffer = f EventBuffer }

-- what stands at a kind
abbrev pub at_kind : {A : Type 0} → KeptKind → PerKind A → A
at_kind Events p = p.events
at_kind Signals p = p.signals
at_kind DigitMap p = p.digit_map
at_kind EventBuffer p = p.event_buffer

-- the places, with this at a kind
abbrev pub put_kind : {A : Type 0} → KeptKind → A → PerKind A → PerKind A
put_kind kind a p = of_kinds (λ other. if same_kept other kind then a else at_kind other p)

-- what references lead to
abbrev pub kinds_read : {A : Type 0} → PerKind (Option (Bor A)) → PerKind (Option A)
kinds_read p = of_kinds (λ kind. option_copied (at_kind kind p))
