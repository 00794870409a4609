-- What was executed while a gateway was served (own).
use Rattle.std.specs.Prelude.{ℕ, ◌+◌, ◌-◌, ◌^◌, ◌<◌, ◌≤◌, min, Option, None, Some}
use Rattle.gw_engine.specs.declared.counts.BurstCounts.{BurstCounts}
use Rattle.gw_front.specs.declared.totals.Totals.{Totals}

abbrev pub no_totals : Totals
no_totals = record {
  bursts = 0;
  datagrams = 0;
  executed = 0;
  repeats = 0;
  over = 0;
  errors = 0;
  answers = 0;
  dropped_in_row = 0;
}

-- a number that is full stays
abbrev pub more : ℕ → ℕ → ℕ
more old n = min (old + n) (2 ^ 64 - 1)

-- behind a burst that was executed: of so many datagrams, with these counts and so many answers
abbrev pub with_burst : Totals → ℕ → BurstCounts → ℕ → Totals
with_burst t datagrams counts answers = record {
  bursts = more t.bursts 1;
  datagrams = more t.datagrams datagrams;
  executed = more t.executed counts.executed;
  repeats = more t.repeats counts.repeats;
  over = more t.over counts.over;
  errors = more t.errors counts.errors;
  answers = more t.answers answers;
  dropped_in_row = 0;
}

-- behind a burst that was dropped
abbrev pub with_dropped : Totals → Totals
with_dropped t = record t { dropped_in_row = more t.dropped_in_row 1 }

-- so many bursts in a row were dropped as may be, one at the least
abbrev pub IsFull : Option ℕ → Totals → Type 0
IsFull None t = ⊥
IsFull (Some most) t = (most ≤ t.dropped_in_row) × (0 < t.dropped_in_row)
