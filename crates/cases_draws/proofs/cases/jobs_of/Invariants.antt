use Rattle.std.proofs.Common.{◌≡◌, vec_len}
use Rattle.cases_draws.proofs.cases.jobs_of.Given as goal

abbrev pub invariant-loop-number : goal.invariant-loop-number
invariant-loop-number l = vec_len l.jobs ≡ l.number
