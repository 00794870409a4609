use Rattle.std.proofs.Common.{◌∙◌, codes, inl, inr}
use Rattle.clap.proofs.WalkLemmas.{first_value-rows}
use Rattle.clap.specs.Words.{found_of}
use Rattle.gw_program.proofs.Asking.{flag_given}
use Rattle.gw_program.proofs.command_line.job_of.Goals as goal

pub returns-in-answer-clause-requested : goal.returns-in-answer-clause-requested
returns-in-answer-clause-requested c =
    (c.in-answer.is, c.get_str.ensures ∙ first_value-rows (found_of c.args.matches.now) (codes "CONFIG"))

pub returns-in-replay-clause-requested : goal.returns-in-replay-clause-requested
returns-in-replay-clause-requested c = (
  c.in-replay.is,
  c.text_of-file.ensures,
  flag_given (found_of c.args.matches.now)
      (codes "audit") c.get_flag.result c.get_flag.ensures.none c.get_flag.ensures.value c.get_flag.ensures.other,
  c.workers_in.ensures,
)

pub returns-in_ok-serving_of-in_default-clause-requested : goal.returns-in_ok-serving_of-in_default-clause-requested
returns-in_ok-serving_of-in_default-clause-requested c = (
  elim c.requires [
    | inl e ↦ absurd (c.in_default.not-answer e)
    | inr r ↦ elim r [
      | inl e ↦ absurd (c.in_default.not-check e)
      | inr q ↦ elim q [
        | inl e ↦ absurd (c.in_default.not-replay e)
        | inr e ↦ e
      ]
    ]
  ],
  c.in_ok-serving_of-in_default.ensures.requested,
)
