use Rattle.std.proofs.Common.{codes}
use Rattle.std.specs.Str.Parse.{ExplainsUnsignedError, HasUnsignedDigitsIfOk, ParsesUnsigned}
use Rattle.clap.specs.Words.{found_of}
use Rattle.gw_program.proofs.Asking.{number_given}
use Rattle.gw_program.proofs.command_line.serving_of.Goals as goal

pub returns-clause-requested : goal.returns-clause-requested
returns-clause-requested c = record {
  file = c.text_of.ensures;
  listen = c.text_of-2.ensures;
  workers = c.workers_in.ensures;
  bursts = number_given (found_of c.args.matches.now) (codes "N") c.get_one.result
      (λ bs r. ParsesUnsigned 64 10 bs r × ExplainsUnsignedError 10 bs r × HasUnsignedDigitsIfOk bs r) (λ text r h. h.0)
      c.get_one.ensures.none c.get_one.ensures.value;
  controllers = c.in_ok-controllers_in.ensures.named;
  report = number_given (found_of c.args.matches.now) (codes "REPORT") c.get_one-2.result
      (λ bs r. ParsesUnsigned 64 10 bs r × ExplainsUnsignedError 10 bs r × HasUnsignedDigitsIfOk bs r) (λ text r h. h.0)
      c.get_one-2.ensures.none c.get_one-2.ensures.value;
  give_up = number_given (found_of c.args.matches.now) (codes "GIVE_UP") c.get_one-3.result
      (λ bs r. ParsesUnsigned 64 10 bs r × ExplainsUnsignedError 10 bs r × HasUnsignedDigitsIfOk bs r) (λ text r h. h.0)
      c.get_one-3.ensures.none c.get_one-3.ensures.value;
}
