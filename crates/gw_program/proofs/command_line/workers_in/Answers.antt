use Rattle.std.specs.Str.Parse.{ExplainsUnsignedError, HasUnsignedDigitsIfOk, ParsesUnsigned}
use Rattle.clap.specs.Words.{found_of}
use Rattle.std.proofs.Common.{codes}
use Rattle.gw_program.proofs.Asking.{number_given, workers_given}
use Rattle.gw_program.proofs.command_line.workers_in.Goals as goal

pub returns : goal.returns
returns c =
    workers_given _ c.get_one.result c.of.result.count
    (number_given (found_of c.args.matches.now) (codes "WORKERS") c.get_one.result (λ bs r. ParsesUnsigned 64 10 bs r × ExplainsUnsignedError 10 bs r × HasUnsignedDigitsIfOk bs r) (λ text r h. h.0) c.get_one.ensures.none c.get_one.ensures.value)
    c.of.ensures.said c.of.ensures.alone
