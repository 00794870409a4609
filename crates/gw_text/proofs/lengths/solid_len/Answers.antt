use Rattle.std.proofs.Common.{rules, tests}
use Rattle.gw_text.specs.Lexical.{is_solid}
use Rattle.gw_text.proofs.Fronts.{counted_run}
use Rattle.gw_text.proofs.lengths.solid_len.Goals as goal

pub returns-clause-value : goal.returns-clause-value
returns-clause-value c = counted_run is_solid c.args.text.now _ c.count.ensures.ran (cc) c.take_while.ensures.closure c.take_while.ensures.done (λ x b q k. search (rules, tests))
