use Rattle.std.proofs.Common.{rules, tests}
use Rattle.gw_text.specs.Quoted.{is_quotable}
use Rattle.gw_text.proofs.Fronts.{counted_run}
use Rattle.gw_text.proofs.octets.quotable_len.Goals as goal

pub returns-clause-value : goal.returns-clause-value
returns-clause-value c = counted_run is_quotable c.args.text.now _ c.count.ensures.ran (cc) c.take_while.ensures.closure c.take_while.ensures.done (λ x b q k. search (rules, tests))
