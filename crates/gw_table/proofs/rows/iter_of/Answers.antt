use Rattle.std.proofs.Common.{ap, sym, subst}
use Rattle.gw_table.specs.Rows.{AreThere, rowed}
use Rattle.gw_table.proofs.TiedRows.{all_there}
use Rattle.gw_table.proofs.rows.iter_of.Goals as goal

pub invariant_of-result : goal.invariant_of-result
invariant_of-result g c = subst (λ es. AreThere c.args.rows.now.slots es) (sym c.iter.ensures.rest) (all_there g.met.K.Ord.total c.args.rows.now.slots c.args.index.now.entries c.requires)

pub returns : goal.returns
returns g c = ap (λ es. rowed es c.args.rows.now.slots) c.iter.ensures.rest
