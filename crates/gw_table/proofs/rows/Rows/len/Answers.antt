use Rattle.std.proofs.Common.{subst}
use Rattle.gw_table.specs.Rows.{Rowed, IsRising}
use Rattle.gw_table.proofs.TiedRows.{rising}
use Rattle.gw_table.proofs.rows.Rows.len.Goals as goal

pub returns : goal.returns
returns g c = record { ordered = subst (λ (m : Rowed g.row.K.Denot _). IsRising g.K.Ord.cmp m) c.self.view_is (rising g.met.K.Ord.total c.self.inside.rows.slots c.self.inside.index.entries c.self.invariant) }
