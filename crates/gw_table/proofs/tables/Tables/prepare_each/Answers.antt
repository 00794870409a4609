use Rattle.std.proofs.Common.{sym, ap, ◌∙◌}
use Rattle.gw_table.specs.Stored.{Stored, is_ready}
use Rattle.gw_table.proofs.Prepared.{no_other_ready}
use Rattle.gw_table.proofs.tables.Tables.prepare_each.Goals as goal

pub returns-in_err-guide-clause-alone : goal.returns-in_err-guide-clause-alone
returns-in_err-guide-clause-alone c k off h =
    no_other_ready c.args.keys.now c.loop-i.i c.args.self.now c.loop-i.self c.loop-i.invariant k off (ap (λ (s : Stored). is_ready s k) (sym c.in_err-guide.ensures.err) ∙ h)
