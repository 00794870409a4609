use Rattle.std.proofs.Common.{length, ap, arith}
use Rattle.std.proofs.lemmas.List.{length-map}
use Rattle.gw_kept.specs.Pairs.{key_of}
use Rattle.gw_kept.specs.Rows.{Gapped, present}
use Rattle.gw_kept.proofs.Rows.{present_map}
use Rattle.gw_kept.proofs.row.Row.len.Goals as goal

pub returns-clause-value : goal.returns-clause-value
returns-clause-value c =
    let si = c.self.inside in
    omega (arith, c.len.ensures, si.order.numbers.ok.0, c.self.invariant.1.many, ap length (present_map key_of si.ring.items), length-map (present si.ring.items) key_of, ap (λ (g : Gapped). length (present g.row)) c.self.view_is)
