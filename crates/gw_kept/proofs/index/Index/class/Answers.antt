use Rattle.std.specs.Option.{is_some}
use Rattle.gw_kept.proofs.Indexes.{ack_at}
use Rattle.gw_kept.proofs.index.Index.class.Goals as goal

pub returns-in-Ack-clause-exact : goal.returns-in-Ack-clause-exact
returns-in-Ack-clause-exact c =
    let self = c.args.self.now in
    λ requested s h known.
    ack_at (is_some self.left) self.most self.before requested c.acknowledge.new.self s c.args.point.now c.in-Ack.removal c.in-Ack.is (c.acknowledge.ensures.exact requested s h) (c.acknowledge.ensures.none requested s h)
