use Rattle.std.proofs.Common.{◌+◌, ◌≤◌, arith, length, subst, sym}
use Rattle.gw_front.specs.declared.inbox.Inbox.{Inbox}
use Rattle.gw_front.proofs.Gathering.{gathers_next, HasSame-trans}
use Rattle.gw_front.proofs.server.Server.receive_burst.Goals as goal

pub returns-in_err-receive-clause-gathered : goal.returns-in_err-receive-clause-gathered
returns-in_err-receive-clause-gathered g c =
    gathers_next c.loop-room.invariant.same c.loop-room.invariant.gathered c.receive.ensures.gathered

pub returns-in-Nothing-clause-gathered : goal.returns-in-Nothing-clause-gathered
returns-in-Nothing-clause-gathered g c =
    gathers_next c.loop-room.invariant.same c.loop-room.invariant.gathered c.receive.ensures.gathered

pub loop-room-preserved-in-Datagram : goal.loop-room-preserved-in-Datagram
loop-room-preserved-in-Datagram g c = record {
  gathered = gathers_next c.loop-room.invariant.same c.loop-room.invariant.gathered c.receive.ensures.gathered;
  same = HasSame-trans c.loop-room.invariant.same c.receive.ensures.same;
  few = omega (arith, c.receive.ensures.grown, c.loop-room.invariant.few, c.loop-room-test.true);
}

pub loop-room-preserved : goal.loop-room-preserved
loop-room-preserved g c = record {
  gathered = gathers_next c.loop-room.invariant.same c.loop-room.invariant.gathered c.receive.ensures.gathered;
  same = HasSame-trans c.loop-room.invariant.same c.receive.ensures.same;
  few = subst (λ (i : Inbox). length i.senders.items + c.loop-room.room ≤ 256)
      (sym (c.in_ok-receive.ensures.stranger c.in-Stranger.is)) c.loop-room.invariant.few;
}
