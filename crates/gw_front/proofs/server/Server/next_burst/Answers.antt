use Rattle.std.proofs.Common.{rules}
use Rattle.gw_front.proofs.Gathering.{gathers_next, gathers_still, HasSame-trans}
use Rattle.gw_front.proofs.server.Server.next_burst.Goals.{in-None, in-Some+in_ok-is_drained+then-not-is_empty, else-is_drained-via-then-is_drained+else-is_err, else-is_drained-via-else-is_drained}
use Rattle.gw_front.proofs.server.Server.next_burst.Goals as goal

pub returns-in_err-is_drained-clause-gathered : goal.returns-in_err-is_drained-clause-gathered
returns-in_err-is_drained-clause-gathered g c =
    gathers_next c.loop.invariant.same c.loop.invariant.gathered c.receive_burst.ensures.gathered

pub returns-then-is_err-clause-gathered : goal.returns-then-is_err-clause-gathered
returns-then-is_err-clause-gathered g c =
    gathers_still (gathers_next c.loop.invariant.same c.loop.invariant.gathered c.receive_burst.ensures.gathered)
    c.wait.ensures

pub loop-preserved : goal.loop-preserved
loop-preserved g c =
    let more = gathers_next c.loop.invariant.same c.loop.invariant.gathered c.receive_burst.ensures.gathered in
    record {
      can_next = tt;
      is_finite = tt;
      gathered = elim c.else-is_drained.branch [
        | else-is_drained-via-then-is_drained+else-is_err w ↦ rw w.exchange-is (gathers_still more w.wait.ensures)
        | else-is_drained-via-else-is_drained w ↦ rw w.exchange-is more
      ];
      senders = search rules;
      same = HasSame-trans c.loop.invariant.same c.receive_burst.ensures.same;
    }

pub returns-clause-gathered : goal.returns-clause-gathered
returns-clause-gathered g c = elim c.match-next.branch [
  | in-None w ↦ rw (w.self-is, w.exchange-is) c.loop.invariant.gathered
  | in-Some+in_ok-is_drained+then-not-is_empty w ↦ rw (w.self-is, w.exchange-is)
      (gathers_next c.loop.invariant.same c.loop.invariant.gathered w.receive_burst.ensures.gathered)
]
