use Rattle.std.proofs.Common.{ℕ, ◌+◌, List, take, sym, subst}
use Rattle.std.specs.List.{AllZip}
use Rattle.gw_engine.proofs.OneMore.{one_more}
use Rattle.gw_engine.specs.declared.datagram.Datagram.{Datagram}
use Rattle.gw_engine.specs.declared.reading.ReadDatagram.{ReadDatagram}
use Rattle.gw_engine.specs.Bursts.{IsReadAs}
use Rattle.gw_engine.proofs.reading.read_burst.Goals as goal

pub loop-datagram-preserved : goal.loop-datagram-preserved
loop-datagram-preserved c =
    let i : ℕ = c.loop-datagram.datagram-index in
    let d : Datagram = c.datagram-item.result in
    let burst : List Datagram = c.args.burst.now in
    subst (λ (l : List ReadDatagram). AllZip IsReadAs (take (i + 1) burst) l) (sym c.in_ok-push.ensures.ok) (one_more IsReadAs burst c.loop-datagram.messages i d c.in_ok-read_datagram.field-0 c.loop-datagram-test.true c.datagram-item.is c.loop-datagram.invariant c.in_ok-read_datagram.ensures)
