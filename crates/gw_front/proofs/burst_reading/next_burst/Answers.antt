use Rattle.std.proofs.Common.{◌<◌, ℕ, length, codes, subst}
use Rattle.std.specs.Io.Buffered.{reader_remaining}
use Rattle.std.specs.Io.KnownBytes.{Consumes}
use Rattle.gw_front.specs.Records.{IsRecord, most_datagrams}
use Rattle.gw_front.specs.Inputs.{TakesFrom}
use Rattle.gw_front.proofs.Pieces.{one_more, burst_ended}
use Rattle.gw_front.proofs.burst_reading.next_burst.Goals as goal

pub loop-burst-preserved : goal.loop-burst-preserved
loop-burst-preserved g c =
    let old = reader_remaining g.R.Read.remaining c.args.reader.now in
    let mid = reader_remaining g.R.Read.remaining c.loop-burst.reader in
    let new = reader_remaining g.R.Read.remaining c.next_piece.new.reader in
    let d = c.in-Datagram.datagram in
    let piece : (c.len.result < most_datagrams) × TakesFrom (IsRecord d) mid new = rw c.in-Datagram.is at c.in_ok-datagram.ensures in
    let next : (length c.loop-burst.burst < most_datagrams) × TakesFrom (IsRecord d) mid new =
    subst (λ (n : ℕ). (n < most_datagrams) × TakesFrom (IsRecord d) mid new) c.len.ensures piece in
    rw c.in_ok-push-in-Datagram.ensures.ok (one_more old mid new c.loop-burst.burst d c.loop-burst.invariant next)

pub returns-in-Stop : goal.returns-in-Stop
returns-in-Stop g c =
    let old = reader_remaining g.R.Read.remaining c.args.reader.now in
    let mid = reader_remaining g.R.Read.remaining c.loop-burst.reader in
    let new = reader_remaining g.R.Read.remaining c.next_piece.new.reader in
    let stop : Consumes mid new (codes ".\n") = rw c.in-Stop.is at c.in_ok-datagram.ensures in
    burst_ended old mid new c.loop-burst.burst c.loop-burst.invariant stop
