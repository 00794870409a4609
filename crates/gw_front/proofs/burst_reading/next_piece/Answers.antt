use Rattle.std.proofs.Common.{◌≡◌, ◌<◌, ◌⊎◌, arith}
use Rattle.std.specs.Io.Buffered.{reader_remaining}
use Rattle.std.proofs.lemmas.Result.{err_from_is_err_and}
use Rattle.gw_front.specs.Records.{IsHeaderLine, longest_datagram, most_datagrams}
use Rattle.gw_front.specs.Headers.{SaysLine}
use Rattle.gw_front.specs.Inputs.{TakesFrom}
use Rattle.gw_front.proofs.Pieces.{bad_datagram, whole_record, too_much}
use Rattle.gw_front.proofs.burst_reading.next_piece.Goals as goal

pub returns-in_err-datagram-in-Some-Datagram : goal.returns-in_err-datagram-in-Some-Datagram
returns-in_err-datagram-in-Some-Datagram g c =
    let p = err_from_is_err_and c.from_residual-in_err-datagram-in-Some-Datagram.result c.from_residual-in_err-datagram-in-Some-Datagram.ensures.1 in
    let old = reader_remaining g.R.Read.remaining c.args.reader.now in
    let mid = reader_remaining g.R.Read.remaining c.read_header.new.reader in
    let peer = c.in-Some-Datagram.peer in
    let size = c.in-Some-Datagram.size in
    let some : TakesFrom (SaysLine c.in-Some-Datagram.field-0) old mid = rw c.in-Some-Datagram.is at c.in_ok-read_header.ensures in
    let taken : TakesFrom (IsHeaderLine peer size) old mid = rw c.in-Some-Datagram.field-0-is at some in
    let room : c.args.before < most_datagrams = grind arith in
    rw (p.1, p.2) (bad_datagram old mid c.args.before peer size c.in_err-datagram-in-Some-Datagram.field-0.0 taken c.if-size-gt-LONGEST_DATAGRAM.false room c.in_err-datagram-in-Some-Datagram.ensures.fault)

pub returns-in_ok-datagram-in-Some-Datagram : goal.returns-in_ok-datagram-in-Some-Datagram
returns-in_ok-datagram-in-Some-Datagram g c =
    let old = reader_remaining g.R.Read.remaining c.args.reader.now in
    let mid = reader_remaining g.R.Read.remaining c.read_header.new.reader in
    let new = reader_remaining g.R.Read.remaining c.read_datagram.new.reader in
    let peer = c.in-Some-Datagram.peer in
    let size = c.in-Some-Datagram.size in
    let some : TakesFrom (SaysLine c.in-Some-Datagram.field-0) old mid = rw c.in-Some-Datagram.is at c.in_ok-read_header.ensures in
    let taken : TakesFrom (IsHeaderLine peer size) old mid = rw c.in-Some-Datagram.field-0-is at some in
    let room : c.args.before < most_datagrams = grind arith in
    let d = c.in_ok-datagram-in-Some-Datagram.datagram in
    let e = c.in_ok-datagram-in-Some-Datagram.ensures in
    (room, whole_record old mid new peer size d taken c.if-size-gt-LONGEST_DATAGRAM.false e.peer e.size e.bytes)

pub returns-then-size-gt-LONGEST_DATAGRAM : goal.returns-then-size-gt-LONGEST_DATAGRAM
returns-then-size-gt-LONGEST_DATAGRAM g c =
    let old = reader_remaining g.R.Read.remaining c.args.reader.now in
    let mid = reader_remaining g.R.Read.remaining c.read_header.new.reader in
    let peer = c.in-Some-Datagram.peer in
    let size = c.in-Some-Datagram.size in
    let some : TakesFrom (SaysLine c.in-Some-Datagram.field-0) old mid = rw c.in-Some-Datagram.is at c.in_ok-read_header.ensures in
    let taken : TakesFrom (IsHeaderLine peer size) old mid = rw c.in-Some-Datagram.field-0-is at some in
    let much : (longest_datagram < size) ⊎ (c.args.before ≡ most_datagrams) = grind arith in
    too_much old mid c.args.before peer size taken much
