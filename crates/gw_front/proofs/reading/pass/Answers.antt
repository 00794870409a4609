use Rattle.std.proofs.Common.{ap}
use Rattle.std.specs.Io.Buffered.{reader_buffer, reader_capacity, reader_inner}
use Rattle.gw_front.proofs.Streams.{passed}
use Rattle.gw_front.proofs.reading.pass.Goals as goal

pub returns : goal.returns
returns g c =
    let old = c.args.reader.now in
    let new = c.consume.new.self in
    passed (reader_capacity old) (reader_capacity new) (g.R.Read.remaining (reader_inner old)) (g.R.Read.remaining (reader_inner new)) (reader_buffer old) (reader_buffer new) c.args.count
    c.consume.ensures.capacity (ap g.R.Read.remaining c.consume.ensures.inner) c.consume.ensures.buffer
