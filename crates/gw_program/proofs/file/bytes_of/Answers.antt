use Rattle.std.proofs.Common.{◌≡◌}
use Rattle.gw_front.proofs.WholeInput.{read_up}
use Rattle.gw_program.proofs.file.bytes_of.Goals as goal

pub returns : goal.returns
returns g c =
    let same : g.R.File.Read.remaining c.take.result.inner ≡ g.R.File.Read.remaining c.in_ok-open.field-0 = rw c.take.ensures.inner in
    (c.in_ok-open.field-0, read_up c.take.result.limit 16777217 (g.R.File.Read.remaining c.take.result.inner) (g.R.File.Read.remaining c.in_ok-open.field-0) c.read_to_end.new.buf.items c.new-text.result.items c.take.ensures.limit same c.new-text.ensures.items c.in_ok-read_to_end.ensures.bytes)
