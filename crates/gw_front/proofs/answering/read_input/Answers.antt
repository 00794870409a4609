use Rattle.std.proofs.Common.{◌≡◌, ◌≤◌, ℕ, List, length, rules, subst, sym}
use Rattle.std.specs.Prelude.{IfSome}
use Rattle.gw_front.proofs.WholeInput.{read_up, whole}
use Rattle.gw_front.proofs.answering.read_input.Goals as goal

pub returns-in-Ok : goal.returns-in-Ok
returns-in-Ok g c =
    let same : g.R.Read.remaining c.take.result.inner.now ≡ g.R.Read.remaining c.args.reader.now = rw c.take.ensures.inner in
    let short : length c.read_to_end.new.buf.items ≤ 65507 = search rules in (
      subst (λ (l : List ℕ). IfSome (g.R.Read.remaining c.args.reader.now) (λ text. l ≡ text)) (sym c.from.ensures)
          (whole 65508 (g.R.Read.remaining c.args.reader.now) c.read_to_end.new.buf.items
          (read_up c.take.result.limit 65508 (g.R.Read.remaining c.take.result.inner.now) (g.R.Read.remaining c.args.reader.now) c.read_to_end.new.buf.items c.new-bytes.result.items c.take.ensures.limit same c.new-bytes.ensures.items c.in-Ok.ensures.bytes)
          (search rules)),
      rw c.from.ensures short,
    )
