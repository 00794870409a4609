use Rattle.std.proofs.Common.{refl}
use Rattle.std.proofs.lemmas.Result.{err_from_is_err_and}
use Rattle.gw_program.specs.Faults.{of_replay}
use Rattle.gw_program.proofs.Ends.{stopped, unprinted, plain, with_tables}
use Rattle.gw_program.proofs.entry.replay_with.Goals.{then-audit+in_ok-print_tables, else-audit}
use Rattle.gw_program.proofs.entry.replay_with.Goals as goal

pub returns-in_err-replay : goal.returns-in_err-replay
returns-in_err-replay g c =
    let p = err_from_is_err_and c.from_residual.result c.from_residual.ensures.1 in
    rw (p.1, p.2) (stopped c.args.audit c.args.gateway.now c.replay.new.gateway (g.I.Read.remaining c.args.reader.now) (g.W.Write.contents c.args.out.now) (g.W.Write.contents c.replay.new.writer) (of_replay c.in_err-replay.field-0.0) c.in_err-replay.field-0.0 refl c.in_err-replay.ensures)

pub returns-in_err-print_tables : goal.returns-in_err-print_tables
returns-in_err-print_tables g c =
    let p = err_from_is_err_and c.from_residual-in_err-print_tables.result c.from_residual-in_err-print_tables.ensures.1 in
    rw (p.1, p.2) (unprinted c.args.audit c.args.gateway.now c.replay.new.gateway (g.I.Read.remaining c.args.reader.now) (g.W.Write.contents c.args.out.now) (g.W.Write.contents c.replay.new.writer) (g.W.Write.contents c.print_tables.new.out) c.in_err-print_tables.field-0.0 c.in_ok-replay.field-0 c.if-audit.true c.in_ok-replay.ensures c.in_err-print_tables.ensures.fault)

pub returns : goal.returns
returns g c = elim c.if-audit.branch [
  | then-audit+in_ok-print_tables w ↦ rw (w.if-audit.true, w.out-is)
      (with_tables c.args.gateway.now c.replay.new.gateway (g.I.Read.remaining c.args.reader.now) (g.W.Write.contents c.args.out.now) (g.W.Write.contents c.replay.new.writer) (g.W.Write.contents w.print_tables.new.out) c.in_ok-replay.field-0 c.in_ok-replay.ensures w.in_ok-print_tables.ensures.printed)
  | else-audit w ↦ rw (w.if-audit.false, w.out-is)
      (plain c.args.gateway.now c.replay.new.gateway (g.I.Read.remaining c.args.reader.now) (g.W.Write.contents c.args.out.now) (g.W.Write.contents c.replay.new.writer) c.in_ok-replay.field-0 c.in_ok-replay.ensures)
]
