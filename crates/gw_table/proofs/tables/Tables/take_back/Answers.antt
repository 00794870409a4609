use Rattle.std.proofs.Common.{ap, sym, ◌∙◌}
use Rattle.gw_table.specs.declared.undo_log.Write.{Write}
use Rattle.gw_table.specs.Maps.{put_term, put_ctx}
use Rattle.gw_table.specs.UndoLog.{key_written, without_write}
use Rattle.gw_table.specs.Stored.{Stored, placed, maps_of, is_ready, is_out, put_term_place, put_ctx_place}
use Rattle.gw_table.proofs.Places.{maps-put_term_place, maps-put_ctx_place, shown_placed, placed_here, ready-put_term, ready-put_ctx, out-put_term, out-put_ctx}
use Rattle.gw_table.proofs.tables.Tables.take_back.Goals as goal

pub returns-in-OfTerm-clause-maps : goal.returns-in-OfTerm-clause-maps
returns-in-OfTerm-clause-maps c =
    let s : Stored = c.args.self.now in
    ap (λ x. maps_of x) (c.exchange_term.ensures.after ∙ ap (λ p. put_term_place s c.in-OfTerm.name p) c.of.ensures) ∙ maps-put_term_place s c.in-OfTerm.name (placed c.in-OfTerm.before)
    ∙ ap (put_term (maps_of s) c.in-OfTerm.name) (shown_placed c.in-OfTerm.before) ∙ ap (λ (w : Write). without_write w (maps_of s)) (sym c.in-OfTerm.is)

pub returns-in-OfTerm-clause-out : goal.returns-in-OfTerm-clause-out
returns-in-OfTerm-clause-out c = λ k.
    let s : Stored = c.args.self.now in
    ap (λ (x : Stored). is_out x k) (c.exchange_term.ensures.after ∙ ap (λ p. put_term_place s c.in-OfTerm.name p) c.of.ensures)
    ∙ out-put_term s c.in-OfTerm.name (placed c.in-OfTerm.before) (placed_here c.in-OfTerm.before) (ap (λ (w : Write). is_out s (key_written w)) (sym c.in-OfTerm.is) ∙ c.requires.here) k

pub returns-in-OfTerm-clause-ready : goal.returns-in-OfTerm-clause-ready
returns-in-OfTerm-clause-ready c = λ k.
    let s : Stored = c.args.self.now in
    ap (λ (x : Stored). is_ready x k) c.exchange_term.ensures.after
    ∙ ready-put_term s c.in-OfTerm.name c.of.result k (ap (λ (w : Write). is_ready s (key_written w)) (sym c.in-OfTerm.is) ∙ c.requires.ready)

pub returns-in-OfCtx-clause-maps : goal.returns-in-OfCtx-clause-maps
returns-in-OfCtx-clause-maps c =
    let s : Stored = c.args.self.now in
    ap (λ x. maps_of x) (c.exchange_ctx.ensures.after ∙ ap (λ p. put_ctx_place s c.in-OfCtx.number p) c.of-in-OfCtx.ensures) ∙ maps-put_ctx_place s c.in-OfCtx.number (placed c.in-OfCtx.before)
    ∙ ap (put_ctx (maps_of s) c.in-OfCtx.number) (shown_placed c.in-OfCtx.before) ∙ ap (λ (w : Write). without_write w (maps_of s)) (sym c.in-OfCtx.is)

pub returns-in-OfCtx-clause-out : goal.returns-in-OfCtx-clause-out
returns-in-OfCtx-clause-out c = λ k.
    let s : Stored = c.args.self.now in
    ap (λ (x : Stored). is_out x k) (c.exchange_ctx.ensures.after ∙ ap (λ p. put_ctx_place s c.in-OfCtx.number p) c.of-in-OfCtx.ensures)
    ∙ out-put_ctx s c.in-OfCtx.number (placed c.in-OfCtx.before) (placed_here c.in-OfCtx.before) (ap (λ (w : Write). is_out s (key_written w)) (sym c.in-OfCtx.is) ∙ c.requires.here) k

pub returns-in-OfCtx-clause-ready : goal.returns-in-OfCtx-clause-ready
returns-in-OfCtx-clause-ready c = λ k.
    let s : Stored = c.args.self.now in
    ap (λ (x : Stored). is_ready x k) c.exchange_ctx.ensures.after
    ∙ ready-put_ctx s c.in-OfCtx.number c.of-in-OfCtx.result k (ap (λ (w : Write). is_ready s (key_written w)) (sym c.in-OfCtx.is) ∙ c.requires.ready)
