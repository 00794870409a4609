use Rattle.std.proofs.Common.{List, ◌∷◌, [], ◌++◌, ap, ◌∙◌}
use Rattle.gw_base.specs.declared.key.Key.TheVariants.{Ctx}
use Rattle.gw_table.specs.declared.undo_log.Write.{Write}
use Rattle.gw_table.specs.declared.undo_log.Write.TheVariants.{OfCtx}
use Rattle.gw_table.specs.Maps.{ctx, put_ctx}
use Rattle.gw_table.specs.UndoLog.{keys_written}
use Rattle.gw_table.specs.Parts.{Parted}
use Rattle.gw_table.specs.Stored.{Stored, placed, maps_of, put_ctx_place}
use Rattle.gw_table.proofs.InPlace.{same_in_place, wrote_ctx, wrote_ctx_again, logged_before, stood_there}
use Rattle.gw_table.proofs.Places.{maps-put_ctx_place, shown_placed, placed_here}
use Rattle.gw_table.proofs.in_place.InPlace.set_ctx.Goals as goal

-- ---- where it was written before

pub invariant_of-self-in-Logged : goal.invariant_of-self-in-Logged
invariant_of-self-in-Logged c =
    let old : Stored = c.self.inside.tables in
    same_in_place c.self.inside.before.value (put_ctx_place old c.args.number (placed c.args.entry)) c.write_ctx.new.self c.self.inside.writes.items c.make_room.new.writes.items
    (c.in_ok-found.ensures.ok ∙ ap (λ p. put_ctx_place old c.args.number p) c.of.ensures) c.in_ok-make_room.ensures.same
    (wrote_ctx_again c.self.inside.before.value old c.self.inside.writes.items c.self.invariant c.args.number (placed c.args.entry) (placed_here c.args.entry)
    (logged_before c.self.inside.writes.items c.deref.result.now (Ctx c.args.number) (ctx (maps_of old) c.args.number) c.in_ok-found.found _ (c.deref.ensures.value ∙ c.in_ok-make_room.ensures.same) c.in-Logged.is c.in_ok-found.ensures.found))

pub returns-in-Logged-clause-maps : goal.returns-in-Logged-clause-maps
returns-in-Logged-clause-maps c =
    ap (λ s. maps_of s) (c.in_ok-found.ensures.ok ∙ ap (λ p. put_ctx_place c.self.inside.tables c.args.number p) c.of.ensures) ∙ maps-put_ctx_place c.self.inside.tables c.args.number (placed c.args.entry)
    ∙ ap (put_ctx (maps_of c.self.inside.tables) c.args.number) (shown_placed c.args.entry) ∙ ap (λ (p : Parted). put_ctx p.maps c.args.number c.args.entry) c.self.view_is

-- ---- where it was not

pub invariant_of-self-in-Unlogged : goal.invariant_of-self-in-Unlogged
invariant_of-self-in-Unlogged c =
    let old : Stored = c.self.inside.tables in
    same_in_place c.self.inside.before.value (put_ctx_place old c.args.number (placed c.args.entry)) c.write_ctx.new.self (c.self.inside.writes.items ++ OfCtx c.args.number c.in-Unlogged.before ∷ []) c.push_reserved.new.self.items
    (c.in_ok-found.ensures.ok ∙ ap (λ p. put_ctx_place old c.args.number p) c.of.ensures)
    (c.push_reserved.ensures.items ∙ ap (λ (l : List Write). l ++ OfCtx c.args.number c.in-Unlogged.before ∷ []) c.in_ok-make_room.ensures.same)
    (wrote_ctx c.self.inside.before.value old c.self.inside.writes.items c.self.invariant c.args.number (placed c.args.entry) c.in-Unlogged.before (placed_here c.args.entry)
    (stood_there (keys_written c.deref.result.now) (Ctx c.args.number) (ctx (maps_of old) c.args.number) c.in_ok-found.found c.in-Unlogged.before c.in-Unlogged.is c.in_ok-found.ensures.found))

pub returns-clause-maps : goal.returns-clause-maps
returns-clause-maps c =
    ap (λ s. maps_of s) (c.in_ok-found.ensures.ok ∙ ap (λ p. put_ctx_place c.self.inside.tables c.args.number p) c.of.ensures) ∙ maps-put_ctx_place c.self.inside.tables c.args.number (placed c.args.entry)
    ∙ ap (put_ctx (maps_of c.self.inside.tables) c.args.number) (shown_placed c.args.entry) ∙ ap (λ (p : Parted). put_ctx p.maps c.args.number c.args.entry) c.self.view_is
