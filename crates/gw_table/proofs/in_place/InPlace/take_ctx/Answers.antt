use Rattle.std.proofs.Common.{◌≡◌, List, ◌∷◌, [], ◌++◌, Some, None, Option, Bor, is_some, false, refl, subst, ap, sym, ◌∙◌, arith}
use Rattle.std.specs.Prelude.{option_copied}
use Rattle.gw_base.specs.declared.key.Key.TheVariants.{Ctx}
use Rattle.gw_table.specs.declared.undo_log.Write.{Write}
use Rattle.gw_table.specs.declared.undo_log.Write.TheVariants.{OfCtx}
use Rattle.gw_table.specs.declared.place.Place.TheVariants.{Empty, Here}
use Rattle.gw_table.specs.Maps.{ctx, put_ctx}
use Rattle.gw_table.specs.UndoLog.{keys_written}
use Rattle.gw_table.specs.Parts.{Parted}
use Rattle.gw_table.specs.Stored.{Stored, maps_of, put_ctx_place}
use Rattle.gw_table.proofs.InPlace.{same_in_place, wrote_ctx, wrote_ctx_again, logged_before, stood_there, put_back}
use Rattle.gw_table.proofs.Leaving.{put_ctx-same}
use Rattle.gw_table.proofs.Places.{maps-put_ctx_place, got_ctx}
use Rattle.gw_table.proofs.in_place.InPlace.take_ctx.Goals as goal

-- ---- where there is none

absent : {A : Type 0} (o : Option (Bor A)) → is_some o ≡ false → None ≡ option_copied o
absent None h = refl
absent (Some x) h = absurd cc

pub returns-then-is_none-clause-maps : goal.returns-then-is_none-clause-maps
returns-then-is_none-clause-maps c =
    subst (λ (p : Parted). p.maps ≡ put_ctx p.maps c.args.number None) c.self.view_is
    (sym (put_ctx-same (maps_of c.self.inside.tables) c.args.number None (absent c.find_ctx.result c.if-is_none.ensures ∙ c.find_ctx.ensures)))

-- ---- where it was written before

pub invariant_of-self-in-Logged : goal.invariant_of-self-in-Logged
invariant_of-self-in-Logged c =
    let old : Stored = c.self.inside.tables in
    same_in_place c.self.inside.before.value (put_ctx_place old c.args.number Empty) c.write_ctx.new.self c.self.inside.writes.items c.make_room.new.writes.items c.in_ok-found.ensures.ok c.in_ok-make_room.ensures.same
    (wrote_ctx_again c.self.inside.before.value old c.self.inside.writes.items c.self.invariant c.args.number Empty refl
    (logged_before c.self.inside.writes.items c.deref.result.now (Ctx c.args.number) (ctx (maps_of old) c.args.number) c.in_ok-found.found _ (c.deref.ensures.value ∙ c.in_ok-make_room.ensures.same) c.in-Logged.is c.in_ok-found.ensures.found))

pub returns-in-Logged-clause-maps : goal.returns-in-Logged-clause-maps
returns-in-Logged-clause-maps c =
    ap (λ s. maps_of s) c.in_ok-found.ensures.ok ∙ maps-put_ctx_place c.self.inside.tables c.args.number Empty ∙ ap (λ (p : Parted). put_ctx p.maps c.args.number None) c.self.view_is

-- ---- where there was none

pub invariant_of-self-in-Unlogged-None : goal.invariant_of-self-in-Unlogged-None
invariant_of-self-in-Unlogged-None c =
    let old : Stored = c.self.inside.tables in
    same_in_place c.self.inside.before.value (put_ctx_place old c.args.number Empty) c.write_ctx.new.self (c.self.inside.writes.items ++ OfCtx c.args.number None ∷ []) c.push_reserved.new.self.items c.in_ok-found.ensures.ok
    (c.push_reserved.ensures.items ∙ ap (λ (l : List Write). l ++ OfCtx c.args.number None ∷ []) c.in_ok-make_room.ensures.same)
    (wrote_ctx c.self.inside.before.value old c.self.inside.writes.items c.self.invariant c.args.number Empty None refl
    (sym c.in-Unlogged-None.field-0-is ∙ stood_there (keys_written c.deref.result.now) (Ctx c.args.number) (ctx (maps_of old) c.args.number) c.in_ok-found.found c.in-Unlogged-None.field-0 c.in-Unlogged-None.is c.in_ok-found.ensures.found))

pub returns-in-Unlogged-None-clause-maps : goal.returns-in-Unlogged-None-clause-maps
returns-in-Unlogged-None-clause-maps c =
    ap (λ s. maps_of s) c.in_ok-found.ensures.ok ∙ maps-put_ctx_place c.self.inside.tables c.args.number Empty ∙ ap (λ (p : Parted). put_ctx p.maps c.args.number None) c.self.view_is

-- ---- where there is one to log

pub exchange_ctx-requires : goal.exchange_ctx-requires
exchange_ctx-requires c = grind (arith, got_ctx)

pub invariant_of-self-in_default : goal.invariant_of-self-in_default
invariant_of-self-in_default c =
    let was : Some c.in-Unlogged-Some.before ≡ ctx (maps_of c.self.inside.tables) c.args.number = sym c.in-Unlogged-Some.field-0-is ∙ stood_there (keys_written c.deref.result.now) (Ctx c.args.number) (ctx (maps_of c.self.inside.tables) c.args.number) c.in_ok-found.found c.in-Unlogged-Some.field-0 c.in-Unlogged-Some.is c.in_ok-found.ensures.found in
    let still : c.exchange_ctx.new.self ≡ c.self.inside.tables = c.exchange_ctx.ensures.after ∙ ap (λ (s : Stored). put_ctx_place s c.args.number (Here c.in-Unlogged-Some.before)) c.in_ok-found.ensures.ok ∙ put_back c.self.inside.tables c.args.number c.in-Unlogged-Some.before was in
    same_in_place c.self.inside.before.value c.self.inside.tables c.exchange_ctx.new.self c.self.inside.writes.items c.make_room.new.writes.items still c.in_ok-make_room.ensures.same c.self.invariant

pub returns-in_default-clause-err : goal.returns-in_default-clause-err
returns-in_default-clause-err c =
    let was : Some c.in-Unlogged-Some.before ≡ ctx (maps_of c.self.inside.tables) c.args.number = sym c.in-Unlogged-Some.field-0-is ∙ stood_there (keys_written c.deref.result.now) (Ctx c.args.number) (ctx (maps_of c.self.inside.tables) c.args.number) c.in_ok-found.found c.in-Unlogged-Some.field-0 c.in-Unlogged-Some.is c.in_ok-found.ensures.found in
    let still : c.exchange_ctx.new.self ≡ c.self.inside.tables = c.exchange_ctx.ensures.after ∙ ap (λ (s : Stored). put_ctx_place s c.args.number (Here c.in-Unlogged-Some.before)) c.in_ok-found.ensures.ok ∙ put_back c.self.inside.tables c.args.number c.in-Unlogged-Some.before was in
    ap (λ s. maps_of s) still ∙ ap (λ (p : Parted). p.maps) c.self.view_is

pub invariant_of-self-in-Unlogged-Some : goal.invariant_of-self-in-Unlogged-Some
invariant_of-self-in-Unlogged-Some c =
    let old : Stored = c.self.inside.tables in
    let was : Some c.in-Unlogged-Some.before ≡ ctx (maps_of c.self.inside.tables) c.args.number = sym c.in-Unlogged-Some.field-0-is ∙ stood_there (keys_written c.deref.result.now) (Ctx c.args.number) (ctx (maps_of c.self.inside.tables) c.args.number) c.in_ok-found.found c.in-Unlogged-Some.field-0 c.in-Unlogged-Some.is c.in_ok-found.ensures.found in
    same_in_place c.self.inside.before.value (put_ctx_place old c.args.number Empty) c.write_ctx.new.self (c.self.inside.writes.items ++ OfCtx c.args.number (Some c.in-Unlogged-Some.before) ∷ []) c.push_reserved-in-Unlogged-Some.new.self.items c.in_ok-found.ensures.ok
    (c.push_reserved-in-Unlogged-Some.ensures.items ∙ ap (λ (l : List Write). l ++ OfCtx c.args.number (Some c.in-Unlogged-Some.before) ∷ []) c.in_ok-make_room.ensures.same)
    (wrote_ctx c.self.inside.before.value old c.self.inside.writes.items c.self.invariant c.args.number Empty (Some c.in-Unlogged-Some.before) refl was)

pub returns-in-Ok-clause-maps : goal.returns-in-Ok-clause-maps
returns-in-Ok-clause-maps c =
    ap (λ s. maps_of s) c.in_ok-found.ensures.ok ∙ maps-put_ctx_place c.self.inside.tables c.args.number Empty ∙ ap (λ (p : Parted). put_ctx p.maps c.args.number None) c.self.view_is
