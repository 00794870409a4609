use Rattle.std.proofs.Common.{◌≡◌, ◌<◌, Bool, Option, Some, is_some, length, refl, subst, sym, ap, ◌∙◌}
use Rattle.std.proofs.lemmas.Result.{IfOk-weaker, on_err_weaker}
use Rattle.std.specs.FinMap as finite
use Rattle.std.specs.Option.{option_copied_mut}
use Rattle.gw_base.specs.NameLists.{is_in}
use Rattle.gw_base.specs.declared.key.Key.TheVariants.{Ctx}
use Rattle.gw_ctx.specs.Contexts.{ContextRecord}
use Rattle.gw_table.specs.Joining.{HasJoined, HasJoinedAt}
use Rattle.gw_table.specs.declared.place.Place.{Place}
use Rattle.gw_table.specs.Maps.{ctx, put_ctx, members_of}
use Rattle.gw_table.specs.Stored.{Stored, stored, visible, maps_of, put_ctx_place}
use Rattle.gw_table.specs.UndoLog.{keys_written}
use Rattle.gw_table.proofs.Exchanged.{ctx_written, ctx_seen}
use Rattle.gw_table.proofs.InPlace.{joined_there}
use Rattle.gw_table.proofs.Places.{ctx-maps_of, same_ctx_place, maps-put_ctx_place}
use Rattle.gw_table.proofs.Standing.{marked_still, in_use-put_ctx_still}
use Rattle.gw_table.proofs.tables.Tables.join.Goals as goal

pub join-requires-clause-new : goal.join-requires-clause-new
join-requires-clause-new c =
    let stood : visible (Some c.in-Some.row.now) ≡ ctx (maps_of c.args.self.now) c.args.number =
    ap (λ o. visible o) (ap (λ o. option_copied_mut o) (sym c.in-Some.is) ∙ c.get_mut.ensures.value ∙ ctx_seen c.self.inside.terms.entries c.self.inside.contexts.entries c.args.self.now c.args.number c.self.view_is) ∙ sym (ctx-maps_of c.args.self.now c.args.number) in
    ap (λ (o : Option ContextRecord). is_in c.args.name (members_of o)) stood ∙ c.requires.new

pub join-requires-clause-room : goal.join-requires-clause-room
join-requires-clause-room c =
    let stood : visible (Some c.in-Some.row.now) ≡ ctx (maps_of c.args.self.now) c.args.number =
    ap (λ o. visible o) (ap (λ o. option_copied_mut o) (sym c.in-Some.is) ∙ c.get_mut.ensures.value ∙ ctx_seen c.self.inside.terms.entries c.self.inside.contexts.entries c.args.self.now c.args.number c.self.view_is) ∙ sym (ctx-maps_of c.args.self.now c.args.number) in
    subst (λ (o : Option ContextRecord). length (members_of o) < c.args.limit) (sym stood) c.requires.room

pub invariant_of-self-2 : goal.invariant_of-self-2
invariant_of-self-2 c =
    let before : Stored = stored c.self.inside.terms.entries c.self.inside.contexts.entries in
    let w : Place ContextRecord = c.join.new.self in
    let stood : visible (Some c.in-Some.row.now) ≡ ctx (maps_of before) c.args.number =
    ap (λ o. visible o) (ap (λ o. option_copied_mut o) (sym c.in-Some.is) ∙ c.get_mut.ensures.value ∙ ctx_seen c.self.inside.terms.entries c.self.inside.contexts.entries before c.args.number refl) ∙ sym (ctx-maps_of before c.args.number) in
    marked_still c.self.inside.numbers c.self.inside.slots (put_ctx (maps_of before) c.args.number (visible (Some w))) (maps_of (stored c.self.inside.terms.entries (c.get_mut.follows.lender w).entries))
    (ap (λ s. maps_of s) (ctx_written c.self.inside.terms.entries c.self.inside.contexts.entries (c.get_mut.follows.lender w).entries c.args.number w
    (c.get_mut.follows.holds w (ap (λ o. is_some o) (sym c.get_mut.ensures.value) ∙ ap (λ o. is_some (option_copied_mut o)) c.in-Some.is))) ∙ maps-put_ctx_place before c.args.number w)
    (in_use-put_ctx_still c.self.inside.numbers c.self.inside.slots (maps_of before) c.args.number (visible (Some w)) (λ h. c.join.ensures.still ∙ ap (λ o. is_some o) stood ∙ h) c.self.invariant)

pub returns-clause-joined : goal.returns-clause-joined
returns-clause-joined c =
    let was : Some c.in-Some.row.now ≡ finite.get c.args.self.now.contexts c.args.number.0 = ap (λ o. option_copied_mut o) (sym c.in-Some.is) ∙ c.get_mut.ensures.value ∙ ctx_seen c.self.inside.terms.entries c.self.inside.contexts.entries c.args.self.now c.args.number c.self.view_is in
    let w : Place ContextRecord = c.join.new.self in
    let written = ctx_written c.self.inside.terms.entries c.self.inside.contexts.entries (c.get_mut.follows.lender w).entries c.args.number w
    (c.get_mut.follows.holds w (ap (λ o. is_some o) (sym c.get_mut.ensures.value) ∙ ap (λ o. is_some (option_copied_mut o)) c.in-Some.is))
    ∙ ap (λ (s : Stored). put_ctx_place s c.args.number w) c.self.view_is in
    IfOk-weaker c.join.result _ _ (λ b h. joined_there (keys_written c.args.writes.now) c.args.number c.args.name c.args.self.now _ c.in-Some.row.now w b (sym was) written h) c.join.ensures.joined

pub returns-clause-err : goal.returns-clause-err
returns-clause-err c =
    let was : Some c.in-Some.row.now ≡ finite.get c.args.self.now.contexts c.args.number.0 = ap (λ o. option_copied_mut o) (sym c.in-Some.is) ∙ c.get_mut.ensures.value ∙ ctx_seen c.self.inside.terms.entries c.self.inside.contexts.entries c.args.self.now c.args.number c.self.view_is in
    let w : Place ContextRecord = c.join.new.self in
    let written = ctx_written c.self.inside.terms.entries c.self.inside.contexts.entries (c.get_mut.follows.lender w).entries c.args.number w
    (c.get_mut.follows.holds w (ap (λ o. is_some o) (sym c.get_mut.ensures.value) ∙ ap (λ o. is_some (option_copied_mut o)) c.in-Some.is))
    ∙ ap (λ (s : Stored). put_ctx_place s c.args.number w) c.self.view_is in
    on_err_weaker c.join.result (λ e. written ∙ ap (λ (p : Place ContextRecord). put_ctx_place c.args.self.now c.args.number p) e ∙ same_ctx_place c.args.self.now c.args.number c.in-Some.row.now (sym was)) c.join.ensures.err
