use Rattle.std.proofs.Common.{◌≡◌, ◌<◌, ℕ, Some, Option, ap, sym, subst, ◌∙◌, length}
use Rattle.gw_base.specs.NameLists.{is_in}
use Rattle.gw_ctx.specs.Contexts.{ContextRecord}
use Rattle.gw_table.specs.Maps.{ctx, members_of}
use Rattle.gw_cmd.specs.declared.change.Change.{Change}
use Rattle.gw_cmd.specs.Suits.{Suits}
use Rattle.gw_cmd.proofs.Suited.{other_context}
use Rattle.gw_cmd.proofs.effects.changed.Goals as goal

pub join-requires-in-Crosses-clause-new : goal.join-requires-in-Crosses-clause-new
join-requires-in-Crosses-clause-new c =
    let s = subst (λ (x : Change). Suits c.args.rules.now c.args.draft.now.keys c.args.name.now x c.args.draft.now.maps) c.in-Crosses.is c.requires in
    ap (λ (o : Option ContextRecord). is_in c.args.name.now (members_of o)) (other_context c.in-Crosses.from c.in-Crosses.number c.args.name.now (Some c.in-Crosses.record) c.args.draft.now.maps c.set_term-in-Crosses.new.self.maps c.leave.new.self.maps s.4 c.in_ok-set_term-in-Crosses.ensures.maps c.in_ok-leave-in-Crosses.ensures.maps)
    ∙ s.3.new

pub join-requires-in-Crosses-clause-room : goal.join-requires-in-Crosses-clause-room
join-requires-in-Crosses-clause-room c =
    let s = subst (λ (x : Change). Suits c.args.rules.now c.args.draft.now.keys c.args.name.now x c.args.draft.now.maps) c.in-Crosses.is c.requires in
    let limit : c.args.rules.now.members ≡ c.from-in-Crosses.result = sym c.from-in-Crosses.ensures in
    subst (λ (k : ℕ). length (members_of (ctx c.leave.new.self.maps c.in-Crosses.number)) < k) limit
    (subst (λ (o : Option ContextRecord). length (members_of o) < c.args.rules.now.members) (sym (other_context c.in-Crosses.from c.in-Crosses.number c.args.name.now (Some c.in-Crosses.record) c.args.draft.now.maps c.set_term-in-Crosses.new.self.maps c.leave.new.self.maps s.4 c.in_ok-set_term-in-Crosses.ensures.maps c.in_ok-leave-in-Crosses.ensures.maps))
    s.3.room)
