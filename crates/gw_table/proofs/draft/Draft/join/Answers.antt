use Rattle.std.proofs.Common.{◌≡◌, Bool, Some, ap, arith, ◌∙◌}
use Rattle.std.proofs.lemmas.Result.{on_ok_weaker}
use Rattle.gw_ctx.specs.Contexts.{ContextRecord, joined}
use Rattle.gw_table.specs.Joining.{with_member_if}
use Rattle.gw_table.specs.Maps.{Maps, ctx, put_ctx, context_of}
use Rattle.gw_table.proofs.Leaving.{set_again}
use Rattle.gw_table.proofs.draft.Draft.join.Goals as goal

pub returns-clause-maps : goal.returns-clause-maps
returns-clause-maps c =
    let m : Maps = c.args.self.now.maps in
    let same : c.join_in_place.new.self.maps ≡ m = c.in_ok-join_in_place.ensures.maps ∙ ap (λ (b : Bool). with_member_if b c.args.number c.args.name m) c.if-branch.false in
    let stood : c.match-branch-3.context ≡ context_of (ctx c.join_in_place.new.self.maps c.args.number) = grind arith in
    on_ok_weaker c.set_ctx.result
    (λ h. set_again c.join_in_place.new.self.maps c.take_ctx.new.self.maps c.set_ctx.new.self.maps c.args.number (Some c.joined.new.context) c.in_ok-context.ensures.maps h
    ∙ ap (λ (r : ContextRecord). put_ctx c.join_in_place.new.self.maps c.args.number (Some r)) (c.in_ok-joined.ensures.ok ∙ ap (λ (r : ContextRecord). joined c.args.name r) stood)
    ∙ ap (λ (x : Maps). put_ctx x c.args.number (Some (joined c.args.name (context_of (ctx x c.args.number))))) same)
    c.set_ctx.ensures.maps
