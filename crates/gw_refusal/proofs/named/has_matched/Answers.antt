use Rattle.std.proofs.Common.{Option, sym, ap, ◌∙◌}
use Rattle.std.specs.List.{filter}
use Rattle.gw_base.specs.declared.ids.CtxNum.{CtxNum}
use Rattle.gw_table.specs.Maps.{ctx, names, members_of}
use Rattle.gw_refusal.specs.Requested.{matches, is_some_list}
use Rattle.gw_refusal.specs.Targets.{is_free, those_in, matched}
use Rattle.gw_refusal.proofs.Matching.{any_kept, any_of_kept}
use Rattle.gw_refusal.proofs.named.has_matched.Goals as goal

pub returns-in-Some : goal.returns-in-Some
unfolding matched
returns-in-Some c =
    let m = c.args.draft.now.maps in
    let term = c.args.command.now.term in
    c.has_member.ensures ∙ any_kept (matches term) (members_of (ctx m c.in-Some.number))
    ∙ ap (λ (o : Option CtxNum). is_some_list (filter (matches term) (those_in o m))) (sym c.in-Some.is ∙ c.source.ensures)

pub returns-in-None : goal.returns-in-None
unfolding matched
returns-in-None c =
    let m = c.args.draft.now.maps in
    let term = c.args.command.now.term in
    c.has_free.ensures ∙ any_of_kept (is_free m) (matches term) (names m) ∙ any_kept (matches term) (filter (is_free m) (names m))
    ∙ ap (λ (o : Option CtxNum). is_some_list (filter (matches term) (those_in o m))) (sym c.in-None.is ∙ c.source.ensures)
