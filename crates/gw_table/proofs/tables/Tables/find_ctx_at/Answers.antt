use Rattle.std.proofs.Common.{◌∙◌, sym, ap}
use Rattle.std.specs.Cmp.{nat_cmp_total}
use Rattle.std.specs.FinMap as finite
use Rattle.gw_base.proofs.Views.{seen}
use Rattle.gw_table.specs.Stored.{Stored, visible}
use Rattle.gw_table.proofs.Places.{ctx-maps_of}
use Rattle.gw_table.proofs.tables.Tables.find_ctx_at.Goals as goal

pub returns : goal.returns
returns c =
    c.entry_at.ensures ∙ ap (λ o. visible o) (c.place_at.ensures ∙ c.get_at.ensures ∙ sym (seen nat_cmp_total c.self.inside.contexts.entries c.args.number.0))
    ∙ ap (λ (s : Stored). visible (finite.get s.contexts c.args.number.0)) c.self.view_is ∙ sym (ctx-maps_of c.args.self.now c.args.number)
