use Rattle.std.proofs.Common.{◌∙◌, sym, ap}
use Rattle.std.specs.Cmp.Lexicographic.{nat_list_cmp_total}
use Rattle.std.specs.FinMap as finite
use Rattle.gw_base.proofs.Views.{seen}
use Rattle.gw_table.specs.Stored.{Stored, visible}
use Rattle.gw_table.proofs.Places.{term-maps_of}
use Rattle.gw_table.proofs.tables.Tables.find_term_at.Goals as goal

pub returns : goal.returns
returns c =
    c.entry_at.ensures ∙ ap (λ o. visible o) (c.place_at.ensures ∙ c.get_at.ensures ∙ sym (seen nat_list_cmp_total c.self.inside.terms.entries c.args.name.now))
    ∙ ap (λ (s : Stored). visible (finite.get s.terms c.args.name.now)) c.self.view_is ∙ sym (term-maps_of c.args.self.now c.args.name.now)
