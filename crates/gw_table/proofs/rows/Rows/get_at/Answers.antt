use Rattle.std.proofs.Common.{sym, ap, ◌∙◌}
use Rattle.gw_table.specs.Rows.{Rowed, found, place_of_row, place_in}
use Rattle.gw_table.proofs.RowChanges.{filled}
use Rattle.gw_table.proofs.TiedRows.{found as found_row}
use Rattle.gw_table.proofs.rows.Rows.get_at.Goals as goal

pub index-requires : goal.index-requires
index-requires g c = filled g.met.K.Ord.total c.args.key.now c.self.inside.index.entries c.self.inside.rows.slots c.self.invariant c.in-Some.number (sym c.number_of.ensures ∙ c.in-Some.is)

pub returns-in-Some : goal.returns-in-Some
returns-in-Some g c =
    ap (λ l. place_of_row l) (sym c.index.ensures)
    ∙ ap (λ y. place_in c.self.inside.rows.slots y) (sym c.in-Some.is ∙ c.number_of.ensures)
    ∙ sym (found_row g.met.K.Ord.total c.self.inside.rows.slots c.self.inside.index.entries c.self.invariant c.args.key.now)
    ∙ ap (λ (m : Rowed g.row.K.Denot _). found g.K.Ord.cmp m c.args.key.now) c.self.view_is

pub returns-in-None : goal.returns-in-None
returns-in-None g c =
    ap (λ y. place_in c.self.inside.rows.slots y) (sym c.in-None.is ∙ c.number_of.ensures)
    ∙ sym (found_row g.met.K.Ord.total c.self.inside.rows.slots c.self.inside.index.entries c.self.invariant c.args.key.now)
    ∙ ap (λ (m : Rowed g.row.K.Denot _). found g.K.Ord.cmp m c.args.key.now) c.self.view_is
