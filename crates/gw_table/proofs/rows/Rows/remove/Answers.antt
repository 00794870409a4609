use Rattle.std.proofs.Common.{None, refl, sym, ap, ◌∙◌}
use Rattle.gw_table.specs.declared.place.Place.{Place}
use Rattle.gw_table.specs.Rows.{Rowed, found, place_of_row, place_in}
use Rattle.gw_table.proofs.RowChanges.{filled, exchange_none, exchange_absent, tied_so, puts_so}
use Rattle.gw_table.proofs.TiedRows.{found as found_row}
use Rattle.gw_table.proofs.rows.Rows.remove.Goals as goal

-- ---- where the key has no row

pub returns-in_default-clause-value : goal.returns-in_default-clause-value
returns-in_default-clause-value g c =
    ap (λ y. place_in c.self.inside.rows.slots y) (sym c.in_default.is ∙ c.remove.ensures.value)
    ∙ sym (found_row g.met.K.Ord.total c.self.inside.rows.slots c.self.inside.index.entries c.self.invariant c.args.key.now)
    ∙ ap (λ (m : Rowed g.row.K.Denot (Place g.row.T.Denot)). found g.K.Ord.cmp m c.args.key.now) c.self.view_is

pub returns-in_default-clause-updates : goal.returns-in_default-clause-updates
returns-in_default-clause-updates g c =
    puts_so g.met.K.Ord.total c.args.key.now c.self.inside.index.entries c.self.inside.rows.slots c.self.invariant None c.self.inside.rows.slots
    (exchange_absent g.met.K.Ord.total c.args.key.now c.self.inside.index.entries c.self.inside.rows.slots c.self.invariant (sym c.remove.ensures.value ∙ c.in_default.is)) c.remove.new.self.entries c.remove.ensures.updates.0 c.remove.ensures.ordered
    None refl c.args.self.now (ap (λ (m : Rowed g.row.K.Denot (Place g.row.T.Denot)). m.entries) c.self.view_is)

-- ---- where it has one

pub remove-row-requires : goal.remove-row-requires
remove-row-requires g c = filled g.met.K.Ord.total c.args.key.now c.self.inside.index.entries c.self.inside.rows.slots c.self.invariant c.in-Some.number (sym c.remove.ensures.value ∙ c.in-Some.is)

pub invariant_of-self-2 : goal.invariant_of-self-2
invariant_of-self-2 g c =
    tied_so g.met.K.Ord.total c.args.key.now c.self.inside.index.entries c.self.inside.rows.slots c.self.invariant None c.remove-row.new.self.slots
    (exchange_none g.met.K.Ord.total c.args.key.now c.self.inside.index.entries c.self.inside.rows.slots c.self.invariant c.in-Some.number (sym c.remove.ensures.value ∙ c.in-Some.is) c.remove-row.new.self.slots c.remove-row.ensures.updates.changed c.remove-row.ensures.updates.others)
    c.remove.new.self.entries c.remove.ensures.updates.0 c.remove.ensures.ordered

pub returns-clause-value : goal.returns-clause-value
returns-clause-value g c =
    ap (λ l. place_of_row l) (sym c.remove-row.ensures.value)
    ∙ ap (λ y. place_in c.self.inside.rows.slots y) (sym c.in-Some.is ∙ c.remove.ensures.value)
    ∙ sym (found_row g.met.K.Ord.total c.self.inside.rows.slots c.self.inside.index.entries c.self.invariant c.args.key.now)
    ∙ ap (λ (m : Rowed g.row.K.Denot (Place g.row.T.Denot)). found g.K.Ord.cmp m c.args.key.now) c.self.view_is

pub returns-clause-updates : goal.returns-clause-updates
returns-clause-updates g c =
    puts_so g.met.K.Ord.total c.args.key.now c.self.inside.index.entries c.self.inside.rows.slots c.self.invariant None c.remove-row.new.self.slots
    (exchange_none g.met.K.Ord.total c.args.key.now c.self.inside.index.entries c.self.inside.rows.slots c.self.invariant c.in-Some.number (sym c.remove.ensures.value ∙ c.in-Some.is) c.remove-row.new.self.slots c.remove-row.ensures.updates.changed c.remove-row.ensures.updates.others)
    c.remove.new.self.entries c.remove.ensures.updates.0 c.remove.ensures.ordered
    None refl c.args.self.now (ap (λ (m : Rowed g.row.K.Denot (Place g.row.T.Denot)). m.entries) c.self.view_is)
