use Rattle.std.proofs.Common.{ap, subst, ◌∙◌}
use Rattle.gw_table.specs.declared.place.Place.{Place}
use Rattle.gw_table.specs.Rows.{Rowed, IsRising}
use Rattle.gw_table.proofs.TiedRows.{rising}
use Rattle.gw_table.proofs.rows.RefRowsIntoIterator.into_iter.Goals as goal

pub returns : goal.returns
returns g c = record {
  into_iter_gives = (
    c.iter_of.ensures ∙ ap (λ (m : Rowed g.row.K.Denot (Place g.row.T.Denot)). m.entries) c.self.view_is,
    subst (λ (m : Rowed g.row.K.Denot (Place g.row.T.Denot)). IsRising g.K.Ord.cmp m) c.self.view_is (rising g.met.K.Ord.total c.self.inside.rows.slots c.self.inside.index.entries c.self.invariant),
  );
}
