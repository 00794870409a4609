use Rattle.std.proofs.Common.{◌≡◌, Some, None, Option, IsSome, cond, refl, sym, ap, ◌∙◌}
use Rattle.std.specs.BTreeMap.{is_at}
use Rattle.std.specs.Map.{lookup}
use Rattle.gw_table.specs.declared.place.Place.{Place}
use Rattle.gw_table.specs.Rows.{Rowed, found, place_of_row, place_in}
use Rattle.gw_table.proofs.RowChanges.{filled, tied_written, puts_written}
use Rattle.gw_table.proofs.TiedRows.{found as found_row}
use Rattle.gw_table.proofs.rows.Rows.get_mut_at.Goals as goal

pub index_mut-requires : goal.index_mut-requires
index_mut-requires g c = filled g.met.K.Ord.total c.args.key.now c.self.inside.index.entries c.self.inside.rows.slots c.self.invariant c.in-Some.number (sym c.number_of.ensures ∙ c.in-Some.is)

pub invariant_of-self-lent : goal.invariant_of-self-lent
invariant_of-self-lent g c w = tied_written g.met.K.Ord.total c.args.key.now c.self.inside.index.entries c.self.inside.rows.slots c.self.invariant c.in-Some.number (sym c.number_of.ensures ∙ c.in-Some.is) c.index_mut.result.now c.index_mut.ensures.value w

pub returns-in-Some : goal.returns-in-Some
returns-in-Some g c = (
  (
    refl,
    λ w s q.
        puts_written g.met.K.Ord.total c.args.key.now c.self.inside.index.entries c.self.inside.rows.slots c.self.invariant c.in-Some.number (sym c.number_of.ensures ∙ c.in-Some.is) c.index_mut.result.now c.index_mut.ensures.value w q
        ∙ ap (λ (m : Rowed g.row.K.Denot (Place g.row.T.Denot)). cond (is_at (g.K.Ord.cmp c.args.key.now) q) (Some w) (lookup (is_at (g.K.Ord.cmp q)) m.entries)) c.self.view_is,
    refl,
  ),
  record {
    writes_back = tt;
    value =
        ap (λ r. Some r) c.row_mut.ensures.value ∙ ap (λ l. place_of_row l) (sym c.index_mut.ensures.value)
        ∙ ap (λ y. place_in c.self.inside.rows.slots y) (sym c.in-Some.is ∙ c.number_of.ensures)
        ∙ sym (found_row g.met.K.Ord.total c.self.inside.rows.slots c.self.inside.index.entries c.self.invariant c.args.key.now)
        ∙ ap (λ (m : Rowed g.row.K.Denot (Place g.row.T.Denot)). found g.K.Ord.cmp m c.args.key.now) c.self.view_is;
  },
)

no_some : {A : Type 0} (o : Option A) → None ≡ o → IsSome o → ⊥
no_some None e h = cc
no_some (Some a) e h = cc

pub returns-in-None : goal.returns-in-None
returns-in-None g c =
    let none : None ≡ found g.K.Ord.cmp c.args.self.now c.args.key.now =
    ap (λ y. place_in c.self.inside.rows.slots y) (sym c.in-None.is ∙ c.number_of.ensures)
    ∙ sym (found_row g.met.K.Ord.total c.self.inside.rows.slots c.self.inside.index.entries c.self.invariant c.args.key.now)
    ∙ ap (λ (m : Rowed g.row.K.Denot (Place g.row.T.Denot)). found g.K.Ord.cmp m c.args.key.now) c.self.view_is in (
      (refl, λ w s. absurd (no_some (found g.K.Ord.cmp c.args.self.now c.args.key.now) none s), c.self.view_is),
      record { writes_back = tt; value = none },
    )
