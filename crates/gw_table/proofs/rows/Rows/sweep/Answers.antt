use Rattle.std.proofs.Common.{◌≡◌, ℕ, is_some, filter, refl, ap, ◌∙◌, rules}
use Rattle.std.proofs.lemmas.Map.Entries.{filter_from_retain_pairs}
use Rattle.gw_table.specs.declared.place.Place.{Place}
use Rattle.gw_table.specs.Stored.{visible, if_visible}
use Rattle.gw_table.specs.Rows.{Rowed, found, row_at, place_of_row}
use Rattle.gw_table.proofs.SweptRows.{if_here, retained, tied_left, found_left}
use Rattle.gw_table.proofs.rows.Rows.sweep.Given.{Over}
use Rattle.gw_table.proofs.rows.Rows.sweep.Goals as goal

module _ (g : Over) (c : goal.After-retain-2 g) where
  kept : (n : ℕ) → row_at c.retain-2.new.self.slots n ≡ if_here (row_at c.self.inside.rows.slots n)
  kept = retained _ (λ f n x b y h s. search rules) _ 0 c.self.inside.rows.slots c.retain-2.new.self.slots c.retain-2.ensures.retained

  left : c.retain.new.self.entries ≡ filter (λ (e : g.row.K.Denot × ℕ). is_some (visible (place_of_row (row_at c.self.inside.rows.slots e.1)))) c.self.inside.index.entries
  left = filter_from_retain_pairs _ (λ f. f.0.now ≡ c.self.inside.rows) (λ e. is_some (visible (place_of_row (row_at c.self.inside.rows.slots e.1)))) (λ f k v b w h i t. search rules) _ _ _ refl c.retain.ensures.filtered

pub invariant_of-self : goal.invariant_of-self
invariant_of-self g c =
    tied_left g.met.K.Ord.total c.self.inside.index.entries c.retain.new.self.entries c.self.inside.rows.slots c.retain-2.new.self.slots c.self.invariant (left g c) (kept g c) c.retain.ensures.ordered

pub returns : goal.returns
returns g c q =
    found_left g.met.K.Ord.total c.self.inside.index.entries c.retain.new.self.entries c.self.inside.rows.slots c.retain-2.new.self.slots c.self.invariant (left g c) (kept g c) c.retain.ensures.ordered q
    ∙ ap (λ (m : Rowed g.row.K.Denot (Place g.row.T.Denot)). if_visible (found g.K.Ord.cmp m q)) c.self.view_is
