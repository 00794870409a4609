use Rattle.std.proofs.Common.{List, subst, ap, ◌∙◌}
use Rattle.gw_base.specs.declared.key.Key.{Key}
use Rattle.gw_table.specs.Cells.{celled}
use Rattle.gw_table.specs.Parts.{Parted, list_of, overlaid}
use Rattle.gw_table.specs.Stored.{Stored, maps_of, AreMoved, CameBack}
use Rattle.gw_table.proofs.Moved.{maps_full, came_back}
use Rattle.gw_table.proofs.tables.Tables.lay.Goals as goal

-- the part's places before, and those that are left of them
abbrev before : (c : goal.After-drop-keys) → Stored
before c = celled c.part.inside.keys.items c.part.inside.cells.items

abbrev left : (c : goal.After-drop-keys) → Stored
left c = celled c.deref.result.now c.put_each.new.cells

moved : (c : goal.After-drop-keys) → AreMoved c.part.inside.keys.items (before c) c.args.self.now (left c) c.put_each.new.self
moved c = subst (λ (l : List Key). AreMoved l (before c) c.args.self.now (left c) c.put_each.new.self) c.deref.ensures.value
    (subst (λ (s : Stored). AreMoved c.deref.result.now s c.args.self.now (left c) c.put_each.new.self) (λ i. celled (c.deref.ensures.value i) (c.deref_mut.ensures.value i)) c.put_each.ensures)

pub returns-clause-maps : goal.returns-clause-maps
returns-clause-maps c =
    maps_full c.part.inside.keys.items (before c) c.args.self.now (left c) c.put_each.new.self (moved c)
    ∙ ap (λ (p : Parted). overlaid (list_of p.keys) p.maps (maps_of c.args.self.now)) c.part.view_is

pub returns-clause-out : goal.returns-clause-out
returns-clause-out c =
    subst (λ (p : Parted). CameBack (list_of p.keys) c.args.self.now c.put_each.new.self) c.part.view_is
    (came_back c.part.inside.keys.items (before c) c.args.self.now (left c) c.put_each.new.self (moved c) (λ k h. c.part.invariant.2.here k))
