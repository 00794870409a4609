use Rattle.std.proofs.Common.{◌≡◌, List, length, subst, sym, ap, ◌∙◌}
use Rattle.gw_base.specs.declared.key.Key.{Key}
use Rattle.gw_table.specs.Cells.{celled}
use Rattle.gw_table.specs.Parts.{restricted, cut}
use Rattle.gw_table.specs.Stored.{Stored, nothing_stored, maps_of, AreMoved, AreIn}
use Rattle.gw_table.proofs.Celled.{packed}
use Rattle.gw_table.proofs.Moved.{maps_left, maps_part, none_out}
use Rattle.gw_table.proofs.tables.Tables.take_out.Goals as goal

abbrev full : (c : goal.After-guides-2-1) → Stored
full c = celled c.keys.inside.list.items c.take_each.new.cells.items

moved : (c : goal.After-guides-2-1) → AreMoved c.keys.inside.list.items c.args.self.now nothing_stored c.take_each.new.self (full c)
moved c = subst (λ (l : List Key). AreMoved l c.args.self.now nothing_stored c.take_each.new.self (celled l c.take_each.new.cells.items)) c.deref.ensures.value c.take_each.ensures.moved

as_many : (c : goal.After-guides-2-1) → length c.take_each.new.cells.items ≡ length c.keys.inside.list.items
as_many c = c.take_each.ensures.as_many ∙ ap (λ (l : List Key). length l) c.deref.ensures.value

pub invariant_of-result : goal.invariant_of-result
invariant_of-result c = (
  c.keys.invariant.0,
  as_many c,
  packed c.keys.inside.list.items c.take_each.new.cells.items (as_many c)
      (none_out c.keys.inside.list.items c.args.self.now c.take_each.new.self (full c) (moved c) (subst (λ (l : List Key). AreIn l c.args.self.now) (sym c.keys.view_is) c.requires.here)),
)

pub returns-clause-part : goal.returns-clause-part
returns-clause-part c =
    maps_part c.keys.inside.list.items c.args.self.now c.take_each.new.self (full c) (moved c)
    ∙ ap (λ (l : List Key). restricted l (maps_of c.args.self.now)) c.keys.view_is

pub returns-clause-maps : goal.returns-clause-maps
returns-clause-maps c =
    maps_left c.keys.inside.list.items c.args.self.now nothing_stored c.take_each.new.self (full c) (moved c)
    ∙ ap (λ (l : List Key). cut l (maps_of c.args.self.now)) c.keys.view_is
