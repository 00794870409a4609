use Rattle.std.proofs.Common.{ℕ, nat_eq, Bool, List, sym, ap, ◌∙◌}
use Rattle.std.specs.Prelude.{◌&&◌}
use Rattle.std.specs.List.{list_any, starts_with}
use Rattle.gw_table.specs.Maps.{is_free}
use Rattle.gw_table.proofs.PartWrites.{names_of_part}
use Rattle.gw_table.proofs.Picked.{name_in, has_name, picked_all, picked_first}
use Rattle.gw_table.proofs.part.Part.has_free_under.Goals as goal

pub returns-then-is_free_under : goal.returns-then-is_free_under
returns-then-is_free_under c =
    let p : List ℕ → Bool = λ t. is_free c.args.self.now.maps t && starts_with nat_eq t c.args.prefix.now in
    picked_first name_in (has_name c.args.self.now.maps) p c.deref-key-items.result.now c.loop-key.key-index c.key-item.result c.in-Term.name c.loop-key-test.true c.key-item.is (ap name_in c.in-Term.is) c.if-is_free_under.ensures
    ∙ c.loop-key.invariant
    ∙ ap (list_any p) (names_of_part c.self.inside.keys.items c.self.inside.cells.items c.self.invariant c.args.self.now c.self.view_is c.deref-key-items.result.now c.deref-key-items.ensures.value)

pub returns : goal.returns
returns c =
    let p : List ℕ → Bool = λ t. is_free c.args.self.now.maps t && starts_with nat_eq t c.args.prefix.now in
    ap (list_any p) (sym (picked_all name_in (has_name c.args.self.now.maps) c.deref-key-items.result.now c.loop-key.key-index c.loop-key-test.false)) ∙ c.loop-key.invariant
    ∙ ap (list_any p) (names_of_part c.self.inside.keys.items c.self.inside.cells.items c.self.invariant c.args.self.now c.self.view_is c.deref-key-items.result.now c.deref-key-items.ensures.value)
