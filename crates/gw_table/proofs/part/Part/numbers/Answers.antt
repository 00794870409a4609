use Rattle.std.proofs.Common.{ℕ, List, ◌++◌, map, sym, ap, ◌∙◌, append-nil}
use Rattle.gw_table.specs.Maps.{number}
use Rattle.gw_table.proofs.PartWrites.{numbers_of_part}
use Rattle.gw_table.proofs.Picked.{number_in, has_number, picked_all}
use Rattle.gw_table.proofs.part.Part.numbers.Goals as goal

pub returns : goal.returns
returns c =
    sym (append-nil c.loop-key.numbers.items)
    ∙ ap (λ (l : List ℕ). c.loop-key.numbers.items ++ map number l) (sym (picked_all number_in (has_number c.args.self.now.maps) c.deref-key-items.result.now c.loop-key.key-index c.loop-key-test.false))
    ∙ c.loop-key.invariant
    ∙ numbers_of_part c.self.inside.keys.items c.self.inside.cells.items c.self.invariant c.args.self.now c.self.view_is c.deref-key-items.result.now c.deref-key-items.ensures.value
