use Rattle.std.proofs.Common.{◌++◌, sym, ap, ◌∙◌, append-nil}
use Rattle.gw_table.proofs.PartWrites.{names_of_part}
use Rattle.gw_table.proofs.Picked.{name_in, has_name, picked_all}
use Rattle.gw_table.proofs.part.Part.names.Goals as goal

pub returns : goal.returns
returns c =
    sym (append-nil c.loop-key.names.items)
    ∙ ap (λ l. c.loop-key.names.items ++ l) (sym (picked_all name_in (has_name c.args.self.now.maps) c.deref-key-items.result.now c.loop-key.key-index c.loop-key-test.false))
    ∙ c.loop-key.invariant
    ∙ names_of_part c.self.inside.keys.items c.self.inside.cells.items c.self.invariant c.args.self.now c.self.view_is c.deref-key-items.result.now c.deref-key-items.ensures.value
