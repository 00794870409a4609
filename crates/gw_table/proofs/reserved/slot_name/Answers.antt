use Rattle.std.proofs.Common.{List, ℕ, sym, ◌∙◌, subst, arith}
use Rattle.gw_base.specs.Names.{IsName}
use Rattle.gw_table.proofs.SlotNames.{slot_is_named, cut_behind}
use Rattle.gw_table.proofs.reserved.slot_name.Goals as goal

pub of-requires : goal.of-requires
of-requires c =
    subst (λ (l : List ℕ). IsName l)
    (sym (cut_behind c.as_bytes-digits.result.now c.copy_from_slice.new.self _ c.args.slot c.copy_from_slice.ensures.after (c.as_bytes-digits.ensures.value ∙ c.format.ensures.text)))
    (slot_is_named c.args.slot (omega arith))

pub returns : goal.returns
returns c =
    c.of.ensures ∙ cut_behind c.as_bytes-digits.result.now c.copy_from_slice.new.self _ c.args.slot c.copy_from_slice.ensures.after (c.as_bytes-digits.ensures.value ∙ c.format.ensures.text)
