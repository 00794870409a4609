use Rattle.std.proofs.Common.{◌≡◌, take}
use Rattle.std.specs.List.{flat_map}
use Rattle.gw_reply.specs.Writers.{written_behind}
use Rattle.gw_reply.specs.ContextParts.{context_part_text}
use Rattle.gw_tx.specs.Properties.{kind_in, item_parts}
use Rattle.gw_tx.proofs.context_parts.write_set.Given as goal

-- what is written so far
abbrev pub invariant-loop-prop : goal.invariant-loop-prop
invariant-loop-prop l = l.writer ≡ written_behind context_part_text l.fn.writer (flat_map (item_parts l.context) (flat_map kind_in (take l.prop-index l.props)))
