use Rattle.std.proofs.Common.{sym, ◌∙◌}
use Rattle.gw_bits.proofs.Words.{blank_zeros, has_room}
use Rattle.gw_bits.proofs.bit_set.BitSet.with_room.Goals as goal

pub returns-clause-blank : goal.returns-clause-blank
returns-clause-blank c = blank_zeros c.in_ok-words.words.items c.div_ceil.result (c.in_ok-words.ensures.items_if_clones_equal (λ y e. e))

pub returns-clause-room : goal.returns-clause-room
returns-clause-room c = has_room c.in_ok-words.words.items c.args.limit (sym c.in_ok-words.words.ok.0 ∙ c.in_ok-words.ensures.len ∙ c.div_ceil.ensures)
