use Rattle.std.proofs.Common.{get_or, ap}
use Rattle.gw_bits.proofs.Words.{blank}
use Rattle.gw_bits.proofs.bit_set.BitSet.new.Goals as goal

pub returns : goal.returns
returns c = blank c.new.result.items (λ k. ap (λ l. get_or l k 0) c.new.ensures.items)
