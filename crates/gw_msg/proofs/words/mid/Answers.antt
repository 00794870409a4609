use Rattle.std.proofs.Common.{refl}
use Rattle.gw_msg.proofs.WordLemmas.{mid_read}
use Rattle.gw_msg.proofs.words.mid.Goals as goal

pub returns : goal.returns
returns c =
    let is = mid_read c.in_ok-solid.field-0.now c.in_ok-read.field-0 c.in_ok-read.ensures in
    rw (c.in_ok-solid.ensures.exact, is) refl
