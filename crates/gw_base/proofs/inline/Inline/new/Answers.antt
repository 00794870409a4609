use Rattle.gw_base.proofs.Paddings.{take_padded, padded_is}
use Rattle.gw_base.proofs.inline.Inline.new.Goals as goal

pub invariant_of-result : goal.invariant_of-result
invariant_of-result g c = padded_is g.row.N c.padded.result c.args.text.now c.padded.ensures

pub returns : goal.returns
returns g c = take_padded g.row.N c.padded.result c.args.text.now c.padded.ensures
