use Rattle.std.proofs.Common.{◌-◌, replicate, arith, length-append, length-drop}
use Rattle.std.proofs.lemmas.List.{take_at}
use Rattle.std.proofs.lemmas.Slice.{take-put_mid}
use Rattle.gw_term.proofs.text.Short.of.Goals as goal

pub returns : goal.returns
returns c = grind (arith, replicate, length-append, length-drop, take-put_mid, take_at)
