use Rattle.std.proofs.Common.{refl, arith}
use Rattle.std.proofs.lemmas.Result.{err_from_is_err_and}
use Rattle.gw_msg.proofs.PassageLaws.{item_fails, item_reads}
use Rattle.gw_msg.proofs.items.request.Goals as goal

pub returns-in_err-source : goal.returns-in_err-source
returns-in_err-source c = grind (arith, err_from_is_err_and, item_fails)

pub returns : goal.returns
returns c = item_reads _ _ _ _ c.in_ok-source.ensures refl
