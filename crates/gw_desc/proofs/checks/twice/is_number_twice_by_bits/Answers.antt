use Rattle.std.proofs.Common.{◌||◌, Bool, ap, sym, refl}
use Rattle.gw_desc.specs.Twice.{has_number_twice}
use Rattle.gw_desc.specs.Checks.{numbers_in}
use Rattle.gw_desc.proofs.Marking.{none_marked}
use Rattle.gw_desc.proofs.checks.twice.is_number_twice_by_bits.Goals as goal

pub loop-part-init : goal.loop-part-init
loop-part-init c = (refl, ap (λ (t : Bool). t || has_number_twice (numbers_in c.args.parts.now)) (sym (none_marked (numbers_in c.args.parts.now))))
