use Rattle.std.proofs.Common.{◌≡◌, ℕ, false, List, sym, ap, subst, ◌∙◌}
use Rattle.std.specs.List.{list_any}
use Rattle.gw_table.specs.Maps.{Maps}
use Rattle.gw_table.specs.Reserved.{is_reserved}
use Rattle.gw_table.specs.WellFormed.{AreWellFormed}
use Rattle.gw_table.proofs.Provisioning.{new_maps_fit}
use Rattle.cases_board.proofs.bench.Bench.new.Goals as goal

pub invariant_of-result : goal.invariant_of-result
invariant_of-result c =
    let free : list_any is_reserved c.args.config.now.terms ≡ false = ap (λ (l : List (List ℕ)). list_any is_reserved l) (sym c.as_slice.ensures) ∙ sym c.if-has_reserved.ensures in
    (subst (λ (m : Maps). AreWellFormed c.args.config.now.members m) (sym c.in-Ok.ensures.maps) (new_maps_fit c.args.config.now.members c.args.config.now.terms free), c.in-Ok.ensures.out)
