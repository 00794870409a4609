use Rattle.std.proofs.Common.{ℕ, true, Option, None, Some, refl, sym, subst}
use Rattle.gw_table.specs.Maps.{Maps}
use Rattle.gw_table.specs.Stored.{maps_of}
use Rattle.gw_table.specs.WellFormed.{AreWellFormed}
use Rattle.gw_cmd.specs.Suits.{IsUnused}
use Rattle.gw_cmd.proofs.Kept.{MayMake, kept_command}
use Rattle.gw_cmd.proofs.KeptWhole.{whole_is_kept}
use Rattle.cases_commands.proofs.bench.carried_in.Goals as goal

any_slot : (slot : Option ℕ) → MayMake (λ _. Unit {0}) slot
any_slot None = tt
any_slot (Some s) = tt

pub execute-requires-clause-unused : goal.execute-requires-clause-unused
execute-requires-clause-unused c = c.if-not-is_unused.ensures refl

pub invariant_of-result : goal.invariant_of-result
invariant_of-result c =
    let unused : IsUnused c.args.place.slot (maps_of c.args.tables) = c.if-not-is_unused.ensures refl in
    let fit = kept_command c.args.rules.now (λ _. true) (λ _. Unit {0}) (whole_is_kept c.args.rules.now (λ _. Unit {0})) c.args.place.at c.args.place.slot c.args.given.now (maps_of c.args.tables) (λ t. refl) unused (any_slot c.args.place.slot) c.requires.whole in
    (subst (λ (m : Maps). AreWellFormed c.args.rules.now.members m) (sym c.in-Ok.ensures.maps) fit, c.in-Ok.ensures.here)
