use Rattle.std.proofs.Common.{ℕ, Option, None, Some, true, refl}
use Rattle.gw_cmd.proofs.Kept.{MayMake, kept_command}
use Rattle.gw_cmd.proofs.KeptWhole.{whole_is_kept}
use Rattle.gw_cmd.proofs.laws.commands_keep_tables_well_formed.Goals as goal

any_slot : (slot : Option ℕ) → MayMake (λ _. Unit {0}) slot
any_slot None = tt
any_slot (Some s) = tt

pub returns : goal.returns
returns c = λ rules at slot requested m u w. kept_command rules (λ _. true) (λ _. Unit {0}) (whole_is_kept rules (λ _. Unit {0})) at slot requested m (λ t. refl) u (any_slot slot) w
