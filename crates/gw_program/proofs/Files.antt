-- What reading files gives.
use Rattle.std.proofs.Common.{◌≡◌, ℕ, ◌<◌, List, length, take, Option}
use Rattle.std.specs.Prelude.{IfSome, Ok, Err}
use Rattle.std.specs.Io.KnownBytes.{Keeps}
use Rattle.gw_base.specs.declared.config.Config.{Config}
use Rattle.gw_engine.specs.Configuration.{IsFault}
use Rattle.gw_engine.specs.declared.fault.ConfigFault.{ConfigFault}
use Rattle.gw_engine.specs.declared.fault.ConfigFault.TheVariants.{LimitOutOfRange, NoMemory}
use Rattle.gw_front.proofs.WholeInput.{whole}
use Rattle.gw_program.specs.Faults.{of_config}
use Rattle.gw_program.specs.Jobs.{IsTextOf, IsConfigIn, IsGatewayIn, IsCheck}

-- fewer bytes than the limit are all of them
pub whole_text : {F : Type 0} (held : F → Option (List ℕ)) (limit : ℕ) (text : List ℕ) → ((file : F) × IfSome (held file) (λ bytes. text ≡ take limit bytes)) → length text < limit → IsTextOf held text
whole_text held limit text h short = record { file = h.0; known = whole limit (held h.0) text h.1 short }

-- a configuration that makes no gateway
pub refused_config : {F : Type 0} (held : F → Option (List ℕ)) (name : List ℕ) (config : Config) (cause : ConfigFault) → IsConfigIn held name (Ok config) → IsFault config cause → IsGatewayIn held name (Err (of_config cause))
refused_config held name config (LimitOutOfRange limit) read refused = (limit, record { config = config; read = read; refused = refused })
refused_config held name config NoMemory read refused = tt
refused_config held name config cause read refused = record { config = config; read = read; refused = refused }

pub refused_check : {F : Type 0} (held : F → Option (List ℕ)) (name : List ℕ) (config : Config) (cause : ConfigFault) (out : Option (List ℕ)) → IsConfigIn held name (Ok config) → IsFault config cause → Keeps out out → IsCheck held name out out (Err (of_config cause))
refused_check held name config NoMemory out read refused keeps = (tt, keeps)
refused_check held name config cause out read refused keeps = (refused_config held name config cause read refused, keeps)
