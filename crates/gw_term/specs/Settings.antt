-- What was set of a termination (RFC 3525, section 6.2), and how a short list of settings has it (own).
use Rattle.std.specs.Prelude.{ℕ, List, [], ◌∷◌, Option, Some, None}
use Rattle.gw_desc.specs.declared.descriptor.Property.{Property}
use Rattle.gw_desc.specs.declared.descriptor.Tail.{Tail}
use Rattle.gw_term.specs.Places.{numbered, put_number, of_kinds, put_kind}
use Rattle.gw_term.specs.declared.places.PerKind.{PerKind}
use Rattle.gw_term.specs.declared.places.PerStream.{PerStream}
use Rattle.gw_term.specs.declared.record.Stream.{Stream}
use Rattle.gw_term.specs.declared.settings.Setting.{Setting}
use Rattle.gw_term.specs.declared.settings.Setting.TheVariants as setting

-- the properties of its TerminationState but ServiceStates, its streams, and the tails that it keeps
pub record Settings : Type 0 where
  pub properties : List (Property (List ℕ))
  pub streams : PerStream (Option Stream)
  pub tails : PerKind (Option (Tail (List ℕ)))

abbrev pub nothing_set : Settings
nothing_set = record { properties = []; streams = numbered (λ _. None); tails = of_kinds (λ _. None) }

-- what was set, and this
abbrev pub with_setting : Setting → Settings → Settings
with_setting (setting.Properties properties) s = record s { properties = properties }
with_setting (setting.Stream number stream) s = record s { streams = put_number number (Some stream) s.streams }
with_setting (setting.Tail kind tail) s = record s { tails = put_kind kind (Some tail) s.tails }

-- what was set, and these in turn
abbrev pub with_settings : List Setting → Settings → Settings
with_settings [] s = s
with_settings (one ∷ more) s = with_settings more (with_setting one s)

-- what a list sets
abbrev pub set_by : List Setting → Settings
set_by list = with_settings list nothing_set
