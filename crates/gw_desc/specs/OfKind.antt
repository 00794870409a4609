-- Which of them is of which kind, as the code needs it (own).
use Rattle.std.specs.Prelude.{ℕ, Bool, List, not, ◌&&◌}
use Rattle.gw_desc.specs.declared.descriptor.Descriptor.{Descriptor}
use Rattle.gw_desc.specs.declared.descriptor.MediaPart.{MediaPart}
use Rattle.gw_desc.specs.declared.descriptor.StreamPart.{StreamPart}
use Rattle.gw_desc.specs.declared.descriptor.Property.{Property}
use Rattle.gw_desc.specs.declared.checks.kinds.IllegalFor.{IllegalFor}
use Rattle.gw_desc.specs.declared.checks.twice.Kind.{Kind}
use Rattle.gw_desc.specs.declared.checks.twice.Kind.TheVariants as kind
use Rattle.gw_desc.specs.declared.checks.twice.PartKind.{PartKind}
use Rattle.gw_desc.specs.declared.checks.twice.PartKind.TheVariants as part
use Rattle.gw_desc.specs.declared.checks.twice.StateKind.{StateKind}
use Rattle.gw_desc.specs.declared.descriptor.ServiceParm.{ServiceParm}
use Rattle.gw_desc.specs.declared.checks.unfit.Place.{Place}
use Rattle.gw_desc.specs.declared.checks.unfit.Place.TheVariants as place
use Rattle.gw_desc.specs.declared.checks.unfit.WithValue.{WithValue}
use Rattle.gw_desc.specs.declared.checks.contents.Special.{Special}
use Rattle.gw_desc.specs.declared.checks.contents.Special.TheVariants as special
use Rattle.gw_desc.specs.Values.{is_mode, is_service_states}
use Rattle.gw_desc.specs.Checks.{is_media, is_kept, is_audit, is_services, is_local, is_remote, is_control, is_state, is_other, is_legal, is_outside, is_stream, has_parm_with_value}

abbrev pub is_of_kind : Kind → Descriptor → Bool
is_of_kind kind.Media = is_media
is_of_kind (kind.Kept k) = is_kept k
is_of_kind kind.Audit = is_audit
is_of_kind kind.Services = is_services

abbrev pub is_part_of : PartKind → StreamPart → Bool
is_part_of part.Local = is_local
is_part_of part.Remote = is_remote
is_part_of part.Control = is_control

abbrev pub is_state_of : StateKind → MediaPart → Bool
is_state_of kind = is_state

-- the special property's name
abbrev pub is_special : Special → List ℕ → Bool
is_special special.Mode = is_mode
is_special special.ServiceStates = is_service_states

abbrev pub is_named : Special → Property (List ℕ) → Bool
is_named which p = is_special which p.name

-- one of the seven kinds that the command may not have
abbrev pub is_illegal_for : IllegalFor → Descriptor → Bool
is_illegal_for kind d = not (is_other d) && not (is_legal kind.0 d)

abbrev pub is_at : Place → MediaPart → Bool
is_at place.Outside = is_outside
is_at place.Stream = is_stream

-- a parameter of this name with a value
abbrev pub is_with_value : WithValue → ServiceParm → Bool
is_with_value kind = has_parm_with_value kind.0
