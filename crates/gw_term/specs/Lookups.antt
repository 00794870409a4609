-- What is found in a record after a merge (own): in each place the last that the descriptors sent for it, else what was
-- there.
use Rattle.std.specs.Prelude.{◌≡◌, ◌⊎◌, ℕ, ◌+◌, ◌<◌, ◌≤◌, Bool, false, not, ◌||◌, bytes_eq, if◌then◌else◌, List, [], ◌∷◌, ◌++◌, length, map, Option, Some, None}
use Rattle.std.specs.List.{list_any, filter, filter_map, find, flat_map, last_or, slice_get}
use Rattle.std.specs.Option.{is_some}
use Rattle.gw_base.specs.declared.command_words.Rules.{Rules}
use Rattle.gw_base.specs.declared.command_words.Service.{Service}
use Rattle.gw_text.specs.Tokens.{is_same_word}
use Rattle.gw_desc.specs.Checks.{names_of, same_kept}
use Rattle.gw_desc.specs.Twice.{folded, has_name_twice}
use Rattle.gw_desc.specs.Values.{is_mode, is_service_states, mode_set_by, service_set_by}
use Rattle.gw_desc.specs.declared.descriptor.Descriptor.{Descriptor}
use Rattle.gw_desc.specs.declared.descriptor.Descriptor.TheVariants as descriptor
use Rattle.gw_desc.specs.declared.descriptor.KeptKind.{KeptKind}
use Rattle.gw_desc.specs.declared.descriptor.StreamPart.{StreamPart}
use Rattle.gw_desc.specs.declared.descriptor.StreamPart.TheVariants as part
use Rattle.gw_desc.specs.declared.descriptor.Property.{Property}
use Rattle.gw_desc.specs.declared.descriptor.Tail.{Tail}
use Rattle.gw_desc.specs.declared.values.Mode.{Mode}
use Rattle.gw_desc.specs.declared.values.Mode.TheVariants.{Inactive}
use Rattle.gw_term.specs.declared.record.Stream.{Stream}
use Rattle.gw_term.specs.declared.record.Termination.{Termination}
use Rattle.gw_term.specs.Places.{AtSome, Between}
use Rattle.gw_term.specs.Record.{tail_of}
use Rattle.gw_term.specs.Merge.{most_properties, states_in, parts_in, is_named_in, local_text, kept_tail}

-- ---- a list of properties

-- the property is of this name, in any case
abbrev pub is_of_name : List ℕ → Property (List ℕ) → Bool
is_of_name name p = is_same_word p.name name

-- the property of this name, in any case; the first one, if there are two
abbrev pub look_up : List ℕ → List (Property (List ℕ)) → Option (Property (List ℕ))
look_up name list = find (is_of_name name) list

-- the names in order, in lower case
abbrev pub lower_names : List (Property (List ℕ)) → List (List ℕ)
lower_names list = map folded (names_of list)

-- those of the names that are not known, each once, in the order in which they come first
unfoldable pub new_names : List (List ℕ) → List (List ℕ) → List (List ℕ)
new_names known [] = []
new_names known (name ∷ names) =
    if list_any (λ other. bytes_eq other name) known then new_names known names
    else name ∷ new_names (known ++ name ∷ []) names

-- a list of properties after some were sent for it, in this order
pub record IsListAfter (sent old new : List (Property (List ℕ))) : Type 0 where
  -- under each name is found the last that was sent with it, else the old one
  pub found : (name : List ℕ) → look_up name new ≡ last_or (look_up name old) (filter (is_of_name name) sent)
  -- one of whose name none was sent stays as it is, and in its place
  pub stays : (place : ℕ) (p : Property (List ℕ)) → slice_get old place ≡ Some p → list_any (is_of_name p.name) sent ≡ false → slice_get new place ≡ Some p
  -- names stay in their places; new ones go last, in the order in which they were first sent
  pub names : lower_names new ≡ lower_names old ++ new_names (lower_names old) (lower_names sent)
  -- there are at most 32, if there were no more
  pub few : length old ≤ most_properties → length new ≤ most_properties
  -- no name stands twice, in any case, if none did
  pub once : has_name_twice (names_of old) ≡ false → has_name_twice (names_of new) ≡ false

-- ---- what is sent for each place

-- for the termination's list: the properties of TerminationState, but ServiceStates
abbrev pub states_sent : List Descriptor → List (Property (List ℕ))
states_sent descriptors = filter (λ p. not (is_service_states p.name)) (flat_map states_in descriptors)

abbrev pub service_of_property : Property (List ℕ) → Option Service
service_of_property p = if is_service_states p.name then service_set_by p else None

-- service states
abbrev pub services_sent : List Descriptor → List Service
services_sent descriptors = filter_map service_of_property (flat_map states_in descriptors)

abbrev pub controls_in : StreamPart → List (Property (List ℕ))
controls_in (part.LocalControl properties) = properties
controls_in _ = []

abbrev pub locals_in : StreamPart → List (List ℕ)
locals_in (part.Local text) = text ∷ []
locals_in _ = []

abbrev pub remotes_in : StreamPart → List (List ℕ)
remotes_in (part.Remote text) = text ∷ []
remotes_in _ = []

-- for the list of the stream of this number: the properties of its LocalControl, but Mode
abbrev pub controls_sent : List StreamPart → List (Property (List ℕ))
controls_sent parts = filter (λ p. not (is_mode p.name)) (flat_map controls_in parts)

abbrev pub mode_by : Property (List ℕ) → Option Mode
mode_by p = if is_mode p.name then mode_set_by p else None

-- modes
abbrev pub modes_sent : List StreamPart → List Mode
modes_sent parts = filter_map mode_by (flat_map controls_in parts)

abbrev pub tail_sent : KeptKind → Descriptor → Option (Tail (List ℕ))
tail_sent kind (descriptor.Keep other tail) = if same_kept kind other then Some tail else None
tail_sent kind _ = None

-- tails of a kind
abbrev pub tails_sent : KeptKind → List Descriptor → List (Tail (List ℕ))
tails_sent kind descriptors = filter_map (tail_sent kind) descriptors

-- ---- a stream, there or not

abbrev pub list_in : Option Stream → List (Property (List ℕ))
list_in None = []
list_in (Some s) = s.properties

-- one that is not there yet comes as Inactive
abbrev pub mode_in : Option Stream → Mode
mode_in None = Inactive
mode_in (Some s) = s.mode

abbrev pub local_in : Option Stream → Option (List ℕ)
local_in None = None
local_in (Some s) = s.local

abbrev pub remote_in : Option Stream → Option (List ℕ)
remote_in None = None
remote_in (Some s) = s.remote

-- the stream of this number after the descriptors, in what these say of it
pub record IsStreamFound (rules : Rules) (slot : Option ℕ) (number : ℕ) (descriptors : List Descriptor) (old new : Option Stream) : Type 0 where
  -- it is there if it was, or if it is named
  pub there : is_some new ≡ (is_some old || list_any (is_named_in number) descriptors)
  pub properties : IsListAfter (controls_sent (flat_map (parts_in number) descriptors)) (list_in old) (list_in new)
  pub mode : Some (mode_in new) ≡ last_or (Some (mode_in old)) (modes_sent (flat_map (parts_in number) descriptors))
  -- the last Local, with its `$` filled where the termination has a slot
  pub local : local_in new ≡ last_or (local_in old) (map (local_text rules slot number) (flat_map locals_in (flat_map (parts_in number) descriptors)))
  pub remote : remote_in new ≡ last_or (remote_in old) (flat_map remotes_in (flat_map (parts_in number) descriptors))

-- the termination after the descriptors
pub record IsFoundAfter (rules : Rules) (descriptors : List Descriptor) (old new : Termination) : Type 0 where
  pub service : Some new.service ≡ last_or (Some old.service) (services_sent descriptors)
  pub properties : IsListAfter (states_sent descriptors) old.settings.properties new.settings.properties
  pub streams : Between (λ number. IsStreamFound rules old.slot number descriptors) old.settings.streams new.settings.streams
  -- the last tail of a kind; one that is to be removed leaves none
  pub tails : (kind : KeptKind) → Some (tail_of kind new) ≡ last_or (Some (tail_of kind old)) (map kept_tail (tails_sent kind descriptors))

-- ---- where nothing is merged

-- the list would hold more than 32, each new name counted once
abbrev pub IsTooLong : (sent old : List (Property (List ℕ))) → Type 0
IsTooLong sent old = most_properties < length old + length (new_names (lower_names old) (lower_names sent))

-- the termination's list would, or that of a stream
abbrev pub HasTooLong : List Descriptor → Termination → Type 0
HasTooLong descriptors old =
    IsTooLong (states_sent descriptors) old.settings.properties
    ⊎ AtSome (λ number stream. IsTooLong (controls_sent (flat_map (parts_in number) descriptors)) (list_in stream)) old.settings.streams
