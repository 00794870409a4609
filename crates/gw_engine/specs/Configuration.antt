-- Which configurations make a gateway, which fault another has, and the gateway that is made (limits and their order:
-- own).
use Rattle.std.specs.Prelude.{◌≡◌, ℕ, Bool, true, false, ◌&&◌, if◌then◌else◌, nat_le, length, Option, None, Some}
use Rattle.std.specs.List.{list_any}
use Rattle.gw_base.specs.declared.config.Config.{Config}
use Rattle.gw_engine.specs.declared.fault.LimitName.{LimitName}
use Rattle.gw_engine.specs.declared.fault.LimitName.TheVariants.{Contexts, Slots, Members, Keep, Terms}
use Rattle.gw_engine.specs.declared.fault.ConfigFault.{ConfigFault}
use Rattle.gw_engine.specs.declared.fault.ConfigFault.TheVariants.{LimitOutOfRange, ReservedName, DuplicateName, NoMemory}
use Rattle.gw_kept.specs.Pairs.{most_kept, none_kept}
use Rattle.gw_table.specs.Maps.{new_maps}
use Rattle.gw_base.specs.NameLists.{NoDoubles}
use Rattle.gw_table.specs.Reserved.{is_reserved}
use Rattle.gw_engine.specs.State.{GatewayValue}

-- n is from low to high
abbrev pub is_within : ℕ → ℕ → ℕ → Bool
is_within low high n = nat_le low n && nat_le n high

-- the greatest numbers of a configuration
abbrev pub most_contexts : ℕ
most_contexts = 65535

abbrev pub most_slots : ℕ
most_slots = 4096

abbrev pub most_members : ℕ
most_members = 64

abbrev pub most_terms : ℕ
most_terms = 65535

-- the first of the limits that is not kept
abbrev pub first_limit : Config → Option LimitName
first_limit c =
    if is_within 1 most_contexts c.contexts then
    (if is_within 0 most_slots c.slots then
    (if is_within 1 most_members c.members then
    (if is_within 1 most_kept c.keep then (if is_within 0 most_terms (length c.terms) then None else Some Terms) else Some Keep)
    else Some Members)
    else Some Slots)
    else Some Contexts

-- a fault that no earlier one hides
abbrev pub IsFault : Config → ConfigFault → Type 0
IsFault c (LimitOutOfRange limit) = first_limit c ≡ Some limit
IsFault c ReservedName = (first_limit c ≡ None) × (list_any is_reserved c.terms ≡ true)
IsFault c DuplicateName = (first_limit c ≡ None) × (list_any is_reserved c.terms ≡ false) × ¬ NoDoubles c.terms
IsFault c NoMemory = Unit {0}

-- no fault applies
pub record IsAccepted (c : Config) : Type 0 where
  pub limits : first_limit c ≡ None
  pub names : list_any is_reserved c.terms ≡ false
  pub once : NoDoubles c.terms

-- the gateway of the configuration: both cursors are 0, and no reply is kept
abbrev pub new_gateway : Config → GatewayValue
new_gateway c = record {
  settings = record { mid = c.mid; rules = record { media = c.media; members = c.members }; contexts = c.contexts; slots = c.slots; keep = c.keep };
  state = record { maps = new_maps c.terms; context_cursor = 0; slot_cursor = 0; kept = none_kept c.keep };
}
