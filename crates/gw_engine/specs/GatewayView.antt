-- A gateway's fields, as contracts see them (own).
use Rattle.std.specs.Prelude.{◌≡◌, true}
use Rattle.gw_engine.specs.declared.gateway.Gateway.TheInside.{Inside}
use Rattle.gw_engine.specs.Configuration.{is_within, most_contexts, most_slots, most_members}
use Rattle.gw_kept.specs.Pairs.{most_kept}
use Rattle.gw_table.specs.Stored.{maps_of, AreSwept, NoneIsOut}
use Rattle.gw_engine.specs.State.{GatewayValue, IsWellFormed}

abbrev pub value_of : Inside → GatewayValue
value_of a = record {
  settings = record { mid = a.mid; rules = a.rules; contexts = a.contexts; slots = a.slots; keep = a.keep };
  state = record { maps = maps_of a.tables; context_cursor = a.cursors.context; slot_cursor = a.cursors.slot; kept = a.kept };
}

-- the limits are kept, no entry of the tables is out, each prepared key has an entry (so names that were only sent take
-- no memory once a burst is over), and the state is well-formed
pub record IsGateway (a : Inside) : Type 0 where
  pub contexts : is_within 1 most_contexts a.contexts ≡ true
  pub slots : is_within 0 most_slots a.slots ≡ true
  pub members : is_within 1 most_members a.rules.members ≡ true
  pub keep : is_within 1 most_kept a.keep ≡ true
  pub here : NoneIsOut a.tables
  pub swept : AreSwept a.tables
  pub well_formed : IsWellFormed (value_of a).settings (value_of a).state
