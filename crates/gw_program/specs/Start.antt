-- The gateway that the program has (own).
use Rattle.std.specs.Prelude.{[], ◌∷◌, codes}
use Rattle.gw_base.specs.declared.config.Config.{Config}
use Rattle.gw_engine.specs.State.{GatewayValue}
use Rattle.gw_engine.specs.Configuration.{new_gateway}

-- four terminations, 8 contexts of at most 3 members, 4 slots, 4 kept replies
abbrev pub start_config : Config
start_config = record {
  mid = codes "[10.0.0.1]:2944";
  media = codes "10.0.0.1";
  contexts = 8;
  slots = 4;
  members = 3;
  keep = 4;
  terms = codes "T/1" ∷ (codes "T/2" ∷ (codes "T/3" ∷ (codes "T/4" ∷ [])));
}

-- as it is before the first datagram
abbrev pub start : GatewayValue
start = new_gateway start_config
