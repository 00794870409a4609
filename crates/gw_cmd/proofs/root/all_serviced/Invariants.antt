use Rattle.std.proofs.Common.{◌≡◌, drop}
use Rattle.gw_cmd.specs.Commands.{all_serviced}
use Rattle.gw_cmd.proofs.root.all_serviced.Given as goal

-- the rest, done to the maps as they are now, comes to what all come to
abbrev pub invariant-loop-name : goal.invariant-loop-name
invariant-loop-name l = record {
  rest : all_serviced l.service (drop l.name-index l.named) l.draft.maps ≡ all_serviced l.service l.named l.fn.draft.maps;
  keys : l.draft.keys ≡ l.fn.draft.keys;
}
