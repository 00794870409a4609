use Rattle.std.proofs.Common.{◌≡◌, map, take}
use Rattle.std.specs.List.{All}
use Rattle.gw_cmd.proofs.prepared_list.all_prepared.Given as goal

abbrev pub invariant-loop-command : goal.invariant-loop-command
invariant-loop-command l = record {
  rules : All (λ p. p.rules.now ≡ l.rules) l.list.items;
  commands : map (λ p. p.command.now) l.list.items ≡ take l.command-index l.commands;
}
