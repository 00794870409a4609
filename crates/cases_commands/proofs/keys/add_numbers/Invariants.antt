use Rattle.std.proofs.Common.{◌≡◌, ◌++◌, map, take}
use Rattle.gw_base.specs.declared.key.Key.TheVariants.{Ctx}
use Rattle.cases_commands.proofs.keys.add_numbers.Given as goal

-- the keys so far
abbrev pub invariant-loop-number : goal.invariant-loop-number
invariant-loop-number l = l.keys.items ≡ l.initial.keys.items ++ map Ctx (take l.number-index l.numbers)
