use Rattle.std.proofs.Common.{◌≡◌, ◌++◌, map, take}
use Rattle.gw_base.specs.declared.key.Key.TheVariants.{Term}
use Rattle.cases_commands.proofs.keys.add_names.Given as goal

-- the keys so far
abbrev pub invariant-loop-name : goal.invariant-loop-name
invariant-loop-name l = l.keys.items ≡ l.initial.keys.items ++ map Term (take l.name-index l.names)
