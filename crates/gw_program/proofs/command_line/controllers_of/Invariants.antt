use Rattle.std.proofs.Common.{take}
use Rattle.std.specs.List.{AllZip}
use Rattle.gw_front.specs.Controllers.{IsControllerText}
use Rattle.gw_program.proofs.command_line.controllers_of.Given as goal

-- the texts so far name these controllers
abbrev pub invariant-loop-text : goal.invariant-loop-text
invariant-loop-text l = AllZip (λ t c. IsControllerText t.now c) (take l.text-index l.texts) l.controllers.items
