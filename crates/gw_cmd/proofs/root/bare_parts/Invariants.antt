use Rattle.std.proofs.Common.{◌≡◌, take}
use Rattle.std.specs.List.{flat_map}
use Rattle.gw_cmd.specs.Commands.{bare_answer}
use Rattle.gw_cmd.proofs.root.bare_parts.Given as goal

abbrev pub invariant-loop-word : goal.invariant-loop-word
invariant-loop-word l = l.parts ≡ flat_map bare_answer (take l.word-index l.words)
