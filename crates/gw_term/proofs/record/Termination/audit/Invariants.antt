use Rattle.std.proofs.Common.{◌≡◌, take}
use Rattle.std.specs.List.{flat_map}
use Rattle.gw_term.specs.Audit.{written_word}
use Rattle.gw_term.proofs.record.Termination.audit.Given as goal

-- the words so far are answered
abbrev pub invariant-loop-word : goal.invariant-loop-word
invariant-loop-word l = l.parts ≡ flat_map (written_word l.self) (take l.word-index l.word-items)
