use Rattle.std.proofs.Common.{◌≡◌, drop}
use Rattle.gw_text.specs.Tokens.{is_same_word}
use Rattle.gw_desc.specs.Twice.{has_same}
use Rattle.gw_desc.specs.Checks.{names_of}
use Rattle.gw_desc.proofs.checks.names.is_twice_by_pairs.Given as goal

-- two of all are the same if two of those that are left are
abbrev pub invariant-loop-i : goal.invariant-loop-i
invariant-loop-i l = has_same is_same_word (names_of l.properties) ≡ has_same is_same_word (names_of (drop l.i l.properties))
