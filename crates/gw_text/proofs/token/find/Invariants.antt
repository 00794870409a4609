use Rattle.std.proofs.Common.{◌≡◌, drop}
use Rattle.gw_text.specs.Tokens.{find_token}
use Rattle.gw_text.specs.TokenTable.{entries}
use Rattle.gw_text.proofs.token.find.Given as goal

abbrev pub invariant-loop-spelling : goal.invariant-loop-spelling
invariant-loop-spelling l = find_token l.word (entries (drop l.spelling-index l.table)) ≡ find_token l.word (entries l.table)
