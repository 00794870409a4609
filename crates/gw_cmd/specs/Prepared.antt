-- Commands with what is found of each once, for all contexts and terminations (own).
use Rattle.std.specs.Prelude.{◌≡◌, List, map}
use Rattle.std.specs.List.{All}
use Rattle.gw_base.specs.declared.command_words.Rules.{Rules}
use Rattle.gw_msg.specs.declared.message.Command.{Command}
use Rattle.gw_cmd.specs.declared.prepared.Prepared.{Prepared}

-- the same command under the same rules
pub record IsSameCommand (old new : Prepared) : Type 0 where
  pub rules : new.rules.now ≡ old.rules.now
  pub command : new.command.now ≡ old.command.now

-- these commands, in order, each under these rules
pub record ArePrepared (under : Rules) (list : List Prepared) (sent : List Command) : Type 0 where
  pub rules : All (λ p. p.rules.now ≡ under) list
  pub commands : map (λ p. p.command.now) list ≡ sent
