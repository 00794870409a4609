-- The same command under the same rules.
use Rattle.std.proofs.Common.{◌≡◌, refl, ap, ◌∙◌}
use Rattle.gw_base.specs.declared.command_words.Rules.{Rules}
use Rattle.gw_msg.specs.declared.message.Command.{Command}
use Rattle.gw_cmd.specs.declared.prepared.Prepared.{Prepared}
use Rattle.gw_cmd.specs.Prepared.{IsSameCommand}

-- what follows from these is the same
pub same_in : {X : Type 0} (f : Rules → Command → X) (old new : Prepared) → IsSameCommand old new → f new.rules.now new.command.now ≡ f old.rules.now old.command.now
same_in f old new s = ap (λ (r : Rules). f r new.command.now) s.rules ∙ ap (λ (c : Command). f old.rules.now c) s.command

pub same_itself : (p : Prepared) → IsSameCommand p p
same_itself p = record { rules = refl; command = refl }

pub same_after : (a b c : Prepared) → IsSameCommand a b → IsSameCommand b c → IsSameCommand a c
same_after a b c s t = record { rules = t.rules ∙ s.rules; command = t.command ∙ s.command }
