-- The words of commands (RFC 3525, Annex B.2, the long tokens).
use Rattle.std.specs.Prelude.{ℕ, List, codes}
use Rattle.gw_base.specs.declared.command_words.Verb.{Verb}
use Rattle.gw_base.specs.declared.command_words.Verb.TheVariants.{Add, Modify, Move, Subtract, AuditValue, AuditCapability, Notify, ServiceChange}

-- the long token of a command
abbrev pub command_word : Verb → List ℕ
command_word Add = codes "Add"
command_word Modify = codes "Modify"
command_word Move = codes "Move"
command_word Subtract = codes "Subtract"
command_word AuditValue = codes "AuditValue"
command_word AuditCapability = codes "AuditCapability"
command_word Notify = codes "Notify"
command_word ServiceChange = codes "ServiceChange"
