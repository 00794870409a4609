-- Which commands may have `W-`, which have a group of their own, and how a priority is written (RFC 3525, Annex B.2,
-- but where it says own).
use Rattle.std.specs.Prelude.{ℕ, Bool, true, false}
use Rattle.gw_base.specs.declared.command_words.Verb.{Verb}
use Rattle.gw_base.specs.declared.command_words.Verb.TheVariants as verb

-- the commands that `W-` may stand in front of: subtractRequest and auditRequest
abbrev pub may_be_wild : Verb → Bool
may_be_wild verb.Subtract = true
may_be_wild verb.AuditValue = true
may_be_wild verb.AuditCapability = true
may_be_wild _ = false

-- the commands that are not executed, of which what stands in braces is read as a group (own)
abbrev pub has_group : Verb → Bool
has_group verb.AuditCapability = true
has_group verb.Notify = true
has_group _ = false

-- the most digits of a priority, as it is sent (own)
abbrev pub priority_digits : ℕ
priority_digits = 5

-- the greatest priority that may be sent (own)
abbrev pub priority_max : ℕ
priority_max = 65535
