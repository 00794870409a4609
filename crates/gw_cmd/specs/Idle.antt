-- Commands for all that match which leave every termination as it is (own): none needs to be looked at but for its
-- reply.
use Rattle.std.specs.Prelude.{◌≡◌, Bool, true, false, not, ◌&&◌, Option, None, Some}
use Rattle.std.specs.Option.{is_none}
use Rattle.gw_base.specs.declared.code.Code.{Code}
use Rattle.gw_base.specs.declared.code.Code.TheVariants.{ContextFull}
use Rattle.gw_base.specs.declared.command_words.Rules.{Rules}
use Rattle.gw_base.specs.declared.command_words.Verb.{Verb}
use Rattle.gw_base.specs.declared.command_words.Verb.TheVariants.{Add, Modify, AuditValue}
use Rattle.gw_base.specs.declared.ids.CtxNum.{CtxNum}
use Rattle.gw_base.specs.declared.key.Key.{Key}
use Rattle.gw_reply.specs.declared.writer.ReplyWriter.TheVariants.{TooLong}
use Rattle.gw_msg.specs.declared.message.Command.{Command}
use Rattle.gw_table.specs.Maps.{Maps}
use Rattle.gw_table.specs.Parts.{PartKeys, holds}
use Rattle.gw_refusal.specs.declared.at.At.{At}
use Rattle.gw_refusal.specs.Requested.{is_some_list, is_wildcard}
use Rattle.gw_refusal.specs.Places.{place_at, is_each}
use Rattle.gw_cmd.specs.declared.outcome.Seen.{Seen}
use Rattle.gw_cmd.specs.Effects.{is_full}

-- the null context takes any number
abbrev pub is_full_at : Rules → Option CtxNum → Maps → Bool
is_full_at rules None m = false
is_full_at rules (Some n) m = is_full rules n m

-- an AuditValue, a Modify without descriptors, and an Add without them into a full context
abbrev pub leaves_all : Verb → (some_descriptors full : Bool) → Bool
leaves_all AuditValue some_descriptors full = true
leaves_all Modify some_descriptors full = not some_descriptors
leaves_all Add some_descriptors full = not some_descriptors && full
leaves_all _ some_descriptors full = false

-- why each is refused: the Add, and no other
abbrev pub code_idle : Verb → Option Code
code_idle Add = Some ContextFull
code_idle _ = None

-- what comes of them all, if there are any, where no reply of one is kept
abbrev pub seen_idle : Verb → Seen
seen_idle verb = record { written = TooLong; first_error = code_idle verb; any_done = is_none (code_idle verb) }

-- an idle command; in an action for each context it is known that a member of a context has its entry in the part
pub record IsIdle (keys : PartKeys) (rules : Rules) (at : At) (c : Command) (m : Maps) : Type 0 where
  pub wildcard : is_wildcard c.term ≡ true
  pub leaves : leaves_all c.verb (is_some_list c.descriptors) (is_full_at rules (place_at at) m) ≡ true
  pub held : is_each at ≡ true → (k : Key) → holds keys k ≡ true
