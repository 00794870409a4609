-- What a command writes of its replies, behind those before them (own).
use Rattle.std.specs.Prelude.{ℕ, List, Option, None, Some, Result, Ok, Err}
use Rattle.std.specs.List.{list_any}
use Rattle.gw_base.specs.declared.code.Code.{Code}
use Rattle.gw_base.specs.declared.term_ref.TermRef.{TermRef}
use Rattle.gw_base.specs.declared.term_ref.TermRef.TheVariants.{Name, Choose}
use Rattle.gw_reply.specs.declared.writer.ReplyWriter.{ReplyWriter}
use Rattle.gw_reply.specs.Writers.{written_behind}
use Rattle.gw_reply.specs.declared.parts.ReplyPart.{ReplyPart}
use Rattle.gw_reply.specs.declared.reply.CommandReply.{CommandReply}
use Rattle.gw_reply.specs.Replies.{command_reply_text}
use Rattle.gw_cmd.specs.declared.outcome.CmdOutcome.{CmdOutcome}
use Rattle.gw_cmd.specs.declared.outcome.CmdWritten.{CmdWritten}
use Rattle.gw_cmd.specs.declared.outcome.Seen.{Seen}
use Rattle.gw_cmd.specs.Commands.{is_done, first_error}

-- the outcome of a command, written behind what was written before it
abbrev pub outcome_behind : ReplyWriter CommandReply → CmdOutcome → CmdWritten
outcome_behind writer done = record { written = written_behind command_reply_text writer done.replies; failed = done.failed; made = done.made }

abbrev pub code_of : Result (List ReplyPart) Code → Option Code
code_of (Ok parts) = None
code_of (Err code) = Some code

-- the replies of the targets, written behind what was written before them
abbrev pub seen : ReplyWriter CommandReply → List CommandReply → Seen
seen writer replies = record { written = written_behind command_reply_text writer replies; first_error = code_of (first_error replies); any_done = list_any is_done replies }

-- a termination that is made has its name where it came into being, and is $ else
abbrev pub new_term : List ℕ → Result (List ReplyPart) Code → TermRef
new_term t (Ok parts) = Name t
new_term t (Err code) = Choose
