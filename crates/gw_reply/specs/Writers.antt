-- Replies that are written as they come, within a limit on their text (own).
use Rattle.std.specs.Prelude.{ℕ, ◌-◌, nat_le, if◌then◌else◌, List, [], ◌++◌, length}
use Rattle.gw_reply.specs.declared.reply.ActionReply.{ActionReply}
use Rattle.gw_reply.specs.Lists.{later}
use Rattle.gw_reply.specs.declared.writer.ReplyWriter.{ReplyWriter}
use Rattle.gw_reply.specs.declared.writer.ReplyWriter.TheVariants.{All, Within, TooLong}

-- this text behind what is written, where there is room for it
abbrev pub written_within : {T : Type 0} → (front more : List ℕ) → (room : ℕ) → ReplyWriter T
written_within front more room = if nat_le (length more) room then Within (front ++ more) (room - length more) else TooLong

-- what is written once these have come too, each behind a comma
abbrev pub written_behind : {T : Type 0} → (T → List ℕ) → ReplyWriter T → List T → ReplyWriter T
written_behind text (All front) more = All (front ++ more)
written_behind text (Within front room) more = written_within front (later text more) room
written_behind text TooLong more = TooLong

-- of the parts of an action no more is written than of the action
abbrev pub inside : {T : Type 0} → ReplyWriter ActionReply → ReplyWriter T
inside (All replies) = All []
inside (Within text room) = Within [] room
inside TooLong = TooLong
