-- How long a reply may be (own).
use Rattle.std.specs.Prelude.{ℕ, ◌+◌, ◌-◌, List, length}
use Rattle.gw_reply.specs.Messages.{longest_message}

-- how many bytes a reply may have in a message from this mId
abbrev pub reply_limit : List ℕ → ℕ
reply_limit mid = longest_message - (length mid + 10)
