-- The forms of what tables keep as sent, and of what replies have of it (own).
use Rattle.std.specs.Prelude.{◌≡◌, ◌<◌, ℕ, List, Some, Option}
use Rattle.std.specs.List.{All}
use Rattle.gw_base.specs.Names.{IsName}
use Rattle.gw_base.specs.declared.ids.CtxNum.{CtxNum}
use Rattle.gw_desc.specs.KeptTexts.{HasKeptTexts, IsOptional}
use Rattle.gw_msg.specs.declared.message.Command.{Command}
use Rattle.gw_reply.specs.KeptReplies.{HasForm, HasNames, IsKeptCommand}
use Rattle.gw_term.specs.KeptRecords.{IsKeptRecord}
use Rattle.gw_term.specs.declared.record.Termination.{Termination}
use Rattle.gw_table.specs.Maps.{Maps, Outcome, term, ctx, context_of, members_of}
use Rattle.gw_cmd.specs.declared.outcome.CmdOutcome.{CmdOutcome}

-- each termination has a name, and what it keeps has its form; each member of a context is a name, and each link names
-- TerminationIDs
pub record AreKept (m : Maps) : Type 0 where
  pub records : (t : List ℕ) (r : Termination) → term m t ≡ Some r → IsKeptRecord r
  pub names : (t : List ℕ) (r : Termination) → term m t ≡ Some r → IsName t
  pub members : (n : CtxNum) → All IsName (members_of (ctx m n))
  pub links : (n : CtxNum) → All HasNames (context_of (ctx m n)).links

-- the TerminationID of the command and what its descriptors hold have their forms, as those of a request do
pub record IsRequested (c : Command) : Type 0 where
  pub term : HasForm c.term
  pub descriptors : All HasKeptTexts c.descriptors

-- a slot whose name is one
abbrev pub IsSlot : Option ℕ → Type 0
IsSlot = IsOptional (λ slot. slot < 65536)

-- the maps after a command, and its replies
pub record KeepsForms (o : Outcome CmdOutcome) : Type 0 where
  pub maps : AreKept o.maps
  pub replies : All IsKeptCommand o.answer.replies
