-- One burst of a replay, and how far a replay has come (own).
use Rattle.std.specs.Prelude.{◌≡◌, ℕ, ◌+◌, List, length, take, Option, Some, Result, Ok, Err, IfSome}
use Rattle.std.specs.Io.KnownBytes.{Appends, Keeps}
use Rattle.gw_base.specs.Lang.{◌▹◌}
use Rattle.gw_engine.specs.declared.datagram.Datagram.{Datagram}
use Rattle.gw_engine.specs.State.{GatewayValue}
use Rattle.gw_engine.specs.Bursts.{AnswersBurst}
use Rattle.gw_front.specs.declared.counts.Counts.{Counts}
use Rattle.gw_front.specs.declared.replay_fault.ReplayFault.{ReplayFault}
use Rattle.gw_front.specs.declared.replay_fault.ReplayFault.TheVariants.{BadHeader, Truncated, TooLong, Read, Write, NoMemory}
use Rattle.gw_front.specs.Records.{AreWholeBursts}
use Rattle.gw_front.specs.AnswerTexts.{answers_text, all_answers_text}
use Rattle.gw_front.specs.Replays.{AnswersBursts, AreCounts}

-- one burst more
pub record CountsMore (old new : Counts) (datagrams replies : ℕ) : Type 0 where
  pub bursts_are : new.bursts ≡ old.bursts + 1
  pub datagrams_are : new.datagrams ≡ old.datagrams + datagrams
  pub replies_are : new.replies ≡ old.replies + replies

-- The burst was executed, and its answers are out; after a failed write a front of them; where memory is refused it was
-- not executed, and nothing is out.
abbrev pub IsBurstDone : List Datagram → Counts → Option (List ℕ) → Option (List ℕ) → GatewayValue → GatewayValue
    → Result Counts ReplayFault → Type 0
IsBurstDone burst counts before after old new (Ok more) =
    (replies : List Datagram) × AnswersBurst old burst replies new × Appends before after (answers_text replies)
    × CountsMore counts more (length burst) (length replies)
IsBurstDone burst counts before after old new (Err Write) =
    (replies : List Datagram) × AnswersBurst old burst replies new
    × ((n : ℕ) × Appends before after (take n (answers_text replies)))
IsBurstDone burst counts before after old new (Err NoMemory) = Keeps before after × (new ≡ old)
IsBurstDone burst counts before after old new (Err BadHeader) = ⊥
IsBurstDone burst counts before after old new (Err Truncated) = ⊥
IsBurstDone burst counts before after old new (Err TooLong) = ⊥
IsBurstDone burst counts before after old new (Err Read) = ⊥

-- Whole bursts were read, executed and answered, and now is what follows them.
pub record IsSoFar (input now before after : Option (List ℕ)) (old new : GatewayValue) (counts : Counts) : Type 0 where
  pub bursts : List (List Datagram)
  pub answers : List (List Datagram)
  pub read : IfSome input (AreWholeBursts bursts ▹ (λ rest. now ≡ Some rest))
  pub carried : AnswersBursts old bursts answers new
  pub written : Appends before after (all_answers_text answers)
  pub counted : AreCounts counts bursts answers
