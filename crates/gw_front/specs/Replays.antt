-- What a replay does: bursts read, executed and answered, one after another (own).
use Rattle.std.specs.Prelude.{◌≡◌, ◌⊎◌, ℕ, List, [], ◌∷◌, ◌++◌, length, take, flat_map, Option, Result, Ok, Err, IfSome}
use Rattle.std.specs.Io.KnownBytes.{Appends}
use Rattle.gw_base.specs.Lang.{◌▹◌}
use Rattle.gw_engine.specs.declared.datagram.Datagram.{Datagram}
use Rattle.gw_engine.specs.State.{GatewayValue}
use Rattle.gw_engine.specs.Bursts.{AnswersBurst}
use Rattle.gw_front.specs.declared.counts.Counts.{Counts}
use Rattle.gw_front.specs.declared.replay_fault.ReplayFault.{ReplayFault}
use Rattle.gw_front.specs.declared.replay_fault.ReplayFault.TheVariants.{BadHeader, Truncated, TooLong, Read, Write, NoMemory}
use Rattle.gw_front.specs.Records.{AreWholeBursts, IsBurst, IsLastBurst, AreBursts}
use Rattle.gw_front.specs.RecordFaults.{IsFirstFault}
use Rattle.gw_front.specs.AnswerTexts.{answers_text, all_answers_text}

-- The gateway executes the bursts one after another, and these are the answers to each.
abbrev pub AnswersBursts : GatewayValue → List (List Datagram) → List (List Datagram) → GatewayValue → Type 0
AnswersBursts old [] [] new = new ≡ old
AnswersBursts old [] (a ∷ more) new = ⊥
AnswersBursts old (b ∷ bs) [] new = ⊥
AnswersBursts old (b ∷ bs) (a ∷ more) new =
    (between : GatewayValue) × AnswersBurst old b a between × AnswersBursts between bs more new

-- the numbers of bursts, of their datagrams, and of the answers
pub record AreCounts (counts : Counts) (bursts answers : List (List Datagram)) : Type 0 where
  pub bursts_are : counts.bursts ≡ length bursts
  pub datagrams_are : counts.datagrams ≡ length (flat_map (λ burst. burst) bursts)
  pub replies_are : counts.replies ≡ length (flat_map (λ burst. burst) answers)

-- All of the input is bursts; each was executed, and the text of all answers is out.
pub record IsWholeReplay (input before after : Option (List ℕ)) (old new : GatewayValue)
    (counts : Counts) : Type 0 where
  pub bursts : List (List Datagram)
  pub answers : List (List Datagram)
  pub read : IfSome input (AreBursts bursts)
  pub carried : AnswersBursts old bursts answers new
  pub written : Appends before after (all_answers_text answers)
  pub counted : AreCounts counts bursts answers

-- The input begins with whole bursts, each of which was executed and its answers written whole. What follows them is as
-- At says, and nothing of it was executed or is out.
pub record IsStopped (At : List ℕ → Type 0) (input before after : Option (List ℕ))
    (old new : GatewayValue) : Type 0 where
  pub bursts : List (List Datagram)
  pub answers : List (List Datagram)
  pub read : IfSome input (AreWholeBursts bursts ▹ At)
  pub carried : AnswersBursts old bursts answers new
  pub written : Appends before after (all_answers_text answers)

-- a burst with what follows it, or a last burst
abbrev pub BeginsWith : List Datagram → List ℕ → Type 0
BeginsWith burst text = ((IsBurst burst ▹ (λ rest. Unit {0})) text) ⊎ IsLastBurst burst text

-- The same, and the burst that follows them was executed, and a front of the text of its answers is out.
pub record IsCutShort (input before after : Option (List ℕ)) (old new : GatewayValue) : Type 0 where
  pub bursts : List (List Datagram)
  pub answers : List (List Datagram)
  pub burst : List Datagram
  pub replies : List Datagram
  pub count : ℕ
  pub read : IfSome input (AreWholeBursts bursts ▹ BeginsWith burst)
  pub carried : AnswersBursts old (bursts ++ burst ∷ []) (answers ++ replies ∷ []) new
  pub written : Appends before after (all_answers_text answers ++ take count (answers_text replies))

-- What was read, executed and written, by how the replay ended.
abbrev pub IsReplay : Option (List ℕ) → Option (List ℕ) → Option (List ℕ) → GatewayValue → GatewayValue
    → Result Counts ReplayFault → Type 0
IsReplay input before after old new (Ok counts) = IsWholeReplay input before after old new counts
IsReplay input before after old new (Err BadHeader) = IsStopped (IsFirstFault BadHeader) input before after old new
IsReplay input before after old new (Err Truncated) = IsStopped (IsFirstFault Truncated) input before after old new
IsReplay input before after old new (Err TooLong) = IsStopped (IsFirstFault TooLong) input before after old new
IsReplay input before after old new (Err Read) = IsStopped (λ rest. Unit {0}) input before after old new
IsReplay input before after old new (Err NoMemory) = IsStopped (λ rest. Unit {0}) input before after old new
IsReplay input before after old new (Err Write) = IsCutShort input before after old new
