-- What answering one bare datagram does (own).
use Rattle.std.specs.Prelude.{◌≡◌, ℕ, ◌<◌, ◌≤◌, List, [], ◌∷◌, length, take, flat_map, Option, Result, Ok, Err, IfSome}
use Rattle.std.specs.Io.KnownBytes.{Appends, Keeps}
use Rattle.gw_engine.specs.declared.datagram.Datagram.{Datagram}
use Rattle.gw_engine.specs.State.{GatewayValue}
use Rattle.gw_engine.specs.Bursts.{AnswersBurst}
use Rattle.gw_front.specs.declared.replay_fault.ReplayFault.{ReplayFault}
use Rattle.gw_front.specs.declared.replay_fault.ReplayFault.TheVariants.{BadHeader, Truncated, TooLong, Read, Write, NoMemory}
use Rattle.gw_front.specs.Records.{longest_datagram}

-- a burst of one datagram
abbrev pub one_burst : List ℕ → List Datagram
one_burst text = record { peer = 0; bytes = text } ∷ []

-- the bytes of answers, one answer behind the other
abbrev pub bare_text : List Datagram → List ℕ
bare_text answers = flat_map (λ d. d.bytes) answers

-- All of the input was executed as one datagram, and these are the answers.
abbrev pub IsCarried : Option (List ℕ) → GatewayValue → List Datagram → GatewayValue → Type 0
IsCarried input old answers new =
    IfSome input (λ text. (length text ≤ longest_datagram) × AnswersBurst old (one_burst text) answers new)

-- The input is one datagram, which was executed, and the bytes of the answers are out; a front of them after a failed
-- write. After any other fault nothing was executed, and nothing is out.
abbrev pub IsAnswer : Option (List ℕ) → Option (List ℕ) → Option (List ℕ) → GatewayValue → GatewayValue
    → Result Unit ReplayFault → Type 0
IsAnswer input before after old new (Ok done) =
    (answers : List Datagram) × IsCarried input old answers new × Appends before after (bare_text answers)
IsAnswer input before after old new (Err Write) =
    (answers : List Datagram) × IsCarried input old answers new
    × ((n : ℕ) × Appends before after (take n (bare_text answers)))
IsAnswer input before after old new (Err TooLong) =
    IfSome input (λ text. longest_datagram < length text) × Keeps before after × (new ≡ old)
IsAnswer input before after old new (Err Read) = Keeps before after × (new ≡ old)
IsAnswer input before after old new (Err NoMemory) = Keeps before after × (new ≡ old)
IsAnswer input before after old new (Err BadHeader) = ⊥
IsAnswer input before after old new (Err Truncated) = ⊥
