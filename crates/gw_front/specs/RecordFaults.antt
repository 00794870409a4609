-- What is wrong first in a text that is to be bursts of datagrams (own).
use Rattle.std.specs.Prelude.{◌≡◌, ◌≢◌, ◌==◌, ℕ, ◌+◌, ◌<◌, ◌≤◌, ◌⊎◌, false, List, ◌∷◌, ◌++◌, length, codes}
use Rattle.std.specs.List.{list_any}
use Rattle.gw_base.specs.Lang.{◌▹◌}
use Rattle.gw_text.specs.Lexical.{line_feed}
use Rattle.gw_engine.specs.declared.datagram.Datagram.{Datagram}
use Rattle.gw_front.specs.declared.replay_fault.ReplayFault.{ReplayFault}
use Rattle.gw_front.specs.declared.replay_fault.ReplayFault.TheVariants.{BadHeader, Truncated, TooLong, Read, Write, NoMemory}
use Rattle.gw_front.specs.Records.{longest_datagram, most_datagrams, IsRecordHeader, IsHeaderLine, AreOfBurst}

-- how many bytes a line of a header may have, its line feed not counted
abbrev pub longest_line : ℕ
longest_line = 32

-- bytes without a line feed among them
abbrev pub HasNoLineFeed : List ℕ → Type 0
HasNoLineFeed bytes = list_any (λ b. b == line_feed) bytes ≡ false

-- The header line of a datagram that is read, n of its burst before it: it is short enough, and the burst has room for
-- it.
pub record IsTaken (n peer len : ℕ) (header : List ℕ) : Type 0 where
  pub form : IsHeaderLine peer len header
  pub short : len ≤ longest_datagram
  pub room : n < most_datagrams

-- ---- bad headers

-- a line that is short enough, but neither the header of a datagram nor `.`
pub record IsOtherLine (text : List ℕ) : Type 0 where
  pub line : List ℕ
  pub after : List ℕ
  pub split : text ≡ line ++ line_feed ∷ after
  pub plain : HasNoLineFeed line
  pub short : length line ≤ longest_line
  pub no_end : line ≢ codes "."
  pub no_header : (peer len : ℕ) → ¬ IsRecordHeader peer len line

-- a line that is longer than a header may be
pub record IsLongLine (text : List ℕ) : Type 0 where
  pub front : List ℕ
  pub after : List ℕ
  pub split : text ≡ front ++ after
  pub plain : HasNoLineFeed front
  pub long : length front ≡ longest_line + 1

-- a datagram whose bytes are there, but no line feed behind them
pub record HasOtherByte (n : ℕ) (text : List ℕ) : Type 0 where
  pub peer : ℕ
  pub header : List ℕ
  pub bytes : List ℕ
  pub byte : ℕ
  pub after : List ℕ
  pub split : text ≡ header ++ bytes ++ byte ∷ after
  pub taken : IsTaken n peer (length bytes) header
  pub other : byte ≢ line_feed

-- ---- too much

-- the header of a datagram that is too long, or that its burst has no room for
pub record IsTooMuch (n : ℕ) (text : List ℕ) : Type 0 where
  pub peer : ℕ
  pub len : ℕ
  pub header : List ℕ
  pub after : List ℕ
  pub split : text ≡ header ++ after
  pub form : IsHeaderLine peer len header
  pub much : (longest_datagram < len) ⊎ (n ≡ most_datagrams)

-- ---- ends too early

-- bytes of a header, whatever they are, and nothing behind them
pub record IsCutLine (text : List ℕ) : Type 0 where
  pub plain : HasNoLineFeed text
  pub some : 0 < length text
  pub short : length text ≤ longest_line

-- a datagram without all of its bytes, or without the line feed behind them
pub record IsCutDatagram (n : ℕ) (text : List ℕ) : Type 0 where
  pub peer : ℕ
  pub len : ℕ
  pub header : List ℕ
  pub bytes : List ℕ
  pub split : text ≡ header ++ bytes
  pub taken : IsTaken n peer len header
  pub cut : length bytes ≤ len

-- ---- the first fault

-- what is wrong where a record is to begin, n datagrams of its burst before it
abbrev pub HasFault : ReplayFault → ℕ → List ℕ → Type 0
HasFault BadHeader n text = IsOtherLine text ⊎ IsLongLine text ⊎ HasOtherByte n text
HasFault TooLong n text = IsTooMuch n text
HasFault Truncated n text = IsCutLine text ⊎ IsCutDatagram n text
HasFault Read n text = ⊥
HasFault Write n text = ⊥
HasFault NoMemory n text = ⊥

-- what is wrong first where a burst is to begin: datagrams of the burst, and then the fault
abbrev pub IsFirstFault : ReplayFault → List ℕ → Type 0
IsFirstFault fault text = (before : List Datagram) × (AreOfBurst before ▹ HasFault fault (length before)) text
