-- What reading a part of a record answers (own).
use Rattle.std.specs.Prelude.{◌≡◌, ◌≢◌, ◌∷◌, [], ◌++◌, ℕ, ◌<◌, ◌≤◌, ◌⊎◌, List, length, codes, Option, None, Some, Result, Ok, Err, IfSome}
use Rattle.std.specs.Io.KnownBytes.{Consumes, IsAtEnd}
use Rattle.gw_front.specs.declared.replay_fault.ReplayFault.{ReplayFault}
use Rattle.gw_front.specs.declared.replay_fault.ReplayFault.TheVariants.{BadHeader, Truncated, TooLong, Read, Write, NoMemory}
use Rattle.gw_front.specs.declared.burst_reading.Piece.{Piece}
use Rattle.gw_front.specs.declared.burst_reading.Piece.TheVariants as piece
use Rattle.gw_front.specs.declared.burst_reading.Next.{Next}
use Rattle.gw_front.specs.declared.burst_reading.Next.TheVariants as next
use Rattle.gw_front.specs.declared.header.Header.{Header}
use Rattle.gw_front.specs.Headers.{SaysLine}
use Rattle.gw_front.specs.Records.{IsRecord, IsBurst, IsLastBurst, longest_datagram, most_datagrams}
use Rattle.gw_text.specs.Lexical.{line_feed}
use Rattle.gw_front.specs.RecordFaults.{IsOtherLine, IsLongLine, IsCutLine, HasFault, IsFirstFault}

-- the input has fewer bytes than are read, if the answer is that it is cut
abbrev pub IsShorter : ℕ → Option (List ℕ) → ReplayFault → Type 0
IsShorter count input Truncated = IfSome input (λ rest. length rest < count)
IsShorter count input Read = Unit {0}
IsShorter count input NoMemory = Unit {0}
IsShorter count input BadHeader = ⊥
IsShorter count input TooLong = ⊥
IsShorter count input Write = ⊥

-- the input begins with no line that is short enough
abbrev pub IsBadLine : Option (List ℕ) → ReplayFault → Type 0
IsBadLine input BadHeader = IfSome input IsLongLine
IsBadLine input Truncated = IfSome input IsCutLine
IsBadLine input Read = Unit {0}
IsBadLine input NoMemory = ⊥
IsBadLine input TooLong = ⊥
IsBadLine input Write = ⊥

-- the input begins with no line of a header
abbrev pub IsBadHeader : Option (List ℕ) → ReplayFault → Type 0
IsBadHeader input BadHeader = IfSome input (λ text. IsOtherLine text ⊎ IsLongLine text)
IsBadHeader input Truncated = IfSome input IsCutLine
IsBadHeader input Read = Unit {0}
IsBadHeader input NoMemory = ⊥
IsBadHeader input TooLong = ⊥
IsBadHeader input Write = ⊥

-- so many bytes, and another byte than a line feed
pub record IsUnended (count : ℕ) (text : List ℕ) : Type 0 where
  pub bytes : List ℕ
  pub byte : ℕ
  pub after : List ℕ
  pub split : text ≡ bytes ++ byte ∷ after
  pub all : length bytes ≡ count
  pub other : byte ≢ line_feed

-- the input begins with no datagram of so many bytes and a line feed
abbrev pub IsBadDatagram : ℕ → Option (List ℕ) → ReplayFault → Type 0
IsBadDatagram count input BadHeader = IfSome input (IsUnended count)
IsBadDatagram count input Truncated = IfSome input (λ rest. length rest ≤ count)
IsBadDatagram count input Read = Unit {0}
IsBadDatagram count input NoMemory = Unit {0}
IsBadDatagram count input TooLong = ⊥
IsBadDatagram count input Write = ⊥

-- the fault, where it is one of the text, is what is at
abbrev pub IsFaultAt : (ReplayFault → List ℕ → Type 0) → Option (List ℕ) → ReplayFault → Type 0
IsFaultAt At input BadHeader = IfSome input (At BadHeader)
IsFaultAt At input Truncated = IfSome input (At Truncated)
IsFaultAt At input TooLong = IfSome input (At TooLong)
IsFaultAt At input Read = Unit {0}
IsFaultAt At input NoMemory = Unit {0}
IsFaultAt At input Write = ⊥

-- the text was taken from the input
abbrev pub TakesFrom : (List ℕ → Type 0) → Option (List ℕ) → Option (List ℕ) → Type 0
TakesFrom Form old new = (text : List ℕ) × Form text × Consumes old new text

-- nothing was taken, and nothing is left
abbrev pub Ends : Option (List ℕ) → Option (List ℕ) → Type 0
Ends old new = Consumes old new [] × IsAtEnd new

-- the line of a header was taken
abbrev pub IsHeaderRead : Option (List ℕ) → Option (List ℕ) → Result (Option Header) ReplayFault → Type 0
IsHeaderRead old new (Ok (Some header)) = TakesFrom (SaysLine header) old new
IsHeaderRead old new (Ok None) = Ends old new
IsHeaderRead old new (Err fault) = IsBadHeader old fault

-- a record was taken, n datagrams of its burst before it
abbrev pub IsPiece : ℕ → Option (List ℕ) → Option (List ℕ) → Result Piece ReplayFault → Type 0
IsPiece n old new (Ok (piece.Datagram d)) = (n < most_datagrams) × TakesFrom (IsRecord d) old new
IsPiece n old new (Ok piece.Stop) = Consumes old new (codes ".\n")
IsPiece n old new (Ok piece.End) = Ends old new
IsPiece n old new (Err fault) = IsFaultAt (λ f. HasFault f n) old fault

-- a burst was taken
abbrev pub IsNext : Option (List ℕ) → Option (List ℕ) → Result Next ReplayFault → Type 0
IsNext old new (Ok (next.Burst burst)) = TakesFrom (IsBurst burst) old new
IsNext old new (Ok (next.Last burst)) = TakesFrom (IsLastBurst burst) old new × IsAtEnd new
IsNext old new (Ok next.End) = Ends old new
IsNext old new (Err fault) = IsFaultAt IsFirstFault old fault

-- all of the input was read, as one datagram that is not too long
abbrev pub IsWholeInput : Option (List ℕ) → Result (List ℕ) ReplayFault → Type 0
IsWholeInput input (Ok bytes) = IfSome input (λ text. bytes ≡ text) × (length bytes ≤ longest_datagram)
IsWholeInput input (Err TooLong) = IfSome input (λ text. longest_datagram < length text)
IsWholeInput input (Err Read) = Unit {0}
IsWholeInput input (Err NoMemory) = Unit {0}
IsWholeInput input (Err BadHeader) = ⊥
IsWholeInput input (Err Truncated) = ⊥
IsWholeInput input (Err Write) = ⊥
