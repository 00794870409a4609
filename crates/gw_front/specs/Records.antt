-- Bursts of datagrams as text: records, bursts, and lists of bursts (own).
use Rattle.std.specs.Prelude.{◌≡◌, ℕ, ◌<◌, ◌≤◌, ◌⊎◌, List, [], ◌∷◌, ◌++◌, length, codes}
use Rattle.gw_base.specs.Lang.{◌▹◌, IsText}
use Rattle.gw_text.specs.Forms.{IsUint32}
use Rattle.gw_engine.specs.declared.datagram.Datagram.{Datagram}

-- how many bytes a datagram may have: what fits a UDP datagram over IPv4
abbrev pub longest_datagram : ℕ
longest_datagram = 65507

-- how many datagrams a burst may have
abbrev pub most_datagrams : ℕ
most_datagrams = 256

-- the length of a datagram: a number of 1 to 5 digits
pub record IsLength (len : ℕ) (text : List ℕ) : Type 0 where
  pub number : IsUint32 len text
  pub few : length text ≤ 5

-- D <peer> <length>
abbrev pub IsRecordHeader : ℕ → ℕ → List ℕ → Type 0
IsRecordHeader peer len = IsText (codes "D ") ▹ IsUint32 peer ▹ IsText (codes " ") ▹ IsLength len

-- a header and its line feed
abbrev pub IsHeaderLine : ℕ → ℕ → List ℕ → Type 0
IsHeaderLine peer len = IsRecordHeader peer len ▹ IsText (codes "\n")

-- a datagram: its header line, its bytes, a line feed
pub record IsRecord (d : Datagram) (text : List ℕ) : Type 0 where
  pub short : length d.bytes ≤ longest_datagram
  pub form : (IsHeaderLine d.peer (length d.bytes) ▹ IsText d.bytes ▹ IsText (codes "\n")) text

-- datagrams, one behind the other
abbrev pub AreRecords : List Datagram → List ℕ → Type 0
AreRecords [] text = text ≡ []
AreRecords (d ∷ ds) text = (IsRecord d ▹ AreRecords ds) text

-- the datagrams of a burst, which has at most 256
pub record AreOfBurst (ds : List Datagram) (text : List ℕ) : Type 0 where
  pub few : length ds ≤ most_datagrams
  pub records : AreRecords ds text

-- a burst: its datagrams, and the line `.`
abbrev pub IsBurst : List Datagram → List ℕ → Type 0
IsBurst ds = AreOfBurst ds ▹ IsText (codes ".\n")

-- a burst whose line `.` is missing, which has a datagram
pub record IsLastBurst (ds : List Datagram) (text : List ℕ) : Type 0 where
  pub some : 0 < length ds
  pub datagrams : AreOfBurst ds text

-- whole bursts, one behind the other
abbrev pub AreWholeBursts : List (List Datagram) → List ℕ → Type 0
AreWholeBursts [] text = text ≡ []
AreWholeBursts (b ∷ bs) text = (IsBurst b ▹ AreWholeBursts bs) text

-- whole bursts, and behind them a last one whose line `.` is missing
pub record EndsWithLast (bursts : List (List Datagram)) (text : List ℕ) : Type 0 where
  pub whole : List (List Datagram)
  pub last : List Datagram
  pub all : bursts ≡ whole ++ last ∷ []
  pub form : (AreWholeBursts whole ▹ IsLastBurst last) text

-- the bursts of a whole input: the line `.` of the last one may be missing where that has a datagram
abbrev pub AreBursts : List (List Datagram) → List ℕ → Type 0
AreBursts bursts text = AreWholeBursts bursts text ⊎ EndsWithLast bursts text
