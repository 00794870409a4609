-- What a line of a header says (own).
use Rattle.std.specs.Prelude.{◌≡◌, ℕ, List, codes}
use Rattle.gw_front.specs.declared.header.Header.{Header}
use Rattle.gw_front.specs.declared.header.Header.TheVariants.{Stop, Datagram}
use Rattle.gw_base.specs.Lang.{◌▹◌, IsText}
use Rattle.gw_front.specs.Records.{IsRecordHeader}

abbrev pub SaysHeader : Header → List ℕ → Type 0
SaysHeader Stop line = line ≡ codes "."
SaysHeader (Datagram peer size) line = IsRecordHeader peer size line

-- the same, and its line feed
abbrev pub SaysLine : Header → List ℕ → Type 0
SaysLine header = SaysHeader header ▹ IsText (codes "\n")
