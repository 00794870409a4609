-- How the program ends: its exit status, and what it prints (own).
use Rattle.std.specs.Prelude.{◌≡◌, ◌≢◌, ◌<◌, ◌⊎◌, ℕ, Bool, List, ◌++◌, length, codes, Option, Result, Ok, Err}
use Rattle.std.specs.Io.KnownBytes.{Keeps}
use Rattle.gw_program.specs.declared.ended.Ended.{Ended}
use Rattle.gw_program.specs.declared.ended.Ended.TheVariants.{Done, Misused, Failed}
use Rattle.gw_program.specs.declared.fault.Fault.{Fault}
use Rattle.gw_program.specs.declared.fault.Fault.TheVariants as why
use Rattle.clap.specs.Walk.{Text}
use Rattle.clap.specs.declared.error.kind.ErrorKind.{ErrorKind}
use Rattle.clap.specs.declared.error.kind.ErrorKind.TheVariants as clap_kind
use Rattle.std.specs.declared.io.ErrorKind.{ErrorKind as ReadFault}
use Rattle.std.specs.declared.io.ErrorKind.TheVariants.{OutOfMemory}
use Rattle.gw_program.specs.Faults.{line_of}
use Rattle.gw_program.specs.Words.{IsKindOf}
use Rattle.gw_program.specs.Standings.{Standing, IsSilent, Prints}

-- the exit status
abbrev pub status_of : Ended → ℕ
status_of Done = 0
status_of (Failed fault printed) = 1
status_of (Misused printed) = 2

-- The fault's line was handed to standard error, once and whole, and nothing else.
abbrev pub IsFailure : Fault → (err err′ : Standing) → Ended → Type 0
IsFailure fault err err′ ended =
    (printed : Bool) × (ended ≡ Failed fault printed) × Prints (line_of fault ++ codes "\n") printed err err′

-- How a job ended, and what is printed on standard error: nothing where the job was done, else the fault's line.
abbrev pub IsPrinted : Result Unit Fault → (err err′ : Standing) → Ended → Type 0
IsPrinted (Ok done) err err′ ended = (ended ≡ Done) × IsSilent err err′
IsPrinted (Err fault) err err′ ended = IsFailure fault err err′ ended

-- something, of which no more is said, was handed over, once and whole
abbrev pub Says : Bool → (err err′ : Standing) → Type 0
Says printed err err′ = (said : List ℕ) × (0 < length said) × Prints said printed err err′

-- the words ask for help or the version
abbrev pub IsHelp : ErrorKind → Type 0
IsHelp kind = (kind ≡ clap_kind.DisplayHelp) ⊎ (kind ≡ clap_kind.DisplayVersion)

-- the words have a mistake
abbrev pub IsMistake : ErrorKind → Type 0
IsMistake kind = (kind ≢ clap_kind.OutOfMemory) × (kind ≢ clap_kind.DisplayHelp) × (kind ≢ clap_kind.DisplayVersion)

-- What is said of words with a mistake of that kind: help and the version, which standard error says nothing of, a
-- mistake, or out of memory.
abbrev pub IsExplainedBy : ErrorKind → Ended → (out out′ : Option (List ℕ)) → (err err′ : Standing) → Type 0
IsExplainedBy kind Done out out′ err err′ = IsHelp kind × IsSilent err err′
IsExplainedBy kind (Failed fault printed) out out′ err err′ =
    (fault ≡ why.NoMemory) × Keeps out out′ × Prints (line_of fault ++ codes "\n") printed err err′
IsExplainedBy kind (Misused printed) out out′ err err′ = IsMistake kind × Keeps out out′ × Says printed err err′

-- The words ask for no job, since they have such a mistake, or memory was refused.
pub record IsExplained (words : List Text) (ended : Ended) (out out′ : Option (List ℕ))
    (err err′ : Standing) : Type 0 where
  pub kind : ErrorKind
  pub is_one : IsKindOf words kind
  pub explained : IsExplainedBy kind ended out out′ err err′

-- The words could not be read: memory was refused to them, or one of them is no text, which is printed on standard
-- error.
abbrev pub IsUnreadable : ReadFault → (err err′ : Standing) → Ended → Type 0
IsUnreadable OutOfMemory err err′ ended = IsFailure why.NoMemory err err′ ended
IsUnreadable _ err err′ ended =
    (printed : Bool) × (ended ≡ Misused printed)
    × Prints (codes "error: a word of the command line is not UTF-8\n") printed err err′
