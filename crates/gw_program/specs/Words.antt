-- What the words of the command line ask for (own).
use Rattle.std.specs.Prelude.{◌≡◌, ◌⊎◌, ⊤, ℕ, Bool, true, false, List, [], Contains, codes, Option, Some, None, unwrap_or, option_map}
use Rattle.std.specs.List.{AllZip}
use Rattle.std.specs.Str.Parse.{digits_value, without_leading_plus}
use Rattle.clap.specs.Faults.{fault_of}
use Rattle.clap.specs.Kinds.{HasKind, IsAmong, Kinds}
use Rattle.clap.specs.Simple.{subcommand_of}
use Rattle.clap.specs.Values.{IsUnsignedIn}
use Rattle.clap.specs.Walk.{Row, Text, all_of, first_of, one_of}
use Rattle.gw_program.specs.Commands.{program_app}
use Rattle.clap.specs.Values.{kind_of}
use Rattle.clap.specs.declared.error.kind.ErrorKind.{ErrorKind}
use Rattle.clap.specs.declared.error.kind.ErrorKind.TheVariants as clap_kind
use Rattle.gw_front.specs.Controllers.{IsControllerText}
use Rattle.gw_front.specs.declared.controllers.Controller.{Controller}
use Rattle.gw_program.specs.declared.job.Job.{Job}
use Rattle.gw_program.specs.declared.job.Job.TheVariants as job
use Rattle.gw_program.specs.declared.job.Serving.{Serving}
use Rattle.gw_program.specs.declared.mistake.Mistake.{Mistake}
use Rattle.gw_program.specs.declared.mistake.Mistake.TheVariants as mistake

-- the text of an argument that is required or has a default, and so is there
abbrev pub given : Text → List Row → Text
given id rows = unwrap_or (first_of id rows) []

-- a flag is set where its text is `true`
abbrev pub IsFlag : Option Text → Bool → Type 0
IsFlag None flag = flag ≡ false
IsFlag (Some text) flag = (text ≡ codes "true" → flag ≡ true) × (text ≡ codes "false" → flag ≡ false)

-- the number that a text is, where there is one
abbrev pub IsNumber : Option Text → Option ℕ → Type 0
IsNumber None number = number ≡ None
IsNumber (Some text) (Some number) = number ≡ digits_value 10 (without_leading_plus text)
IsNumber (Some text) None = IsUnsignedIn 0 18446744073709551615 text → ⊥

-- the number of workers that a text says; one where there is none
abbrev pub AreRequested : Option Text → ℕ → Type 0
AreRequested None workers = workers ≡ 1
AreRequested (Some text) workers = IsUnsignedIn 1 64 text → workers ≡ digits_value 10 (without_leading_plus text)

-- one of the commands
abbrev pub IsCommand : Text → Type 0
IsCommand name = (name ≡ codes "answer") ⊎ ((name ≡ codes "check") ⊎ ((name ≡ codes "replay") ⊎ (name ≡ codes "serve")))

-- the texts behind `--controller`, in order
abbrev pub controller_texts : List Row → List Text
controller_texts rows = unwrap_or (all_of (codes "CONTROLLER") rows) []

-- how `serve` with these arguments is to serve
pub record IsServing (rows : List Row) (serving : Serving) : Type 0 where
  pub file : serving.file.now ≡ given (codes "FILE") rows
  pub listen : serving.listen.now ≡ given (codes "ADDR") rows
  pub workers : AreRequested (one_of (codes "WORKERS") rows) serving.workers.count
  pub bursts : IsNumber (one_of (codes "N") rows) serving.bursts
  pub controllers : AllZip IsControllerText (controller_texts rows) serving.controllers.items
  pub report : IsNumber (one_of (codes "REPORT") rows) serving.report
  pub give_up : IsNumber (one_of (codes "GIVE_UP") rows) serving.give_up

-- what a command with these arguments requests
abbrev pub IsRequestedBy : Text → List Row → Job → Type 0
IsRequestedBy name rows job.BuiltIn = ⊥
IsRequestedBy name rows (job.Answer file) =
    (name ≡ codes "answer") × (option_map (λ f. f.now) file ≡ first_of (codes "CONFIG") rows)
IsRequestedBy name rows (job.Check file) = (name ≡ codes "check") × (file.now ≡ given (codes "FILE") rows)
IsRequestedBy name rows (job.Replay file audit workers) =
    (name ≡ codes "replay") × (file.now ≡ given (codes "FILE") rows) × IsFlag (one_of (codes "audit") rows) audit
    × AreRequested (one_of (codes "WORKERS") rows) workers.count
IsRequestedBy name rows (job.Serve serving) = (name ≡ codes "serve") × IsServing rows serving

-- the job of the command that was found, or the built-in replay where none was
abbrev pub IsJobOf : Option (Text × List Row) → Job → Type 0
IsJobOf None requested = requested ≡ job.BuiltIn
IsJobOf (Some found) requested = IsRequestedBy found.0 found.1 requested

-- the kinds of mistake in the words, or of help that they ask for: none where they ask for a job
abbrev pub mistakes : List Text → Kinds
mistakes words = fault_of program_app words

-- the words ask for this job
pub record IsRequested (words : List Text) (requested : Job) : Type 0 where
  pub sound : mistakes words ≡ []
  pub found : IsJobOf (subcommand_of program_app words) requested

-- ---- mistakes

-- one of the texts names no controller, or memory was refused
abbrev pub IsUnnamed : List Text → Mistake → Type 0
IsUnnamed texts (mistake.Words error) = ⊥
IsUnnamed texts (mistake.Controller text) = Contains texts text.now × ((c : Controller) → ¬ IsControllerText text.now c)
IsUnnamed texts mistake.NoMemory = ⊤

abbrev pub IsUnnamedIn : Option (Text × List Row) → Mistake → Type 0
IsUnnamedIn None made = ⊥
IsUnnamedIn (Some found) made = IsUnnamed (controller_texts found.1) made

-- why the words ask for no job
abbrev pub IsMistaken : List Text → Mistake → Type 0
IsMistaken words (mistake.Words error) = HasKind (mistakes words) error
IsMistaken words (mistake.Controller text) =
    (mistakes words ≡ []) × IsUnnamedIn (subcommand_of program_app words) (mistake.Controller text)
IsMistaken words mistake.NoMemory = ⊤

-- the kind of a mistake
abbrev pub mistake_kind : Mistake → ErrorKind
mistake_kind (mistake.Words error) = kind_of error
mistake_kind (mistake.Controller text) = clap_kind.ValueValidation
mistake_kind mistake.NoMemory = clap_kind.OutOfMemory

-- a controller of the words is no address
abbrev pub HasNoAddress : Option (Text × List Row) → Type 0
HasNoAddress None = ⊥
HasNoAddress (Some found) =
    (text : Text) × Contains (controller_texts found.1) text × ((c : Controller) → ¬ IsControllerText text c)

-- The words have a mistake of that kind, or ask for help or the version; or memory was refused.
abbrev pub IsKindOf : List Text → ErrorKind → Type 0
IsKindOf words kind =
    (kind ≡ clap_kind.OutOfMemory)
    ⊎ (IsAmong kind (mistakes words)
    ⊎ ((kind ≡ clap_kind.ValueValidation) × HasNoAddress (subcommand_of program_app words)))
