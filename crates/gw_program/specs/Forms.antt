-- Forms of the command line that docs/OPERATIONS.md shows, and what each requests (own): `serve` with two at most of an
-- address, a number of workers and one of bursts.
use Rattle.std.specs.Prelude.{◌≢◌, ⊤, ℕ, Bool, true, false, List, [], ◌∷◌, codes, Option, Some, None, option_map}
use Rattle.std.specs.Str.Parse.{digits_value, without_leading_plus}
use Rattle.clap.specs.Values.{IsUnsignedIn}
use Rattle.clap.specs.Walk.{Text}
use Rattle.gw_front.specs.declared.controllers.Controller.{Controller}
use Rattle.gw_program.specs.declared.job.Job.{Job}
use Rattle.gw_program.specs.declared.job.Job.TheVariants as job

-- how words ask to serve, apart from the file and the address
pub record Terms : Type 0 where
  pub workers : ℕ
  pub bursts : Option ℕ
  pub controllers : List Controller
  pub report : Option ℕ
  pub give_up : Option ℕ

-- one worker, and nothing else
abbrev pub plain : Terms
plain = record { workers = 1; bursts = None; controllers = []; report = None; give_up = None }

-- what words ask for: a job, apart from where its texts lie
pub data Request : Type 0 where
  built_in : Request
  answer : Option Text → Request
  check : Text → Request
  replay : Text → Bool → ℕ → Request
  serve : Text → Text → Terms → Request

abbrev pub request_of : Job → Request
request_of job.BuiltIn = built_in
request_of (job.Answer file) = answer (option_map (λ f. f.now) file)
request_of (job.Check file) = check file.now
request_of (job.Replay file audit workers) = replay file.now audit workers.count
request_of (job.Serve s) =
    serve s.file.now s.listen.now (record {
      workers = s.workers.count;
      bursts = s.bursts;
      controllers = s.controllers.items;
      report = s.report;
      give_up = s.give_up;
    })

-- the word does not begin with a hyphen
abbrev pub IsPlain : Text → Type 0
IsPlain [] = ⊤
IsPlain (first ∷ rest) = first ≢ 45

-- the word is a number of 64 bits
abbrev pub IsCount : Text → Type 0
IsCount word = IsUnsignedIn 0 18446744073709551615 word

-- the word is a number of workers
abbrev pub IsWorkerCount : Text → Type 0
IsWorkerCount word = IsUnsignedIn 1 64 word

abbrev pub number_of : Text → ℕ
number_of word = digits_value 10 (without_leading_plus word)

-- any address of the host, at the port for text
abbrev pub everywhere : Text
everywhere = codes "0.0.0.0:2944"

-- the words have this form, and ask for this
pub data Requests : List Text → Request → Type 0 where
  nothing : Requests [] built_in
  answers : Requests (codes "answer" ∷ []) (answer None)
  answers_by : (file : Text) → IsPlain file → Requests (codes "answer" ∷ (codes "--config" ∷ (file ∷ [])))
      (answer (Some file))
  checks : (file : Text) → IsPlain file → Requests (codes "check" ∷ (file ∷ [])) (check file)
  replays : (file : Text) → IsPlain file → Requests (codes "replay" ∷ (file ∷ [])) (replay file false 1)
  replays_and_prints : (file : Text) → IsPlain file
      → Requests (codes "replay" ∷ (file ∷ (codes "--audit" ∷ []))) (replay file true 1)
  replays_by : (file workers : Text) → IsPlain file → IsPlain workers → IsWorkerCount workers
      → Requests (codes "replay" ∷ (file ∷ (codes "--workers" ∷ (workers ∷ []))))
      (replay file false (number_of workers))
  replays_and_prints_by : (file workers : Text) → IsPlain file → IsPlain workers → IsWorkerCount workers
      → Requests (codes "replay" ∷ (file ∷ (codes "--audit" ∷ (codes "--workers" ∷ (workers ∷ [])))))
      (replay file true (number_of workers))
  serves : (file : Text) → IsPlain file → Requests (codes "serve" ∷ (file ∷ [])) (serve file everywhere plain)
  serves_at : (file listen : Text) → IsPlain file → IsPlain listen
      → Requests (codes "serve" ∷ (file ∷ (codes "--listen" ∷ (listen ∷ [])))) (serve file listen plain)
  serves_by : (file workers : Text) → IsPlain file → IsPlain workers → IsWorkerCount workers
      → Requests (codes "serve" ∷ (file ∷ (codes "--workers" ∷ (workers ∷ []))))
      (serve file everywhere (record plain { workers = number_of workers }))
  serves_at_by : (file listen workers : Text) → IsPlain file → IsPlain listen → IsPlain workers → IsWorkerCount workers
      → Requests (codes "serve" ∷ (file ∷ (codes "--listen" ∷ (listen ∷ (codes "--workers" ∷ (workers ∷ []))))))
      (serve file listen (record plain { workers = number_of workers }))
  serves_so_long : (file bursts : Text) → IsPlain file → IsPlain bursts → IsCount bursts
      → Requests (codes "serve" ∷ (file ∷ (codes "--bursts" ∷ (bursts ∷ []))))
      (serve file everywhere (record plain { bursts = Some (number_of bursts) }))
  serves_by_so_long : (file workers bursts : Text) → IsPlain file → IsPlain workers → IsWorkerCount workers → IsPlain bursts
      → IsCount bursts
      → Requests (codes "serve" ∷ (file ∷ (codes "--workers" ∷ (workers ∷ (codes "--bursts" ∷ (bursts ∷ []))))))
      (serve file everywhere (record plain { workers = number_of workers; bursts = Some (number_of bursts) }))
  serves_at_so_long : (file listen bursts : Text) → IsPlain file → IsPlain listen → IsPlain bursts → IsCount bursts
      → Requests (codes "serve" ∷ (file ∷ (codes "--listen" ∷ (listen ∷ (codes "--bursts" ∷ (bursts ∷ []))))))
      (serve file listen (record plain { bursts = Some (number_of bursts) }))
