-- What the program's jobs do (own). What a file holds is what the type of an opened file says of it, where that is
-- known.
use Rattle.std.specs.Prelude.{◌≡◌, ⊤, ◌⊎◌, ℕ, Bool, List, [], ◌++◌, length, codes, decimal, false, true, if◌then◌else◌, Option, None, Some, Result, Ok, Err, IfSome, IfErr}
use Rattle.std.specs.Option.{option_map}
use Rattle.std.specs.Io.KnownBytes.{Appends, Keeps}
use Rattle.std.specs.Net.Grammar.{IsSocketText}
use Rattle.std.specs.declared.net.socket_addr.SocketAddr.{SocketAddr}
use Rattle.gw_base.specs.declared.config.Config.{Config}
use Rattle.gw_config.specs.ConfigTexts.{IsConfigReading}
use Rattle.gw_config.specs.declared.fault.ConfigTextFault.TheVariants.{Line}
use Rattle.gw_engine.specs.AuditText.{audit_text}
use Rattle.gw_engine.specs.Configuration.{IsAccepted, IsFault, new_gateway}
use Rattle.gw_engine.specs.State.{GatewayValue}
use Rattle.gw_engine.specs.declared.fault.ConfigFault.{ConfigFault}
use Rattle.gw_engine.specs.declared.fault.ConfigFault.TheVariants as refused
use Rattle.gw_engine.specs.declared.fault.LimitName.{LimitName}
use Rattle.gw_front.specs.Answering.{IsAnswer}
use Rattle.gw_front.specs.Replays.{IsReplay}
use Rattle.gw_front.specs.Serving.{ServesSome, IsAtStart}
use Rattle.gw_front.specs.declared.counts.Counts.{Counts}
use Rattle.gw_front.specs.declared.replay_fault.ReplayFault.{ReplayFault}
use Rattle.gw_front.specs.declared.serve_fault.ServeFault.{ServeFault}
use Rattle.gw_front.specs.declared.serve_fault.ServeFault.TheVariants.{Bind}
use Rattle.gw_front.specs.declared.serve_options.ServeOptions.{ServeOptions}
use Rattle.gw_front.specs.declared.totals.Totals.{Totals}
use Rattle.gw_program.specs.Faults.{of_replay, of_serve}
use Rattle.gw_program.specs.Outcomes.{IsPrinted, IsExplained}
use Rattle.gw_program.specs.Standings.{Standing}
use Rattle.gw_program.specs.Start.{start}
use Rattle.gw_program.specs.Words.{IsRequested}
use Rattle.gw_program.specs.declared.job.Job.{Job}
use Rattle.gw_program.specs.declared.job.Job.TheVariants as job
use Rattle.gw_program.specs.declared.job.Serving.{Serving}
use Rattle.gw_program.specs.declared.ended.Ended.{Ended}
use Rattle.gw_program.specs.declared.fault.Fault.{Fault}
use Rattle.gw_program.specs.declared.fault.Fault.TheVariants as why

-- ---- files

-- the text is that of a file that was opened
pub record IsTextOf {F : Type 0} (held : F → Option (List ℕ)) (text : List ℕ) : Type 0 where
  pub file : F
  pub known : IfSome (held file) (λ bytes. text ≡ bytes)

-- the file of that name could not be read, or memory was refused
abbrev pub IsUnread : List ℕ → Fault → Type 0
IsUnread name (why.CannotRead file) = file.now ≡ name
IsUnread name why.NoMemory = ⊤
IsUnread name _ = ⊥

-- what reading a configuration from the file of that name answers
abbrev pub IsConfigIn : {F : Type 0} → (F → Option (List ℕ)) → List ℕ → Result Config Fault → Type 0
IsConfigIn held name (Ok config) = (text : List ℕ) × IsTextOf held text × IsConfigReading text (Ok config)
IsConfigIn held name (Err (why.CannotRead file)) = file.now ≡ name
IsConfigIn held name (Err (why.ConfigLine number)) =
    (text : List ℕ) × IsTextOf held text × IsConfigReading text (Err (Line number))
IsConfigIn held name (Err why.NoMemory) = ⊤
IsConfigIn held name (Err _) = ⊥

-- the configuration of the file makes no gateway, since it has this fault
pub record IsRefused {F : Type 0} (held : F → Option (List ℕ)) (name : List ℕ) (cause : ConfigFault) : Type 0 where
  pub config : Config
  pub read : IsConfigIn held name (Ok config)
  pub refused : IsFault config cause

-- the configuration of the file makes a gateway
pub record IsTaken {F : Type 0} (held : F → Option (List ℕ)) (name : List ℕ) (config : Config) : Type 0 where
  pub read : IsConfigIn held name (Ok config)
  pub accepted : IsAccepted config

-- what making the gateway of the file answers
abbrev pub IsGatewayIn : {F : Type 0} → (F → Option (List ℕ)) → List ℕ → Result GatewayValue Fault → Type 0
IsGatewayIn held name (Ok gateway) = (config : Config) × IsTaken held name config × (gateway ≡ new_gateway config)
IsGatewayIn held name (Err (why.CannotRead file)) = file.now ≡ name
IsGatewayIn held name (Err (why.ConfigLine number)) = IsConfigIn held name (Err (why.ConfigLine number))
IsGatewayIn held name (Err why.ConfigLimit) = (limit : LimitName) × IsRefused held name (refused.LimitOutOfRange limit)
IsGatewayIn held name (Err why.ConfigReservedName) = IsRefused held name refused.ReservedName
IsGatewayIn held name (Err why.ConfigDuplicateName) = IsRefused held name refused.DuplicateName
IsGatewayIn held name (Err why.NoMemory) = ⊤
IsGatewayIn held name (Err _) = ⊥

-- the gateway before the first datagram: the built-in one where no file is named, else that of the file
abbrev pub IsStart : {F : Type 0} → (F → Option (List ℕ)) → Option (List ℕ) → Result GatewayValue Fault → Type 0
IsStart held None (Ok gateway) = gateway ≡ start
IsStart held None (Err fault) = fault ≡ why.NoMemory
IsStart held (Some name) made = IsGatewayIn held name made

-- ---- jobs

-- the line of `check`
abbrev pub check_text : Config → List ℕ
check_text c =
    codes "ok terms=" ++ decimal (length c.terms) ++ codes " contexts=" ++ decimal c.contexts
    ++ codes " slots=" ++ decimal c.slots ++ codes " members=" ++ decimal c.members
    ++ codes " keep=" ++ decimal c.keep ++ codes "\n"

-- `check`: the numbers of the file's configuration, which makes a gateway; or why it makes none, and nothing is out
abbrev pub IsCheck : {F : Type 0} → (F → Option (List ℕ)) → List ℕ → (out out′ : Option (List ℕ)) → Result Unit Fault
    → Type 0
IsCheck held name out out′ (Ok done) =
    (config : Config) × IsTaken held name config × Appends out out′ (check_text config)
IsCheck held name out out′ (Err why.ReplayWrite) = (config : Config) × IsTaken held name config
IsCheck held name out out′ (Err fault) = IsGatewayIn held name (Err fault) × Keeps out out′

-- a whole replay, and behind its answers what is written of the tables
pub record IsToEnd (printed : GatewayValue → List ℕ) (old : GatewayValue) (input out out′ : Option (List ℕ)) : Type 0 where
  pub counts : Counts
  pub new : GatewayValue
  pub between : Option (List ℕ)
  pub replayed : IsReplay input out between old new (Ok counts)
  pub audited : Appends between out′ (printed new)

-- a replay with a fault
pub record IsStoppedBy (printed : Fault) (old : GatewayValue) (input out out′ : Option (List ℕ)) : Type 0 where
  pub replay_fault : ReplayFault
  pub new : GatewayValue
  pub replayed : IsReplay input out out′ old new (Err replay_fault)
  pub becomes : printed ≡ of_replay replay_fault

-- why tables could not be written: memory was refused, and nothing of them is out, or they could not be written
abbrev pub IsUnprintedFor : Fault → (between out′ : Option (List ℕ)) → Type 0
IsUnprintedFor printed between out′ = ((printed ≡ why.NoMemory) × Keeps between out′) ⊎ (printed ≡ why.ReplayWrite)

-- a whole replay behind whose answers the tables, which were requested, could not be written
pub record IsUnprinted (audit : Bool) (printed : Fault) (old : GatewayValue) (input out out′ : Option (List ℕ)) : Type 0 where
  pub requested : audit ≡ true
  pub counts : Counts
  pub new : GatewayValue
  pub between : Option (List ℕ)
  pub replayed : IsReplay input out between old new (Ok counts)
  pub cause : IsUnprintedFor printed between out′

-- the tables, where they are requested
abbrev pub printed_tables : Bool → GatewayValue → List ℕ
printed_tables audit gateway = if audit then audit_text gateway else []

-- `replay`, from this gateway on
abbrev pub IsReplayJob : Bool → GatewayValue → (input out out′ : Option (List ℕ)) → Result Unit Fault → Type 0
IsReplayJob audit old input out out′ (Ok done) = IsToEnd (printed_tables audit) old input out out′
IsReplayJob audit old input out out′ (Err fault) =
    IsStoppedBy fault old input out out′ ⊎ IsUnprinted audit fault old input out out′

-- what becomes of a run below
abbrev pub ended_by : {A E : Type 0} → (E → Fault) → Result A E → Result Unit Fault
ended_by becomes (Ok done) = Ok tt
ended_by becomes (Err fault) = Err (becomes fault)

-- one datagram, answered by this gateway
pub record IsAnswerJob (old : GatewayValue) (input out out′ : Option (List ℕ))
    (ended : Result Unit Fault) : Type 0 where
  pub answered : Result Unit ReplayFault
  pub new : GatewayValue
  pub done : IsAnswer input out out′ old new answered
  pub becomes : ended ≡ ended_by of_replay answered

-- Only an address is served: the text is one, unless nothing was bound.
abbrev pub IsServedAt : List ℕ → Result Totals ServeFault → Type 0
IsServedAt listen (Err Bind) = ⊤
IsServedAt listen _ = (address : SocketAddr) × IsSocketText listen address

-- what serving gets from the words
pub record AreOptions (serving : Serving) (options : ServeOptions) : Type 0 where
  pub workers : options.workers ≡ serving.workers.count
  pub bursts : options.bursts ≡ serving.bursts
  pub controllers : options.controllers.now ≡ serving.controllers.items
  pub report : options.report ≡ serving.report
  pub give_up : options.give_up ≡ serving.give_up

-- controllers, served by this gateway; nothing is out where the address could not be bound, nor where memory was
-- refused at the start
pub record IsServeJob (serving : Serving) (old : GatewayValue) (out out′ : Option (List ℕ))
    (ended : Result Unit Fault) : Type 0 where
  pub options : ServeOptions
  pub are_options : AreOptions serving options
  pub served : Result Totals ServeFault
  pub new : GatewayValue
  pub address : IsServedAt serving.listen.now served
  pub serves : ServesSome options old new served
  pub begins : IfErr served (λ fault. IsAtStart fault → Keeps out out′)
  pub becomes : ended ≡ ended_by of_serve served

-- the file whose gateway a job is for; none for the built-in one
abbrev pub file_of : Job → Option (List ℕ)
file_of job.BuiltIn = None
file_of (job.Answer file) = option_map (λ f. f.now) file
file_of (job.Check file) = Some file.now
file_of (job.Replay file audit workers) = Some file.now
file_of (job.Serve serving) = Some serving.file.now

-- what a job does with its gateway
abbrev pub IsDoneWith : Job → GatewayValue → (input out out′ : Option (List ℕ)) → Result Unit Fault → Type 0
IsDoneWith job.BuiltIn gateway input out out′ ended = IsReplayJob false gateway input out out′ ended
IsDoneWith (job.Answer file) gateway input out out′ ended = IsAnswerJob gateway input out out′ ended
IsDoneWith (job.Check file) gateway input out out′ ended = ⊤
IsDoneWith (job.Replay file audit workers) gateway input out out′ ended = IsReplayJob audit gateway input out out′ ended
IsDoneWith (job.Serve serving) gateway input out out′ ended = IsServeJob serving gateway out out′ ended

-- the fault of a job whose gateway could not be made, and nothing is out
abbrev pub IsNotBegun : Fault → (out out′ : Option (List ℕ)) → Result Unit Fault → Type 0
IsNotBegun fault out out′ ended = (ended ≡ Err fault) × Keeps out out′

-- The gateway was made, and the job done with it, up to a fault that it has; or it was not made.
abbrev pub IsBegun : Job → (input out out′ : Option (List ℕ)) → Result Unit Fault → Result GatewayValue Fault → Type 0
IsBegun job input out out′ ended (Ok gateway) = IsDoneWith job gateway input out out′ ended
IsBegun job input out out′ ended (Err fault) = IsNotBegun fault out out′ ended

-- what a job does, where opened files hold what is said of them
abbrev pub IsJob : {F : Type 0} → (F → Option (List ℕ)) → Job → (input out out′ : Option (List ℕ)) → Result Unit Fault
    → Type 0
IsJob held (job.Check file) input out out′ ended = IsCheck held file.now out out′ ended
IsJob held requested input out out′ ended =
    (made : Result GatewayValue Fault) × IsStart held (file_of requested) made × IsBegun requested input out out′ ended made

-- the job that the words request was done, up to a fault that it has, and its end was printed
pub record IsJobEnd {F : Type 0} (held : F → Option (List ℕ)) (words : List (List ℕ)) (input out out′ : Option (List ℕ))
    (err err′ : Standing) (ended : Ended) : Type 0 where
  pub requested : Job
  pub is_requested : IsRequested words requested
  pub done : Result Unit Fault
  pub is_job : IsJob held requested input out out′ done
  pub printed : IsPrinted done err err′ ended

-- how the program ends on these words: the job that they ask for was done, or they ask for none
abbrev pub IsEnd : {F : Type 0} → (F → Option (List ℕ)) → List (List ℕ) → (input out out′ : Option (List ℕ))
    → (err err′ : Standing) → Ended → Type 0
IsEnd held words input out out′ err err′ ended =
    IsJobEnd held words input out out′ err err′ ended ⊎ IsExplained words ended out out′ err err′
