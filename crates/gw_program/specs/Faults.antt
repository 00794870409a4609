-- Which fault of the program a fault of the crates below becomes, and the line of each (own).
use Rattle.std.specs.Prelude.{ℕ, List, ◌++◌, codes, decimal}
use Rattle.gw_engine.specs.declared.fault.ConfigFault.{ConfigFault}
use Rattle.gw_engine.specs.declared.fault.ConfigFault.TheVariants as config
use Rattle.gw_config.specs.declared.fault.ConfigTextFault.{ConfigTextFault}
use Rattle.gw_config.specs.declared.fault.ConfigTextFault.TheVariants as text
use Rattle.gw_front.specs.declared.replay_fault.ReplayFault.{ReplayFault}
use Rattle.gw_front.specs.declared.replay_fault.ReplayFault.TheVariants as replay
use Rattle.gw_front.specs.declared.serve_fault.ServeFault.{ServeFault}
use Rattle.gw_front.specs.declared.serve_fault.ServeFault.TheVariants as serve
use Rattle.gw_program.specs.declared.fault.Fault.{Fault}
use Rattle.gw_program.specs.declared.fault.Fault.TheVariants as fault

-- the fault of a configuration's text
abbrev pub of_text : ConfigTextFault → Fault
of_text (text.Line number) = fault.ConfigLine number
of_text text.NoMemory = fault.NoMemory

-- the fault of a configuration
abbrev pub of_config : ConfigFault → Fault
of_config (config.LimitOutOfRange limit) = fault.ConfigLimit
of_config config.ReservedName = fault.ConfigReservedName
of_config config.DuplicateName = fault.ConfigDuplicateName
of_config config.NoMemory = fault.NoMemory

-- the fault of a replay
abbrev pub of_replay : ReplayFault → Fault
of_replay replay.BadHeader = fault.ReplayBadHeader
of_replay replay.Truncated = fault.ReplayTruncated
of_replay replay.TooLong = fault.ReplayTooLong
of_replay replay.Read = fault.ReplayRead
of_replay replay.Write = fault.ReplayWrite
of_replay replay.NoMemory = fault.NoMemory

-- the fault of serving
abbrev pub of_serve : ServeFault → Fault
of_serve serve.Bind = fault.ServeBind
of_serve serve.Poll = fault.ServePoll
of_serve serve.Receive = fault.ServeReceive
of_serve serve.NoMemory = fault.NoMemory
of_serve serve.Full = fault.NoMemory

-- the line of a fault, without its line feed
abbrev pub line_of : Fault → List ℕ
line_of (fault.CannotRead file) = codes "h248gw: cannot read " ++ file.now
line_of (fault.ConfigLine number) = codes "h248gw: config line " ++ decimal number
line_of fault.ConfigLimit = codes "h248gw: config limit"
line_of fault.ConfigReservedName = codes "h248gw: config reserved name"
line_of fault.ConfigDuplicateName = codes "h248gw: config duplicate name"
line_of fault.ReplayBadHeader = codes "h248gw: replay bad header"
line_of fault.ReplayTruncated = codes "h248gw: replay truncated"
line_of fault.ReplayTooLong = codes "h248gw: replay too long"
line_of fault.ReplayRead = codes "h248gw: replay read"
line_of fault.ReplayWrite = codes "h248gw: replay write"
line_of fault.ServeBind = codes "h248gw: serve bind"
line_of fault.ServePoll = codes "h248gw: serve poll"
line_of fault.ServeReceive = codes "h248gw: serve receive"
line_of fault.NoMemory = codes "h248gw: no memory"
