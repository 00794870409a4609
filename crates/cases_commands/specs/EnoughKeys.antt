-- Keys on which any command can be executed: all of the tables, and those of the command (own).
use Rattle.std.specs.Prelude.{ℕ, List, [], ◌++◌, Option}
use Rattle.gw_base.specs.declared.key.Key.{Key}
use Rattle.gw_base.specs.Keys.{Among}
use Rattle.gw_msg.specs.declared.message.Command.{Command}
use Rattle.gw_base.specs.declared.term_ref.TermRef.{TermRef}
use Rattle.gw_base.specs.declared.term_ref.TermRef.TheVariants as ref
use Rattle.gw_cmd.specs.Keys.{every_key, action_keys, member_keys, name_keys, slot_key, command_keys}
use Rattle.gw_refusal.specs.declared.at.At.{At}
use Rattle.gw_table.specs.Maps.{Maps}

-- every key of the tables, and each key of the command, is one of these
pub record AreEnough (keys : List Key) (at : At) (slot : Option ℕ) (c : Command) (m : Maps) : Type 0 where
  pub every : Among (every_key m) keys
  pub own : Among (command_keys at slot c m) keys

-- the termination that a command names, and the context that it is in
abbrev pub own_name : TermRef → Maps → List Key
own_name (ref.Name t) m = name_keys t m
own_name ref.Choose m = []
own_name ref.All m = []
own_name (ref.Under prefix) m = []
own_name ref.Root m = []
own_name (ref.Other text) m = []

-- what is gathered: all of the tables, the context and its members, the named termination, the slot
abbrev pub all_keys : At → Option ℕ → Command → Maps → List Key
all_keys at slot c m = ((every_key m ++ (action_keys at ++ member_keys at m)) ++ own_name c.term m) ++ slot_key slot
