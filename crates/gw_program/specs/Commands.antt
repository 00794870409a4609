-- The commands of the program, by what `clap` reads words with (own): a positional has neither long name nor short one.
use Rattle.std.specs.Prelude.{ℕ, [], ◌∷◌, List, Some, true, false, codes}
use Rattle.clap.specs.Simple.{App, Shape, new_rule, new_shape}
use Rattle.clap.specs.Walk.{Rule}
use Rattle.clap.specs.declared.builder.action.ArgAction.TheVariants.{Append, SetTrue}
use Rattle.clap.specs.declared.builder.value_parser.ValueParser.TheVariants.{Unsigned}

-- FILE, which must be there
abbrev pub file_rule : Rule
file_rule = record (new_rule (codes "FILE")) { required = true }

-- `--config FILE`
abbrev pub config_rule : Rule
config_rule = record (new_rule (codes "CONFIG")) { long = Some (codes "config"); value_names = 1 }

-- `--audit`
abbrev pub audit_rule : Rule
audit_rule = record (new_rule (codes "audit")) { long = Some (codes "audit"); action = Some SetTrue }

-- `--listen ADDR`: without it any address of the host, at the port for text
abbrev pub listen_rule : Rule
listen_rule = record (new_rule (codes "ADDR")) { long = Some (codes "listen"); defaults = codes "0.0.0.0:2944" ∷ [] }

-- `--bursts N`, a number of 64 bits
abbrev pub bursts_rule : Rule
bursts_rule =
    record (new_rule (codes "N")) { long = Some (codes "bursts"); parser = Some (Unsigned 0 18446744073709551615) }

-- `--controller ADDR`, any number of times
abbrev pub controller_rule : Rule
controller_rule =
    record (new_rule (codes "CONTROLLER")) { long = Some (codes "controller"); value_names = 1; action = Some Append }

-- `--report SECONDS`, a number of 64 bits
abbrev pub report_rule : Rule
report_rule = record (new_rule (codes "REPORT")) {
  long = Some (codes "report");
  value_names = 1;
  parser = Some (Unsigned 0 18446744073709551615);
}

-- `--give-up N`, a number of 64 bits, from 1 on
abbrev pub give_up_rule : Rule
give_up_rule = record (new_rule (codes "GIVE_UP")) {
  long = Some (codes "give-up");
  value_names = 1;
  parser = Some (Unsigned 1 18446744073709551615);
}

-- `--workers N`, a number from 1 to 64; 1 without it
abbrev pub workers_rule : Rule
workers_rule = record (new_rule (codes "WORKERS")) {
  long = Some (codes "workers");
  value_names = 1;
  parser = Some (Unsigned 1 64);
  defaults = codes "1" ∷ [];
}

-- a command with these arguments
abbrev pub command_of : List ℕ → List Rule → Shape
command_of name rules = record (new_shape name) { rules = rules }

-- a command with no other below it
abbrev pub alone : Shape → App
alone shape = record { top = shape; subs = [] }

abbrev pub answer_command : Shape
answer_command = command_of (codes "answer") (config_rule ∷ [])

abbrev pub check_command : Shape
check_command = command_of (codes "check") (file_rule ∷ [])

abbrev pub replay_command : Shape
replay_command = command_of (codes "replay") (file_rule ∷ (audit_rule ∷ (workers_rule ∷ [])))

abbrev pub serve_command : Shape
serve_command =
    command_of (codes "serve")
    (file_rule ∷ (listen_rule ∷ (workers_rule ∷ (bursts_rule
    ∷ (controller_rule ∷ (report_rule ∷ (give_up_rule ∷ [])))))))

-- the program: its words come without its name, and it has a version
abbrev pub program_app : App
program_app = record {
  top = record (new_shape (codes "h248gw")) { no_binary_name = true; has_version = true; is_leaf = false };
  subs = answer_command ∷ (check_command ∷ (replay_command ∷ (serve_command ∷ [])));
}
