-- What commands at keys keep: whole tables stay well-formed, who is new in a place or a list is one of the keys, and with the whole
-- among the keys there is no entry but at them.
use Rattle.std.proofs.Common.{◌≡◌, ℕ, true, List, Option, subst}
use Rattle.gw_base.specs.declared.key.Key.{Key}
use Rattle.gw_base.specs.declared.key.Key.TheVariants.{Whole}
use Rattle.gw_base.specs.declared.command_words.Rules.{Rules}
use Rattle.gw_base.specs.Keys.{has}
use Rattle.gw_msg.specs.declared.message.Command.{Command}
use Rattle.gw_table.specs.Accesses.{effect, Within}
use Rattle.gw_table.specs.Maps.{Maps, Outcome}
use Rattle.gw_table.specs.Parts.{Only, IsPart}
use Rattle.gw_table.specs.WellFormed.{AreWellFormed}
use Rattle.gw_table.proofs.Frames.{within_more}
use Rattle.gw_table.proofs.Growth.{Grows, grows_not, grows_on, effect_grows}
use Rattle.gw_table.proofs.Localities.{part_after}
use Rattle.gw_refusal.specs.declared.at.At.{At}
use Rattle.gw_cmd.specs.declared.outcome.CmdOutcome.{CmdOutcome}
use Rattle.gw_cmd.specs.Commands.{command}
use Rattle.gw_cmd.specs.Keys.{command_keys}
use Rattle.gw_cmd.proofs.Locality.{within-program}
use Rattle.gw_cmd.proofs.Programs.{program, effect-program}
use Rattle.gw_tx.proofs.Facts.{IsHeld, commands_keep_whole}
use Rattle.gw_tx.proofs.FreeSlots.{AnySlot}
use Rattle.gw_tx.proofs.HeldKeys.{command_stays, made_held, less_held}
use Rattle.gw_tx.proofs.Kept.{CommandsKeep}
use Rattle.gw_tx.proofs.SetProperties.{part_set, grows_set, whole_set}
use Rattle.gw_tx.specs.Properties.{set_property}

pub record Stays (limit : ℕ) (keys : List Key) (start m : Maps) : Type 0 where
  pub whole : AreWellFormed limit m
  pub grown : Grows (Only keys) start m
  pub entries : has keys Whole ≡ true → IsPart (Only keys) m

-- as it begins
pub stays_not : (limit : ℕ) (keys : List Key) (m : Maps) → AreWellFormed limit m → (has keys Whole ≡ true → IsPart (Only keys) m) → Stays limit keys m m
stays_not limit keys m w p = record { whole = w; grown = grows_not (Only keys) m; entries = p }

-- a command whose keys at the start are among the keys
pub within_command : (rules : Rules) (keys : List Key) (start : Maps) (at : At) (slot : Option ℕ) (c : Command) (m : Maps) → IsHeld (Only keys) start at slot c → Stays rules.members keys start m → Within keys (program rules at slot c) m
within_command rules keys start at slot c m o s =
    within_more (command_keys at slot c m) keys (program rules at slot c) m (command_stays (Only keys) start m s.entries s.grown at slot c o) (within-program rules at slot c m s.whole)

pub commands_stay : (rules : Rules) (keys : List Key) (start : Maps) → CommandsKeep rules (IsHeld (Only keys) start) AnySlot (Stays rules.members keys start)
commands_stay rules keys start = record {
  keeps = λ at slot c m o u a s.
      let w : Within keys (program rules at slot c) m = within_command rules keys start at slot c m o s in
      let is : effect (program rules at slot c) m ≡ command rules at slot c m = effect-program rules at slot c m in
      record {
        whole = (commands_keep_whole rules).keeps at slot c m tt u a s.whole;
        grown = grows_on (Only keys) start m (command rules at slot c m).maps s.grown (subst (λ (o : Outcome CmdOutcome). Grows (Only keys) m o.maps) is (effect_grows keys (program rules at slot c) m w));
        entries = λ h. subst (λ (o : Outcome CmdOutcome). IsPart (Only keys) o.maps) is (part_after keys (program rules at slot c) m w (s.entries h));
      };
  lives = λ at slot c o. made_held (Only keys) at slot c start o;
  less = λ at slot c o. less_held (Only keys) at slot c start o;
  sets = λ n p m can s. record {
    whole = whole_set rules.members n p m can s.whole;
    grown = grows_on (Only keys) start m (set_property n p m) s.grown (grows_set n p m (Only keys));
    entries = λ h. part_set n p m (Only keys) (s.entries h);
  };
}
