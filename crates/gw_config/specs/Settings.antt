-- What the lines of a configuration have said so far, as the reader notes it (own).
use Rattle.std.specs.Prelude.{◌≡◌, ℕ, Bool, true, false, ◌&&◌, ◌⊎◌, List, ◌++◌, Some, is_some}
use Rattle.std.specs.Option.{option_to_list}
use Rattle.gw_base.specs.declared.config.Config.{Config}
use Rattle.gw_config.specs.declared.item.Item.{Item}
use Rattle.gw_config.specs.declared.item.Item.TheVariants.{Nothing, Mid, Media, Contexts, Slots, Members, Keep, Term}
use Rattle.gw_config.specs.declared.fault.ConfigTextFault.{ConfigTextFault}
use Rattle.gw_config.specs.declared.fault.ConfigTextFault.TheVariants.{Line, NoMemory}
use Rattle.gw_config.specs.declared.settings.Settings.{Settings}
use Rattle.gw_config.specs.ConfigTexts.{Says, term_in}

-- the keyword of the item has been there
abbrev pub is_set : Item → Settings → Bool
is_set Nothing s = false
is_set (Mid mid) s = is_some s.mid
is_set (Media media) s = is_some s.media
is_set (Contexts n) s = is_some s.contexts
is_set (Slots n) s = is_some s.slots
is_set (Members n) s = is_some s.members
is_set (Keep n) s = is_some s.keep
is_set (Term name) s = false

-- what is known with the item
abbrev pub with_item : Item → Settings → Settings
with_item Nothing s = s
with_item (Mid mid) s = record s { mid = Some mid }
with_item (Media media) s = record s { media = Some media }
with_item (Contexts n) s = record s { contexts = Some n }
with_item (Slots n) s = record s { slots = Some n }
with_item (Members n) s = record s { members = Some n }
with_item (Keep n) s = record s { keep = Some n }
with_item (Term name) s = s

-- a line that was taken
pub record IsStep (line : List ℕ) (s : Settings) (old : List (List ℕ)) (t : Settings) (new : List (List ℕ)) : Type 0 where
  pub item : Item
  pub says : Says item line
  pub fresh : is_set item s ≡ false
  pub settings : t ≡ with_item item s
  pub terms : new ≡ old ++ option_to_list (term_in item)

-- a line that was not
abbrev pub IsWrong : ℕ → List ℕ → Settings → ConfigTextFault → Type 0
IsWrong number line s (Line n) = (n ≡ number) × (((item : Item) → ¬ Says item line) ⊎ ((item : Item) × Says item line × (is_set item s ≡ true)))
IsWrong number line s NoMemory = Unit {0}

-- nothing is missing
abbrev pub is_complete : Settings → Bool
is_complete s = is_some s.mid && (is_some s.media && (is_some s.contexts && (is_some s.slots && (is_some s.members && is_some s.keep))))

-- the configuration has what was said
pub record IsAll (c : Config) (s : Settings) (names : List (List ℕ)) : Type 0 where
  pub mid : s.mid ≡ Some c.mid
  pub media : s.media ≡ Some c.media
  pub contexts : s.contexts ≡ Some c.contexts
  pub slots : s.slots ≡ Some c.slots
  pub members : s.members ≡ Some c.members
  pub keep : s.keep ≡ Some c.keep
  pub terms : c.terms ≡ names
