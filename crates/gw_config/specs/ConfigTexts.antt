-- Configurations as text: lines, what each says, the configuration that they give, and the first line that is wrong
-- (own).
use Rattle.std.specs.Prelude.{◌≡◌, ℕ, ◌+◌, ◌≤◌, ◌⊎◌, List, [], ◌∷◌, ◌++◌, length, Option, Some, None, Result, Ok, Err, codes}
use Rattle.std.specs.List.{filter_map}
use Rattle.std.specs.Str.Lines.{lines}
use Rattle.gw_base.specs.declared.config.Config.{Config}
use Rattle.gw_base.specs.Addresses.{IsAddress}
use Rattle.gw_base.specs.Mids.{IsMid}
use Rattle.gw_base.specs.Names.{IsName}
use Rattle.gw_text.specs.Forms.{IsUint32}
use Rattle.gw_config.specs.declared.item.Item.{Item}
use Rattle.gw_config.specs.declared.item.Item.TheVariants.{Nothing, Mid, Media, Contexts, Slots, Members, Keep, Term}
use Rattle.gw_config.specs.declared.fault.ConfigTextFault.{ConfigTextFault}
use Rattle.gw_config.specs.declared.fault.ConfigTextFault.TheVariants.{Line, NoMemory}

-- ---- one line

-- an empty line, or one that begins with #
abbrev pub IsSkipped : List ℕ → Type 0
IsSkipped line = (line ≡ []) ⊎ ((comment : List ℕ) × (line ≡ codes "#" ++ comment))

-- mid <mId>
abbrev pub IsMidLine : List ℕ → List ℕ → Type 0
IsMidLine mid line = (line ≡ codes "mid " ++ mid) × IsMid mid

-- media <address>
abbrev pub IsMediaLine : List ℕ → List ℕ → Type 0
IsMediaLine media line = (line ≡ codes "media " ++ media) × IsAddress media

-- term <name>
abbrev pub IsTermLine : List ℕ → List ℕ → Type 0
IsTermLine name line = (line ≡ codes "term " ++ name) × IsName name

-- a keyword with its space, and a UINT32
abbrev pub IsNumberLine : List ℕ → ℕ → List ℕ → Type 0
IsNumberLine keyword n line = (digits : List ℕ) × (line ≡ keyword ++ digits) × IsUint32 n digits

-- what a line says, by its form
abbrev pub Says : Item → List ℕ → Type 0
Says Nothing line = IsSkipped line
Says (Mid mid) line = IsMidLine mid line
Says (Media media) line = IsMediaLine media line
Says (Contexts n) line = IsNumberLine (codes "contexts ") n line
Says (Slots n) line = IsNumberLine (codes "slots ") n line
Says (Members n) line = IsNumberLine (codes "members ") n line
Says (Keep n) line = IsNumberLine (codes "keep ") n line
Says (Term name) line = IsTermLine name line

-- ---- all lines

-- each line says its item
abbrev pub AllSay : List Item → List (List ℕ) → Type 0
AllSay [] [] = Unit {0}
AllSay [] (line ∷ lines) = ⊥
AllSay (item ∷ items) [] = ⊥
AllSay (item ∷ items) (line ∷ lines) = Says item line × AllSay items lines

abbrev pub mid_in : Item → Option (List ℕ)
mid_in (Mid mid) = Some mid
mid_in _ = None

abbrev pub media_in : Item → Option (List ℕ)
media_in (Media media) = Some media
media_in _ = None

abbrev pub contexts_in : Item → Option ℕ
contexts_in (Contexts n) = Some n
contexts_in _ = None

abbrev pub slots_in : Item → Option ℕ
slots_in (Slots n) = Some n
slots_in _ = None

abbrev pub members_in : Item → Option ℕ
members_in (Members n) = Some n
members_in _ = None

abbrev pub keep_in : Item → Option ℕ
keep_in (Keep n) = Some n
keep_in _ = None

abbrev pub term_in : Item → Option (List ℕ)
term_in (Term name) = Some name
term_in _ = None

-- the configuration that items give: each keyword once, and the terminations in their order
pub record IsConfigOf (c : Config) (items : List Item) : Type 0 where
  pub mid : filter_map mid_in items ≡ c.mid ∷ []
  pub media : filter_map media_in items ≡ c.media ∷ []
  pub contexts : filter_map contexts_in items ≡ c.contexts ∷ []
  pub slots : filter_map slots_in items ≡ c.slots ∷ []
  pub members : filter_map members_in items ≡ c.members ∷ []
  pub keep : filter_map keep_in items ≡ c.keep ∷ []
  pub terms : filter_map term_in items ≡ c.terms

-- the keyword of an item that may stand once is among the items
abbrev pub IsRepeated : Item → List Item → Type 0
IsRepeated Nothing items = ⊥
IsRepeated (Mid mid) items = ¬ (filter_map mid_in items ≡ [])
IsRepeated (Media media) items = ¬ (filter_map media_in items ≡ [])
IsRepeated (Contexts n) items = ¬ (filter_map contexts_in items ≡ [])
IsRepeated (Slots n) items = ¬ (filter_map slots_in items ≡ [])
IsRepeated (Members n) items = ¬ (filter_map members_in items ≡ [])
IsRepeated (Keep n) items = ¬ (filter_map keep_in items ≡ [])
IsRepeated (Term name) items = ⊥

-- a keyword stands nowhere among the items
abbrev pub IsMissing : List Item → Type 0
IsMissing items =
    (filter_map mid_in items ≡ [])
    ⊎ (filter_map media_in items ≡ [])
    ⊎ (filter_map contexts_in items ≡ [])
    ⊎ (filter_map slots_in items ≡ [])
    ⊎ (filter_map members_in items ≡ [])
    ⊎ (filter_map keep_in items ≡ [])

-- no keyword that stands once in a configuration is twice among the items
pub record IsOnce (items : List Item) : Type 0 where
  pub mid : length (filter_map mid_in items) ≤ 1
  pub media : length (filter_map media_in items) ≤ 1
  pub contexts : length (filter_map contexts_in items) ≤ 1
  pub slots : length (filter_map slots_in items) ≤ 1
  pub members : length (filter_map members_in items) ≤ 1
  pub keep : length (filter_map keep_in items) ≤ 1

-- a line of no form, or one that repeats a keyword of those before it, where each line before it is of a form and
-- repeats none
pub record IsWrongLine (number : ℕ) (all : List (List ℕ)) : Type 0 where
  pub before : List (List ℕ)
  pub line : List ℕ
  pub after : List (List ℕ)
  pub items : List Item
  pub split : all ≡ before ++ line ∷ after
  pub number_is : number ≡ length before + 1
  pub says : AllSay items before
  pub once : IsOnce items
  pub wrong : ((item : Item) → ¬ Says item line) ⊎ ((item : Item) × Says item line × IsRepeated item items)

-- all lines are of a form and repeat none, but a keyword is missing: the number behind the last line
pub record IsShort (number : ℕ) (all : List (List ℕ)) : Type 0 where
  pub items : List Item
  pub says : AllSay items all
  pub once : IsOnce items
  pub missing : IsMissing items
  pub number_is : number ≡ length all + 1

-- what reading a text answers
abbrev pub IsConfigReading : List ℕ → Result Config ConfigTextFault → Type 0
IsConfigReading text (Ok c) = (items : List Item) × AllSay items (lines text) × IsConfigOf c items
IsConfigReading text (Err (Line number)) = IsWrongLine number (lines text) ⊎ IsShort number (lines text)
IsConfigReading text (Err NoMemory) = Unit {0}
