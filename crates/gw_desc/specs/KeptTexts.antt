-- The forms of what is kept as sent (own): of a property, of a tail, and of the octets of a Local or a Remote. A text
-- of these forms can be written again as it is.
use Rattle.std.specs.Prelude.{◌≡◌, ◌⊎◌, ℕ, Bool, true, List, Option, Some, None}
use Rattle.std.specs.List.{All}
use Rattle.gw_text.specs.Forms.{IsWord}
use Rattle.gw_text.specs.Octets.{IsOctetsOf}
use Rattle.gw_text.specs.Group.{IsGroup}
use Rattle.gw_desc.specs.Grammar.{IsValue, IsThere, request_depth}
use Rattle.gw_desc.specs.declared.descriptor.Descriptor.{Descriptor}
use Rattle.gw_desc.specs.declared.descriptor.Descriptor.TheVariants as descriptor
use Rattle.gw_desc.specs.declared.descriptor.MediaPart.{MediaPart}
use Rattle.gw_desc.specs.declared.descriptor.MediaPart.TheVariants as media
use Rattle.gw_desc.specs.declared.descriptor.StreamPart.{StreamPart}
use Rattle.gw_desc.specs.declared.descriptor.StreamPart.TheVariants as part
use Rattle.gw_desc.specs.declared.descriptor.Property.{Property}
use Rattle.gw_desc.specs.declared.descriptor.Tail.{Tail}

-- the form, of what may be missing
abbrev pub IsOptional : {V : Type 0} → (V → Type 0) → Option V → Type 0
IsOptional IsForm None = Unit {0}
IsOptional IsForm (Some v) = IsForm v

-- a property: its name is a word, and its value a quoted text, a word, a bracket or a group
pub record IsKeptProperty (p : Property (List ℕ)) : Type 0 where
  pub name : IsWord p.name
  pub value : IsValue p.value

-- the word of a tail, which stands behind `=`
abbrev pub IsKeptWord : Bool → List ℕ → Type 0
IsKeptWord equals word = (equals ≡ true) × IsWord word

-- a tail: perhaps `=`, behind it perhaps a word, and perhaps a group; not `=` alone
pub record IsKeptTail (t : Tail (List ℕ)) : Type 0 where
  pub word : IsOptional (IsKeptWord t.equals) t.word
  pub group : IsOptional (IsGroup request_depth) t.group
  pub some : t.equals ≡ true → IsThere t.word ⊎ IsThere t.group

-- octets without white space round them: octets of which all is kept
abbrev pub IsKeptOctets : List ℕ → Type 0
IsKeptOctets text = IsOctetsOf text text

-- ---- of what a descriptor holds

abbrev pub HasKeptParts : StreamPart → Type 0
HasKeptParts (part.Local text) = IsKeptOctets text
HasKeptParts (part.Remote text) = IsKeptOctets text
HasKeptParts (part.LocalControl properties) = All IsKeptProperty properties

abbrev pub HasKeptMedia : MediaPart → Type 0
HasKeptMedia (media.Outside p) = HasKeptParts p
HasKeptMedia (media.Stream number parts) = All HasKeptParts parts
HasKeptMedia (media.TerminationState properties) = All IsKeptProperty properties

-- what of the descriptor is kept has its form
abbrev pub HasKeptTexts : Descriptor → Type 0
HasKeptTexts (descriptor.Media parts) = All HasKeptMedia parts
HasKeptTexts (descriptor.Keep kind tail) = IsKeptTail tail
HasKeptTexts _ = Unit {0}
