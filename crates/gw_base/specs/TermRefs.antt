-- What a TerminationID is, by its text (RFC 3525, section 6.2.2 and Annex B.2, TerminationID; the classes are own).
use Rattle.std.specs.Prelude.{◌≡◌, ◌≢◌, ℕ, true, false, ◌⊎◌, List, codes, Result, Ok, Err}
use Rattle.std.specs.List.{list_any}
use Rattle.gw_base.specs.Names.{name_max}
use Rattle.gw_base.specs.Reads.{ReadsAs}
use Rattle.gw_base.specs.Wildcards.{is_wildcard_byte, IsTermText, IsRoot, IsUnder}
use Rattle.gw_base.specs.declared.fault.NameFault.{NameFault}
use Rattle.gw_base.specs.declared.term_ref.TermRef.{TermRef}
use Rattle.gw_base.specs.declared.term_ref.TermRef.TheVariants.{Root, All, Choose, Under, Name, Other}

-- $ alone, or behind the prefix of the ephemeral terminations
abbrev pub IsChoose : List ℕ → Type 0
IsChoose text = (text ≡ codes "$") ⊎ (text ≡ codes "RTP/$")

-- what a text of the form stands for
abbrev pub IsClass : TermRef → List ℕ → Type 0
IsClass Root text = IsRoot text
IsClass All text = text ≡ codes "*"
IsClass Choose text = IsChoose text
IsClass (Under prefix) text = IsUnder prefix text
IsClass (Other pattern) text = (pattern ≡ text) × (list_any is_wildcard_byte text ≡ true) × (text ≢ codes "*") × (¬ IsChoose text) × ((prefix : List ℕ) → ¬ IsUnder prefix text)
IsClass (Name name) text = (name ≡ text) × (list_any is_wildcard_byte text ≡ false) × ¬ IsRoot text

-- a text of the form, and what it stands for
abbrev pub IsTerm : TermRef → List ℕ → Type 0
IsTerm term text = IsTermText text × IsClass term text

-- what a text is read as, and the first fault of one that is refused
abbrev pub ReadsTerm : List ℕ → Result TermRef NameFault → Type 0
ReadsTerm text (Ok term) = IsTerm term text
ReadsTerm text (Err fault) = ReadsAs IsTermText name_max text (Err fault)
