-- TerminationIDs with wildcards (RFC 3525, section 6.2.2; what each stands for is own where the standard leaves it
-- open).
use Rattle.std.specs.Prelude.{◌≡◌, ℕ, ◌<◌, ◌≤◌, Bool, true, ◌||◌, List, ◌++◌, length, slice_index, codes}
use Rattle.std.specs.List.{list_all}
use Rattle.gw_base.specs.Bytes.{is_letter, is_name_byte, is_one_of, byte, last_byte}
use Rattle.gw_base.specs.Lang.{IsInAnyCase}
use Rattle.gw_base.specs.Names.{IsName, name_max}

-- ALL or CHOOSE
abbrev pub is_wildcard_byte : ℕ → Bool
is_wildcard_byte b = is_one_of (codes "*$") b

-- a byte of a TerminationID
abbrev pub is_term_byte : ℕ → Bool
is_term_byte b = is_name_byte b || is_wildcard_byte b

-- letters, digits and _ / * $ @ . -, of which the first is a letter, * or $: as many as a name may have
pub record IsTermText (bytes : List ℕ) : Type 0 where
  pub some : 0 < length bytes
  pub short : length bytes ≤ name_max
  pub first : is_letter (slice_index bytes 0) || is_wildcard_byte (slice_index bytes 0) ≡ true
  pub each : list_all is_term_byte bytes ≡ true

-- ROOT in any case
abbrev pub IsRoot : List ℕ → Type 0
IsRoot = IsInAnyCase (codes "ROOT")

-- a name that ends in /, and *
pub record IsUnder (prefix text : List ℕ) : Type 0 where
  pub split : text ≡ prefix ++ codes "*"
  pub name : IsName prefix
  pub slash : last_byte prefix ≡ byte (codes "/")
