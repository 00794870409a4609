-- The name of a termination (RFC 3525, Annex B.2, TerminationID without wildcards).
use Rattle.std.specs.Prelude.{◌≡◌, ℕ, true, ◌<◌, ◌≤◌, List, length, slice_index}
use Rattle.std.specs.List.{list_all}
use Rattle.gw_base.specs.Bytes.{is_letter, is_name_byte}

-- the most bytes of a name of any kind, of a TerminationID with wildcards too
abbrev pub name_max : ℕ
name_max = 64

-- letters, digits and _ / @ . -, of which the first is a letter: one at least, and at most so many
pub record IsName (bytes : List ℕ) : Type 0 where
  pub some : 0 < length bytes
  pub short : length bytes ≤ name_max
  pub first : is_letter (slice_index bytes 0) ≡ true
  pub each : list_all is_name_byte bytes ≡ true
