-- Addresses of hosts, as media addresses and mIds have them (RFC 3525, Annex B.2, domainAddress; the length is own).
use Rattle.std.specs.Prelude.{◌≡◌, ℕ, Bool, true, ◌||◌, ◌<◌, ◌≤◌, List, length, codes}
use Rattle.std.specs.List.{list_all}
use Rattle.gw_base.specs.Bytes.{is_hex_digit, is_one_of}

-- a hexadecimal digit, a dot or a colon
abbrev pub is_address_byte : ℕ → Bool
is_address_byte b = is_hex_digit b || is_one_of (codes ".:") b

-- the most bytes of an address
abbrev pub address_max : ℕ
address_max = 45

-- hexadecimal digits, dots and colons: one at least, and at most so many
pub record IsAddress (bytes : List ℕ) : Type 0 where
  pub some : 0 < length bytes
  pub short : length bytes ≤ address_max
  pub each : list_all is_address_byte bytes ≡ true
