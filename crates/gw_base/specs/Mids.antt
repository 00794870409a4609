-- What a gateway or a controller calls itself (RFC 3525, Annex B.2, mId, domainName, domainAddress, deviceName,
-- portNumber).
use Rattle.std.specs.Prelude.{◌≡◌, ℕ, ◌+◌, Bool, true, ◌||◌, ◌<◌, ◌≤◌, ◌⊎◌, List, length, slice_index, codes, if◌then◌else◌}
use Rattle.std.specs.List.{list_all}
use Rattle.std.specs.Str.Parse.{digits_value}
use Rattle.gw_base.specs.Bytes.{is_letter, is_digit, is_name_byte, is_one_of}
use Rattle.gw_base.specs.Lang.{◌▹◌, Optional, IsText}
use Rattle.gw_base.specs.Addresses.{IsAddress}
use Rattle.gw_base.specs.Names.{name_max}

-- a byte of a domain name
abbrev pub is_domain_byte : ℕ → Bool
is_domain_byte b = is_letter b || is_digit b || is_one_of (codes "-.") b

-- a byte of a device name
abbrev pub is_device_byte : ℕ → Bool
is_device_byte b = is_name_byte b || is_one_of (codes "*$") b

-- letters, digits, - and ., of which the first is a letter or a digit: as many as a name may have
pub record IsDomain (bytes : List ℕ) : Type 0 where
  pub some : 0 < length bytes
  pub short : length bytes ≤ name_max
  pub first : is_letter (slice_index bytes 0) || is_digit (slice_index bytes 0) ≡ true
  pub each : list_all is_domain_byte bytes ≡ true

-- the most digits of a port
abbrev pub port_digits : ℕ
port_digits = 5

-- the greatest number of a port
abbrev pub port_max : ℕ
port_max = 65535

-- portNumber: digits, one at least, which write a number of a port
pub record IsPort (bytes : List ℕ) : Type 0 where
  pub some : 0 < length bytes
  pub short : length bytes ≤ port_digits
  pub each : list_all is_digit bytes ≡ true
  pub small : digits_value 10 bytes ≤ port_max

-- a colon and a port, or nothing
abbrev pub IsOptionalPort : List ℕ → Type 0
IsOptionalPort = Optional (IsText (codes ":") ▹ IsPort)

-- letters, digits and _ / * $ @ . -, of which the first is a letter or *: as many as a name may have
pub record IsDevice (bytes : List ℕ) : Type 0 where
  pub some : 0 < length bytes
  pub short : length bytes ≤ name_max
  pub first : is_letter (slice_index bytes 0) || is_one_of (codes "*") (slice_index bytes 0) ≡ true
  pub each : list_all is_device_byte bytes ≡ true

-- an address in brackets, a domain name in angle brackets, each with a port or without, or a device name
abbrev pub IsMid : List ℕ → Type 0
IsMid text =
    (IsText (codes "[") ▹ IsAddress ▹ IsText (codes "]") ▹ IsOptionalPort) text
    ⊎ (IsText (codes "<") ▹ IsDomain ▹ IsText (codes ">") ▹ IsOptionalPort) text
    ⊎ IsDevice text

-- the most bytes of an mId with brackets: a name's, and two brackets, a colon and a port
abbrev pub bracketed_max : ℕ
bracketed_max = name_max + 3 + port_digits

-- how many bytes an mId that begins so may have
abbrev pub longest_mid : List ℕ → ℕ
longest_mid text = if is_one_of (codes "[<") (slice_index text 0) then bracketed_max else name_max
