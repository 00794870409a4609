-- Classes of bytes that names are made of (RFC 3525, Annex B.2).
use Rattle.std.specs.Prelude.{ℕ, ◌-◌, Bool, ◌||◌, ◌==◌, List, length, slice_index, codes}
use Rattle.std.specs.List.{list_any}
use Rattle.std.specs.Char.{is_ascii_alphabetic, is_ascii_digit, is_ascii_hexdigit}

-- one of these signs
abbrev pub is_one_of : List ℕ → ℕ → Bool
is_one_of signs b = list_any (λ c. c == b) signs

-- ALPHA
abbrev pub is_letter : ℕ → Bool
is_letter b = is_ascii_alphabetic b

-- DIGIT
abbrev pub is_digit : ℕ → Bool
is_digit b = is_ascii_digit b

-- HEXDIG
abbrev pub is_hex_digit : ℕ → Bool
is_hex_digit b = is_ascii_hexdigit b

-- what a name has beside letters and digits
abbrev pub is_name_mark : ℕ → Bool
is_name_mark b = is_one_of (codes "_/@.-") b

-- a byte of a termination's name
abbrev pub is_name_byte : ℕ → Bool
is_name_byte b = is_letter b || is_digit b || is_name_mark b

-- the byte of a text of one byte, as byte (codes "/")
abbrev pub byte : List ℕ → ℕ
byte text = slice_index text 0

-- the last byte of a text
abbrev pub last_byte : List ℕ → ℕ
last_byte text = slice_index text (length text - 1)
