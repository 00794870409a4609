-- How `$` in a Local is filled (own; `$` leaves a value to the gateway: RFC 3525, section 7.1.8). A Local is looked at
-- by its lines, and a line by its fields.
use Rattle.std.specs.Prelude.{◌≡◌, ◌<◌, ℕ, suc, true, length, take, drop, ◌+◌, ◌*◌, ◌-◌, ◌==◌, Bool, ◌&&◌, ◌||◌, if◌then◌else◌, List, [], ◌∷◌, ◌++◌, map, codes, decimal, bytes_eq, slice_index_or, slice_set}
use Rattle.std.specs.List.{filter, list_any, slice_split, starts_with}
use Rattle.gw_base.specs.Bytes.{is_one_of}

-- ---- lines and fields

-- what ends a line: CR or LF
abbrev pub line_ends : List ℕ
line_ends = codes "\r\n"

-- what stands between two fields: one space, so that two of them have an empty field between them
abbrev pub field_ends : List ℕ
field_ends = codes " "

-- the parts of a text between the bytes of a class, in order, empty ones too
abbrev pub pieces_of : List ℕ → List ℕ → List (List ℕ)
pieces_of ends text = slice_split (is_one_of ends) text

-- the bytes of the class, in order
abbrev pub ends_of : List ℕ → List ℕ → List ℕ
ends_of ends text = filter (is_one_of ends) text

-- parts in a row, with each end behind its part
abbrev pub interleaved : List (List ℕ) → List ℕ → List ℕ
interleaved [] ends = []
interleaved (part ∷ parts) [] = part
interleaved (part ∷ parts) (end ∷ ends) = part ++ end ∷ interleaved parts ends

abbrev pub lines_of : List ℕ → List (List ℕ)
lines_of text = pieces_of line_ends text

abbrev pub fields_of : List ℕ → List (List ℕ)
fields_of line = pieces_of field_ends line

-- ---- one line

-- the field of this place, counted from 0, is `$`
unfoldable pub has_choose : ℕ → List ℕ → Bool
has_choose place line = bytes_eq (slice_index_or (fields_of line) place []) (codes "$")

-- the line with another text as its field of this place
abbrev pub with_field : ℕ → List ℕ → List ℕ → List ℕ
with_field place text line = interleaved (slice_set (fields_of line) place text) (ends_of field_ends line)

-- the same, if that field is `$`; else the line as it is
unfoldable pub put : ℕ → List ℕ → List ℕ → List ℕ
put place text line = if has_choose place line then with_field place text line else line

-- the line has a byte in this place, and is the other line with the new text in place of that
abbrev pub IsFilledAt : ℕ → List ℕ → List ℕ → List ℕ → Type 0
IsFilledAt at new line other = (at < length line) × (other ≡ take at line ++ (new ++ drop (suc at) line))

-- the field of this place is a `$`, which stands here in the line
abbrev pub IsChoiceAt : ℕ → ℕ → List ℕ → Type 0
IsChoiceAt place at line = (has_choose place line ≡ true) × ((new : List ℕ) → IsFilledAt at new line (put place new line))

-- connection data
abbrev pub is_connection : List ℕ → Bool
is_connection line = starts_with (λ a b. a == b) line (codes "c=")

-- media
abbrev pub is_media_line : List ℕ → Bool
is_media_line line = starts_with (λ a b. a == b) line (codes "m=")

-- the address as the third field of a c= line, or the port as the second of an m= line, where `$` stood there
unfoldable pub filled_line : List ℕ → List ℕ → List ℕ → List ℕ
filled_line address port line =
    if is_connection line then put 2 address line
    else if is_media_line line then put 1 port line
    else line

-- the line has such a `$`
unfoldable pub is_fillable_line : List ℕ → Bool
is_fillable_line line = (is_connection line && has_choose 2 line) || (is_media_line line && has_choose 1 line)

-- ---- a Local

-- the port of a stream, 1 to 4, of the ephemeral termination of this slot: an even one, of which none has two
abbrev pub port_of : ℕ → ℕ → ℕ
port_of slot stream = 16384 + 8 * slot + 2 * (stream - 1)

-- each line filled with this address and this port
unfoldable pub filled_text : List ℕ → List ℕ → List ℕ → List ℕ
filled_text address port text = interleaved (map (filled_line address port) (lines_of text)) (ends_of line_ends text)

-- a Local of this slot's termination, in this stream, filled with the address
unfoldable pub filled : List ℕ → ℕ → ℕ → List ℕ → List ℕ
filled address slot stream text = filled_text address (decimal (port_of slot stream)) text

-- a line has such a `$`
unfoldable pub is_fillable : List ℕ → Bool
is_fillable text = list_any is_fillable_line (lines_of text)
