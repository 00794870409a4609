-- How a Local is filled, one `$` after the other (own).
use Rattle.std.specs.Prelude.{◌≡◌, ◌⊎◌, ℕ, Bool, true, false, not, ◌||◌, ◌&&◌, ◌==◌, List, [], ◌∷◌, ◌++◌, length, codes}
use Rattle.std.specs.List.{list_any}
use Rattle.gw_base.specs.Bytes.{is_one_of}
use Rattle.gw_text.specs.Lexical.{nul, backslash, right_brace, is_blank}
use Rattle.gw_text.specs.Runs.{begins}
use Rattle.gw_text.specs.Forms.{IsSomeRun}
use Rattle.gw_desc.specs.Fill.{line_ends, field_ends, ends_of, is_connection, is_media_line}

-- nothing, or a text whose last byte is one of these
abbrev pub IsWhole : List ℕ → List ℕ → Type 0
IsWhole ends text = (text ≡ []) ⊎ ((front : List ℕ) × (end : ℕ) × (text ≡ front ++ end ∷ []) × (is_one_of ends end ≡ true))

-- what ends a field: the end of its line, or what stands between two
abbrev pub is_field_end : ℕ → Bool
is_field_end b = is_one_of line_ends b || is_one_of field_ends b

-- A `$` that is a field of a line, the line of this kind and the field in this place of it, counted from 0; and the
-- text with a new text in the place of that `$`, and nothing else changed.
pub record IsPut (is_kind : List ℕ → Bool) (place : ℕ) (new old text : List ℕ) : Type 0 where
  -- the lines in front of it, what of its own line is in front of it, and what is behind it
  pub lines : List ℕ
  pub fields : List ℕ
  pub behind : List ℕ
  pub was : old ≡ lines ++ (fields ++ (codes "$" ++ behind))
  pub is : text ≡ lines ++ (fields ++ (new ++ behind))
  pub whole_lines : IsWhole line_ends lines
  pub one_line : list_any (is_one_of line_ends) fields ≡ false
  pub kind : is_kind (fields ++ (codes "$" ++ behind)) ≡ true
  pub whole_fields : IsWhole field_ends fields
  pub counted : length (ends_of field_ends fields) ≡ place
  pub whole : (behind ≡ []) ⊎ (begins is_field_end behind ≡ true)

-- One step: the third field of a c= line becomes the address, or the second of an m= line the port.
abbrev pub IsFilledOnce : (address port : List ℕ) → List ℕ → List ℕ → Type 0
IsFilledOnce address port old text = IsPut is_connection 2 address old text ⊎ IsPut is_media_line 1 port old text

-- by such steps, through these texts
abbrev pub IsChain : (List ℕ → List ℕ → Type 0) → List ℕ → List (List ℕ) → List ℕ → Type 0
IsChain IsStep old [] new = old ≡ new
IsChain IsStep old (text ∷ texts) new = IsStep old text × IsChain IsStep text texts new

-- in any number of steps, none among them
abbrev pub IsReached : (List ℕ → List ℕ → Type 0) → List ℕ → List ℕ → Type 0
IsReached IsStep old new = (texts : List (List ℕ)) × IsChain IsStep old texts new

-- ---- what is put in

-- a byte that means nothing in octets
abbrev pub is_plain_byte : ℕ → Bool
is_plain_byte b = not (b == nul) && (not (b == right_brace) && (not (b == backslash) && not (is_blank b)))

-- such bytes, one at least: an address or a port
abbrev pub IsPlain : List ℕ → Type 0
IsPlain = IsSomeRun is_plain_byte
