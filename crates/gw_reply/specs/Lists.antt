-- Lists and groups in a text (RFC 3525, Annex B.2, COMMA, LBRKT and RBRKT, without white space).
use Rattle.std.specs.Prelude.{ℕ, Bool, true, false, List, ◌∷◌, ◌++◌, map, codes}
use Rattle.std.specs.List.{join_with_byte, flat_map}
use Rattle.gw_base.specs.Bytes.{byte}

-- COMMA
abbrev pub comma : ℕ
comma = byte (codes ",")

-- the texts in a row, with a comma between each two
abbrev pub comma_separated : List (List ℕ) → List ℕ
comma_separated texts = join_with_byte comma texts

-- the text in braces
abbrev pub in_braces : List ℕ → List ℕ
in_braces text = codes "{" ++ text ++ codes "}"

-- each part's text behind a comma
abbrev pub later : {T : Type 0} → (T → List ℕ) → List T → List ℕ
later text parts = flat_map (λ part. comma ∷ text part) parts

-- the parts' texts, with a comma between each two, and one before the first where they stand behind something
abbrev pub parts_text : {T : Type 0} → (T → List ℕ) → (behind : Bool) → List T → List ℕ
parts_text text false parts = comma_separated (map text parts)
parts_text text true parts = later text parts
