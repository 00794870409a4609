-- LWSP and SEP (RFC 3525, Annex B.2; own: byte 0 ends no comment and stands in none).
use Rattle.std.specs.Prelude.{◌≡◌, ◌⊎◌, ◌<◌, true, ℕ, Bool, List, [], ◌∷◌, length}
use Rattle.std.specs.List.{concat}
use Rattle.gw_base.specs.Lang.{◌▹◌, IsText}
use Rattle.gw_text.specs.Lexical.{semicolon, is_blank, is_eol, is_comment_byte}
use Rattle.gw_text.specs.Runs.{IsRun}

-- one byte of the class
abbrev pub IsByte : (ℕ → Bool) → List ℕ → Type 0
IsByte p text = (b : ℕ) × (text ≡ b ∷ []) × (p b ≡ true)

-- COMMENT: `;`, the bytes of the line, and the first end of a line behind it
abbrev pub IsComment : List ℕ → Type 0
IsComment = IsText (semicolon ∷ []) ▹ IsRun is_comment_byte ▹ IsByte is_eol

-- WSP, EOL or COMMENT
abbrev pub IsSpacePiece : List ℕ → Type 0
IsSpacePiece text = IsByte is_blank text ⊎ IsComment text

-- each has the form
abbrev pub Each : (List ℕ → Type 0) → List (List ℕ) → Type 0
Each IsForm [] = Unit {0}
Each IsForm (x ∷ xs) = IsForm x × Each IsForm xs

-- LWSP: any number of them, one behind the other
pub record IsSpace (text : List ℕ) : Type 0 where
  pub pieces : List (List ℕ)
  pub whole : text ≡ concat pieces
  pub each : Each IsSpacePiece pieces

-- SEP: LWSP of a byte at least
pub record IsSep (text : List ℕ) : Type 0 where
  pub space : IsSpace text
  pub some : 0 < length text
