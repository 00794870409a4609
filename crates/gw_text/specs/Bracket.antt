-- Brackets and runs, which are kept as sent (own): wider than the lists, ranges and sub-lists of RFC 3525, Annex B.2.
use Rattle.std.specs.Prelude.{◌≡◌, ◌⊎◌, ◌<◌, ◌==◌, ◌||◌, ℕ, Bool, List, [], ◌∷◌, ◌++◌, length, codes}
use Rattle.std.specs.List.{concat}
use Rattle.gw_base.specs.Bytes.{is_one_of}
use Rattle.gw_text.specs.Lexical.{comma, colon, left_bracket, right_bracket, is_safe}
use Rattle.gw_text.specs.Space.{IsByte, IsSep, Each}
use Rattle.gw_text.specs.Quoted.{IsQuoted}

-- a byte of a run: a safe byte or one of `[ ] : < > #`
abbrev pub is_run_mark : ℕ → Bool
is_run_mark b = is_one_of (codes "[]:<>#") b

abbrev pub is_run_byte : ℕ → Bool
is_run_byte b = is_safe b || is_run_mark b

-- a byte that stands in brackets by itself: a safe byte, `,` or `:`
abbrev pub is_bracket_byte : ℕ → Bool
is_bracket_byte b = is_safe b || b == comma || b == colon

-- what stands in brackets, in any order: such bytes, quoted texts and white space
abbrev pub IsBracketPiece : List ℕ → Type 0
IsBracketPiece text = IsByte is_bracket_byte text ⊎ IsQuoted text ⊎ IsSep text

-- `[`, one or more of them, `]`
pub record IsBracket (text : List ℕ) : Type 0 where
  pub pieces : List (List ℕ)
  pub some : 0 < length pieces
  pub whole : text ≡ left_bracket ∷ (concat pieces ++ right_bracket ∷ [])
  pub each : Each IsBracketPiece pieces
