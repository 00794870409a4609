-- What is left of a text behind a byte, a sign with white space on both sides, or bytes in any case (RFC 3525, Annex
-- B.2: EQUAL, COMMA, LBRKT and RBRKT have LWSP on both sides, and words are the same in any case).
use Rattle.std.specs.Prelude.{◌==◌, ℕ, if◌then◌else◌, List, [], ◌∷◌, length, take, drop, Option, Some, None}
use Rattle.gw_text.specs.SpaceScan.{skip}
use Rattle.gw_text.specs.Tokens.{is_same_word}

-- behind the byte b
unfoldable pub byte_at : ℕ → List ℕ → Option (List ℕ)
byte_at b [] = None
byte_at b (c ∷ cs) = if c == b then Some cs else None

-- behind the byte b and the white space after it
abbrev pub behind : ℕ → List ℕ → Option (List ℕ)
behind b [] = None
behind b (c ∷ cs) = if c == b then Some (skip cs) else None

-- behind the sign b
unfoldable pub sign_at : ℕ → List ℕ → Option (List ℕ)
sign_at b text = behind b (skip text)

-- behind these bytes in any case
unfoldable pub prefix_at : List ℕ → List ℕ → Option (List ℕ)
prefix_at bytes text = if is_same_word (take (length bytes) text) bytes then Some (drop (length bytes) text) else None
