-- Octets: the text of a Local or a Remote, between its braces (own reading of RFC 3525, Annex B.2, octetString).
use Rattle.std.specs.Prelude.{◌≡◌, ◌==◌, ◌⊎◌, ℕ, Bool, true, false, not, List, [], ◌∷◌, ◌++◌}
use Rattle.gw_text.specs.Lexical.{nul, backslash, right_brace, is_blank}
use Rattle.gw_text.specs.Runs.{IsRun, begins}

-- a byte of octets: any but 0
abbrev pub is_octet : ℕ → Bool
is_octet b = not (b == nul)

-- the text ends in the byte
abbrev pub EndsIn : ℕ → List ℕ → Type 0
EndsIn b text = (front : List ℕ) × (text ≡ front ++ b ∷ [])

-- What stands between the braces: no byte 0; each `}` in it stands behind a `\`, and the one that ends it does not.
pub record IsOctets (body : List ℕ) : Type 0 where
  pub octets : IsRun is_octet body
  pub escaped : (before after : List ℕ) → body ≡ before ++ right_brace ∷ after → EndsIn backslash before
  pub closed : ¬ EndsIn backslash body

-- How what is kept of it may end, where trail was dropped behind it: with a byte that is no white space, and is `\`
-- only where nothing was dropped; or with a `\` and the white space behind it. Or nothing is kept.
abbrev pub EndsKept : List ℕ → List ℕ → Type 0
EndsKept span trail =
    ((front : List ℕ) × (last : ℕ) × (span ≡ front ++ last ∷ []) × (is_blank last ≡ false) × (last ≡ backslash → trail ≡ []))
    ⊎ ((front : List ℕ) × (kept : ℕ) × (span ≡ front ++ backslash ∷ (kept ∷ [])) × (is_blank kept ≡ true))
    ⊎ (span ≡ [])

-- What is kept of it: white space at both ends is dropped, but the first byte of that behind a `\` at the end is kept.
pub record IsTrimmed (body span : List ℕ) : Type 0 where
  pub lead : List ℕ
  pub trail : List ℕ
  pub split : body ≡ lead ++ (span ++ trail)
  pub lead_blank : IsRun is_blank lead
  pub trail_blank : IsRun is_blank trail
  pub begins_solid : begins is_blank span ≡ false
  pub ends : EndsKept span trail

-- the text between the braces of octets of which span is kept
pub record IsOctetsOf (span body : List ℕ) : Type 0 where
  pub octets : IsOctets body
  pub trimmed : IsTrimmed body span
