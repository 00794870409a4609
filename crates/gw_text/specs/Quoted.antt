-- A quoted text: `"`, printable bytes and tabs, and `"` (RFC 3525, Annex B.2, quotedString).
use Rattle.std.specs.Prelude.{◌==◌, ℕ, Bool, ◌||◌, ◌&&◌, not, nat_le, List, [], ◌∷◌}
use Rattle.gw_base.specs.Lang.{◌▹◌, IsText}
use Rattle.gw_text.specs.Lexical.{tab, space, tilde, quote_mark}
use Rattle.gw_text.specs.Runs.{IsRun}

-- what may stand between the quotes: a tab, or a byte from the space to `~`, but no `"`
abbrev pub is_quotable : ℕ → Bool
is_quotable b = not (b == quote_mark) && (b == tab || (nat_le space b && nat_le b tilde))

-- the whole, quotes among it
abbrev pub IsQuoted : List ℕ → Type 0
IsQuoted = IsText (quote_mark ∷ []) ▹ IsRun is_quotable ▹ IsText (quote_mark ∷ [])
