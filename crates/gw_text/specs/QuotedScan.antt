-- A quoted text as it is scanned (own): that this finds those of `Quoted` is what `Cursor::quoted` promises.
use Rattle.std.specs.Prelude.{◌==◌, ℕ, ◌+◌, if◌then◌else◌, List, [], ◌∷◌, take, drop, Option, Some, None, Result, Ok, Err}
use Rattle.gw_text.specs.Lexical.{quote_mark}
use Rattle.gw_text.specs.Runs.{begins, is_byte, run_len}
use Rattle.gw_text.specs.Quoted.{is_quotable}
use Rattle.gw_text.specs.Scans.{Scan}
use Rattle.gw_text.specs.declared.fault.ScanFault.{ScanFault}
use Rattle.gw_text.specs.declared.fault.ScanFault.TheVariants.{Unexpected}

-- the length of the quoted text behind its first quote, of which inner bytes may stand between the quotes
abbrev pub quoted_end : ℕ → List ℕ → Option ℕ
quoted_end inner rest = if begins (is_byte quote_mark) rest then Some (inner + 2) else None

abbrev pub quoted_from : List ℕ → Option ℕ
quoted_from [] = None
quoted_from (b ∷ bs) = if b == quote_mark then quoted_end (run_len is_quotable bs) (drop (run_len is_quotable bs) bs) else None

-- the length of the quoted text at the front
unfoldable pub quoted_len : List ℕ → Option ℕ
quoted_len text = quoted_from text

abbrev pub span_found : List ℕ → Option ℕ → Result (List ℕ × List ℕ) ScanFault
span_found text None = Err Unexpected
span_found text (Some len) = Ok (take len text, drop len text)

unfoldable pub quoted_at : Scan (List ℕ)
quoted_at text = span_found text (quoted_len text)
