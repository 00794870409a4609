-- Brackets and runs as they are scanned, piece by piece (own): that this finds those of `Bracket` is what
-- `Cursor::bracket` and `Cursor::run` promise.
use Rattle.std.specs.Prelude.{◌≡◌, ◌==◌, ℕ, zero, suc, ◌-◌, if◌then◌else◌, List, [], ◌∷◌, length, take, drop, Option, Some, None, Result, Ok, Err}
use Rattle.gw_text.specs.Lexical.{quote_mark, left_bracket, right_bracket}
use Rattle.gw_text.specs.Runs.{begins, is_byte, run_len}
use Rattle.gw_text.specs.SpaceScan.{space_len}
use Rattle.gw_text.specs.QuotedScan.{quoted_len}
use Rattle.gw_text.specs.Bracket.{is_run_byte, is_bracket_byte}
use Rattle.gw_text.specs.Scans.{Scan, some_at}
use Rattle.gw_text.specs.declared.fault.ScanFault.{ScanFault}
use Rattle.gw_text.specs.declared.fault.ScanFault.TheVariants.{Unexpected}

-- a run
unfoldable pub run_at : Scan (List ℕ)
run_at text = some_at (run_len is_run_byte text) text

-- a length, where it is not 0
abbrev pub some_len : ℕ → Option ℕ
some_len len = if len == 0 then None else Some len

-- the length of the piece at the front
abbrev pub piece_len : List ℕ → Option ℕ
piece_len [] = None
piece_len (b ∷ bs) =
    if is_bracket_byte b then Some 1
    else if b == quote_mark then quoted_len (b ∷ bs)
    else some_len (space_len (b ∷ bs))

abbrev pub over : (List ℕ → Option (List ℕ)) → List ℕ → Option ℕ → Option (List ℕ)
over more text None = None
over more text (Some len) = more (drop len text)

-- over the next piece, unless the bracket that closes comes next
abbrev pub bracket_step : (List ℕ → Option (List ℕ)) → List ℕ → Option (List ℕ)
bracket_step more text = if begins (is_byte right_bracket) text then Some (drop 1 text) else over more text (piece_len text)

-- what is left behind the closing bracket, in fewer pieces than fuel
unfoldable pub bracket_from : ℕ → List ℕ → Option (List ℕ)
bracket_from zero text = None
bracket_from (suc fuel) text = bracket_step (bracket_from fuel) text

-- each is a byte at least, so the text has fewer than this
abbrev pub bracket_rest : List ℕ → Option (List ℕ)
bracket_rest text = bracket_from (suc (length text)) text

abbrev pub span_before : List ℕ → Option (List ℕ) → Result (List ℕ × List ℕ) ScanFault
span_before text None = Err Unexpected
span_before text (Some rest) = Ok (take (length text - length rest) text, rest)

-- behind the first bracket, where no other closes it at once
abbrev pub inner_rest : List ℕ → Option (List ℕ)
inner_rest text = if begins (is_byte right_bracket) text then None else bracket_rest text

abbrev pub bracket_from_first : ℕ → List ℕ → Option (List ℕ)
bracket_from_first b bs = if b == left_bracket then inner_rest bs else None

abbrev pub bracket_ends : List ℕ → Option (List ℕ)
bracket_ends [] = None
bracket_ends (b ∷ bs) = bracket_from_first b bs

unfoldable pub bracket_at : Scan (List ℕ)
bracket_at text = span_before text (bracket_ends text)

-- what a function answered, seen by view, is what is left
abbrev pub IsLeft : {X : Type 0} → (X → List ℕ) → Option X → Option (List ℕ) → Type 0
IsLeft view (Some rest) left = left ≡ Some (view rest)
IsLeft view None left = left ≡ None

-- what a function answered is the length of the span at the front
abbrev pub IsSpanLen : List ℕ → Option ℕ → Result (List ℕ × List ℕ) ScanFault → Type 0
IsSpanLen text (Some len) at = at ≡ Ok (take len text, drop len text)
IsSpanLen text None at = at ≡ Err Unexpected
