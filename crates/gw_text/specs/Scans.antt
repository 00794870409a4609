-- What each scan takes from the front of a text, or why it takes nothing (own): the forms themselves stand in `Forms`.
use Rattle.std.specs.Prelude.{◌≡◌, ℕ, ◌||◌, nat_lt, ◌==◌, if◌then◌else◌, List, take, drop, Result, Ok, Err}
use Rattle.std.specs.Str.Parse.{digits_value}
use Rattle.gw_base.specs.Bytes.{is_digit}
use Rattle.gw_text.specs.Lexical.{is_safe, is_solid}
use Rattle.gw_text.specs.SpaceScan.{space_len}
use Rattle.gw_text.specs.Runs.{run_len}
use Rattle.gw_text.specs.declared.fault.ScanFault.{ScanFault}
use Rattle.gw_text.specs.declared.fault.ScanFault.TheVariants.{Unexpected, Overflow}

-- a value, and what is left of the text
abbrev pub Scan : Type 0 → Type 0
Scan V = List ℕ → Result (V × List ℕ) ScanFault

-- the greatest UINT32
abbrev pub uint32_max : ℕ
uint32_max = 4294967295

-- the most digits of a UINT32
abbrev pub uint32_digits : ℕ
uint32_digits = 10

abbrev pub lwsp_at : List ℕ → List ℕ × List ℕ
lwsp_at text = (take (space_len text) text, drop (space_len text) text)

-- a span of len bytes, where there are any
abbrev pub some_at : ℕ → Scan (List ℕ)
some_at len text = if len == 0 then Err Unexpected else Ok (take len text, drop len text)

unfoldable pub sep_at : Scan (List ℕ)
sep_at text = some_at (space_len text) text

unfoldable pub word_at : Scan (List ℕ)
word_at text = some_at (run_len is_safe text) text

unfoldable pub solid_at : Scan (List ℕ)
solid_at text = some_at (run_len is_solid text) text

abbrev pub digits_at : List ℕ → List ℕ
digits_at text = take (run_len is_digit text) text

-- a number of at most so many digits, and at most max
unfoldable pub number_within : (most max : ℕ) → Scan ℕ
number_within most max text =
    if run_len is_digit text == 0 then Err Unexpected
    else if nat_lt most (run_len is_digit text) || nat_lt max (digits_value 10 (digits_at text)) then Err Overflow
    else Ok (digits_value 10 (digits_at text), drop (run_len is_digit text) text)

abbrev pub uint32_at : Scan ℕ
uint32_at = number_within uint32_digits uint32_max

-- What a scan answered, seen by view, is what is at the cursor. A fault leaves the cursor where it was.
abbrev pub Takes : {X V : Type 0} → (X → V) → List ℕ → Result X ScanFault → List ℕ → Result (V × List ℕ) ScanFault → Type 0
Takes view old (Ok x) new at = at ≡ Ok (view x, new)
Takes view old (Err e) new at = (at ≡ Err e) × (new ≡ old)
