-- Groups as they are scanned, piece by piece (own): that this finds the groups of `Group` is what `Cursor::balanced`
-- promises.
use Rattle.std.specs.Prelude.{◌==◌, ◌≤◌, nat_le, ◌+◌, ◌-◌, ℕ, zero, suc, if◌then◌else◌, ◌≡◌, List, [], ◌∷◌, length, take, drop, Option, Some, None, Result, Ok, Err}
use Rattle.gw_text.specs.Lexical.{nul, quote_mark, left_brace, right_brace, is_safe, is_solid}
use Rattle.gw_text.specs.Runs.{run_len}
use Rattle.gw_text.specs.SpaceScan.{space_len}
use Rattle.gw_text.specs.QuotedScan.{quoted_len}
use Rattle.gw_text.specs.OctetsScan.{octets_ends}
use Rattle.gw_text.specs.Scans.{Scan}
use Rattle.gw_text.specs.Group.{after_word, after_mark}
use Rattle.gw_text.specs.declared.group.Before.{Before}
use Rattle.gw_text.specs.declared.group.Before.TheVariants.{Equals, OctetsWord, Other}
use Rattle.gw_text.specs.declared.group.Place.{Place}
use Rattle.gw_text.specs.declared.fault.ScanFault.{ScanFault}
use Rattle.gw_text.specs.declared.fault.ScanFault.TheVariants.{Unexpected, TooDeep}

-- where a scan goes on, and how many bytes it passed
abbrev pub ScanStep : Type 0
ScanStep = Result (Place × ℕ) ScanFault

abbrev pub place : ℕ → Before → Place
place depth before = record { depth = depth; before = before }

abbrev pub passed : Place → Option ℕ → ScanStep
passed at None = Err Unexpected
passed at (Some len) = Ok (at, len)

abbrev pub octets_passed : ℕ → Option (ℕ × ℕ) → ScanStep
octets_passed depth None = Err Unexpected
octets_passed depth (Some ends) = Ok (place depth Other, ends.0 + 2)

-- at a `{`, of which inner stands behind
abbrev pub brace_at : ℕ → Before → List ℕ → ScanStep
brace_at depth OctetsWord inner = octets_passed depth (octets_ends inner)
brace_at depth Equals inner = Ok (place (depth + 1) Other, 1)
brace_at depth Other inner = Ok (place (depth + 1) Other, 1)

abbrev pub opened : ℕ → Place → List ℕ → ScanStep
opened limit at inner = if nat_le limit at.depth then Err TooDeep else brace_at at.depth at.before inner

abbrev pub spaced : Place → ℕ → ScanStep
spaced at len = if len == 0 then Err Unexpected else Ok (at, len)

abbrev pub after_sign : Place → ℕ → ScanStep
after_sign at b = if b == nul then Err Unexpected else Ok (place at.depth (after_mark b), 1)

-- at the first byte of a piece
abbrev pub piece_at : ℕ → Place → ℕ → List ℕ → ScanStep
piece_at limit at b bs =
    if b == left_brace then opened limit at bs
    else if b == right_brace then Ok (place (at.depth - 1) Other, 1)
    else if b == quote_mark then passed (place at.depth Other) (quoted_len (b ∷ bs))
    else if is_safe b then Ok (place at.depth (after_word at.before (take (run_len is_safe (b ∷ bs)) (b ∷ bs))), run_len is_safe (b ∷ bs))
    else if is_solid b then after_sign at b
    else spaced at (space_len (b ∷ bs))

-- over the next piece
unfoldable pub step_at : ℕ → Place → List ℕ → ScanStep
step_at limit at [] = Err Unexpected
step_at limit at (b ∷ bs) = piece_at limit at b bs

-- on behind a piece, unless all groups are closed
abbrev pub go_on : (Place → List ℕ → Result (List ℕ) ScanFault) → List ℕ → ScanStep → Result (List ℕ) ScanFault
go_on more text (Err e) = Err e
go_on more text (Ok next) = if next.0.depth == 0 then Ok (drop next.1 text) else more next.0 (drop next.1 text)

-- what is left behind the groups that are open, in fewer steps than fuel
unfoldable pub group_from : (fuel limit : ℕ) → Place → List ℕ → Result (List ℕ) ScanFault
group_from zero limit at text = Err Unexpected
group_from (suc fuel) limit at text = go_on (group_from fuel limit) text (step_at limit at text)

-- each step passes a byte at least, so the text has fewer than this
abbrev pub group_rest : ℕ → Place → List ℕ → Result (List ℕ) ScanFault
group_rest limit at text = group_from (suc (length text)) limit at text

abbrev pub group_found : List ℕ → Result (List ℕ) ScanFault → Result (List ℕ × List ℕ) ScanFault
group_found text (Err e) = Err e
group_found text (Ok rest) = Ok (take (length text - length rest) text, rest)

-- a group at most so deep
abbrev pub group_at : ℕ → ℕ → List ℕ → Result (List ℕ × List ℕ) ScanFault
group_at depth b bs =
    if b == left_brace then (if depth == 0 then Err TooDeep else group_found (b ∷ bs) (group_rest depth (place 1 Other) bs)) else Err Unexpected

unfoldable pub balanced_at : ℕ → Scan (List ℕ)
balanced_at depth [] = Err Unexpected
balanced_at depth (b ∷ bs) = group_at depth b bs

-- what a function answered, seen by view, is what is left
abbrev pub IsRest : {X : Type 0} → (X → List ℕ) → Result X ScanFault → Result (List ℕ) ScanFault → Type 0
IsRest view (Ok rest) left = left ≡ Ok (view rest)
IsRest view (Err e) left = left ≡ Err e

-- what a function answered is the length of what is at the front
abbrev pub IsLen : List ℕ → Result ℕ ScanFault → Result (List ℕ × List ℕ) ScanFault → Type 0
IsLen text (Ok len) at = (at ≡ Ok (take len text, drop len text)) × (len ≤ length text)
IsLen text (Err e) at = at ≡ Err e
