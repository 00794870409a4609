-- Octets as they are scanned, byte by byte (own): that this finds those of `Octets` is what `Cursor::octets` promises.
use Rattle.std.specs.Prelude.{◌==◌, ℕ, zero, suc, ◌+◌, Bool, false, not, ◌||◌, ◌&&◌, if◌then◌else◌, List, [], ◌∷◌, take, drop, Option, Some, None, Result, Ok, Err}
use Rattle.gw_text.specs.Lexical.{nul, backslash, right_brace, is_blank}
use Rattle.gw_text.specs.Runs.{run_len}
use Rattle.gw_text.specs.Scans.{Scan}
use Rattle.gw_text.specs.declared.fault.ScanFault.{ScanFault}
use Rattle.gw_text.specs.declared.fault.ScanFault.TheVariants.{Unexpected}

-- where octets end, and where what is kept of them ends; escaped: behind a `\`
abbrev pub octets_from : (escaped : Bool) (passed keep : ℕ) → List ℕ → Option (ℕ × ℕ)
octets_from escaped passed keep [] = None
octets_from escaped passed keep (b ∷ bs) =
    if b == nul then None
    else if not escaped && b == right_brace then Some (passed, keep)
    else octets_from (b == backslash) (passed + 1) (if escaped || not (is_blank b) then passed + 1 else keep) bs

unfoldable pub octets_ends : List ℕ → Option (ℕ × ℕ)
octets_ends text = octets_from false 0 0 text

-- a byte that ends no octets and escapes nothing
abbrev pub is_plain : ℕ → Bool
is_plain b = not (b == right_brace || b == backslash || b == nul)

-- the same with a byte in front
abbrev pub end_behind : ℕ → ℕ → ℕ
end_behind b zero = if is_blank b then 0 else 1
end_behind b (suc end) = suc (suc end)

-- the length of the text without the white space at its end
abbrev pub solid_end : List ℕ → ℕ
solid_end [] = 0
solid_end (b ∷ bs) = end_behind b (solid_end bs)

-- without white space at the front
abbrev pub trimmed : List ℕ → List ℕ
trimmed text = drop (run_len is_blank text) text

abbrev pub octets_found : List ℕ → Option (ℕ × ℕ) → Result (List ℕ × List ℕ) ScanFault
octets_found text None = Err Unexpected
octets_found text (Some ends) = Ok (trimmed (take ends.1 text), drop ends.0 text)

-- what is kept, and the `}` with what is behind it
unfoldable pub octets_at : Scan (List ℕ)
octets_at text = octets_found text (octets_ends text)
