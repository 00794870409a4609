-- White space as it is scanned (own), byte by byte, with one flag: whether a comment was begun. That this is the
-- longest LWSP is what `Cursor::lwsp` promises.
use Rattle.std.specs.Prelude.{ℕ, ◌+◌, Bool, true, false, ◌==◌, if◌then◌else◌, List, [], ◌∷◌, drop, Option, Some, None}
use Rattle.gw_text.specs.Lexical.{nul, semicolon, is_blank, is_eol, is_comment_byte}
use Rattle.gw_text.specs.Runs.{begins, run_len}

-- The length of the longest white space at the front of a text, of which passed bytes lie behind, and best is the
-- length of the longest found there.
abbrev pub space_len_from : (inside : Bool) (passed best : ℕ) → List ℕ → ℕ
space_len_from inside passed best [] = best
space_len_from false passed best (b ∷ bs) =
    if is_blank b then space_len_from false (passed + 1) (passed + 1) bs
    else if b == semicolon then space_len_from true (passed + 1) best bs else best
space_len_from true passed best (b ∷ bs) =
    if is_eol b then space_len_from false (passed + 1) (passed + 1) bs
    else if b == nul then best else space_len_from true (passed + 1) best bs

unfoldable pub space_len : List ℕ → ℕ
space_len text = space_len_from false 0 0 text

-- the text without the white space at its front
unfoldable pub skip : List ℕ → List ℕ
skip text = drop (space_len text) text

-- the length of a comment of which the `;` and so many bytes were passed, where the end of its line comes next
abbrev pub ended_len : ℕ → List ℕ → Option ℕ
ended_len passed rest = if begins is_eol rest then Some (passed + 2) else None

-- the length of the comment at the front, the end of its line included, if one stands there
abbrev pub comment_len : List ℕ → Option ℕ
comment_len [] = None
comment_len (b ∷ bs) = if b == semicolon then ended_len (run_len is_comment_byte bs) (drop (run_len is_comment_byte bs) bs) else None
