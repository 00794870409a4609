-- The last so many of a list, and the item at a place.
use Rattle.std.proofs.lemmas.Grind.{common_steps}
use Rattle.std.proofs.Common.{◌≡◌, ℕ, ◌-◌, ◌≤◌, nat_lt, Bool, cond, List, [], ◌∷◌, ◌++◌, map, length, Some, None, ◌∙◌, length-drop, arith}
use Rattle.std.proofs.lemmas.List.{drop-map}
use Rattle.std.proofs.lemmas.Option.{slice_get_within}
use Rattle.std.specs.List.{slice_get}
use Rattle.circular_buffer.proofs.Places.{slice_get-append_left, slice_get-append_right}
use Rattle.circular_buffer.specs.Buffer.{keep_last}
use Rattle.gw_kept.specs.declared.entry.Entry.{Entry}
use Rattle.gw_kept.specs.Pairs.{key_of}

pub few_last : (m : ℕ) (xs : List Entry) → length (keep_last m xs) ≤ m
few_last m xs = omega (arith, length-drop (length xs - m) xs)

-- the keys of the last so many
pub keys_last : (m : ℕ) (es : List Entry) (e : Entry) → keep_last m (map key_of es ++ key_of e ∷ []) ≡ map key_of (keep_last m (es ++ e ∷ []))
keys_last m es e = grind (arith, common_steps, drop-map)

-- ---- the item at a place

pub stays_there : (xs ys : List Entry) (i : ℕ) (e : Entry) → slice_get xs i ≡ Some e → slice_get (xs ++ ys) i ≡ Some e
stays_there xs ys i e at = slice_get-append_left xs ys i (slice_get_within xs i e at) ∙ at

pub next_there : (xs ys : List Entry) (e : Entry) → slice_get (xs ++ e ∷ ys) (length xs) ≡ Some e
next_there xs ys e = slice_get-append_right xs (e ∷ ys) (length xs) 0 (omega arith)

-- ---- one more, where there is room

-- where one less was left, one more is kept
pub last_kept : (most : ℕ) (es : List Entry) (e : Entry) → 1 ≤ most → keep_last (most - 1) es ++ e ∷ [] ≡ keep_last most (es ++ e ∷ [])
last_kept most es e some = grind (arith, common_steps)

-- the one that is dropped then
pub last_dropped : (t : Bool) (most : ℕ) (es : List Entry) (e : Entry) → nat_lt (length es) most ≡ t → 1 ≤ most → cond t None (slice_get es 0) ≡ cond t None (slice_get (es ++ e ∷ []) 0)
last_dropped t most es e is some = grind (arith, slice_get-append_left)
