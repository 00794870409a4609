-- A line with a text put in the place of a field, and a text with its lines filled, from one part to the next.
use Rattle.std.proofs.Common.{◌≡◌, ℕ, zero, suc, true, false, ◌==◌, ◌&&◌, ◌||◌, if◌then◌else◌, List, [], ◌∷◌, ◌++◌, codes, bytes_eq, refl, append_assoc, arith}
use Rattle.std.proofs.lemmas.Bool.Decides.{nat_tests}
use Rattle.std.specs.List.{list_any}
use Rattle.gw_base.specs.Bytes.{is_one_of}
use Rattle.gw_desc.specs.Fill.{line_ends, field_ends, has_choose, put, filled_line, is_fillable_line, filled_text, is_fillable}
use Rattle.gw_desc.proofs.Fills.{parts_next, ends_next, parts_last, ends_last, laid_again}

-- ---- fields

pub put_later : (place n : ℕ) (new line field back : List ℕ) (end : ℕ) → place ≡ suc n → line ≡ field ++ end ∷ back → list_any (is_one_of field_ends) field ≡ false → is_one_of field_ends end ≡ true
    → (put place new line ≡ (field ++ end ∷ []) ++ put n new back) × (has_choose place line ≡ has_choose n back)
unfolding put has_choose
put_later place n new line field back end later split none ends = grind (arith, ends_next, parts_next, append_assoc)

pub put_first : (new line field back : List ℕ) (end : ℕ) → line ≡ field ++ end ∷ back → list_any (is_one_of field_ends) field ≡ false → is_one_of field_ends end ≡ true
    → (put 0 new line ≡ (if bytes_eq field (codes "$") then new else field) ++ end ∷ back) × (has_choose 0 line ≡ bytes_eq field (codes "$"))
unfolding put has_choose
put_first new line field back end split none ends = grind (arith, ends_next, laid_again, parts_next)

pub put_last : (new line : List ℕ) → list_any (is_one_of field_ends) line ≡ false
    → (put 0 new line ≡ (if bytes_eq line (codes "$") then new else line)) × (has_choose 0 line ≡ bytes_eq line (codes "$"))
unfolding put has_choose
put_last new line none = rw (parts_last (is_one_of field_ends) line none, ends_last (is_one_of field_ends) line none) (refl, refl)

pub put_past : (place n : ℕ) (new line : List ℕ) → place ≡ suc n → list_any (is_one_of field_ends) line ≡ false → (put place new line ≡ line) × (has_choose place line ≡ false)
unfolding put has_choose
put_past place n new line later none = rw (later, parts_last (is_one_of field_ends) line none) (refl, refl)

is_behind : (place n : ℕ) → place ≡ suc n → (place == 0) ≡ false
is_behind place n later = grind (arith, nat_tests)

-- a line of one field
pub put_only : (place : ℕ) (new line : List ℕ) → list_any (is_one_of field_ends) line ≡ false
    → (put place new line ≡ (if place == 0 && bytes_eq line (codes "$") then new else line)) × (has_choose place line ≡ (place == 0 && bytes_eq line (codes "$")))
put_only zero new line none = put_last new line none
put_only (suc n) new line none = rw (is_behind (suc n) n refl) (put_past (suc n) n new line refl none)

-- ---- lines

pub lines_next : (address port text line back : List ℕ) (end : ℕ) → text ≡ line ++ end ∷ back → list_any (is_one_of line_ends) line ≡ false → is_one_of line_ends end ≡ true
    → (filled_text address port text ≡ (filled_line address port line ++ end ∷ []) ++ filled_text address port back) × (is_fillable text ≡ (is_fillable_line line || is_fillable back))
unfolding filled_text is_fillable
lines_next address port text line back end split none ends = grind (arith, append_assoc, ends_next, parts_next)

pub lines_last : (address port line : List ℕ) → list_any (is_one_of line_ends) line ≡ false
    → (filled_text address port line ≡ filled_line address port line) × (is_fillable line ≡ is_fillable_line line)
unfolding filled_text is_fillable
lines_last address port line none = grind (arith, ends_last, parts_last)
