-- A text is filled in runs: what stays as it is goes over with what stands before it, as far as the next `$`.
use Rattle.std.proofs.lemmas.Grind.{common_steps}
use Rattle.std.proofs.Common.{◌≡◌, ℕ, suc, ◌+◌, ◌-◌, ◌<◌, ◌≤◌, zero, Bool, true, false, ◌==◌, ◌||◌, List, [], ◌∷◌, ◌++◌, length, take, drop, get_or, Option, None, Some, IfNone, IfSome, if◌then◌else◌, ◌&&◌, bytes_eq, codes, append-nil, subst, refl, ap, sym, ◌∙◌, append_assoc, arith}
use Rattle.std.specs.List.{list_any}
use Rattle.std.proofs.lemmas.Bool.{and_parts}
use Rattle.std.proofs.lemmas.Slice.Eq.{bytes_eq-Decides}
use Rattle.std.proofs.Math.Seq.{take-add, take-append-add, drop-append-add}
use Rattle.std.proofs.lemmas.List.{take-append-drop, take-append-le, drop-append-le, drop-drop, take_at, drop_at, at_drop_more, length-take, length-drop, length-append}
use Rattle.memchr.specs.Find.{IsFirstByte, is_byte2}
use Rattle.gw_base.specs.Bytes.{is_one_of}
use Rattle.gw_desc.specs.Fill.{line_ends, field_ends, has_choose, put, is_connection, is_media_line, filled_line, is_fillable_line, filled_text, is_fillable, IsChoiceAt, IsFilledAt}
use Rattle.gw_desc.proofs.FillLines.{lines_next, lines_last, put_only, put_first, put_later}

-- the first line, its end, and what is behind it
pub in_parts : (d : List ℕ) (len : ℕ) → len < length d → d ≡ take len d ++ get_or d len 0 ∷ drop (len + 1) d
in_parts d len lt = sym (take-append-drop len d) ∙ ap (λ (x : List ℕ). take len d ++ x) (at_drop_more (λ (x : List ℕ). x) d len 0 lt)

line_long : (d : List ℕ) (len : ℕ) → len < length d → length (take len d) ≡ len
line_long d len lt = omega (arith, length-take len d)

-- pieces in a row
in_a_row : (a b c n d e f : List ℕ) → (a ++ ((b ++ c) ++ n)) ++ ((d ++ e) ++ f) ≡ a ++ (b ++ (((c ++ (n ++ d)) ++ e) ++ f))
in_a_row a b c n d e f = grind (arith, append_assoc)

-- ---- a line that stays as it is

pub line_stays : (address port rest : List ℕ) (same len : ℕ) → len < length (drop same rest)
    → list_any (is_one_of line_ends) (take len (drop same rest)) ≡ false → is_one_of line_ends (get_or (drop same rest) len 0) ≡ true
    → filled_line address port (take len (drop same rest)) ≡ take len (drop same rest)
    → take (same + (len + 1)) rest ++ filled_text address port (drop (same + (len + 1)) rest) ≡ take same rest ++ filled_text address port (drop same rest)
line_stays address port rest same len lt none ends stays = grind (arith, common_steps, lines_next, take-add)

pub stays_told : (address port rest : List ℕ) (same len : ℕ) → len < length (drop same rest)
    → list_any (is_one_of line_ends) (take len (drop same rest)) ≡ false → is_one_of line_ends (get_or (drop same rest) len 0) ≡ true
    → is_fillable (drop same rest) ≡ (is_fillable_line (take len (drop same rest)) || is_fillable (drop (same + (len + 1)) rest))
stays_told address port rest same len lt none ends =
    let d = drop same rest in
    (lines_next address port d (take len d) (drop (len + 1) d) (get_or d len 0) (in_parts d len lt) none ends).1
    ∙ ap (λ (x : List ℕ). is_fillable_line (take len d) || is_fillable x) (drop-drop (len + 1) same rest)

-- ---- a line in which a `$` is filled

-- what is left behind the `$`: the rest of its line, the end of that, and what is behind it
left_behind : (d : List ℕ) (len at : ℕ) → len < length d → at < len → drop (at + 1) d ≡ (drop (at + 1) (take len d) ++ get_or d len 0 ∷ []) ++ drop (len + 1) d
left_behind d len at lt below =
    let line = take len d in
    let back = drop (len + 1) d in
    let e = get_or d len 0 in
    ap (λ (x : List ℕ). drop (at + 1) x) (in_parts d len lt)
    ∙ drop-append-le (at + 1) line (e ∷ back) (omega (arith, line_long d len lt))
    ∙ sym (append_assoc (drop (at + 1) line) (e ∷ []) back)

one_up : (n : ℕ) → suc n ≡ n + 1
one_up n = omega arith

plus_one : (m n : ℕ) → m + n + 1 ≡ m + (n + 1)
plus_one m n = omega arith

tail_long : (d : List ℕ) (len at e : ℕ) → len < length d → at < len → length (drop (at + 1) (take len d) ++ e ∷ []) ≡ len - at
tail_long d len at e lt below = omega (arith, length-append (drop (at + 1) (take len d)) (e ∷ []), length-drop (at + 1) (take len d), line_long d len lt)

pub line_filled : (address port new out rest : List ℕ) (same len at : ℕ) → len < length (drop same rest) → at < len
    → list_any (is_one_of line_ends) (take len (drop same rest)) ≡ false → is_one_of line_ends (get_or (drop same rest) len 0) ≡ true
    → filled_line address port (take len (drop same rest)) ≡ take at (take len (drop same rest)) ++ (new ++ drop (suc at) (take len (drop same rest)))
    → (out ++ (take (same + at) rest ++ new)) ++ (take (len - at) (drop (same + at + 1) rest) ++ filled_text address port (drop (len - at) (drop (same + at + 1) rest))) ≡ out ++ (take same rest ++ filled_text address port (drop same rest))
line_filled address port new out rest same len at lt below none ends is =
    let d = drop same rest in
    let line = take len d in
    let e = get_or d len 0 in
    let back = drop (len + 1) d in
    let tail = drop (at + 1) line in
    let next = (lines_next address port d line back e (in_parts d len lt) none ends).0 in
    let front : take (same + at) rest ≡ take same rest ++ take at line =
    take-add same at rest ∙ ap (λ (x : List ℕ). take same rest ++ x) (ap (λ (x : List ℕ). take at x) (in_parts d len lt) ∙ take-append-le at line (e ∷ back) (omega (arith, line_long d len lt))) in
    let left : drop (same + at + 1) rest ≡ (tail ++ e ∷ []) ++ back = ap (λ (n : ℕ). drop n rest) (plus_one same at) ∙ sym (drop-drop (at + 1) same rest) ∙ left_behind d len at lt below in
    let first : take (len - at) (drop (same + at + 1) rest) ≡ tail ++ e ∷ [] = ap (λ (x : List ℕ). take (len - at) x) left ∙ take_at (tail ++ e ∷ []) back (len - at) (tail_long d len at e lt below) in
    let later : drop (len - at) (drop (same + at + 1) rest) ≡ back = ap (λ (x : List ℕ). drop (len - at) x) left ∙ drop_at (tail ++ e ∷ []) back (len - at) (tail_long d len at e lt below) in
    let filled : filled_line address port line ≡ take at line ++ (new ++ tail) = is ∙ ap (λ (n : ℕ). take at line ++ (new ++ drop n line)) (one_up at) in
    ap (λ (x : List ℕ). (out ++ (x ++ new)) ++ (take (len - at) (drop (same + at + 1) rest) ++ filled_text address port (drop (len - at) (drop (same + at + 1) rest)))) front
    ∙ ap (λ (x : List ℕ). (out ++ ((take same rest ++ take at line) ++ new)) ++ (x ++ filled_text address port (drop (len - at) (drop (same + at + 1) rest)))) first
    ∙ ap (λ (x : List ℕ). (out ++ ((take same rest ++ take at line) ++ new)) ++ ((tail ++ e ∷ []) ++ filled_text address port x)) later
    ∙ in_a_row out (take same rest) (take at line) new tail (e ∷ []) (filled_text address port back)
    ∙ ap (λ (x : List ℕ). out ++ (take same rest ++ ((x ++ e ∷ []) ++ filled_text address port back))) (sym filled)
    ∙ ap (λ (x : List ℕ). out ++ (take same rest ++ x)) (sym next)

-- ---- the last line

pub last_stays : (address port rest : List ℕ) (same : ℕ) → list_any (is_one_of line_ends) (drop same rest) ≡ false → filled_line address port (drop same rest) ≡ drop same rest
    → take same rest ++ filled_text address port (drop same rest) ≡ rest
last_stays address port rest same none stays = grind (arith, lines_last, take-append-drop)

pub last_filled : (address port new out rest : List ℕ) (same at : ℕ) → at < length (drop same rest) → list_any (is_one_of line_ends) (drop same rest) ≡ false
    → filled_line address port (drop same rest) ≡ take at (drop same rest) ++ (new ++ drop (suc at) (drop same rest))
    → (out ++ (take (same + at) rest ++ new)) ++ drop (same + at + 1) rest ≡ out ++ (take same rest ++ filled_text address port (drop same rest))
last_filled address port new out rest same at below none is =
    let d = drop same rest in
    let left : drop (same + at + 1) rest ≡ drop (suc at) d = ap (λ (n : ℕ). drop n rest) (plus_one same at) ∙ sym (drop-drop (at + 1) same rest) ∙ ap (λ (n : ℕ). drop n d) (sym (one_up at)) in
    append_assoc out (take (same + at) rest ++ new) (drop (same + at + 1) rest)
    ∙ ap (λ (x : List ℕ). out ++ x) (
    append_assoc (take (same + at) rest) new (drop (same + at + 1) rest)
    ∙ ap (λ (x : List ℕ). x ++ (new ++ drop (same + at + 1) rest)) (take-add same at rest)
    ∙ append_assoc (take same rest) (take at d) (new ++ drop (same + at + 1) rest)
    ∙ ap (λ (x : List ℕ). take same rest ++ (take at d ++ (new ++ x))) left
    ∙ ap (λ (x : List ℕ). take same rest ++ x) (sym is ∙ sym (lines_last address port d none).0))

pub last_told : (address port line : List ℕ) → list_any (is_one_of line_ends) line ≡ false → is_fillable line ≡ is_fillable_line line
last_told address port line none = (lines_last address port line none).1

-- ---- where a line ends

other_byte : (b : ℕ) → ((b == 13 || b == 10) ≡ true → ⊥) → is_one_of line_ends b ≡ false
other_byte b never = grind arith

-- the first end of a line, as a search of bytes tells it
abbrev pub IsEnd : List ℕ → Option ℕ → Type 0
IsEnd text r = IsFirstByte (is_byte2 13 10) text r

pub none_below : (text : List ℕ) (n : ℕ) → n ≤ length text → ((k : ℕ) → k < n → (get_or text k 0 == 13 || get_or text k 0 == 10) ≡ true → ⊥) → list_any (is_one_of line_ends) (take n text) ≡ false
none_below text zero within none = refl
none_below [] (suc n) within none = refl
none_below (b ∷ bs) (suc n) within none =
    let here : is_one_of line_ends b ≡ false = other_byte b (none 0 (omega arith)) in
    let more : list_any (is_one_of line_ends) (take n bs) ≡ false = none_below bs n (omega (arith, within)) (λ k lt. none (suc k) (omega (arith, lt))) in
    rw (here, more) refl

all_of : (text : List ℕ) → take (length text) text ≡ text
all_of text = grind (arith, common_steps)

pub no_end : (text : List ℕ) (r : Option ℕ) → IsEnd text r → IfNone r (list_any (is_one_of line_ends) text ≡ false)
no_end text None first = ap (λ (t : List ℕ). list_any (is_one_of line_ends) t) (sym (all_of text)) ∙ none_below text (length text) (omega arith) (λ k lt. first k (omega arith) lt)
no_end text (Some k) first = tt

pub clean_before : (text : List ℕ) (r : Option ℕ) → IsEnd text r → IfSome r (λ len. list_any (is_one_of line_ends) (take len text) ≡ false)
clean_before text r first = grind (arith, none_below)

-- ---- a `$` in a line

is_choose : (field : List ℕ) → bytes_eq field (codes "$") ≡ true → field ≡ codes "$"
is_choose field same = (bytes_eq-Decides field (codes "$")).0 same

pub only_choice : (place : ℕ) (line : List ℕ) (t : Bool) → list_any (is_one_of field_ends) line ≡ false → t ≡ (place == 0 && bytes_eq line (codes "$")) → t ≡ true → IsChoiceAt place 0 line
only_choice place line t none said found =
    let both = and_parts (place == 0) (bytes_eq line (codes "$")) (sym said ∙ found) in
    let is = is_choose line both.1 in (
      (put_only place [] line none).1 ∙ sym said ∙ found,
      λ new. (
        subst (λ (l : List ℕ). 0 < length l) (sym is) (omega arith),
        (put_only place new line none).0 ∙ ap (λ (b : Bool). if b then new else line) (sym said ∙ found) ∙ sym (ap (λ (l : List ℕ). new ++ drop 1 l) is ∙ append-nil new),
      ),
    )

pub only_other : (place : ℕ) (line : List ℕ) (t : Bool) → list_any (is_one_of field_ends) line ≡ false → t ≡ (place == 0 && bytes_eq line (codes "$")) → t ≡ false → has_choose place line ≡ false
only_other place line t none said other = (put_only place [] line none).1 ∙ sym said ∙ other

pub first_choice : (place : ℕ) (line field back : List ℕ) (end : ℕ) (t : Bool) → place ≡ 0 → line ≡ field ++ end ∷ back → list_any (is_one_of field_ends) field ≡ false → is_one_of field_ends end ≡ true
    → t ≡ (place == 0 && bytes_eq field (codes "$")) → t ≡ true → IsChoiceAt place 0 line
first_choice place line field back end t here split none ends said found =
    let same = (and_parts (place == 0) (bytes_eq field (codes "$")) (sym said ∙ found)).1 in
    let is : line ≡ codes "$" ++ end ∷ back = split ∙ ap (λ (l : List ℕ). l ++ end ∷ back) (is_choose field same) in (
      ap (λ (n : ℕ). has_choose n line) here ∙ (put_first [] line field back end split none ends).1 ∙ same,
      λ new. (
        subst (λ (l : List ℕ). 0 < length l) (sym is) (omega arith),
        ap (λ (n : ℕ). put n new line) here
            ∙ (put_first new line field back end split none ends).0
            ∙ ap (λ (b : Bool). (if b then new else field) ++ end ∷ back) same
            ∙ sym (ap (λ (l : List ℕ). new ++ drop 1 l) is),
      ),
    )

pub first_other : (place : ℕ) (line field back : List ℕ) (end : ℕ) (t : Bool) → place ≡ 0 → line ≡ field ++ end ∷ back → list_any (is_one_of field_ends) field ≡ false → is_one_of field_ends end ≡ true
    → t ≡ (place == 0 && bytes_eq field (codes "$")) → t ≡ false → has_choose place line ≡ false
first_other place line field back end t here split none ends said other =
    ap (λ (n : ℕ). has_choose n line) here
    ∙ (put_first [] line field back end split none ends).1
    ∙ ap (λ (n : ℕ). n == 0 && bytes_eq field (codes "$")) (sym here)
    ∙ sym said ∙ other

-- what stands behind a field and its end
onto : (field back new other : List ℕ) (end at : ℕ) → IsFilledAt at new back other → IsFilledAt (length field + 1 + at) new (field ++ end ∷ back) ((field ++ end ∷ []) ++ other)
onto field back new other end at is =
    let front = field ++ end ∷ [] in
    let long : length front ≡ length field + 1 = length-append field (end ∷ []) in
    let whole : field ++ end ∷ back ≡ front ++ back = sym (append_assoc field (end ∷ []) back) in
    let there : suc (length field + 1 + at) ≡ length front + suc at = omega (arith, long) in
    let taken : take (length field + 1 + at) (field ++ end ∷ back) ≡ front ++ take at back =
    ap (λ (l : List ℕ). take (length field + 1 + at) l) whole ∙ ap (λ (n : ℕ). take (n + at) (front ++ back)) (sym long) ∙ take-append-add front back at in
    let left : drop (suc (length field + 1 + at)) (field ++ end ∷ back) ≡ drop (suc at) back =
    ap (λ (l : List ℕ). drop (suc (length field + 1 + at)) l) whole ∙ ap (λ (n : ℕ). drop n (front ++ back)) there ∙ drop-append-add front back (suc at) in (
      subst (λ (l : List ℕ). length field + 1 + at < length l) (sym whole) (omega (arith, long, length-append front back, is.0)),
      ap (λ (l : List ℕ). front ++ l) is.1
          ∙ sym (append_assoc front (take at back) (new ++ drop (suc at) back))
          ∙ ap (λ (l : List ℕ). l ++ (new ++ drop (suc at) back)) (sym taken)
          ∙ ap (λ (l : List ℕ). take (length field + 1 + at) (field ++ end ∷ back) ++ (new ++ l)) (sym left),
    )

pub later_choice : (place n at : ℕ) (line field back : List ℕ) (end : ℕ) → place ≡ suc n → line ≡ field ++ end ∷ back → list_any (is_one_of field_ends) field ≡ false → is_one_of field_ends end ≡ true
    → IsChoiceAt n at back → IsChoiceAt place (length field + 1 + at) line
later_choice place n at line field back end later split none ends is = (
  (put_later place n [] line field back end later split none ends).1 ∙ is.0,
  λ new. subst (λ (l : List ℕ). IsFilledAt (length field + 1 + at) new line l) (sym (put_later place n new line field back end later split none ends).0)
      (subst (λ (l : List ℕ). IsFilledAt (length field + 1 + at) new l ((field ++ end ∷ []) ++ put n new back)) (sym split) (onto field back new (put n new back) end at (is.1 new))),
)

pub later_other : (place n : ℕ) (line field back : List ℕ) (end : ℕ) → place ≡ suc n → line ≡ field ++ end ∷ back → list_any (is_one_of field_ends) field ≡ false → is_one_of field_ends end ≡ true
    → has_choose n back ≡ false → has_choose place line ≡ false
later_other place n line field back end later split none ends other = (put_later place n [] line field back end later split none ends).1 ∙ other

-- ---- a line of each kind

pub at_connection : (address port line : List ℕ) (at : ℕ) → is_connection line ≡ true → IsChoiceAt 2 at line → IsFilledAt at address line (filled_line address port line)
unfolding filled_line
at_connection address port line at is choice = subst (λ (t : Bool). IsFilledAt at address line (if t then put 2 address line else if is_media_line line then put 1 port line else line)) (sym is) (choice.1 address)

pub at_media : (address port line : List ℕ) (at : ℕ) → is_connection line ≡ false → is_media_line line ≡ true → IsChoiceAt 1 at line → IsFilledAt at port line (filled_line address port line)
unfolding filled_line
at_media address port line at other is choice =
    subst (λ (t : Bool). IsFilledAt at port line (if t then put 2 address line else if is_media_line line then put 1 port line else line)) (sym other)
    (subst (λ (t : Bool). IsFilledAt at port line (if t then put 1 port line else line)) (sym is) (choice.1 port))

-- ---- whether there was one

pub told_past : (recognized line rest all d : Bool) → (recognized || d) ≡ all → d ≡ (line || rest) → false ≡ line → (recognized || rest) ≡ all
told_past recognized line rest all d before next none = ap (λ (t : Bool). recognized || (t || rest)) none ∙ ap (λ (t : Bool). recognized || t) (sym next) ∙ before

pub told_here : (recognized line rest all d : Bool) → (recognized || d) ≡ all → d ≡ (line || rest) → true ≡ line → true ≡ all
told_here recognized line rest all d before next one = grind arith

pub told_last : (d line t : Bool) → d ≡ line → t ≡ line → t ≡ d
told_last d line t next said = said ∙ sym next

pub ruleset last_line = (last_stays, last_filled, last_told, told_last)

pub ruleset other_fields = (only_other, first_other, later_other)
