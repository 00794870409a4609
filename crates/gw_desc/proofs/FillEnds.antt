-- In a filled Local no `$` is left to fill.
use Rattle.std.proofs.lemmas.Grind.{common_steps}
use Rattle.std.proofs.Common.{◌≡◌, ℕ, suc, ◌≤◌, ◌==◌, Bool, true, false, List, [], ◌∷◌, ◌++◌, length, map, codes, decimal, bytes_eq, refl, ap, sym, ◌∙◌, arith}
use Rattle.std.specs.List.{AllByRecursion, list_any, list_all, slice_split, starts_with}
use Rattle.std.specs.Prelude.{slice_index_or, slice_set}
use Rattle.std.proofs.lemmas.Bool.{and_parts, eqb-true, or_parts, false_from_ne_true, or_from}
use Rattle.std.proofs.lemmas.List.Sums.{length-filter, count_by-le-length}
use Rattle.std.proofs.lemmas.List.Folds.{list_any-append}
use Rattle.std.proofs.lemmas.Slice.Eq.{bytes_eq-Decides}
use Rattle.gw_base.specs.Bytes.{is_one_of, is_digit}
use Rattle.gw_desc.specs.Fill.{line_ends, field_ends, ends_of, interleaved, has_choose, with_field, put, is_connection, is_media_line, filled_line, is_fillable_line, filled_text, filled, is_fillable, port_of}
use Rattle.gw_desc.specs.FillSteps.{IsWhole}
use Rattle.gw_base.specs.Addresses.{IsAddress, is_address_byte}
use Rattle.gw_desc.proofs.Fills.{parts_next, parts_last}
use Rattle.gw_desc.proofs.FillForms.{decimal_run}
use Rattle.gw_desc.proofs.FillChain.{IsClean, AreEnds, parts_clean, ends_are, one_more, line_put}

-- ---- parts that are laid out are read again

split_laid : (p : ℕ → Bool) (parts : List (List ℕ)) (ends : List ℕ) → AllByRecursion (IsClean p) parts → AreEnds p ends → length parts ≡ suc (length ends) → slice_split p (interleaved parts ends) ≡ parts
split_laid p [] ends clean are same = absurd (omega (arith, same))
split_laid p (part ∷ []) [] clean are same = parts_last p part clean.0
split_laid p (part ∷ (other ∷ parts)) [] clean are same = absurd (omega (arith, same))
split_laid p (part ∷ parts) (e ∷ es) clean are same = grind (arith, split_laid p parts es clean.1 are.1 (omega (arith, same)), parts_next)

clean_set : (p : ℕ → Bool) (place : ℕ) (new : List ℕ) (parts : List (List ℕ)) → IsClean p new → AllByRecursion (IsClean p) parts → AllByRecursion (IsClean p) (slice_set parts place new)
clean_set p place new parts n clean = grind (arith, common_steps)

length_set : (place : ℕ) (new : List ℕ) (parts : List (List ℕ)) → length (slice_set parts place new) ≡ length parts
length_set place new parts = grind (arith, common_steps)

get_set : (place : ℕ) (new : List ℕ) (parts : List (List ℕ)) → slice_index_or parts place [] ≡ codes "$" → slice_index_or (slice_set parts place new) place [] ≡ new
get_set place new parts h = grind (arith, common_steps)

-- ---- what is put in is no `$`, and ends no field and no line

record IsInert (new : List ℕ) : Type 0 where
  no_choose : bytes_eq new (codes "$") ≡ false
  no_field : list_any (is_one_of field_ends) new ≡ false
  no_line : list_any (is_one_of line_ends) new ≡ false

-- bytes of one class are of no other that has none of it
none_of : (p q : ℕ → Bool) → ((b : ℕ) → p b ≡ true → q b ≡ false) → (text : List ℕ) → list_all p text ≡ true → list_any q text ≡ false
none_of p q apart [] all = refl
none_of p q apart (b ∷ bs) all =
    let a = and_parts (p b) (list_all p bs) all in
    let here = apart b a.0 in
    let rest = none_of p q apart bs a.1 in
    rw (here, rest) refl

other_byte : (p : ℕ → Bool) (c b : ℕ) → p c ≡ false → p b ≡ true → c == b ≡ false
other_byte p c b none is = false_from_ne_true (c == b) (λ e. let same : c ≡ b = eqb-true c b e in let clash : true ≡ false = sym is ∙ ap p (sym same) ∙ none in absurd cc)

inert : (p : ℕ → Bool) (new : List ℕ) → p 36 ≡ false → p 32 ≡ false → p 13 ≡ false → p 10 ≡ false → list_all p new ≡ true → IsInert new
inert p new choose space cr lf all = grind (arith, none_of, other_byte, and_parts, bytes_eq-Decides, false_from_ne_true)

address_inert : (address : List ℕ) → IsAddress address → IsInert address
address_inert address h = inert is_address_byte address refl refl refl refl h.each

decimal_inert : (n : ℕ) → IsInert (decimal n)
decimal_inert n = inert is_digit (decimal n) refl refl refl refl (decimal_run n)

-- ---- one line

-- behind a `$` that was put the field is no `$`
no_choose_left : (place : ℕ) (new line : List ℕ) → IsInert new → has_choose place line ≡ true → has_choose place (with_field place new line) ≡ false
unfolding has_choose
no_choose_left place new line h choose = grind (arith, split_laid, clean_set, length_set, get_set, bytes_eq-Decides, ends_are, one_more, parts_clean)

-- of a line alone there are no lines in front
no_lines : (lines rest : List ℕ) → IsWhole line_ends lines → list_any (is_one_of line_ends) (lines ++ rest) ≡ false → lines ≡ []
no_lines lines rest h h2 = grind (arith, list_any-append, or_parts)

-- a line after a put: what is in front of the new text, and what is behind it
record IsAfter (place : ℕ) (new line text : List ℕ) : Type 0 where
  fields : List ℕ
  behind : List ℕ
  was : line ≡ fields ++ (codes "$" ++ behind)
  is : text ≡ fields ++ (new ++ behind)
  counted : length (ends_of field_ends fields) ≡ place

after_put : (is_kind : List ℕ → Bool) (place : ℕ) (new line : List ℕ) → list_any (is_one_of line_ends) line ≡ false → is_kind line ≡ true → has_choose place line ≡ true → IsAfter place new line (with_field place new line)
after_put is_kind place new line one kind choose =
    let s = line_put is_kind place new line one kind choose in
    let none = no_lines s.lines (s.fields ++ (codes "$" ++ s.behind)) s.whole_lines (ap (list_any (is_one_of line_ends)) (sym s.was) ∙ one) in
    record {
      fields = s.fields;
      behind = s.behind;
      was = s.was ∙ ap (λ (x : List ℕ). x ++ (s.fields ++ (codes "$" ++ s.behind))) none;
      is = s.is ∙ ap (λ (x : List ℕ). x ++ (s.fields ++ (new ++ s.behind))) none;
      counted = s.counted;
    }

after_clean : (place : ℕ) (new line text : List ℕ) → IsInert new → list_any (is_one_of line_ends) line ≡ false → IsAfter place new line text → list_any (is_one_of line_ends) text ≡ false
after_clean place new line text h one a = grind (arith, common_steps)

-- at least as many bytes as ends of fields
long_enough : (place : ℕ) (new line text : List ℕ) (a : IsAfter place new line text) → place ≤ length a.fields
long_enough place new line text a = omega (arith, a.counted, length-filter (is_one_of field_ends) a.fields, count_by-le-length (is_one_of field_ends) a.fields)

abbrev begins_with : (a b : ℕ) → List ℕ → Bool
begins_with a b text = starts_with (λ x y. x == y) text (a ∷ (b ∷ []))

two_front : (a b : ℕ) (fields rest more : List ℕ) → 2 ≤ length fields → begins_with a b (fields ++ rest) ≡ true → begins_with a b (fields ++ more) ≡ true
two_front a b [] rest more le h = absurd (omega (arith, le))
two_front a b (x ∷ []) rest more le h = absurd (omega (arith, le))
two_front a b (x ∷ (y ∷ ys)) rest more le h = h

connection_stays : (new line text : List ℕ) → IsAfter 2 new line text → is_connection line ≡ true → is_connection text ≡ true
connection_stays new line text a kind =
    ap is_connection a.is ∙ two_front 99 61 a.fields (codes "$" ++ a.behind) (new ++ a.behind) (long_enough 2 new line text a) (ap is_connection (sym a.was) ∙ kind)

media_front : (fields behind more : List ℕ) → 1 ≤ length fields → is_media_line (fields ++ (codes "$" ++ behind)) ≡ true → is_media_line (fields ++ more) ≡ true
media_front [] behind more le h = absurd (omega (arith, le))
media_front (x ∷ []) behind more le h = absurd (let second : false ≡ true = (and_parts (109 == x) false h).1 in cc)
media_front (x ∷ (y ∷ ys)) behind more le h = h

media_stays : (new line text : List ℕ) → IsAfter 1 new line text → is_media_line line ≡ true → is_media_line text ≡ true
media_stays new line text a kind = ap is_media_line a.is ∙ media_front a.fields a.behind (new ++ a.behind) (long_enough 1 new line text a) (ap is_media_line (sym a.was) ∙ kind)

not_media : (line : List ℕ) → is_connection line ≡ true → is_media_line line ≡ false
not_media line h = grind arith

not_connection : (line : List ℕ) → is_media_line line ≡ true → is_connection line ≡ false
not_connection line h = grind arith

-- what a line is once it is filled
record IsDone (text : List ℕ) : Type 0 where
  left : is_fillable_line text ≡ false
  one : list_any (is_one_of line_ends) text ≡ false

connection_done : (address line : List ℕ) → IsInert address → list_any (is_one_of line_ends) line ≡ false → is_connection line ≡ true → (t : Bool) → has_choose 2 line ≡ t → IsDone (put 2 address line)
unfolding put is_fillable_line
connection_done address line h one kind true choose =
    let a = after_put is_connection 2 address line one kind choose in
    let stays = connection_stays address line (with_field 2 address line) a kind in
    let other = not_media (with_field 2 address line) stays in
    let none = no_choose_left 2 address line h choose in
    let clean = after_clean 2 address line (with_field 2 address line) h one a in
    record { left = rw (choose, stays, other, none) refl; one = rw choose clean }
connection_done address line h one kind false choose =
    let other = not_media line kind in
    record { left = rw (choose, kind, other, choose) refl; one = rw choose one }

media_done : (port line : List ℕ) → IsInert port → list_any (is_one_of line_ends) line ≡ false → is_media_line line ≡ true → (t : Bool) → has_choose 1 line ≡ t → IsDone (put 1 port line)
unfolding put is_fillable_line
media_done port line h one kind true choose =
    let a = after_put is_media_line 1 port line one kind choose in
    let stays = media_stays port line (with_field 1 port line) a kind in
    let other = not_connection (with_field 1 port line) stays in
    let none = no_choose_left 1 port line h choose in
    let clean = after_clean 1 port line (with_field 1 port line) h one a in
    record { left = rw (choose, stays, other, none) refl; one = rw choose clean }
media_done port line h one kind false choose =
    let other = not_connection line kind in
    record { left = rw (choose, kind, other, choose) refl; one = rw choose one }

line_by : (address port line : List ℕ) → IsInert address → IsInert port → list_any (is_one_of line_ends) line ≡ false → (c m : Bool) → is_connection line ≡ c → is_media_line line ≡ m → IsDone (filled_line address port line)
unfolding filled_line is_fillable_line
line_by address port line a p one true m is other = rw is (connection_done address line a one is (has_choose 2 line) refl)
line_by address port line a p one false true is other = rw (is, other) (media_done port line p one other (has_choose 1 line) refl)
line_by address port line a p one false false is other = rw (is, other) (record { left = rw (is, other) refl; one = one })

line_done : (address port line : List ℕ) → IsInert address → IsInert port → list_any (is_one_of line_ends) line ≡ false → IsDone (filled_line address port line)
line_done address port line a p one = line_by address port line a p one (is_connection line) (is_media_line line) refl refl

-- ---- all lines

lines_clean : (address port : List ℕ) (lines : List (List ℕ)) → IsInert address → IsInert port → AllByRecursion (IsClean (is_one_of line_ends)) lines → AllByRecursion (IsClean (is_one_of line_ends)) (map (filled_line address port) lines)
lines_clean address port [] a p h = tt
lines_clean address port (line ∷ lines) a p h = ((line_done address port line a p h.0).one, lines_clean address port lines a p h.1)

lines_left : (address port : List ℕ) (lines : List (List ℕ)) → IsInert address → IsInert port → AllByRecursion (IsClean (is_one_of line_ends)) lines → list_any is_fillable_line (map (filled_line address port) lines) ≡ false
lines_left address port [] a p h = refl
lines_left address port (line ∷ lines) a p h = grind (arith, lines_left address port lines a p h.1, or_from, line_done)

length_filled : (f : List ℕ → List ℕ) (lines : List (List ℕ)) → length (map f lines) ≡ length lines
length_filled f lines = grind (arith, common_steps)

text_left : (address port text : List ℕ) → IsInert address → IsInert port → is_fillable (filled_text address port text) ≡ false
unfolding filled_text is_fillable
text_left address port text a p = grind (arith, split_laid, lines_clean, lines_left, length_filled, ends_are, one_more, parts_clean)

pub nothing_left : (address : List ℕ) (slot stream : ℕ) (text : List ℕ) → IsAddress address → is_fillable (filled address slot stream text) ≡ false
unfolding filled
nothing_left address slot stream text h = text_left address (decimal (port_of slot stream)) text (address_inert address h) (decimal_inert (port_of slot stream))
