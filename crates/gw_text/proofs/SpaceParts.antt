-- White space is blanks, then a comment and blanks, as often as one comes.
use Rattle.std.proofs.Common.{◌≡◌, ℕ, zero, suc, ◌+◌, Bool, true, false, cond, ◌==◌, List, [], ◌∷◌, Option, Some, None, drop, refl, ap, sym, ◌∙◌, arith, drop-drop}
use Rattle.std.proofs.lemmas.Bool.{eqb-true}
use Rattle.gw_text.specs.Lexical.{semicolon, is_blank, is_eol, is_comment_byte}
use Rattle.gw_text.specs.Runs.{run_len, begins}
use Rattle.gw_text.specs.SpaceScan.{space_len_from, space_len, ended_len, comment_len}

some_is : (m n : ℕ) → ◌≡◌ {A = Option ℕ} (Some m) (Some n) → m ≡ n
some_is m n h = search

two : (m : ℕ) → m + 2 ≡ suc (suc m)
two m = omega arith

-- ---- what was passed is added

added : (k : ℕ) (w c : Bool) (a b d a' b' d' : ℕ) → a' ≡ k + a → b' ≡ k + b → d' ≡ k + d → cond w a' (cond c b' d') ≡ k + cond w a (cond c b d)
added k w c a b d a' b' d' f g h = grind arith

pub further : (k : ℕ) (inside : Bool) (passed best passed' best' : ℕ) (bs : List ℕ) → passed' ≡ k + passed → best' ≡ k + best → space_len_from inside passed' best' bs ≡ k + space_len_from inside passed best bs
further k inside passed best passed' best' [] p b = b
further k false passed best passed' best' (x ∷ xs) p b = grind (arith, further k false (passed + 1) (passed + 1) (passed' + 1) (passed' + 1) xs (omega (arith, p)) (omega (arith, p)), further k true (passed + 1) best (passed' + 1) best' xs (omega (arith, p)) b, added)
further k true passed best passed' best' (x ∷ xs) p b = grind (arith, further k false (passed + 1) (passed + 1) (passed' + 1) (passed' + 1) xs (omega (arith, p)) (omega (arith, p)), further k true (passed + 1) best (passed' + 1) best' xs (omega (arith, p)) b, added)

-- ---- blanks

-- behind the bytes of a class none of them comes next
ends_step : (p : ℕ → Bool) (b : ℕ) (bs : List ℕ) (t : Bool) → p b ≡ t → begins p (drop (run_len p bs) bs) ≡ false → begins p (drop (cond t (suc (run_len p bs)) 0) (b ∷ bs)) ≡ false
ends_step p b bs t is ends = grind arith

pub run_ends : (p : ℕ → Bool) (text : List ℕ) → begins p (drop (run_len p text) text) ≡ false
run_ends p [] = refl
run_ends p (b ∷ bs) = ends_step p b bs (p b) refl (run_ends p bs)

blanks_step : (b : ℕ) (bs : List ℕ) (n : ℕ) (t : Bool) → is_blank b ≡ t → n + space_len (drop n bs) ≡ space_len bs → cond t (suc n) 0 + space_len (drop (cond t (suc n) 0) (b ∷ bs)) ≡ space_len (b ∷ bs)
unfolding space_len
blanks_step b bs n true is so_far =
    let one : space_len_from false 1 1 bs ≡ 1 + space_len_from false 0 0 bs = further 1 false 0 0 1 1 bs refl refl in
    rw is (omega (arith, one, so_far))
blanks_step b bs n false is so_far = omega arith

pub past_blanks : (text : List ℕ) → run_len is_blank text + space_len (drop (run_len is_blank text) text) ≡ space_len text
past_blanks [] = omega arith
past_blanks (b ∷ bs) = blanks_step b bs (run_len is_blank bs) (is_blank b) refl (past_blanks bs)

-- ---- a comment

drop_past : (n : ℕ) (bs more : List ℕ) (e : ℕ) → drop n bs ≡ e ∷ more → drop (suc n) bs ≡ more
drop_past zero bs more e h = rw h refl
drop_past (suc n) [] more e h = absurd cc
drop_past (suc n) (b ∷ bs) more e h = drop_past n bs more e h

line_step : (b : ℕ) (bs : List ℕ) (n passed best : ℕ) (t : Bool) → is_comment_byte b ≡ t → space_len_from true (passed + 1) best bs ≡ space_len_from true (passed + 1 + n) best (drop n bs)
    → space_len_from true passed best (b ∷ bs) ≡ space_len_from true (passed + cond t (suc n) 0) best (drop (cond t (suc n) 0) (b ∷ bs))
line_step b bs n passed best t is so_far = grind arith

pub past_line : (bs : List ℕ) (passed best : ℕ) → space_len_from true passed best bs ≡ space_len_from true (passed + run_len is_comment_byte bs) best (drop (run_len is_comment_byte bs) bs)
past_line [] passed best = refl
past_line (b ∷ bs) passed best = line_step b bs (run_len is_comment_byte bs) passed best (is_comment_byte b) refl (past_line bs (passed + 1) best)

-- where the line ends, white space goes on behind its end
at_eol : (m n b e : ℕ) (bs more : List ℕ) (t : Bool) → is_eol e ≡ t → ◌≡◌ {A = Option ℕ} (cond t (Some (m + 2)) None) (Some n) → drop m bs ≡ e ∷ more → n + space_len (drop n (b ∷ bs)) ≡ space_len_from true (1 + m) 0 (e ∷ more)
unfolding space_len
at_eol m n b e bs more false ends is behind = absurd cc
at_eol m n b e bs more true ends is behind =
    let whole : n ≡ m + 2 = sym (some_is (m + 2) n is) in
    let rest : drop (m + 2) (b ∷ bs) ≡ more = ap (λ (k : ℕ). drop k (b ∷ bs)) (two m) ∙ drop_past m bs more e behind in
    let passed : space_len_from false (1 + m + 1) (1 + m + 1) more ≡ (m + 2) + space_len_from false 0 0 more = further (m + 2) false 0 0 (1 + m + 1) (1 + m + 1) more (omega arith) (omega arith) in
    rw (whole, rest, ends) (sym passed)

not_ended : (m : ℕ) (rest : List ℕ) → begins is_comment_byte rest ≡ false → ended_len m rest ≡ None → space_len_from true (1 + m) 0 rest ≡ 0
not_ended m rest ends is = grind arith

-- white space that begins with the `;` of a comment, behind its line's bytes
in_comment : (b : ℕ) (bs : List ℕ) → b == semicolon ≡ true → space_len (b ∷ bs) ≡ space_len_from true (1 + run_len is_comment_byte bs) 0 (drop (run_len is_comment_byte bs) bs)
unfolding space_len
in_comment b bs is = grind (arith, past_line, eqb-true)

-- the white space goes on behind a comment
pub past_comment : (text : List ℕ) (n : ℕ) → comment_len text ≡ Some n → n + space_len (drop n text) ≡ space_len text
past_comment text n is = grind (arith, in_comment, at_eol)

-- where neither a blank nor a comment comes next no white space does
pub none_left : (text : List ℕ) → begins is_blank text ≡ false → comment_len text ≡ None → space_len text ≡ 0
unfolding space_len
none_left text solid is = grind (arith, run_ends, not_ended, in_comment)

-- ---- one turn after another

-- what was passed is white space that goes on with what is left, where no blank comes next
abbrev pub IsPassed : ℕ → List ℕ → Type 0
IsPassed len text = (len + space_len (drop len text) ≡ space_len text) × (begins is_blank (drop len text) ≡ false)

pub blanks_passed : (len : ℕ) (text : List ℕ) → len ≡ run_len is_blank text → IsPassed len text
blanks_passed len text is = rw is (past_blanks text, run_ends is_blank text)

pub part_passed : (len comment blanks : ℕ) (text : List ℕ) → len + space_len (drop len text) ≡ space_len text → comment_len (drop len text) ≡ Some comment → blanks ≡ run_len is_blank (drop (len + comment) text) → IsPassed (len + comment + blanks) text
part_passed len comment blanks text so_far is run =
    let behind = blanks_passed blanks (drop (len + comment) text) run in
    let past : comment + space_len (drop comment (drop len text)) ≡ space_len (drop len text) = past_comment (drop len text) comment is in
    let one : drop comment (drop len text) ≡ drop (len + comment) text = drop-drop comment len text in
    let two : drop blanks (drop (len + comment) text) ≡ drop (len + comment + blanks) text = drop-drop blanks (len + comment) text in
    let blank : blanks + space_len (drop (len + comment + blanks) text) ≡ space_len (drop (len + comment) text) = rw two at behind.0 in
    let there : comment + space_len (drop (len + comment) text) ≡ space_len (drop len text) = rw one at past in
    (omega (arith, so_far, there, blank), rw two at behind.1)
