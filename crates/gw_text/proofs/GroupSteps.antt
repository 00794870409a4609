-- What a step over a piece of a group passes.
use Rattle.std.proofs.Common.{◌≡◌, ℕ, zero, suc, ◌+◌, ◌-◌, ◌<◌, Bool, true, false, cond, not, ◌==◌, ◌&&◌, List, [], ◌∷◌, ◌++◌, length, take, drop, Option, Some, None, Result, Ok, Err, refl, ap, sym, subst, ◌∙◌, append_assoc, length-append, arith}
use Rattle.std.specs.Prelude.{nat_le}
use Rattle.std.proofs.lemmas.List.{take-append-drop, drop_at, length-take}
use Rattle.std.proofs.lemmas.Bool.{eqb-true, eqb-false, leb-false}
use Rattle.gw_text.specs.Lexical.{nul, quote_mark, left_brace, right_brace, is_safe, is_solid}
use Rattle.gw_text.specs.Runs.{run_len, NoMore}
use Rattle.gw_text.specs.Space.{IsSep}
use Rattle.gw_text.specs.SpaceScan.{space_len}
use Rattle.gw_text.specs.Forms.{IsWord}
use Rattle.gw_text.specs.Quoted.{IsQuoted}
use Rattle.gw_text.specs.QuotedScan.{quoted_len}
use Rattle.gw_text.specs.Octets.{IsOctets}
use Rattle.gw_text.specs.OctetsScan.{octets_ends}
use Rattle.gw_text.specs.Group.{is_mark, after_word, after_mark, begins_octets}
use Rattle.gw_text.specs.GroupScan.{ScanStep, place, passed, octets_passed, brace_at, opened, after_sign, spaced, step_at, go_on, group_from, group_rest}
use Rattle.gw_text.specs.declared.group.Before.{Before}
use Rattle.gw_text.specs.declared.group.Before.TheVariants.{Equals, OctetsWord, Other}
use Rattle.gw_text.specs.declared.group.Place.{Place}
use Rattle.gw_text.specs.declared.fault.ScanFault.{ScanFault}
use Rattle.gw_text.specs.declared.fault.ScanFault.TheVariants.{Unexpected, TooDeep}
use Rattle.gw_text.proofs.RunLemmas.{run_is, run_len-le}
use Rattle.gw_text.proofs.SpaceLemmas.{space_is, space_len-le}
use Rattle.gw_text.proofs.SpacePieces.{space_pieces}
use Rattle.gw_text.proofs.OctetsLemmas.{octets_sound, are_are}
use Rattle.gw_text.proofs.OctetsScans.{quoted_sound, quoted_some}
use Rattle.gw_text.proofs.SpaceParts.{run_ends}

-- how a step passes the front of a text, of which left is left
pub data Taken (limit depth : ℕ) (before : Before) (text left : List ℕ) (next : Place) : Type 0 where
  opens : text ≡ left_brace ∷ left → depth < limit → begins_octets before ≡ false → next ≡ place (depth + 1) Other → Taken limit depth before text left next
  holds_octets : (body : List ℕ) → text ≡ left_brace ∷ (body ++ right_brace ∷ left) → depth < limit → begins_octets before ≡ true → IsOctets body → next ≡ place depth Other → Taken limit depth before text left next
  closes : text ≡ right_brace ∷ left → next ≡ place (depth - 1) Other → Taken limit depth before text left next
  takes_quoted : (span : List ℕ) → text ≡ span ++ left → IsQuoted span → next ≡ place depth Other → Taken limit depth before text left next
  takes_word : (w : List ℕ) → text ≡ w ++ left → IsWord w → NoMore is_safe left → next ≡ place depth (after_word before w) → Taken limit depth before text left next
  takes_mark : (b : ℕ) → text ≡ b ∷ left → is_mark b ≡ true → next ≡ place depth (after_mark b) → Taken limit depth before text left next
  takes_space : (span : List ℕ) → text ≡ span ++ left → IsSep span → next ≡ place depth before → Taken limit depth before text left next

-- ---- one of six

pub piece_cases : (P : Type 0) (a b c d e : Bool) (x1 x2 x3 x4 x5 x6 y : ScanStep) → cond a x1 (cond b x2 (cond c x3 (cond d x4 (cond e x5 x6)))) ≡ y → (a ≡ true → x1 ≡ y → P) → (b ≡ true → x2 ≡ y → P) → (c ≡ true → x3 ≡ y → P) → (d ≡ true → x4 ≡ y → P)
    → (a ≡ false → b ≡ false → c ≡ false → d ≡ false → e ≡ true → x5 ≡ y → P) → (x6 ≡ y → P) → P
piece_cases P a b c d e x1 x2 x3 x4 x5 x6 y is f1 f2 f3 f4 f5 f6 = grind arith

ok_parts : (P : Type 0) (p q : Place) (m n : ℕ) → let x : ScanStep = Ok (p, m) in x ≡ Ok (q, n) → (q ≡ p → m ≡ n → P) → P
ok_parts P p q m n e f = grind arith

not_ok : (P : Type 0) (f : ScanFault) (x : Place × ℕ) → let r : ScanStep = Err f in r ≡ Ok x → P
not_ok P f x e = absurd cc

guarded : (P : Type 0) (t : Bool) (f : ScanFault) (x : ScanStep) (y : Place × ℕ) → cond t (Err f) x ≡ Ok y → (t ≡ false → x ≡ Ok y → P) → P
guarded P t f x y e g = grind arith

-- ---- each of them

drop_one : (b : ℕ) (bs : List ℕ) (n : ℕ) → 1 ≡ n → bs ≡ drop n (b ∷ bs)
drop_one b bs n e = ap (λ (m : ℕ). drop m (b ∷ bs)) e

first_is : (b c : ℕ) (bs left : List ℕ) → b == c ≡ true → bs ≡ left → b ∷ bs ≡ c ∷ left
first_is b c bs left is e = ap (λ (x : ℕ). x ∷ bs) (eqb-true b c is) ∙ ap (λ (x : List ℕ). c ∷ x) e

octets_taken : (limit depth : ℕ) (inner : List ℕ) (next : Place) (n : ℕ) (o : Option (ℕ × ℕ)) → depth < limit → octets_ends inner ≡ o → octets_passed depth o ≡ Ok (next, n) → Taken limit depth OctetsWord (left_brace ∷ inner) (drop n (left_brace ∷ inner)) next
unfolding octets_ends
octets_taken limit depth inner next n None room is e = not_ok _ Unexpected (next, n) e
octets_taken limit depth inner next n (Some ends) room is e =
    let f = octets_sound false 0 0 inner ends.0 ends.1 is in
    ok_parts (Taken limit depth OctetsWord (left_brace ∷ inner) (drop n (left_brace ∷ inner)) next) (place depth Other) next (ends.0 + 2) n e
    (λ next-is n-is.
    let whole : left_brace ∷ inner ≡ (left_brace ∷ (f.body ++ right_brace ∷ [])) ++ f.rest = ap (λ (x : List ℕ). left_brace ∷ x) (f.split ∙ sym (append_assoc f.body (right_brace ∷ []) f.rest)) in
    let len : length (left_brace ∷ (f.body ++ right_brace ∷ [])) ≡ n = omega (arith, length-append f.body (right_brace ∷ []), f.ends_is, n-is) in
    let left : drop n (left_brace ∷ inner) ≡ f.rest = ap (drop n) whole ∙ drop_at (left_brace ∷ (f.body ++ right_brace ∷ [])) f.rest n len in
    holds_octets f.body (ap (λ (x : List ℕ). left_brace ∷ x) (f.split ∙ ap (λ (x : List ℕ). f.body ++ right_brace ∷ x) (sym left))) room refl (are_are f.body f.octets) next-is)

brace_taken : (limit depth : ℕ) (before : Before) (inner : List ℕ) (next : Place) (n : ℕ) → depth < limit → brace_at depth before inner ≡ Ok (next, n) → Taken limit depth before (left_brace ∷ inner) (drop n (left_brace ∷ inner)) next
brace_taken limit depth OctetsWord inner next n room e = octets_taken limit depth inner next n (octets_ends inner) room refl e
brace_taken limit depth Equals inner next n room e = grind (arith, ok_parts, drop_one)
brace_taken limit depth Other inner next n room e = grind (arith, ok_parts, drop_one)

open_taken : (limit : ℕ) (at : Place) (b : ℕ) (inner : List ℕ) (next : Place) (n : ℕ) → b == left_brace ≡ true → opened limit at inner ≡ Ok (next, n) → Taken limit at.depth at.before (b ∷ inner) (drop n (b ∷ inner)) next
open_taken limit at b inner next n is e =
    guarded (Taken limit at.depth at.before (b ∷ inner) (drop n (b ∷ inner)) next) (nat_le limit at.depth) TooDeep (brace_at at.depth at.before inner) (next, n) e
    (λ room more.
    subst (λ (c : ℕ). Taken limit at.depth at.before (c ∷ inner) (drop n (c ∷ inner)) next) (sym (eqb-true b left_brace is))
    (brace_taken limit at.depth at.before inner next n (leb-false limit at.depth room) more))

quoted_taken : (limit : ℕ) (at : Place) (text : List ℕ) (next : Place) (n : ℕ) (o : Option ℕ) → quoted_len text ≡ o → passed (place at.depth Other) o ≡ Ok (next, n) → Taken limit at.depth at.before text (drop n text) next
unfolding quoted_len
quoted_taken limit at text next n None is e = not_ok _ Unexpected (next, n) e
quoted_taken limit at text next n (Some len) is e =
    let q = quoted_sound text len is in
    ok_parts (Taken limit at.depth at.before text (drop n text) next) (place at.depth Other) next len n e
    (λ next-is n-is.
    let left : drop n text ≡ q.1 = ap (drop n) q.2 ∙ drop_at q.0 q.1 n (sym q.3 ∙ n-is) in
    takes_quoted q.0 (q.2 ∙ ap (λ (x : List ℕ). q.0 ++ x) (sym left)) q.4 next-is)

word_taken : (limit : ℕ) (at : Place) (b : ℕ) (bs : List ℕ) (next : Place) (n : ℕ) → is_safe b ≡ true
    → let len = run_len is_safe (b ∷ bs) in let x : ScanStep = Ok (place at.depth (after_word at.before (take len (b ∷ bs))), len) in x ≡ Ok (next, n) → Taken limit at.depth at.before (b ∷ bs) (drop n (b ∷ bs)) next
word_taken limit at b bs next n safe e =
    let text : List ℕ = b ∷ bs in
    let len = run_len is_safe text in
    let some : 0 < len = rw safe (omega arith) in
    ok_parts (Taken limit at.depth at.before text (drop n text) next) (place at.depth (after_word at.before (take len text))) next len n e
    (λ next-is n-is. subst (λ (m : ℕ). Taken limit at.depth at.before text (drop m text) next) n-is
    (takes_word (take len text) (sym (take-append-drop len text)) (record { run = run_is is_safe text; some = omega (arith, some, length-take len text, run_len-le is_safe text) }) (run_ends is_safe text) next-is))

mark_is : (s o z q l r : Bool) → s ≡ false → o ≡ true → z ≡ false → q ≡ false → l ≡ false → r ≡ false → not s && o && not z && not q && not l && not r ≡ true
mark_is s o z q l r a b c d e f = rw (a, b, c, d, e, f) refl

mark_taken : (limit : ℕ) (at : Place) (b : ℕ) (bs : List ℕ) (next : Place) (n : ℕ) → b == left_brace ≡ false → b == right_brace ≡ false → b == quote_mark ≡ false → is_safe b ≡ false → is_solid b ≡ true
    → after_sign at b ≡ Ok (next, n) → Taken limit at.depth at.before (b ∷ bs) (drop n (b ∷ bs)) next
mark_taken limit at b bs next n l r q s o e =
    guarded (Taken limit at.depth at.before (b ∷ bs) (drop n (b ∷ bs)) next) (b == nul) Unexpected (Ok (place at.depth (after_mark b), 1)) (next, n) e
    (λ z more. ok_parts (Taken limit at.depth at.before (b ∷ bs) (drop n (b ∷ bs)) next) (place at.depth (after_mark b)) next 1 n more
    (λ next-is n-is. takes_mark b (ap (λ (x : List ℕ). b ∷ x) (drop_one b bs n n-is)) (mark_is (is_safe b) (is_solid b) (b == nul) (b == quote_mark) (b == left_brace) (b == right_brace) s o z q l r) next-is))

space_taken : (limit : ℕ) (at : Place) (text : List ℕ) (next : Place) (n : ℕ) → spaced at (space_len text) ≡ Ok (next, n) → Taken limit at.depth at.before text (drop n text) next
space_taken limit at text next n e =
    let len = space_len text in
    guarded (Taken limit at.depth at.before text (drop n text) next) (len == 0) Unexpected (Ok (at, len)) (next, n) e
    (λ z more. ok_parts (Taken limit at.depth at.before text (drop n text) next) at next len n more
    (λ next-is n-is.
    let some : 0 < len = omega (arith, eqb-false len 0 z) in
    subst (λ (m : ℕ). Taken limit at.depth at.before text (drop m text) next) n-is
    (takes_space (take len text) (sym (take-append-drop len text)) (record { space = space_pieces (take len text) (space_is text); some = omega (arith, some, length-take len text, space_len-le text) }) next-is)))

pub step_taken : (limit : ℕ) (at : Place) (text : List ℕ) (next : Place) (n : ℕ) → step_at limit at text ≡ Ok (next, n) → Taken limit at.depth at.before text (drop n text) next
unfolding step_at
step_taken limit at [] next n e = not_ok _ Unexpected (next, n) e
step_taken limit at (b ∷ bs) next n e =
    piece_cases (Taken limit at.depth at.before (b ∷ bs) (drop n (b ∷ bs)) next) (b == left_brace) (b == right_brace) (b == quote_mark) (is_safe b) (is_solid b) _ _ _ _ _ _ (Ok (next, n)) e
    (λ is x. open_taken limit at b bs next n is x)
    (λ is x. ok_parts (Taken limit at.depth at.before (b ∷ bs) (drop n (b ∷ bs)) next) (place (at.depth - 1) Other) next 1 n x
    (λ next-is n-is. closes (first_is b right_brace bs (drop n (b ∷ bs)) is (drop_one b bs n n-is)) next-is))
    (λ is x. quoted_taken limit at (b ∷ bs) next n (quoted_len (b ∷ bs)) refl x)
    (λ is x. word_taken limit at b bs next n is x)
    (λ l r q s o x. mark_taken limit at b bs next n l r q s o x)
    (λ x. space_taken limit at (b ∷ bs) next n x)

-- ---- each passes a byte at least

taken_shrinks : (limit depth : ℕ) (before : Before) (text left : List ℕ) (next : Place) → Taken limit depth before text left next → length left < length text
taken_shrinks limit depth before text left next h = grind (arith, length-append, quoted_some)

pub step_shrinks : (limit : ℕ) (at : Place) (text : List ℕ) (next : Place) (n : ℕ) → step_at limit at text ≡ Ok (next, n) → length (drop n text) < length text
step_shrinks limit at text next n e = taken_shrinks limit at.depth at.before text (drop n text) next (step_taken limit at text next n e)

-- ---- more fuel changes nothing

continues : (limit : ℕ) (f g : Place → List ℕ → Result (List ℕ) ScanFault) (text : List ℕ) (s : ScanStep) → ((next : Place) (n : ℕ) → s ≡ Ok (next, n) → f next (drop n text) ≡ g next (drop n text)) → go_on f text s ≡ go_on g text s
continues limit f g text s h = grind arith

group_enough : (limit n m : ℕ) (at : Place) (text : List ℕ) → length text < n → length text < m → group_from n limit at text ≡ group_from m limit at text
unfolding group_from
group_enough limit zero m at text p q = absurd (omega arith)
group_enough limit (suc n) zero at text p q = absurd (omega arith)
group_enough limit (suc n) (suc m) at text p q =
    continues limit (group_from n limit) (group_from m limit) text (step_at limit at text)
    (λ next len e. group_enough limit n m next (drop len text) (omega (arith, step_shrinks limit at text next len e)) (omega (arith, step_shrinks limit at text next len e)))

-- a piece is passed, and the scan goes on behind it
pub rest_goes_on : (limit : ℕ) (at : Place) (text : List ℕ) (next : Place) (n : ℕ) → step_at limit at text ≡ Ok (next, n) → next.depth == 0 ≡ false → group_rest limit at text ≡ group_rest limit next (drop n text)
unfolding group_from
rest_goes_on limit at text next n e some =
    let enough = group_enough limit (length text) (suc (length (drop n text))) next (drop n text) (step_shrinks limit at text next n e) (omega arith) in
    ap (go_on (group_from (length text) limit) text) e ∙ ap (λ (t : Bool). cond t (Ok (drop n text)) (group_from (length text) limit next (drop n text))) some ∙ enough

-- the last brace is passed
pub rest_ends : (limit : ℕ) (at : Place) (text : List ℕ) (next : Place) (n : ℕ) → step_at limit at text ≡ Ok (next, n) → next.depth == 0 ≡ true → group_rest limit at text ≡ Ok (drop n text)
unfolding group_from
rest_ends limit at text next n e none = grind arith

-- nothing more is passed
pub rest_fails : (limit : ℕ) (at : Place) (text : List ℕ) (f : ScanFault) → step_at limit at text ≡ Err f → group_rest limit at text ≡ Err f
unfolding group_from
rest_fails limit at text f e = ap (go_on (group_from (length text) limit) text) e

pub ruleset rest_steps = (rest_goes_on, rest_fails, step_shrinks)
