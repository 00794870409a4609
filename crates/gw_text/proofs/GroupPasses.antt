-- Pieces that may stand in a group are passed one after another.
use Rattle.std.proofs.Common.{◌≡◌, ℕ, suc, ◌+◌, ◌-◌, ◌≤◌, ◌<◌, Bool, true, false, cond, not, ◌==◌, ◌&&◌, List, [], ◌∷◌, ◌++◌, length, take, drop, Some, Result, Ok, Err, refl, ap, sym, ◌∙◌, append_assoc, length-append, arith}
use Rattle.std.proofs.lemmas.List.{take_at, drop_at}
use Rattle.std.proofs.lemmas.Bool.{eqb-true, eqb-false, and_parts, eq-eqb, lt-leb, le-leb}
use Rattle.gw_text.specs.Lexical.{nul, quote_mark, left_brace, right_brace, is_safe, is_solid, is_space_start}
use Rattle.gw_text.specs.Runs.{run_len, NoMore}
use Rattle.gw_text.specs.Space.{IsSep}
use Rattle.gw_text.specs.SpaceScan.{space_len, skip}
use Rattle.gw_text.specs.Forms.{IsWord}
use Rattle.gw_text.specs.Quoted.{IsQuoted}
use Rattle.gw_text.specs.QuotedScan.{quoted_len}
use Rattle.gw_text.specs.Octets.{IsOctets}
use Rattle.gw_text.specs.OctetsScan.{octets_ends}
use Rattle.gw_text.specs.Group.{Pieces, nothing, space, quoted, word, mark, octets, group, text_of, is_mark, after_word, after_mark, after, begins_octets, is_word_first, AreValid, IsGroup, open_text, GoesDeeper, AreOpen, IsTooDeep}
use Rattle.gw_text.specs.GroupScan.{ScanStep, place, step_at, group_rest, group_found, balanced_at}
use Rattle.gw_text.specs.declared.group.Before.{Before}
use Rattle.gw_text.specs.declared.group.Before.TheVariants.{Other}
use Rattle.gw_text.specs.declared.fault.ScanFault.{ScanFault}
use Rattle.gw_text.specs.declared.fault.ScanFault.TheVariants.{TooDeep}
use Rattle.gw_text.proofs.RunLemmas.{run_again}
use Rattle.gw_text.proofs.SpaceLemmas.{space_again}
use Rattle.gw_text.proofs.Skips.{skip_space, skip_stays}
use Rattle.gw_text.proofs.Links.{is_another, safe_apart, solid_apart, sep_ends}
use Rattle.gw_text.proofs.OctetsLemmas.{octets_again, octets_are}
use Rattle.gw_text.proofs.OctetsScans.{quoted_again}
use Rattle.gw_text.proofs.GroupSteps.{rest_goes_on, rest_ends, rest_fails}
use Rattle.gw_text.proofs.Leaves.{eq_zero}

-- ---- the step over each kind of piece

pick4 : (a b c d : Bool) (x1 x2 x3 x4 y : ScanStep) → a ≡ false → b ≡ false → c ≡ false → d ≡ true → cond a x1 (cond b x2 (cond c x3 (cond d x4 y))) ≡ x4
pick4 a b c d x1 x2 x3 x4 y p q r s = rw (p, q, r, s) refl

pick5 : (a b c d e : Bool) (x1 x2 x3 x4 x5 y : ScanStep) → a ≡ false → b ≡ false → c ≡ false → d ≡ false → e ≡ true → cond a x1 (cond b x2 (cond c x3 (cond d x4 (cond e x5 y)))) ≡ x5
pick5 a b c d e x1 x2 x3 x4 x5 y p q r s t = rw (p, q, r, s, t) refl

pick6 : (a b c d e : Bool) (x1 x2 x3 x4 x5 y : ScanStep) → a ≡ false → b ≡ false → c ≡ false → d ≡ false → e ≡ false → cond a x1 (cond b x2 (cond c x3 (cond d x4 (cond e x5 y)))) ≡ y
pick6 a b c d e x1 x2 x3 x4 x5 y p q r s t = rw (p, q, r, s, t) refl

open_step : (limit depth : ℕ) (before : Before) (inner : List ℕ) → depth < limit → begins_octets before ≡ false → step_at limit (place depth before) (left_brace ∷ inner) ≡ Ok (place (depth + 1) Other, 1)
unfolding step_at
open_step limit depth before inner room kind = grind arith

pub deep_step : (limit depth : ℕ) (before : Before) (inner : List ℕ) → limit ≤ depth → step_at limit (place depth before) (left_brace ∷ inner) ≡ Err TooDeep
unfolding step_at
deep_step limit depth before inner full = rw (le-leb limit depth full) refl

octets_step : (limit depth : ℕ) (before : Before) (body more : List ℕ) → depth < limit → begins_octets before ≡ true → IsOctets body → step_at limit (place depth before) (left_brace ∷ (body ++ right_brace ∷ more)) ≡ Ok (place depth Other, length body + 2)
unfolding step_at octets_ends
octets_step limit depth before body more room kind h = grind (arith, lt-leb, octets_again, octets_are)

close_step : (limit depth : ℕ) (before : Before) (more : List ℕ) → step_at limit (place depth before) (right_brace ∷ more) ≡ Ok (place (depth - 1) Other, 1)
unfolding step_at
close_step limit depth before more = refl

quoted_first : (limit depth : ℕ) (before : Before) (text tail : List ℕ) (len : ℕ) → text ≡ quote_mark ∷ tail → quoted_len text ≡ Some len → step_at limit (place depth before) text ≡ Ok (place depth Other, len)
unfolding step_at
quoted_first limit depth before text tail len first e = grind arith

quoted_step : (limit depth : ℕ) (before : Before) (span more : List ℕ) → IsQuoted span → step_at limit (place depth before) (span ++ more) ≡ Ok (place depth Other, length span)
unfolding quoted_len
quoted_step limit depth before span more h =
    let first : span ++ more ≡ quote_mark ∷ (h.back ++ more) = ap (λ (x : List ℕ). x ++ more) (h.split ∙ ap (λ (x : List ℕ). x ++ h.back) h.first) in
    quoted_first limit depth before (span ++ more) (h.back ++ more) (length span) first (quoted_again span more h)

word_by : (depth : ℕ) (before : Before) (text w : List ℕ) (n : ℕ) → n ≡ length w → take (length w) text ≡ w → let x : ScanStep = Ok (place depth (after_word before (take n text)), n) in x ≡ Ok (place depth (after_word before w), length w)
word_by depth before text w n e is = rw (e, is) refl

word_step : (limit depth : ℕ) (before : Before) (w more : List ℕ) → IsWord w → NoMore is_safe more → step_at limit (place depth before) (w ++ more) ≡ Ok (place depth (after_word before w), length w)
unfolding step_at
word_step limit depth before [] more h ends = absurd (let some = h.some in omega arith)
word_step limit depth before (b ∷ bs) more h ends =
    let safe : is_safe b ≡ true = (and_parts (is_safe b) _ h.run).0 in
    let n : run_len is_safe (b ∷ (bs ++ more)) ≡ length (b ∷ bs) = run_again is_safe (b ∷ bs) more h.run ends in
    pick4 (b == left_brace) (b == right_brace) (b == quote_mark) (is_safe b) _ _ _ _ _ (is_another b left_brace is_safe refl safe) (is_another b right_brace is_safe refl safe) (is_another b quote_mark is_safe refl safe) safe
    ∙ word_by depth before (b ∷ (bs ++ more)) (b ∷ bs) (run_len is_safe (b ∷ (bs ++ more))) n (take_at (b ∷ bs) more (length (b ∷ bs)) refl)

mark_parts : (s o z q l r : Bool) → not s && o && not z && not q && not l && not r ≡ true → (s ≡ false) × (o ≡ true) × (z ≡ false) × (q ≡ false) × (l ≡ false) × (r ≡ false)
mark_parts s o z q l r h = grind arith

mark_step : (limit depth : ℕ) (before : Before) (b : ℕ) (more : List ℕ) → is_mark b ≡ true → step_at limit (place depth before) (b ∷ more) ≡ Ok (place depth (after_mark b), 1)
unfolding step_at
mark_step limit depth before b more h = grind (arith, pick5, mark_parts)

space_step : (limit depth : ℕ) (before : Before) (b : ℕ) (bs : List ℕ) → is_space_start b ≡ true → 0 < space_len (b ∷ bs) → step_at limit (place depth before) (b ∷ bs) ≡ Ok (place depth before, space_len (b ∷ bs))
unfolding step_at
space_step limit depth before b bs start some =
    pick6 (b == left_brace) (b == right_brace) (b == quote_mark) (is_safe b) (is_solid b) _ _ _ _ _ _ (is_another b left_brace is_space_start refl start) (is_another b right_brace is_space_start refl start) (is_another b quote_mark is_space_start refl start) (safe_apart b start) (solid_apart b start)
    ∙ rw (eq_zero (space_len (b ∷ bs)) some) refl

-- ---- on behind each

behind_step : (limit k : ℕ) (before to : Before) (text left : List ℕ) (n : ℕ) → step_at limit (place (suc k) before) text ≡ Ok (place (suc k) to, n) → drop n text ≡ left → group_rest limit (place (suc k) before) text ≡ group_rest limit (place (suc k) to) left
behind_step limit k before to text left n e is = grind (arith, eq_zero, rest_goes_on)

over_cases : (limit k : ℕ) (before : Before) (b : ℕ) (bs : List ℕ) (t : Bool) → is_space_start b ≡ t → (z : Bool) → space_len (b ∷ bs) == 0 ≡ z → group_rest limit (place (suc k) before) (b ∷ bs) ≡ group_rest limit (place (suc k) before) (drop (space_len (b ∷ bs)) (b ∷ bs))
over_cases limit k before b bs t is true none = ap (λ (n : ℕ). group_rest limit (place (suc k) before) (drop n (b ∷ bs))) (sym (eqb-true (space_len (b ∷ bs)) 0 none))
over_cases limit k before b bs true is false some =
    behind_step limit k before before (b ∷ bs) (drop (space_len (b ∷ bs)) (b ∷ bs)) (space_len (b ∷ bs)) (space_step limit (suc k) before b bs is (omega (arith, eqb-false (space_len (b ∷ bs)) 0 some))) refl
over_cases limit k before b bs false is false some =
    let none : space_len (b ∷ bs) ≡ 0 = space_again [] (b ∷ bs) refl is in
    absurd (omega (arith, none, eqb-false (space_len (b ∷ bs)) 0 some))

-- white space in front of anything is passed
over_space : (limit k : ℕ) (before : Before) (text : List ℕ) → group_rest limit (place (suc k) before) text ≡ group_rest limit (place (suc k) before) (skip text)
unfolding skip
over_space limit k before text = grind (arith, over_cases, skip_stays)

space_passed : (limit k : ℕ) (before : Before) (span more : List ℕ) → IsSep span → group_rest limit (place (suc k) before) (span ++ more) ≡ group_rest limit (place (suc k) before) more
space_passed limit k before span more h = over_space limit k before (span ++ more) ∙ ap (group_rest limit (place (suc k) before)) (skip_space span more h.space) ∙ sym (over_space limit k before more)

mark_unsafe : (b : ℕ) → is_mark b ≡ true → is_safe b ≡ false
mark_unsafe b h = (mark_parts (is_safe b) (is_solid b) (b == nul) (b == quote_mark) (b == left_brace) (b == right_brace) h).0

-- what stands behind a word does not go on with it
word_ends : (levels : ℕ) (before : Before) (rest : Pieces) (behind : List ℕ) → AreValid levels before rest → is_word_first rest ≡ false → NoMore is_safe behind → NoMore is_safe (text_of rest ++ behind)
word_ends levels before rest behind v first ends = grind (arith, mark_unsafe, append_assoc, safe_apart, sep_ends)

-- ---- pieces are passed

pub pieces_passed : (limit k levels : ℕ) (before : Before) (p : Pieces) (behind : List ℕ) → AreValid levels before p → levels + suc k ≡ limit → NoMore is_safe behind
    → group_rest limit (place (suc k) before) (text_of p ++ behind) ≡ group_rest limit (place (suc k) (after before p)) behind
pieces_passed limit k levels before nothing behind v deep ends = refl
pieces_passed limit k levels before (space span rest) behind v deep ends = grind (arith, pieces_passed limit k levels before rest behind v.1 deep ends, append_assoc, space_passed)
pieces_passed limit k levels before (quoted span rest) behind v deep ends =
    let more : List ℕ = text_of rest ++ behind in
    ap (group_rest limit (place (suc k) before)) (append_assoc span (text_of rest) behind)
    ∙ behind_step limit k before Other (span ++ more) more (length span) (quoted_step limit (suc k) before span more v.0) (drop_at span more (length span) refl)
    ∙ pieces_passed limit k levels Other rest behind v.1 deep ends
pieces_passed limit k levels before (word w rest) behind v deep ends =
    let more : List ℕ = text_of rest ++ behind in
    ap (group_rest limit (place (suc k) before)) (append_assoc w (text_of rest) behind)
    ∙ behind_step limit k before (after_word before w) (w ++ more) more (length w) (word_step limit (suc k) before w more v.0 (word_ends levels (after_word before w) rest behind v.2 v.1 ends)) (drop_at w more (length w) refl)
    ∙ pieces_passed limit k levels (after_word before w) rest behind v.2 deep ends
pieces_passed limit k levels before (mark b rest) behind v deep ends =
    let more : List ℕ = text_of rest ++ behind in
    behind_step limit k before (after_mark b) (b ∷ more) more 1 (mark_step limit (suc k) before b more v.0) refl
    ∙ pieces_passed limit k levels (after_mark b) rest behind v.1 deep ends
pieces_passed limit k levels before (octets body rest) behind v deep ends =
    let more : List ℕ = text_of rest ++ behind in
    let regroup : text_of (octets body rest) ++ behind ≡ left_brace ∷ (body ++ right_brace ∷ more) = ap (λ (x : List ℕ). left_brace ∷ x) (append_assoc body (right_brace ∷ text_of rest) behind) in
    let front : left_brace ∷ (body ++ right_brace ∷ more) ≡ (left_brace ∷ (body ++ right_brace ∷ [])) ++ more = ap (λ (x : List ℕ). left_brace ∷ x) (sym (append_assoc body (right_brace ∷ []) more)) in
    let left : drop (length body + 2) (left_brace ∷ (body ++ right_brace ∷ more)) ≡ more = ap (drop (length body + 2)) front ∙ drop_at (left_brace ∷ (body ++ right_brace ∷ [])) more (length body + 2) (omega (arith, length-append body (right_brace ∷ []))) in
    let some = v.1 in
    ap (group_rest limit (place (suc k) before)) regroup
    ∙ behind_step limit k before Other (left_brace ∷ (body ++ right_brace ∷ more)) more (length body + 2) (octets_step limit (suc k) before body more (omega (arith, some, deep)) v.0 v.2) left
    ∙ pieces_passed limit k levels Other rest behind v.3 deep ends
pieces_passed limit k levels before (group inside rest) behind v deep ends =
    let more : List ℕ = text_of rest ++ behind in
    let close : List ℕ = right_brace ∷ more in
    let regroup : text_of (group inside rest) ++ behind ≡ left_brace ∷ (text_of inside ++ close) = ap (λ (x : List ℕ). left_brace ∷ x) (append_assoc (text_of inside) (right_brace ∷ text_of rest) behind) in
    let some = v.1 in
    let room : suc k < limit = omega (arith, some, deep) in
    let one : suc k + 1 ≡ suc (suc k) = omega arith in
    let opens : group_rest limit (place (suc k) before) (left_brace ∷ (text_of inside ++ close)) ≡ group_rest limit (place (suc (suc k)) Other) (text_of inside ++ close) =
    rest_goes_on limit (place (suc k) before) (left_brace ∷ (text_of inside ++ close)) (place (suc k + 1) Other) 1 (open_step limit (suc k) before (text_of inside ++ close) room v.0) (eq_zero (suc k + 1) (omega arith))
    ∙ ap (λ (d : ℕ). group_rest limit (place d Other) (text_of inside ++ close)) one in
    let two : suc (suc k) - 1 ≡ suc k = omega arith in
    let closes : group_rest limit (place (suc (suc k)) (after Other inside)) close ≡ group_rest limit (place (suc k) Other) more =
    rest_goes_on limit (place (suc (suc k)) (after Other inside)) close (place (suc (suc k) - 1) Other) 1 (close_step limit (suc (suc k)) (after Other inside) more) (eq_zero (suc (suc k) - 1) (omega arith))
    ∙ ap (λ (d : ℕ). group_rest limit (place d Other) more) two in
    ap (group_rest limit (place (suc k) before)) regroup
    ∙ opens
    ∙ pieces_passed limit (suc k) (levels - 1) Other inside close v.2 (omega (arith, some, deep)) refl
    ∙ closes
    ∙ pieces_passed limit k levels Other rest behind v.3 deep ends

-- ---- a group is found whole, whatever follows it

found_whole : (g rest : List ℕ) → group_found (g ++ rest) (Ok rest) ≡ Ok (g, rest)
found_whole g rest = grind (arith, length-append, take_at)

pub group_again : (depth : ℕ) (g rest : List ℕ) → IsGroup depth g → balanced_at depth (g ++ rest) ≡ Ok (g, rest)
unfolding balanced_at
group_again depth g rest h =
    let inside : List ℕ = text_of h.inside in
    let some = h.some in
    let not-none : depth == 0 ≡ false = eq_zero depth some in
    let close : List ℕ = right_brace ∷ rest in
    let regroup : (inside ++ right_brace ∷ []) ++ rest ≡ inside ++ close = append_assoc inside (right_brace ∷ []) rest in
    let passed-all : group_rest depth (place 1 Other) (inside ++ close) ≡ group_rest depth (place 1 (after Other h.inside)) close = pieces_passed depth 0 (depth - 1) Other h.inside close h.valid (omega (arith, some)) refl in
    let last : group_rest depth (place 1 (after Other h.inside)) close ≡ Ok rest = rest_ends depth (place 1 (after Other h.inside)) close (place 0 Other) 1 (close_step depth 1 (after Other h.inside) rest) refl in
    let left : group_rest depth (place 1 Other) ((inside ++ right_brace ∷ []) ++ rest) ≡ Ok rest = ap (group_rest depth (place 1 Other)) regroup ∙ passed-all ∙ last in
    let whole : g ++ rest ≡ left_brace ∷ ((inside ++ right_brace ∷ []) ++ rest) = ap (λ (x : List ℕ). x ++ rest) h.split in
    ap (balanced_at depth) whole
    ∙ ap (λ (t : Bool). cond t (Err TooDeep) (group_found (left_brace ∷ ((inside ++ right_brace ∷ []) ++ rest)) (group_rest depth (place 1 Other) ((inside ++ right_brace ∷ []) ++ rest)))) not-none
    ∙ ap (group_found (left_brace ∷ ((inside ++ right_brace ∷ []) ++ rest))) left
    ∙ ap (λ (x : List ℕ). group_found x (Ok rest)) (sym whole)
    ∙ found_whole g rest

-- ---- a brace that lies too deep is found

deepens : (groups : List Pieces) (limit k levels : ℕ) (p : Pieces) (rest : List ℕ) → AreValid levels Other p → GoesDeeper Other p groups → AreOpen levels groups → levels + suc k ≡ limit → length groups + suc k ≡ limit
    → group_rest limit (place (suc k) Other) (text_of p ++ (open_text groups ++ left_brace ∷ rest)) ≡ Err TooDeep
deepens [] limit k levels p rest v goes valid deep full =
    pieces_passed limit k levels Other p (left_brace ∷ rest) v deep refl
    ∙ rest_fails limit (place (suc k) (after Other p)) (left_brace ∷ rest) TooDeep (deep_step limit (suc k) (after Other p) rest (omega (arith, full)))
deepens (q ∷ qs) limit k levels p rest v goes valid deep full =
    let inner : List ℕ = text_of q ++ (open_text qs ++ left_brace ∷ rest) in
    let regroup : open_text (q ∷ qs) ++ left_brace ∷ rest ≡ left_brace ∷ inner = ap (λ (x : List ℕ). left_brace ∷ x) (append_assoc (text_of q) (open_text qs) (left_brace ∷ rest)) in
    let one : suc k + 1 ≡ suc (suc k) = omega arith in
    ap (λ (x : List ℕ). group_rest limit (place (suc k) Other) (text_of p ++ x)) regroup
    ∙ pieces_passed limit k levels Other p (left_brace ∷ inner) v deep refl
    ∙ rest_goes_on limit (place (suc k) (after Other p)) (left_brace ∷ inner) (place (suc k + 1) Other) 1 (open_step limit (suc k) (after Other p) inner (omega (arith, full)) goes) (eq_zero (suc k + 1) (omega arith))
    ∙ ap (λ (d : ℕ). group_rest limit (place d Other) inner) one
    ∙ deepens qs limit (suc k) (levels - 1) q rest valid.0 valid.1 valid.2 (omega (arith, deep, full)) (omega (arith, full))

too_deep_cases : (depth : ℕ) (groups : List Pieces) (rest : List ℕ) → length groups ≡ depth → AreOpen depth groups → balanced_at depth (open_text groups ++ left_brace ∷ rest) ≡ Err TooDeep
unfolding balanced_at
too_deep_cases depth [] rest full valid =
    let none : depth == 0 ≡ true = eq-eqb depth 0 (sym full) in
    rw none refl
too_deep_cases depth (p ∷ ps) rest full valid =
    let inner : List ℕ = text_of p ++ (open_text ps ++ left_brace ∷ rest) in
    let regroup : open_text (p ∷ ps) ++ left_brace ∷ rest ≡ left_brace ∷ inner = ap (λ (x : List ℕ). left_brace ∷ x) (append_assoc (text_of p) (open_text ps) (left_brace ∷ rest)) in
    let not-none : depth == 0 ≡ false = eq_zero depth (omega (arith, full)) in
    let deep : group_rest depth (place 1 Other) inner ≡ Err TooDeep = deepens ps depth 0 (depth - 1) p rest valid.0 valid.1 valid.2 (omega (arith, full)) (omega (arith, full)) in
    ap (balanced_at depth) regroup
    ∙ ap (λ (t : Bool). cond t (Err TooDeep) (group_found (left_brace ∷ inner) (group_rest depth (place 1 Other) inner))) not-none
    ∙ ap (group_found (left_brace ∷ inner)) deep

pub too_deep_again : (depth : ℕ) (text : List ℕ) → IsTooDeep depth text → balanced_at depth text ≡ Err TooDeep
too_deep_again depth text h = ap (balanced_at depth) h.split ∙ too_deep_cases depth h.groups h.rest h.full h.valid

scan_fault : (f g : ScanFault) → let r : Result (List ℕ × List ℕ) ScanFault = Err f in r ≡ Err g → f ≡ g
scan_fault f g e = cc

-- so a scan that fails there says so, and none succeeds
pub deep_fault : (depth : ℕ) (text : List ℕ) (f : ScanFault) → IsTooDeep depth text → balanced_at depth text ≡ Err f → f ≡ TooDeep
deep_fault depth text f deep e = scan_fault f TooDeep (sym e ∙ too_deep_again depth text deep)

pub no_group_deep : (depth : ℕ) (text span rest : List ℕ) → IsTooDeep depth text → balanced_at depth text ≡ Ok (span, rest) → ⊥
no_group_deep depth text span rest deep e = grind (arith, too_deep_again)
