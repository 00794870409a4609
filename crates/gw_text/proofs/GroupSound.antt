-- What the scan of a group takes is a group, and it says that a brace lies too deep only where one does.
use Rattle.std.proofs.Common.{◌≡◌, ◌⊎◌, inl, inr, ℕ, zero, suc, ◌+◌, ◌-◌, ◌≤◌, ◌<◌, Bool, true, false, cond, ◌==◌, List, [], ◌∷◌, ◌++◌, length, get_or, take, drop, Option, Result, Ok, Err, refl, ap, sym, subst, ◌∙◌, append_assoc, length-append, arith}
use Rattle.std.specs.Prelude.{nat_le}
use Rattle.std.specs.List.{list_all}
use Rattle.std.proofs.lemmas.List.{take_at, drop_at}
use Rattle.std.proofs.lemmas.Bool.{eqb-true, eqb-false, and_parts}
use Rattle.gw_text.specs.Lexical.{nul, quote_mark, left_brace, right_brace, is_safe, is_solid}
use Rattle.gw_text.specs.Runs.{begins, NoMore}
use Rattle.gw_text.specs.SpaceScan.{space_len}
use Rattle.gw_text.specs.Forms.{IsWord}
use Rattle.gw_text.specs.QuotedScan.{quoted_len}
use Rattle.gw_text.specs.Group.{Pieces, nothing, space, quoted, word, mark, octets, group, text_of, after_word, after_mark, after, begins_octets, is_word_first, AreValid, IsGroup, open_text, GoesDeeper, AreOpen, IsTooDeep, HasNoGroup}
use Rattle.gw_text.specs.GroupScan.{ScanStep, place, passed, brace_at, step_at, go_on, group_from, group_rest, group_found, balanced_at}
use Rattle.gw_text.specs.declared.group.Before.{Before}
use Rattle.gw_text.specs.declared.group.Before.TheVariants.{Other}
use Rattle.gw_text.specs.declared.group.Place.{Place}
use Rattle.gw_text.specs.declared.fault.ScanFault.{ScanFault}
use Rattle.gw_text.specs.declared.fault.ScanFault.TheVariants.{Unexpected, TooDeep}
use Rattle.gw_text.proofs.GroupSteps.{Taken, opens, holds_octets, closes, takes_quoted, takes_word, takes_mark, takes_space, step_taken, piece_cases}
use Rattle.gw_text.proofs.GroupPasses.{group_again, too_deep_again, deep_fault, no_group_deep}
use Rattle.gw_text.proofs.RunLemmas.{whole_tail}
use Rattle.gw_text.proofs.Leaves.{eq_zero}

-- ---- what is open is closed

-- A text closes k groups that are open, and rest is left: behind pieces and a brace it closes the others.
abbrev pub Closes : (limit k : ℕ) → Before → List ℕ → List ℕ → Type 0
Closes limit zero before text rest = text ≡ rest
Closes limit (suc k) before text rest = (p : Pieces) × (more : List ℕ) × (text ≡ text_of p ++ right_brace ∷ more) × AreValid (limit - suc k) before p × Closes limit k Other more rest

first_safe : (w more : List ℕ) → IsWord w → NoMore is_safe (w ++ more) → ⊥
first_safe [] more h ends = absurd (let some = h.some in omega arith)
first_safe (b ∷ bs) more h ends = let clash : true ≡ false = sym (and_parts (is_safe b) (list_all is_safe bs) h.run).0 ∙ ends in absurd cc

-- where no safe byte comes next, no word does
no_word_first : (p : Pieces) (behind : List ℕ) → NoMore is_safe (text_of p ++ behind) → (levels : ℕ) (before : Before) → AreValid levels before p → is_word_first p ≡ false
no_word_first p behind ends levels before v = grind (arith, first_safe, append_assoc)

one_more : (n : ℕ) → suc n + 1 ≡ suc (suc n)
one_more n = omega arith

one_less : (n : ℕ) → suc n - 1 ≡ n
one_less n = omega arith

level_less : (limit n : ℕ) → limit - suc (suc n) ≡ limit - suc n - 1
level_less limit n = omega arith

-- from behind a piece to its front
extend : (limit k : ℕ) (before : Before) (text left rest : List ℕ) (next : Place) → Taken limit (suc k) before text left next → Closes limit next.depth next.before left rest → Closes limit (suc k) before text rest
extend limit k before text left rest next (opens split room kind is) h =
    let i : Closes limit (suc (suc k)) Other left rest = subst (λ (d : ℕ). Closes limit d Other left rest) (one_more k) (subst (λ (n : Place). Closes limit n.depth n.before left rest) is h) in
    let j = i.4 in
    let whole : text ≡ text_of (group i.0 j.0) ++ right_brace ∷ j.1 =
    split ∙ ap (λ (x : List ℕ). left_brace ∷ x) (i.2 ∙ ap (λ (x : List ℕ). text_of i.0 ++ right_brace ∷ x) j.2 ∙ sym (append_assoc (text_of i.0) (right_brace ∷ text_of j.0) (right_brace ∷ j.1))) in
    let room' : 0 < limit - suc k = omega (arith, room) in
    let inside : AreValid (limit - suc k - 1) Other i.0 = subst (λ (l : ℕ). AreValid l Other i.0) (level_less limit k) i.3 in
    (group i.0 j.0, j.1, whole, (kind, room', inside, j.3), j.4)
extend limit k before text left rest next (holds_octets body split room kind is_octets is) h =
    let i : Closes limit (suc k) Other left rest = subst (λ (n : Place). Closes limit n.depth n.before left rest) is h in
    let whole : text ≡ text_of (octets body i.0) ++ right_brace ∷ i.1 =
    split ∙ ap (λ (x : List ℕ). left_brace ∷ x) (ap (λ (x : List ℕ). body ++ right_brace ∷ x) i.2 ∙ sym (append_assoc body (right_brace ∷ text_of i.0) (right_brace ∷ i.1))) in
    let room' : 0 < limit - suc k = omega (arith, room) in
    (octets body i.0, i.1, whole, (kind, room', is_octets, i.3), i.4)
extend limit k before text left rest next (closes split is) h =
    let i : Closes limit k Other left rest = subst (λ (d : ℕ). Closes limit d Other left rest) (one_less k) (subst (λ (n : Place). Closes limit n.depth n.before left rest) is h) in
    (nothing, left, split, tt, i)
extend limit k before text left rest next (takes_quoted span split is_quoted is) h =
    let i : Closes limit (suc k) Other left rest = subst (λ (n : Place). Closes limit n.depth n.before left rest) is h in
    (quoted span i.0, i.1, split ∙ ap (λ (x : List ℕ). span ++ x) i.2 ∙ sym (append_assoc span (text_of i.0) (right_brace ∷ i.1)), (is_quoted, i.3), i.4)
extend limit k before text left rest next (takes_word w split is_word ends is) h =
    let i : Closes limit (suc k) (after_word before w) left rest = subst (λ (n : Place). Closes limit n.depth n.before left rest) is h in
    let first : is_word_first i.0 ≡ false = no_word_first i.0 (right_brace ∷ i.1) (ap (begins is_safe) (sym i.2) ∙ ends) (limit - suc k) (after_word before w) i.3 in
    (word w i.0, i.1, split ∙ ap (λ (x : List ℕ). w ++ x) i.2 ∙ sym (append_assoc w (text_of i.0) (right_brace ∷ i.1)), (is_word, first, i.3), i.4)
extend limit k before text left rest next (takes_mark b split is_a_mark is) h =
    let i : Closes limit (suc k) (after_mark b) left rest = subst (λ (n : Place). Closes limit n.depth n.before left rest) is h in
    (mark b i.0, i.1, split ∙ ap (λ (x : List ℕ). b ∷ x) i.2, (is_a_mark, i.3), i.4)
extend limit k before text left rest next (takes_space span split sep is) h =
    let i : Closes limit (suc k) before left rest = subst (λ (n : Place). Closes limit n.depth n.before left rest) is h in
    (space span i.0, i.1, split ∙ ap (λ (x : List ℕ). span ++ x) i.2 ∙ sym (append_assoc span (text_of i.0) (right_brace ∷ i.1)), (sep, i.3), i.4)

ok_next : (text rest : List ℕ) (s : ScanStep) (more : Place → List ℕ → Result (List ℕ) ScanFault) → go_on more text s ≡ Ok rest → (next : Place) × (n : ℕ) × (s ≡ Ok (next, n)) × (cond (next.depth == 0) (Ok (drop n text)) (more next (drop n text)) ≡ Ok rest)
ok_next text rest s more e = grind arith

closes_next : (fuel limit d : ℕ) (before : Before) (left rest : List ℕ) → ((k : ℕ) (b : Before) (text : List ℕ) → group_from fuel limit (place (suc k) b) text ≡ Ok rest → Closes limit (suc k) b text rest)
    → cond (d == 0) (Ok left) (group_from fuel limit (place d before) left) ≡ Ok rest → Closes limit d before left rest
closes_next fuel limit d before left rest h e = grind arith

-- the scan ends only where all groups are closed
closes_sound : (fuel limit : ℕ) (rest : List ℕ) (k : ℕ) (before : Before) (text : List ℕ) → group_from fuel limit (place (suc k) before) text ≡ Ok rest → Closes limit (suc k) before text rest
unfolding group_from
closes_sound zero limit rest k before text e = absurd cc
closes_sound (suc fuel) limit rest k before text e =
    let s = ok_next text rest (step_at limit (place (suc k) before) text) (group_from fuel limit) e in
    extend limit k before text (drop s.1 text) rest s.0 (step_taken limit (place (suc k) before) text s.0 s.1 s.2)
    (closes_next fuel limit s.0.depth s.0.before (drop s.1 text) rest (closes_sound fuel limit rest) s.3)

-- ---- a brace that lies too deep

-- what stands before it, where k groups are open: pieces, and then the end of the innermost group, or groups within it
abbrev pub Ahead : (limit k : ℕ) (inner : List ℕ → Type 0) → Before → Pieces → List ℕ → Type 0
Ahead limit k inner before p text =
    ((more : List ℕ) × (text ≡ text_of p ++ right_brace ∷ more) × inner more)
    ⊎ ((groups : List Pieces) × (rest : List ℕ) × (text ≡ text_of p ++ (open_text groups ++ left_brace ∷ rest)) × (length groups + suc k ≡ limit) × GoesDeeper before p groups × AreOpen (limit - suc k) groups)

abbrev pub Deepens : (limit k : ℕ) → Before → List ℕ → Type 0
Deepens limit zero before text = ⊥
Deepens limit (suc k) before text = (p : Pieces) × AreValid (limit - suc k) before p × Ahead limit k (Deepens limit k Other) before p text

ahead_more : (limit k : ℕ) (inner : List ℕ → Type 0) (before to : Before) (p q : Pieces) (text front left : List ℕ) → text ≡ front ++ left → text_of q ≡ front ++ text_of p → after before q ≡ after to p → Ahead limit k inner to p left → Ahead limit k inner before q text
ahead_more limit k inner before to p q text front left split front-is after-is h = grind (arith, append_assoc)

-- a group is open, and what is behind its brace leads there
ahead_opens : (limit k : ℕ) (before : Before) (text left : List ℕ) → text ≡ left_brace ∷ left → suc k < limit → begins_octets before ≡ false
    → (inside : Pieces) → AreValid (limit - suc (suc k)) Other inside → Ahead limit (suc k) (Deepens limit (suc k) Other) Other inside left → Deepens limit (suc k) before text
ahead_opens limit k before text left split room kind inside v (inl h) =
    let j = h.2 in
    let room' : 0 < limit - suc k = omega (arith, room) in
    let v' : AreValid (limit - suc k - 1) Other inside = subst (λ (l : ℕ). AreValid l Other inside) (level_less limit k) v in
    let front : List ℕ = left_brace ∷ (text_of inside ++ right_brace ∷ []) in
    let whole : text ≡ front ++ h.0 = split ∙ ap (λ (x : List ℕ). left_brace ∷ x) (h.1 ∙ sym (append_assoc (text_of inside) (right_brace ∷ []) h.0)) in
    let front-is : text_of (group inside j.0) ≡ front ++ text_of j.0 = ap (λ (x : List ℕ). left_brace ∷ x) (sym (append_assoc (text_of inside) (right_brace ∷ []) (text_of j.0))) in
    (group inside j.0, (kind, room', v', j.1), ahead_more limit k (Deepens limit k Other) before Other j.0 (group inside j.0) text front h.0 whole front-is refl j.2)
ahead_opens limit k before text left split room kind inside v (inr h) =
    let v' : AreValid (limit - suc k - 1) Other inside = subst (λ (l : ℕ). AreValid l Other inside) (level_less limit k) v in
    let o' : AreOpen (limit - suc k - 1) h.0 = subst (λ (l : ℕ). AreOpen l h.0) (level_less limit k) h.5 in
    let whole : text ≡ open_text (inside ∷ h.0) ++ left_brace ∷ h.1 = split ∙ ap (λ (x : List ℕ). left_brace ∷ x) (h.2 ∙ sym (append_assoc (text_of inside) (open_text h.0) (left_brace ∷ h.1))) in
    (nothing, tt, inr (inside ∷ h.0, h.1, whole, omega (arith, h.3), kind, (v', h.4, o')))

ahead_word : (limit k : ℕ) (inner : List ℕ → Type 0) (before : Before) (p : Pieces) (left : List ℕ) → NoMore is_safe left → (levels : ℕ) → AreValid levels before p → Ahead limit k inner before p left → is_word_first p ≡ false
ahead_word limit k inner before p left ends levels v h = grind (arith, no_word_first)

deepen : (limit k : ℕ) (before : Before) (text left : List ℕ) (next : Place) → Taken limit (suc k) before text left next → Deepens limit next.depth next.before left → Deepens limit (suc k) before text
deepen limit k before text left next (opens split room kind is) h =
    let i : Deepens limit (suc (suc k)) Other left = subst (λ (d : ℕ). Deepens limit d Other left) (one_more k) (subst (λ (n : Place). Deepens limit n.depth n.before left) is h) in
    ahead_opens limit k before text left split room kind i.0 i.1 i.2
deepen limit k before text left next (holds_octets body split room kind is_octets is) h =
    let i : Deepens limit (suc k) Other left = subst (λ (n : Place). Deepens limit n.depth n.before left) is h in
    let room' : 0 < limit - suc k = omega (arith, room) in
    let front : List ℕ = left_brace ∷ (body ++ right_brace ∷ []) in
    let whole : text ≡ front ++ left = split ∙ ap (λ (x : List ℕ). left_brace ∷ x) (sym (append_assoc body (right_brace ∷ []) left)) in
    let front-is : text_of (octets body i.0) ≡ front ++ text_of i.0 = ap (λ (x : List ℕ). left_brace ∷ x) (sym (append_assoc body (right_brace ∷ []) (text_of i.0))) in
    (octets body i.0, (kind, room', is_octets, i.1), ahead_more limit k (Deepens limit k Other) before Other i.0 (octets body i.0) text front left whole front-is refl i.2)
deepen limit k before text left next (closes split is) h =
    let i : Deepens limit k Other left = subst (λ (d : ℕ). Deepens limit d Other left) (one_less k) (subst (λ (n : Place). Deepens limit n.depth n.before left) is h) in
    (nothing, tt, inl (left, split, i))
deepen limit k before text left next (takes_quoted span split is_quoted is) h =
    let i : Deepens limit (suc k) Other left = subst (λ (n : Place). Deepens limit n.depth n.before left) is h in
    (quoted span i.0, (is_quoted, i.1), ahead_more limit k (Deepens limit k Other) before Other i.0 (quoted span i.0) text span left split refl refl i.2)
deepen limit k before text left next (takes_word w split is_word ends is) h =
    let i : Deepens limit (suc k) (after_word before w) left = subst (λ (n : Place). Deepens limit n.depth n.before left) is h in
    let first : is_word_first i.0 ≡ false = ahead_word limit k (Deepens limit k Other) (after_word before w) i.0 left ends (limit - suc k) i.1 i.2 in
    (word w i.0, (is_word, first, i.1), ahead_more limit k (Deepens limit k Other) before (after_word before w) i.0 (word w i.0) text w left split refl refl i.2)
deepen limit k before text left next (takes_mark b split is_a_mark is) h =
    let i : Deepens limit (suc k) (after_mark b) left = subst (λ (n : Place). Deepens limit n.depth n.before left) is h in
    (mark b i.0, (is_a_mark, i.1), ahead_more limit k (Deepens limit k Other) before (after_mark b) i.0 (mark b i.0) text (b ∷ []) left split refl refl i.2)
deepen limit k before text left next (takes_space span split sep is) h =
    let i : Deepens limit (suc k) before left = subst (λ (n : Place). Deepens limit n.depth n.before left) is h in
    (space span i.0, (sep, i.1), ahead_more limit k (Deepens limit k Other) before before i.0 (space span i.0) text span left split refl refl i.2)

-- ---- faults

-- why a step fails: something unexpected, or a brace that lies too deep
abbrev StepFault : ℕ → ℕ → ScanFault → List ℕ → Type 0
StepFault limit depth f text = (f ≡ Unexpected) ⊎ ((f ≡ TooDeep) × (inner : List ℕ) × (text ≡ left_brace ∷ inner) × (limit ≤ depth))

step_err : (f g : ScanFault) → let r : ScanStep = Err f in r ≡ Err g → g ≡ f
step_err f g e = cc

not_err : (P : Type 0) (x : Place × ℕ) (g : ScanFault) → let r : ScanStep = Ok x in r ≡ Err g → P
not_err P x g e = absurd cc

open_fault : (limit depth : ℕ) (before : Before) (b : ℕ) (inner : List ℕ) (f : ScanFault) → b == left_brace ≡ true → (t : Bool) → nat_le limit depth ≡ t → cond t (Err TooDeep) (brace_at depth before inner) ≡ Err f → StepFault limit depth f (b ∷ inner)
open_fault limit depth before b inner f is t full e = grind arith

passed_fault : (at : Place) (o : Option ℕ) (f : ScanFault) → passed at o ≡ Err f → f ≡ Unexpected
passed_fault at o f e = grind arith

guard_fault : (t : Bool) (x : Place × ℕ) (f : ScanFault) → let r : ScanStep = Ok x in cond t (Err Unexpected) r ≡ Err f → f ≡ Unexpected
guard_fault t x f e = grind arith

step_fault : (limit depth : ℕ) (before : Before) (text : List ℕ) (f : ScanFault) → step_at limit (place depth before) text ≡ Err f → StepFault limit depth f text
unfolding step_at
step_fault limit depth before [] f e = inl (step_err Unexpected f e)
step_fault limit depth before (b ∷ bs) f e =
    piece_cases (StepFault limit depth f (b ∷ bs)) (b == left_brace) (b == right_brace) (b == quote_mark) (is_safe b) (is_solid b) _ _ _ _ _ _ (Err f) e
    (λ is x. open_fault limit depth before b bs f is (nat_le limit depth) refl x)
    (λ is x. not_err _ _ f x)
    (λ is x. inl (passed_fault (place depth Other) (quoted_len (b ∷ bs)) f x))
    (λ is x. not_err _ _ f x)
    (λ l r q s o x. inl (guard_fault (b == nul) (place depth (after_mark b), 1) f x))
    (λ x. inl (guard_fault (space_len (b ∷ bs) == 0) (place depth before, space_len (b ∷ bs)) f x))

-- why a scan fails
abbrev GroupFault : ℕ → ℕ → Before → ScanFault → List ℕ → Type 0
GroupFault limit k before f text = (f ≡ Unexpected) ⊎ ((f ≡ TooDeep) × Deepens limit (suc k) before text)

err_next : (text : List ℕ) (f : ScanFault) (s : ScanStep) (more : Place → List ℕ → Result (List ℕ) ScanFault) → go_on more text s ≡ Err f
    → (s ≡ Err f) ⊎ ((next : Place) × (n : ℕ) × (s ≡ Ok (next, n)) × (cond (next.depth == 0) (Ok (drop n text)) (more next (drop n text)) ≡ Err f))
err_next text f s more e = grind arith

deepens_next : (fuel limit d : ℕ) (before : Before) (left : List ℕ) (f : ScanFault) → ((k : ℕ) (b : Before) (text : List ℕ) → suc k ≤ limit → group_from fuel limit (place (suc k) b) text ≡ Err f → GroupFault limit k b f text)
    → d ≤ limit → cond (d == 0) (Ok left) (group_from fuel limit (place d before) left) ≡ Err f → (f ≡ Unexpected) ⊎ ((f ≡ TooDeep) × Deepens limit d before left)
deepens_next fuel limit d before left f h le e = grind arith

taken_depth : (limit k : ℕ) (before : Before) (text left : List ℕ) (next : Place) → Taken limit (suc k) before text left next → suc k ≤ limit → next.depth ≤ limit
taken_depth limit k before text left next h le = grind arith

full_here : (limit k : ℕ) (before : Before) (text : List ℕ) (f : ScanFault) → suc k ≤ limit → StepFault limit (suc k) f text → GroupFault limit k before f text
full_here limit k before text f le (inl u) = inl u
full_here limit k before text f le (inr d) = inr (d.0, (nothing, tt, inr ([], d.1, d.2, omega (arith, le, d.3), tt, tt)))

fault_sound : (fuel limit : ℕ) (f : ScanFault) (k : ℕ) (before : Before) (text : List ℕ) → suc k ≤ limit → group_from fuel limit (place (suc k) before) text ≡ Err f → GroupFault limit k before f text
unfolding group_from
fault_sound zero limit f k before text le e = inl cc
fault_sound (suc fuel) limit f k before text le e =
    elim (err_next text f (step_at limit (place (suc k) before) text) (group_from fuel limit) e) [
      | inl s ↦ full_here limit k before text f le (step_fault limit (suc k) before text f s)
      | inr s ↦
          let t = step_taken limit (place (suc k) before) text s.0 s.1 s.2 in
          elim (deepens_next fuel limit s.0.depth s.0.before (drop s.1 text) f (fault_sound fuel limit f) (taken_depth limit k before text (drop s.1 text) s.0 t le) s.3) [
            | inl u ↦ inl u
            | inr d ↦ inr (d.0, deepen limit k before text (drop s.1 text) s.0 t d.1)
          ]
    ]

-- ---- groups

-- what a scan of a group took
pub record IsTakenGroup (depth : ℕ) (text span rest : List ℕ) : Type 0 where
  pub split : text ≡ span ++ rest
  pub group : IsGroup depth span

found_parts : (text span rest : List ℕ) (r : Result (List ℕ) ScanFault) → group_found text r ≡ Ok (span, rest) → (r ≡ Ok rest) × (take (length text - length rest) text ≡ span)
found_parts text span rest r e = grind arith

group_cases : (depth b : ℕ) (bs span rest : List ℕ) (t z : Bool) → b == left_brace ≡ t → depth == 0 ≡ z → cond t (cond z (Err TooDeep) (group_found (b ∷ bs) (group_rest depth (place 1 Other) bs))) (Err Unexpected) ≡ Ok (span, rest) → IsTakenGroup depth (b ∷ bs) span rest
group_cases depth b bs span rest false z is none e = absurd cc
group_cases depth b bs span rest true true is none e = absurd cc
group_cases depth b bs span rest true false is none e =
    let f = found_parts (b ∷ bs) span rest (group_rest depth (place 1 Other) bs) e in
    let c = closes_sound (suc (length bs)) depth rest 0 Other bs f.0 in
    let close : c.1 ≡ rest = c.4 in
    let g : List ℕ = left_brace ∷ (text_of c.0 ++ right_brace ∷ []) in
    let whole : b ∷ bs ≡ g ++ rest =
    ap (λ (x : ℕ). x ∷ bs) (eqb-true b left_brace is) ∙ ap (λ (x : List ℕ). left_brace ∷ x) (c.2 ∙ ap (λ (x : List ℕ). text_of c.0 ++ right_brace ∷ x) close ∙ sym (append_assoc (text_of c.0) (right_brace ∷ []) rest)) in
    let len : length (b ∷ bs) - length rest ≡ length g = omega (arith, ap length whole, length-append g rest) in
    let span-is : span ≡ g = sym f.1 ∙ ap (λ (n : ℕ). take n (b ∷ bs)) len ∙ ap (take (length g)) whole ∙ take_at g rest (length g) refl in
    let some : 0 < depth = omega (arith, eqb-false depth 0 none) in
    record {
      split = whole ∙ ap (λ (x : List ℕ). x ++ rest) (sym span-is);
      group = record { inside = c.0; split = span-is; some = some; valid = c.3 };
    }

pub group_took : (depth : ℕ) (text span rest : List ℕ) → balanced_at depth text ≡ Ok (span, rest) → IsTakenGroup depth text span rest
unfolding balanced_at
group_took depth [] span rest e = absurd cc
group_took depth (b ∷ bs) span rest e = group_cases depth b bs span rest (b == left_brace) (depth == 0) refl refl e

abbrev TopFault : ℕ → ScanFault → List ℕ → Type 0
TopFault depth f text = (f ≡ Unexpected) ⊎ ((f ≡ TooDeep) × IsTooDeep depth text)

found_err : (text : List ℕ) (f : ScanFault) (r : Result (List ℕ) ScanFault) → group_found text r ≡ Err f → r ≡ Err f
found_err text f r e = grind arith

top_err : (f g : ScanFault) → let r : Result (List ℕ × List ℕ) ScanFault = Err f in r ≡ Err g → g ≡ f
top_err f g e = cc

top_deep : (depth : ℕ) (text bs : List ℕ) → text ≡ left_brace ∷ bs → 0 < depth → (p : Pieces) → AreValid (depth - 1) Other p → Ahead depth 0 (Deepens depth 0 Other) Other p bs → IsTooDeep depth text
top_deep depth text bs first some p v (inl h) = absurd (h.2)
top_deep depth text bs first some p v (inr h) = record {
  groups = p ∷ h.0;
  rest = h.1;
  split = first ∙ ap (λ (x : List ℕ). left_brace ∷ x) (h.2 ∙ sym (append_assoc (text_of p) (open_text h.0) (left_brace ∷ h.1)));
  full = omega (arith, h.3);
  valid = (v, h.4, h.5);
}

top_cases : (depth b : ℕ) (bs : List ℕ) (f : ScanFault) (t z : Bool) → b == left_brace ≡ t → depth == 0 ≡ z → cond t (cond z (Err TooDeep) (group_found (b ∷ bs) (group_rest depth (place 1 Other) bs))) (Err Unexpected) ≡ Err f → TopFault depth f (b ∷ bs)
top_cases depth b bs f false z is none e = inl (top_err Unexpected f e)
top_cases depth b bs f true true is none e =
    inr (top_err TooDeep f e, record { groups = []; rest = bs; split = ap (λ (x : ℕ). x ∷ bs) (eqb-true b left_brace is); full = sym (eqb-true depth 0 none); valid = tt })
top_cases depth b bs f true false is none e =
    let some : 0 < depth = omega (arith, eqb-false depth 0 none) in
    elim (fault_sound (suc (length bs)) depth f 0 Other bs some (found_err (b ∷ bs) f (group_rest depth (place 1 Other) bs) e)) [
      | inl u ↦ inl u
      | inr d ↦ inr (d.0, top_deep depth (b ∷ bs) bs (ap (λ (x : ℕ). x ∷ bs) (eqb-true b left_brace is)) some d.1.0 d.1.1 d.1.2)
    ]

top_fault : (depth : ℕ) (text : List ℕ) (f : ScanFault) → balanced_at depth text ≡ Err f → TopFault depth f text
unfolding balanced_at
top_fault depth text f e = grind (arith, top_err, top_cases)

fault_cases : (depth : ℕ) (text : List ℕ) (f : ScanFault) → balanced_at depth text ≡ Err f → TopFault depth f text → HasNoGroup depth f text
fault_cases depth text f e h = grind (arith, too_deep_again, group_again)

-- the fault is the one that the definition has
pub group_fault : (depth : ℕ) (text : List ℕ) (f : ScanFault) → balanced_at depth text ≡ Err f → HasNoGroup depth f text
group_fault depth text f e = fault_cases depth text f e (top_fault depth text f e)

pub ruleset group_scans = (group_fault, deep_fault, no_group_deep)

-- what is left is what is behind the group
pub group_len_is : (depth : ℕ) (text rest : List ℕ) → balanced_at depth text ≡ Ok (take (length text - length rest) text, rest)
    → (balanced_at depth text ≡ Ok (take (length text - length rest) text, drop (length text - length rest) text)) × (length text - length rest ≤ length text)
group_len_is depth text rest e =
    let n = length text - length rest in
    let t = group_took depth text (take n text) rest e in
    let len : length (take n text) ≡ n = omega (arith, ap length t.split, length-append (take n text) rest) in
    let left : drop n text ≡ rest = ap (drop n) t.split ∙ drop_at (take n text) rest n len in
    (e ∙ ap (λ (x : List ℕ). Ok (take n text, x)) (sym left), omega arith)

-- the same, as the scan says it
pub group_span : (depth : ℕ) (text span rest : List ℕ) → balanced_at depth text ≡ Ok (span, rest) → (text ≡ span ++ rest) × IsGroup depth span
group_span depth text span rest e = let t = group_took depth text span rest e in (t.split, t.group)

-- the same from what is behind the first brace
pub group_len_at : (depth : ℕ) (text rest : List ℕ) → 0 < length text → get_or text 0 0 ≡ left_brace → 0 < depth → group_rest depth (place 1 Other) (take (length text - 1) (drop 1 text)) ≡ Ok rest
    → (balanced_at depth text ≡ Ok (take (length text - length rest) text, drop (length text - length rest) text)) × (length text - length rest ≤ length text)
unfolding balanced_at
group_len_at depth [] rest some first deep e = absurd (omega arith)
group_len_at depth (b ∷ bs) rest some first deep e =
    let is : b == left_brace ≡ true = ap (λ (c : ℕ). c == left_brace) first in
    let not-none : depth == 0 ≡ false = eq_zero depth deep in
    let e' : group_rest depth (place 1 Other) bs ≡ Ok rest = ap (group_rest depth (place 1 Other)) (sym (whole_tail b bs)) ∙ e in
    let one : balanced_at depth (b ∷ bs) ≡ group_found (b ∷ bs) (group_rest depth (place 1 Other) bs) = rw (is, not-none) refl in
    group_len_is depth (b ∷ bs) rest (one ∙ ap (group_found (b ∷ bs)) e')
