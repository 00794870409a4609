-- The white space at the front of a text is the longest that there is.
use Rattle.std.proofs.Common.{◌≡◌, ℕ, ◌+◌, ◌≤◌, Bool, true, false, cond, not, ◌&&◌, ◌==◌, List, [], ◌∷◌, ◌++◌, length, take, refl, ap, sym, ◌∙◌, append_assoc, length-append, arith}
use Rattle.std.proofs.lemmas.List.{append-nil, take_at}
use Rattle.std.proofs.lemmas.Bool.{or_parts}
use Rattle.gw_text.specs.Lexical.{nul, semicolon, is_blank, is_eol, is_space_start}
use Rattle.gw_text.specs.SpaceScan.{space_len_from, space_len}
use Rattle.gw_text.specs.Runs.{begins}

-- the text is white space; with inside, it begins within a comment
abbrev pub is_space : (inside : Bool) → List ℕ → Bool
is_space false [] = true
is_space true [] = false
is_space false (b ∷ bs) = cond (is_blank b) (is_space false bs) (b == semicolon && is_space true bs)
is_space true (b ∷ bs) = cond (is_eol b) (is_space false bs) (not (b == nul) && is_space true bs)

pub out_step : (w c rb rc : Bool) (lb lc best total : ℕ) → cond w rb (c && rc) ≡ true → (rb ≡ true → lb ≡ total) → (rc ≡ true → lc ≡ total) → cond w lb (cond c lc best) ≡ total
out_step w c rb rc lb lc best total h f g = grind arith

pub in_step : (e z rb rc : Bool) (lb lc best total : ℕ) → cond e rb (not z && rc) ≡ true → (rb ≡ true → lb ≡ total) → (rc ≡ true → lc ≡ total) → cond e lb (cond z best lc) ≡ total
in_step e z rb rc lb lc best total h f g = grind arith

-- ---- white space that nothing goes on with is found whole

again_from : (inside : Bool) (passed best : ℕ) (front rest : List ℕ) → is_space inside front ≡ true → (inside ≡ false → best ≡ passed) → begins is_space_start rest ≡ false → space_len_from inside passed best (front ++ rest) ≡ passed + length front
again_from true passed best [] rest space so_far ends = absurd cc
again_from false passed best [] [] space so_far ends = so_far refl ∙ omega arith
again_from false passed best [] (b ∷ bs) space so_far ends = grind (arith, or_parts)
again_from false passed best (b ∷ bs) rest space so_far ends =
    out_step (is_blank b) (b == semicolon) (is_space false bs) (is_space true bs) _ _ best _ space
    (λ h. again_from false (passed + 1) (passed + 1) bs rest h (λ _. refl) ends ∙ omega arith)
    (λ h. again_from true (passed + 1) best bs rest h (λ e. absurd cc) ends ∙ omega arith)
again_from true passed best (b ∷ bs) rest space so_far ends =
    in_step (is_eol b) (b == nul) (is_space false bs) (is_space true bs) _ _ best _ space
    (λ h. again_from false (passed + 1) (passed + 1) bs rest h (λ _. refl) ends ∙ omega arith)
    (λ h. again_from true (passed + 1) best bs rest h (λ e. absurd cc) ends ∙ omega arith)

pub space_again : (front rest : List ℕ) → is_space false front ≡ true → begins is_space_start rest ≡ false → space_len (front ++ rest) ≡ length front
unfolding space_len
space_again front rest space ends = again_from false 0 0 front rest space (λ _. refl) ends ∙ omega arith

-- ---- what is found is white space

-- the text begins with front, after which white space goes on as it does from inside
abbrev GoesOn : Bool → List ℕ → Type 0
GoesOn inside front = (more : List ℕ) → is_space false (front ++ more) ≡ is_space inside more

goes_on_step : (inside next : Bool) (front : List ℕ) (b : ℕ) → GoesOn inside front → ((more : List ℕ) → is_space inside (b ∷ more) ≡ is_space next more) → GoesOn next (front ++ b ∷ [])
goes_on_step inside next front b before step more = ap (is_space false) (append_assoc front (b ∷ []) more) ∙ before (b ∷ more) ∙ step more

here_is : (front bs : List ℕ) → GoesOn false front → is_space false (take (length front) (front ++ bs)) ≡ true
here_is front bs goes_on = ap (is_space false) (take_at front bs (length front) refl ∙ sym (append-nil front)) ∙ goes_on []

pub choose : (P : ℕ → Type 0) (w c : Bool) (lb lc best : ℕ) → (w ≡ true → P lb) → (w ≡ false → c ≡ true → P lc) → (w ≡ false → c ≡ false → P best) → P (cond w lb (cond c lc best))
choose P w c lb lc best f g h = grind arith

pub choose_in : (P : ℕ → Type 0) (e z : Bool) (lb lc best : ℕ) → (e ≡ true → P lb) → (e ≡ false → z ≡ true → P best) → (e ≡ false → z ≡ false → P lc) → P (cond e lb (cond z best lc))
choose_in P e z lb lc best f g h = grind arith

sound_from : (inside : Bool) (front bs : List ℕ) (passed best : ℕ) → passed ≡ length front → GoesOn inside front → is_space false (take best (front ++ bs)) ≡ true → is_space false (take (space_len_from inside passed best bs) (front ++ bs)) ≡ true
sound_from inside front [] passed best len goes_on so_far = so_far
sound_from false front (b ∷ bs) passed best len goes_on so_far =
    let next : List ℕ = front ++ b ∷ [] in
    let regrouped : next ++ bs ≡ front ++ b ∷ bs = append_assoc front (b ∷ []) bs in
    let len' : passed + 1 ≡ length next = omega (arith, length-append front (b ∷ []), len) in
    let P : ℕ → Type 0 = λ n. is_space false (take n (front ++ b ∷ bs)) ≡ true in
    choose P (is_blank b) (b == semicolon) _ _ best
    (λ w. let on : GoesOn false next = goes_on_step false false front b goes_on (λ more. rw w refl) in
    rw (← regrouped) (sound_from false next bs (passed + 1) (passed + 1) len' on (rw len' (here_is next bs on))))
    (λ w c. let on : GoesOn true next = goes_on_step false true front b goes_on (λ more. rw (w, c) refl) in
    rw (← regrouped) (sound_from true next bs (passed + 1) best len' on (rw regrouped so_far)))
    (λ w c. so_far)
sound_from true front (b ∷ bs) passed best len goes_on so_far =
    let next : List ℕ = front ++ b ∷ [] in
    let regrouped : next ++ bs ≡ front ++ b ∷ bs = append_assoc front (b ∷ []) bs in
    let len' : passed + 1 ≡ length next = omega (arith, length-append front (b ∷ []), len) in
    let P : ℕ → Type 0 = λ n. is_space false (take n (front ++ b ∷ bs)) ≡ true in
    choose_in P (is_eol b) (b == nul) _ _ best
    (λ w. let on : GoesOn false next = goes_on_step true false front b goes_on (λ more. rw w refl) in
    rw (← regrouped) (sound_from false next bs (passed + 1) (passed + 1) len' on (rw len' (here_is next bs on))))
    (λ w c. so_far)
    (λ w c. let on : GoesOn true next = goes_on_step true true front b goes_on (λ more. rw (w, c) refl) in
    rw (← regrouped) (sound_from true next bs (passed + 1) best len' on (rw regrouped so_far)))

pub space_is : (text : List ℕ) → is_space false (take (space_len text) text) ≡ true
unfolding space_len
space_is text = sound_from false [] text 0 0 refl (λ more. refl) refl

-- ---- no white space is longer

no_less : (inside : Bool) (passed best : ℕ) (bs : List ℕ) → best ≤ passed → best ≤ space_len_from inside passed best bs
no_less inside passed best [] le = omega arith
no_less false passed best (b ∷ bs) le = grind (arith, no_less false (passed + 1) (passed + 1) bs (omega arith), no_less true (passed + 1) best bs (omega arith), choose)
no_less true passed best (b ∷ bs) le = grind (arith, no_less false (passed + 1) (passed + 1) bs (omega arith), no_less true (passed + 1) best bs (omega arith), choose_in)

longest_from : (inside : Bool) (passed best : ℕ) (other left : List ℕ) → is_space inside other ≡ true → best ≤ passed → (inside ≡ false → best ≡ passed) → passed + length other ≤ space_len_from inside passed best (other ++ left)
longest_from true passed best [] left space le so_far = absurd cc
longest_from false passed best [] left space le so_far = omega (arith, so_far refl, no_less false passed best left le)
longest_from false passed best (b ∷ bs) left space le so_far =
    choose (λ n. passed + length (b ∷ bs) ≤ n) (is_blank b) (b == semicolon) _ _ best
    (λ w. let h : is_space false bs ≡ true = rw w at space in omega (arith, longest_from false (passed + 1) (passed + 1) bs left h (omega arith) (λ _. refl)))
    (λ w c. let h : is_space true bs ≡ true = rw (w, c) at space in omega (arith, longest_from true (passed + 1) best bs left h (omega arith) (λ e. absurd cc)))
    (λ w c. let h : false ≡ true = rw (w, c) at space in absurd cc)
longest_from true passed best (b ∷ bs) left space le so_far =
    choose_in (λ n. passed + length (b ∷ bs) ≤ n) (is_eol b) (b == nul) _ _ best
    (λ w. let h : is_space false bs ≡ true = rw w at space in omega (arith, longest_from false (passed + 1) (passed + 1) bs left h (omega arith) (λ _. refl)))
    (λ w c. let h : false ≡ true = rw (w, c) at space in absurd cc)
    (λ w c. let h : is_space true bs ≡ true = rw (w, c) at space in omega (arith, longest_from true (passed + 1) best bs left h (omega arith) (λ e. absurd cc)))

pub space_longest : (other left : List ℕ) → is_space false other ≡ true → length other ≤ space_len (other ++ left)
unfolding space_len
space_longest other left space = omega (arith, longest_from false 0 0 other left space (omega arith) (λ _. refl))

within_from : (inside : Bool) (passed best : ℕ) (bs : List ℕ) → best ≤ passed → space_len_from inside passed best bs ≤ passed + length bs
within_from inside passed best [] le = omega arith
within_from false passed best (b ∷ bs) le = grind (arith, within_from false (passed + 1) (passed + 1) bs (omega arith), within_from true (passed + 1) best bs (omega arith), choose)
within_from true passed best (b ∷ bs) le = grind (arith, within_from false (passed + 1) (passed + 1) bs (omega arith), within_from true (passed + 1) best bs (omega arith), choose_in)

pub space_len-le : (text : List ℕ) → space_len text ≤ length text
unfolding space_len
space_len-le text = omega (arith, within_from false 0 0 text (omega arith))
