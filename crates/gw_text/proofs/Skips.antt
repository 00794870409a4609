-- What is behind white space.
use Rattle.std.proofs.Common.{◌≡◌, ℕ, suc, ◌+◌, ◌≤◌, Bool, true, false, cond, ◌==◌, ◌||◌, ◌&&◌, List, [], ◌∷◌, ◌++◌, length, take, drop, refl, ap, sym, ◌∙◌, length-append, arith}
use Rattle.std.proofs.lemmas.List.{take-append-drop}
use Rattle.std.proofs.Math.Seq.{drop-append-add}
use Rattle.gw_base.specs.Lang.{Both}
use Rattle.gw_text.specs.Lexical.{nul, semicolon, is_blank, is_eol, is_space_start}
use Rattle.gw_text.specs.Space.{IsSpace}
use Rattle.gw_text.specs.SpaceScan.{space_len_from, space_len, skip}
use Rattle.gw_text.specs.Runs.{begins}
use Rattle.gw_text.proofs.SpaceLemmas.{is_space, space_again, space_is, out_step, in_step}
use Rattle.gw_text.proofs.SpacePieces.{space_scans, space_pieces}
use Rattle.gw_text.proofs.SpaceParts.{further}

over_from : (inside : Bool) (passed best : ℕ) (front rest : List ℕ) → is_space inside front ≡ true → (inside ≡ false → best ≡ passed) → space_len_from inside passed best (front ++ rest) ≡ space_len_from false (passed + length front) (passed + length front) rest
over_from true passed best [] rest scanned so_far = absurd cc
over_from false passed best [] rest scanned so_far = grind arith
over_from false passed best (b ∷ bs) rest scanned so_far =
    let e : passed + suc (length bs) ≡ passed + 1 + length bs = omega arith in
    rw e (out_step (is_blank b) (b == semicolon) (is_space false bs) (is_space true bs) _ _ best _ scanned
    (λ h. over_from false (passed + 1) (passed + 1) bs rest h (λ _. refl))
    (λ h. over_from true (passed + 1) best bs rest h (λ e. absurd cc)))
over_from true passed best (b ∷ bs) rest scanned so_far =
    let e : passed + suc (length bs) ≡ passed + 1 + length bs = omega arith in
    rw e (in_step (is_eol b) (b == nul) (is_space false bs) (is_space true bs) _ _ best _ scanned
    (λ h. over_from false (passed + 1) (passed + 1) bs rest h (λ _. refl))
    (λ h. over_from true (passed + 1) best bs rest h (λ e. absurd cc)))

pub space_len-append : (front rest : List ℕ) → IsSpace front → space_len (front ++ rest) ≡ length front + space_len rest
unfolding space_len
space_len-append front rest h =
    let n = length front in
    let z : 0 + n ≡ n = omega arith in
    let s : space_len_from false n n rest ≡ n + space_len_from false 0 0 rest = further n false 0 0 n n rest (omega arith) (omega arith) in
    over_from false 0 0 front rest (space_scans front h) (λ _. refl) ∙ rw z s

-- no white space is the empty one
pub no_space : IsSpace []
no_space = record { pieces = []; whole = refl; each = tt }

-- white space in front of a text changes nothing of what is behind
pub skip_space : (front rest : List ℕ) → IsSpace front → skip (front ++ rest) ≡ skip rest
unfolding skip
skip_space front rest h = rw (space_len-append front rest h) (drop-append-add front rest (space_len rest))

-- a text with no white space at its front stays
pub skip_stays : (text : List ℕ) → begins is_space_start text ≡ false → skip text ≡ text
unfolding skip
skip_stays text ends = rw (space_again [] text refl ends) refl

-- a text is white space, and what is behind it
pub skip_is : (text : List ℕ) → Both IsSpace (λ rest. rest ≡ skip text) text
unfolding skip
skip_is text = record { front = take (space_len text) text; back = drop (space_len text) text; split = sym (take-append-drop (space_len text) text); first = space_pieces (take (space_len text) text) (space_is text); second = refl }

pub skip_skip : (text : List ℕ) → skip (skip text) ≡ skip text
skip_skip text =
    let h = skip_is text in
    ap skip (sym h.second) ∙ sym (ap skip h.split ∙ skip_space h.front h.back h.first)

start_of : (w c rb rc : Bool) → cond w rb (c && rc) ≡ true → w || c ≡ true
start_of w c rb rc h = grind arith

-- what white space begins with
pub space_first : (c : ℕ) (cs : List ℕ) → IsSpace (c ∷ cs) → is_space_start c ≡ true
space_first c cs h = start_of (is_blank c) (c == semicolon) (is_space false cs) (is_space true cs) (space_scans (c ∷ cs) h)

pub skip_len : (text : List ℕ) → length (skip text) ≤ length text
skip_len text =
    let h = skip_is text in
    omega (arith, ap length h.split, length-append h.front h.back, ap length h.second)
