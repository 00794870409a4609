-- White space as it is scanned is white space as the grammar has it.
use Rattle.std.proofs.Common.{◌≡◌, inl, inr, ℕ, Bool, true, false, cond, not, ◌&&◌, ◌==◌, List, [], ◌∷◌, ◌++◌, refl, ap, sym, subst, ◌∙◌, append_assoc, arith}
use Rattle.std.specs.List.{concat, list_all}
use Rattle.std.proofs.lemmas.Bool.{eqb-true, not-true, and_parts}
use Rattle.gw_base.specs.Lang.{◌▹◌}
use Rattle.gw_text.specs.Lexical.{nul, semicolon, is_blank, is_eol, is_comment_byte}
use Rattle.gw_text.specs.Runs.{IsRun}
use Rattle.gw_text.specs.Space.{IsByte, IsComment, IsSpacePiece, Each, IsSpace}
use Rattle.gw_text.proofs.SpaceLemmas.{is_space}

-- ---- pieces are scanned

comment_scanned : (inner more : List ℕ) (e : ℕ) → IsRun is_comment_byte inner → is_eol e ≡ true → is_space true (inner ++ (e ∷ more)) ≡ is_space false more
comment_scanned [] more e run ends = rw ends refl
comment_scanned (b ∷ bs) more e run ends =
    let h = and_parts (is_comment_byte b) (list_all is_comment_byte bs) run in
    let k = and_parts (not (is_eol b)) (not (b == nul)) h.0 in
    let goes_on : is_eol b ≡ false = not-true (is_eol b) k.0 in
    let some : b == nul ≡ false = not-true (b == nul) k.1 in
    rw (goes_on, some) (comment_scanned bs more e h.1 ends)

piece_scanned : (piece more : List ℕ) → IsSpacePiece piece → is_space false (piece ++ more) ≡ is_space false more
piece_scanned piece more h = grind (arith, comment_scanned, append_assoc)

pieces_scanned : (pieces : List (List ℕ)) → Each IsSpacePiece pieces → is_space false (concat pieces) ≡ true
pieces_scanned [] each = refl
pieces_scanned (p ∷ ps) each = piece_scanned p (concat ps) each.0 ∙ pieces_scanned ps each.1

pub space_scans : (text : List ℕ) → IsSpace text → is_space false text ≡ true
space_scans text h = ap (is_space false) h.whole ∙ pieces_scanned h.pieces h.each

-- ---- what is scanned is in pieces

-- white space, or what is left of a comment and white space behind it
abbrev LeftOf : Bool → List ℕ → Type 0
LeftOf false text = IsSpace text
LeftOf true text = ((IsRun is_comment_byte ▹ IsByte is_eol) ▹ IsSpace) text

one_more : (piece text : List ℕ) → IsSpacePiece piece → IsSpace text → IsSpace (piece ++ text)
one_more piece text p h = record { pieces = piece ∷ h.pieces; whole = ap (λ (x : List ℕ). piece ++ x) h.whole; each = (p, h.each) }

comment_more : (text : List ℕ) → LeftOf true text → IsSpace (semicolon ∷ text)
comment_more text h =
    let piece : List ℕ = semicolon ∷ h.front in
    let c : IsComment piece = record { front = semicolon ∷ []; back = h.front; split = refl; first = refl; second = h.first } in
    subst IsSpace (ap (λ (x : List ℕ). semicolon ∷ x) (sym h.split)) (one_more piece h.back (inr c) h.second)

eol_more : (b : ℕ) (bs : List ℕ) → is_eol b ≡ true → IsSpace bs → LeftOf true (b ∷ bs)
eol_more b bs ends h = record {
  front = b ∷ [];
  back = bs;
  split = refl;
  first = record { front = []; back = b ∷ []; split = refl; first = refl; second = (b, refl, ends) };
  second = h;
}

inner_more : (b : ℕ) (bs : List ℕ) → is_comment_byte b ≡ true → LeftOf true bs → LeftOf true (b ∷ bs)
inner_more b bs is h =
    let f = h.first in
    record {
      front = b ∷ h.front;
      back = h.back;
      split = ap (λ (x : List ℕ). b ∷ x) h.split;
      first = record { front = b ∷ f.front; back = f.back; split = ap (λ (x : List ℕ). b ∷ x) f.split; first = (let run = f.first in rw (is, run) refl); second = f.second };
      second = h.second;
    }

out_cases : (P : Type 0) (w c rb rc : Bool) → cond w rb (c && rc) ≡ true → (w ≡ true → rb ≡ true → P) → (c ≡ true → rc ≡ true → P) → P
out_cases P w c rb rc h f g = grind arith

in_cases : (P : Type 0) (e z rb rc : Bool) → cond e rb (not z && rc) ≡ true → (e ≡ true → rb ≡ true → P) → (not e && not z ≡ true → rc ≡ true → P) → P
in_cases P e z rb rc h f g = grind arith

left_of : (inside : Bool) (text : List ℕ) → is_space inside text ≡ true → LeftOf inside text
left_of false [] h = record { pieces = []; whole = refl; each = tt }
left_of true [] h = absurd cc
left_of false (b ∷ bs) h =
    out_cases (IsSpace (b ∷ bs)) (is_blank b) (b == semicolon) (is_space false bs) (is_space true bs) h
    (λ w s. one_more (b ∷ []) bs (inl (b, refl, w)) (left_of false bs s))
    (λ c s. subst (λ (x : ℕ). IsSpace (x ∷ bs)) (sym (eqb-true b semicolon c)) (comment_more bs (left_of true bs s)))
left_of true (b ∷ bs) h =
    in_cases (LeftOf true (b ∷ bs)) (is_eol b) (b == nul) (is_space false bs) (is_space true bs) h
    (λ e s. eol_more b bs e (left_of false bs s))
    (λ k s. inner_more b bs k (left_of true bs s))

pub space_pieces : (text : List ℕ) → is_space false text ≡ true → IsSpace text
space_pieces text h = left_of false text h
