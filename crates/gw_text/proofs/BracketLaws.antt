-- Brackets as they are scanned are brackets as they are defined.
use Rattle.std.proofs.lemmas.Grind.{common_steps}
use Rattle.std.proofs.Common.{◌≡◌, inl, inr, ℕ, zero, suc, ◌-◌, ◌<◌, Bool, true, false, cond, ◌==◌, List, [], ◌∷◌, ◌++◌, length, get_or, take, drop, Option, Some, None, Ok, Err, refl, ap, sym, subst, ◌∙◌, append_assoc, length-append, arith}
use Rattle.std.specs.List.{concat}
use Rattle.std.proofs.lemmas.List.{take-append-drop, take_at, drop_at, length-take}
use Rattle.std.proofs.lemmas.Bool.{eqb-true, eqb-false}
use Rattle.gw_text.specs.Lexical.{quote_mark, left_bracket, right_bracket, is_space_start}
use Rattle.gw_text.specs.Runs.{begins, is_byte, NoMore}
use Rattle.gw_text.specs.Space.{Each}
use Rattle.gw_text.specs.SpaceScan.{space_len, skip}
use Rattle.gw_text.specs.Forms.{IsSomeRun}
use Rattle.gw_text.specs.Quoted.{IsQuoted}
use Rattle.gw_text.specs.QuotedScan.{quoted_len}
use Rattle.gw_text.specs.Bracket.{is_run_byte, is_bracket_byte, IsBracketPiece, IsBracket}
use Rattle.gw_text.specs.BracketScan.{run_at, some_len, piece_len, over, bracket_from, bracket_rest, span_before, inner_rest, bracket_ends, bracket_at}
use Rattle.gw_text.specs.Reader.{found, bracket_read, run_as}
use Rattle.gw_text.specs.declared.fault.ScanFault.{ScanFault}
use Rattle.gw_text.specs.declared.fault.ScanFault.TheVariants.{Unexpected}
use Rattle.gw_text.proofs.SpaceLemmas.{space_is, space_len-le, space_again}
use Rattle.gw_text.proofs.SpacePieces.{space_pieces}
use Rattle.gw_text.proofs.Skips.{skip_space, skip_stays}
use Rattle.gw_text.proofs.Signs.{some_is}
use Rattle.gw_text.proofs.Leaves.{found_ok, run_reads}
use Rattle.gw_text.proofs.Links.{is_another, sep_ends}
use Rattle.gw_text.proofs.ReadsUp.{ReadsUp, Same, Any}
use Rattle.gw_text.proofs.OctetsScans.{quoted_sound, quoted_again, quoted_some}
use Rattle.gw_text.proofs.RunLemmas.{whole_tail}

-- ---- the piece at the front

-- how a piece is passed, of which left is left
pub record IsPassed (text left : List ℕ) : Type 0 where
  pub piece : List ℕ
  pub split : text ≡ piece ++ left
  pub some : 0 < length piece
  pub is : IsBracketPiece piece

quoted_passed : (text : List ℕ) (n : ℕ) → quoted_len text ≡ Some n → IsPassed text (drop n text)
unfolding quoted_len
quoted_passed text n e = grind (arith, drop_at, quoted_some, quoted_sound)

space_passed : (text : List ℕ) (n : ℕ) (t : Bool) → space_len text == 0 ≡ t → cond t None (Some (space_len text)) ≡ Some n → IsPassed text (drop n text)
space_passed text n true none e = absurd cc
space_passed text n false none e =
    let len = space_len text in
    let n-is : len ≡ n = some_is len n e in
    let some : 0 < length (take len text) = omega (arith, eqb-false len 0 none, length-take len text, space_len-le text) in
    subst (λ (m : ℕ). IsPassed text (drop m text)) n-is
    (record { piece = take len text; split = sym (take-append-drop len text); some = some; is = inr (inr (record { space = space_pieces (take len text) (space_is text); some = some })) })

piece_cases : (b : ℕ) (bs : List ℕ) (n : ℕ) (t q : Bool) → is_bracket_byte b ≡ t → cond t (Some 1) (cond q (quoted_len (b ∷ bs)) (some_len (space_len (b ∷ bs)))) ≡ Some n → IsPassed (b ∷ bs) (drop n (b ∷ bs))
piece_cases b bs n true q is e =
    let one : 1 ≡ n = some_is 1 n e in
    subst (λ (m : ℕ). IsPassed (b ∷ bs) (drop m (b ∷ bs))) one
    (record { piece = b ∷ []; split = refl; some = omega arith; is = inl (b, refl, is) })
piece_cases b bs n false true is e = quoted_passed (b ∷ bs) n e
piece_cases b bs n false false is e = space_passed (b ∷ bs) n (space_len (b ∷ bs) == 0) refl e

pub piece_passed : (text : List ℕ) (n : ℕ) → piece_len text ≡ Some n → IsPassed text (drop n text)
piece_passed text n e = grind (arith, piece_cases)

pub piece_shrinks : (text : List ℕ) (n : ℕ) → piece_len text ≡ Some n → length (drop n text) < length text
piece_shrinks text n e = let p = piece_passed text n e in omega (arith, p.some, ap length p.split, length-append p.piece (drop n text))

-- ---- more fuel changes nothing

same_over : (f g : List ℕ → Option (List ℕ)) (text : List ℕ) (o : Option ℕ) → ((n : ℕ) → o ≡ Some n → f (drop n text) ≡ g (drop n text)) → over f text o ≡ over g text o
same_over f g text o h = grind arith

bracket_enough : (n m : ℕ) (text : List ℕ) → length text < n → length text < m → bracket_from n text ≡ bracket_from m text
unfolding bracket_from
bracket_enough zero m text p q = absurd (omega arith)
bracket_enough (suc n) zero text p q = absurd (omega arith)
bracket_enough (suc n) (suc m) text p q =
    ap (cond (begins (is_byte right_bracket) text) (Some (drop 1 text))) (same_over (bracket_from n) (bracket_from m) text (piece_len text)
    (λ len e. bracket_enough n m (drop len text) (omega (arith, piece_shrinks text len e)) (omega (arith, piece_shrinks text len e))))

-- the bracket that closes
pub bracket_closes : (text : List ℕ) → begins (is_byte right_bracket) text ≡ true → bracket_rest text ≡ Some (drop 1 text)
unfolding bracket_from
bracket_closes text is = ap (λ (t : Bool). cond t (Some (drop 1 text)) (over (bracket_from (length text)) text (piece_len text))) is

-- a piece, and what is behind it
pub bracket_goes_on : (text : List ℕ) (n : ℕ) → begins (is_byte right_bracket) text ≡ false → piece_len text ≡ Some n → bracket_rest text ≡ bracket_rest (drop n text)
unfolding bracket_from
bracket_goes_on text n is e = grind (arith, piece_shrinks, bracket_enough)

-- neither
pub bracket_fails : (text : List ℕ) → begins (is_byte right_bracket) text ≡ false → piece_len text ≡ None → bracket_rest text ≡ None
unfolding bracket_from
bracket_fails text is e = grind arith

-- ---- what is scanned are pieces

pub record IsInner (text rest : List ℕ) : Type 0 where
  pub pieces : List (List ℕ)
  pub whole : text ≡ concat pieces ++ right_bracket ∷ rest
  pub each : Each IsBracketPiece pieces

close_first : (text rest : List ℕ) → begins (is_byte right_bracket) text ≡ true → drop 1 text ≡ rest → text ≡ right_bracket ∷ rest
close_first text rest is e = grind arith

inner_more : (text left rest : List ℕ) → IsPassed text left → IsInner left rest → IsInner text rest
inner_more text left rest p h = record {
  pieces = p.piece ∷ h.pieces;
  whole = p.split ∙ ap (λ (x : List ℕ). p.piece ++ x) h.whole ∙ sym (append_assoc p.piece (concat h.pieces) (right_bracket ∷ rest));
  each = (p.is, h.each);
}

inner_cases : (fuel : ℕ) (text rest : List ℕ) (t : Bool) (o : Option ℕ) → begins (is_byte right_bracket) text ≡ t → piece_len text ≡ o → cond t (Some (drop 1 text)) (over (bracket_from fuel) text o) ≡ Some rest
    → ((left : List ℕ) → bracket_from fuel left ≡ Some rest → IsInner left rest) → IsInner text rest
inner_cases fuel text rest true o is piece e h = record { pieces = []; whole = close_first text rest is (some_is (drop 1 text) rest e); each = tt }
inner_cases fuel text rest false None is piece e h = absurd cc
inner_cases fuel text rest false (Some n) is piece e h = inner_more text (drop n text) rest (piece_passed text n piece) (h (drop n text) e)

inner_sound : (fuel : ℕ) (rest text : List ℕ) → bracket_from fuel text ≡ Some rest → IsInner text rest
unfolding bracket_from
inner_sound zero rest text e = absurd cc
inner_sound (suc fuel) rest text e = inner_cases fuel text rest (begins (is_byte right_bracket) text) (piece_len text) refl refl e (inner_sound fuel rest)

-- ---- pieces are passed

byte_len : (b : ℕ) (bs : List ℕ) → is_bracket_byte b ≡ true → piece_len (b ∷ bs) ≡ Some 1
byte_len b bs is = rw is refl

quote_len : (text tail : List ℕ) (n : ℕ) → text ≡ quote_mark ∷ tail → quoted_len text ≡ Some n → piece_len text ≡ Some n
quote_len text tail n first e = ap piece_len first ∙ ap quoted_len (sym first) ∙ e

space_piece : (b : ℕ) (bs : List ℕ) → is_space_start b ≡ true → 0 < space_len (b ∷ bs) → piece_len (b ∷ bs) ≡ Some (space_len (b ∷ bs))
space_piece b bs start some = grind (arith, common_steps)

over_cases : (b : ℕ) (bs : List ℕ) (t z : Bool) → is_space_start b ≡ t → space_len (b ∷ bs) == 0 ≡ z → bracket_rest (b ∷ bs) ≡ bracket_rest (drop (space_len (b ∷ bs)) (b ∷ bs))
over_cases b bs t true is none = ap (λ (n : ℕ). bracket_rest (drop n (b ∷ bs))) (sym (eqb-true (space_len (b ∷ bs)) 0 none))
over_cases b bs true false is some = bracket_goes_on (b ∷ bs) (space_len (b ∷ bs)) (is_another b right_bracket is_space_start refl is) (space_piece b bs is (omega (arith, eqb-false (space_len (b ∷ bs)) 0 some)))
over_cases b bs false false is some =
    let none : space_len (b ∷ bs) ≡ 0 = space_again [] (b ∷ bs) refl is in
    absurd (omega (arith, none, eqb-false (space_len (b ∷ bs)) 0 some))

over_space : (text : List ℕ) → bracket_rest text ≡ bracket_rest (skip text)
unfolding skip
over_space text = grind (arith, over_cases, skip_stays)

quoted_over : (piece more : List ℕ) → IsQuoted piece → bracket_rest (piece ++ more) ≡ bracket_rest more
unfolding quoted_len
quoted_over piece more q =
    let text : List ℕ = piece ++ more in
    let first : text ≡ quote_mark ∷ (q.back ++ more) = ap (λ (x : List ℕ). x ++ more) (q.split ∙ ap (λ (x : List ℕ). x ++ q.back) q.first) in
    let other : begins (is_byte right_bracket) text ≡ false = ap (begins (is_byte right_bracket)) first in
    bracket_goes_on text (length piece) other (quote_len text (q.back ++ more) (length piece) first (quoted_again piece more q)) ∙ ap bracket_rest (drop_at piece more (length piece) refl)

piece_over : (piece more : List ℕ) → IsBracketPiece piece → bracket_rest (piece ++ more) ≡ bracket_rest more
piece_over piece more (inl p) =
    let b = p.0 in
    ap (λ (x : List ℕ). bracket_rest (x ++ more)) p.1 ∙ bracket_goes_on (b ∷ more) 1 (is_another b right_bracket is_bracket_byte refl p.2) (byte_len b more p.2)
piece_over piece more (inr (inl q)) = quoted_over piece more q
piece_over piece more (inr (inr s)) = over_space (piece ++ more) ∙ ap bracket_rest (skip_space piece more s.space) ∙ sym (over_space more)

pieces_over : (pieces : List (List ℕ)) (rest : List ℕ) → Each IsBracketPiece pieces → bracket_rest (concat pieces ++ right_bracket ∷ rest) ≡ Some rest
pieces_over [] rest each = bracket_closes (right_bracket ∷ rest) refl
pieces_over (p ∷ ps) rest each = grind (arith, pieces_over ps rest each.1, append_assoc, piece_over)

-- no piece begins with the bracket that closes
piece_other : (piece more : List ℕ) → IsBracketPiece piece → begins (is_byte right_bracket) (piece ++ more) ≡ false
piece_other piece more h = grind (arith, common_steps, sep_ends)

first_other : (pieces : List (List ℕ)) (more : List ℕ) → 0 < length pieces → Each IsBracketPiece pieces → begins (is_byte right_bracket) (concat pieces ++ more) ≡ false
first_other [] more some each = absurd (omega arith)
first_other (p ∷ ps) more some each = ap (begins (is_byte right_bracket)) (append_assoc p (concat ps) more) ∙ piece_other p (concat ps ++ more) each.0

some_pieces : (pieces : List (List ℕ)) (text rest : List ℕ) → text ≡ concat pieces ++ right_bracket ∷ rest → begins (is_byte right_bracket) text ≡ false → 0 < length pieces
some_pieces pieces text rest whole is = grind (arith, common_steps)

-- ---- brackets

pub bracket_again : (span rest : List ℕ) → IsBracket span → bracket_at (span ++ rest) ≡ Ok (span, rest)
unfolding bracket_at
bracket_again span rest h = grind (arith, pieces_over, first_other, append_assoc, length-append, take_at)

bracket_text : (text rest : List ℕ) (b : ℕ) (bs : List ℕ) → text ≡ b ∷ bs → (t u : Bool) → b == left_bracket ≡ t → begins (is_byte right_bracket) bs ≡ u → cond t (cond u None (bracket_rest bs)) None ≡ Some rest → (span : List ℕ) × (text ≡ span ++ rest) × IsBracket span
bracket_text text rest b bs first false u is closed e = absurd cc
bracket_text text rest b bs first true true is closed e = absurd cc
bracket_text text rest b bs first true false is closed e =
    let i = inner_sound (suc (length bs)) rest bs e in
    let span : List ℕ = left_bracket ∷ (concat i.pieces ++ right_bracket ∷ []) in (
      span,
      first ∙ ap (λ (x : ℕ). x ∷ bs) (eqb-true b left_bracket is) ∙ ap (λ (x : List ℕ). left_bracket ∷ x) (i.whole ∙ sym (append_assoc (concat i.pieces) (right_bracket ∷ []) rest)),
      record { pieces = i.pieces; some = some_pieces i.pieces bs rest i.whole closed; whole = refl; each = i.each },
    )

bracket_split : (text rest : List ℕ) → bracket_ends text ≡ Some rest → (span : List ℕ) × (text ≡ span ++ rest) × IsBracket span
bracket_split [] rest e = absurd cc
bracket_split (b ∷ bs) rest e = bracket_text (b ∷ bs) rest b bs refl (b == left_bracket) (begins (is_byte right_bracket) bs) refl refl e

before_cases : (text span rest : List ℕ) (o : Option (List ℕ)) → bracket_ends text ≡ o → span_before text o ≡ Ok (span, rest) → (text ≡ span ++ rest) × IsBracket span
before_cases text span rest o is e = grind (arith, bracket_split, length-append, take_at)

pub bracket_took : (text span rest : List ℕ) → bracket_at text ≡ Ok (span, rest) → (text ≡ span ++ rest) × IsBracket span
unfolding bracket_at
bracket_took text span rest e = before_cases text span rest (bracket_ends text) refl e

pub no_bracket : (text : List ℕ) (f : ScanFault) → bracket_at text ≡ Err f → (f ≡ Unexpected) × ((before after : List ℕ) → text ≡ before ++ after → ¬ IsBracket before)
unfolding bracket_at
no_bracket text f e = grind (arith, bracket_again)

-- a bracket, as it is
pub up_bracket : ReadsUp bracket_read (λ span text. (span ≡ text) × IsBracket text) Any Same Same
up_bracket = record {
  sound = λ text span rest e.
      let t = bracket_took text span rest (found_ok (bracket_at text) (span, rest) e) in
      (span, t.0, (refl, t.1));
  complete = λ span front rest start q n e. (rest, ap bracket_read e ∙ ap found (bracket_again front rest q.1) ∙ ap (λ (x : List ℕ). Some (x, rest)) (sym q.0), refl);
}

pub bracket_begins : (text : List ℕ) → IsBracket text → begins (is_byte left_bracket) text ≡ true
bracket_begins text h = ap (begins (is_byte left_bracket)) h.whole

-- ---- runs

-- a run that stands for a value
pub up_run : {V : Type 0} (of : List ℕ → Option V) → ReadsUp (run_as of) (λ v text. IsSomeRun is_run_byte text × (of text ≡ Some v)) (NoMore is_run_byte) Same Same
unfolding run_at
up_run of = run_reads is_run_byte of

-- ---- as a length is answered

pub bracket_len_at : (text rest : List ℕ) → 0 < length text → get_or text 0 0 ≡ left_bracket → begins (is_byte right_bracket) (take (length text - 1) (drop 1 text)) ≡ false → bracket_rest (take (length text - 1) (drop 1 text)) ≡ Some rest
    → bracket_at text ≡ Ok (take (length text - length rest) text, drop (length text - length rest) text)
unfolding bracket_at
bracket_len_at [] rest some first closed e = absurd (omega arith)
bracket_len_at (b ∷ bs) rest some first closed e =
    let tail = whole_tail b bs in
    let is : b == left_bracket ≡ true = ap (λ (c : ℕ). c == left_bracket) first in
    let closed' : begins (is_byte right_bracket) bs ≡ false = ap (begins (is_byte right_bracket)) (sym tail) ∙ closed in
    let ends : bracket_ends (b ∷ bs) ≡ Some rest = ap (λ (t : Bool). cond t (inner_rest bs) None) is ∙ ap (λ (t : Bool). cond t None (bracket_rest bs)) closed' ∙ ap bracket_rest (sym tail) ∙ e in
    let found-is : bracket_at (b ∷ bs) ≡ Ok (take (length (b ∷ bs) - length rest) (b ∷ bs), rest) = ap (span_before (b ∷ bs)) ends in
    let split = bracket_split (b ∷ bs) rest ends in
    let n : length split.0 ≡ length (b ∷ bs) - length rest = omega (arith, ap length split.1, length-append split.0 rest) in
    let left : drop (length (b ∷ bs) - length rest) (b ∷ bs) ≡ rest = ap (drop (length (b ∷ bs) - length rest)) split.1 ∙ drop_at split.0 rest (length (b ∷ bs) - length rest) n in
    found-is ∙ ap (λ (x : List ℕ). Ok (take (length (b ∷ bs) - length rest) (b ∷ bs), x)) (sym left)

pub ruleset bracket_steps = (bracket_closes, bracket_goes_on, bracket_fails, piece_shrinks)
