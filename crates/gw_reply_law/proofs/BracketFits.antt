-- A bracket is pieces of a group: its safe bytes are words, each as long as it can be.
use Rattle.std.proofs.Common.{◌≡◌, inl, inr, ℕ, ◌==◌, true, false, ◌||◌, List, [], ◌∷◌, ◌++◌, refl, ap, ◌∙◌, append_assoc, arith}
use Rattle.std.specs.List.{list_all, concat}
use Rattle.std.proofs.lemmas.Bool.{and_from, or_cases, eqb-true}
use Rattle.gw_text.specs.Lexical.{comma, colon, left_bracket, right_bracket, is_safe}
use Rattle.gw_text.specs.Space.{IsSep, Each}
use Rattle.gw_text.specs.Forms.{IsWord}
use Rattle.gw_text.specs.Quoted.{IsQuoted}
use Rattle.gw_text.specs.Bracket.{IsBracket, IsBracketPiece, is_bracket_byte}
use Rattle.gw_text.specs.Group.{Pieces, nothing, space, quoted, word, mark, octets, group, text_of, is_mark, after_word, after_mark, after, is_word_first, AreValid}
use Rattle.gw_reply_law.proofs.Spots.{Before, Other}
use Rattle.gw_reply_law.proofs.Fits.{Runs, ends_word}

-- pieces without braces, so that it does not count what stands before them
abbrev Flat : Pieces → Type 0
Flat nothing = Unit {0}
Flat (space span rest) = IsSep span × Flat rest
Flat (quoted span rest) = IsQuoted span × Flat rest
Flat (word w rest) = IsWord w × (is_word_first rest ≡ false) × Flat rest
Flat (mark b rest) = (is_mark b ≡ true) × Flat rest
Flat (octets body rest) = ⊥
Flat (group inside rest) = ⊥

flat_valid : (levels : ℕ) (b : Before) (p : Pieces) → Flat p → AreValid levels b p
flat_valid levels b nothing h = tt
flat_valid levels b (space span rest) h = (h.0, flat_valid levels b rest h.1)
flat_valid levels b (quoted span rest) h = (h.0, flat_valid levels Other rest h.1)
flat_valid levels b (word w rest) h = (h.0, h.1, flat_valid levels (after_word b w) rest h.2)
flat_valid levels b (mark m rest) h = (h.0, flat_valid levels (after_mark m) rest h.1)
flat_valid levels b (octets body rest) h = absurd h
flat_valid levels b (group inside rest) h = absurd h

record IsFlat (text : List ℕ) : Type 0 where
  pieces : Pieces
  split : text ≡ text_of pieces
  flat : Flat pieces

-- a safe byte in front: a word of its own, or the first byte of the word that follows
one_word : (c : ℕ) → is_safe c ≡ true → IsWord (c ∷ [])
one_word c h = record { run = and_from (is_safe c) true h refl; some = omega arith }

more_word : (c : ℕ) (w : List ℕ) → is_safe c ≡ true → IsWord w → IsWord (c ∷ w)
more_word c w h k = record { run = and_from (is_safe c) (list_all is_safe w) h k.run; some = omega arith }

flat_safe : (c : ℕ) (p : Pieces) → is_safe c ≡ true → Flat p → IsFlat (c ∷ text_of p)
flat_safe c nothing h k = record { pieces = word (c ∷ []) nothing; split = refl; flat = (one_word c h, refl, tt) }
flat_safe c (space span rest) h k = record { pieces = word (c ∷ []) (space span rest); split = refl; flat = (one_word c h, refl, k) }
flat_safe c (quoted span rest) h k = record { pieces = word (c ∷ []) (quoted span rest); split = refl; flat = (one_word c h, refl, k) }
flat_safe c (word w rest) h k = record { pieces = word (c ∷ w) rest; split = refl; flat = (more_word c w h k.0, k.1, k.2) }
flat_safe c (mark b rest) h k = record { pieces = word (c ∷ []) (mark b rest); split = refl; flat = (one_word c h, refl, k) }
flat_safe c (octets body rest) h k = absurd k
flat_safe c (group inside rest) h k = absurd k

flat_as : {x y : List ℕ} → x ≡ y → IsFlat y → IsFlat x
flat_as e f = record { pieces = f.pieces; split = e ∙ f.split; flat = f.flat }

flat_mark : (c : ℕ) (text : List ℕ) → is_mark c ≡ true → IsFlat text → IsFlat (c ∷ text)
flat_mark c text h f = record { pieces = mark c f.pieces; split = ap (λ (t : List ℕ). c ∷ t) f.split; flat = (h, f.flat) }

-- a byte of a bracket
flat_byte : (c : ℕ) (text : List ℕ) → is_bracket_byte c ≡ true → IsFlat text → IsFlat (c ∷ text)
flat_byte c text h f =
    elim (or_cases (is_safe c || c == comma) (c == colon) h) [
      | inl e ↦ elim (or_cases (is_safe c) (c == comma) e) [
        | inl s ↦ flat_as (ap (λ (t : List ℕ). c ∷ t) f.split) (flat_safe c f.pieces s f.flat)
        | inr s ↦ flat_mark c text (ap is_mark (eqb-true c comma s)) f
      ]
      | inr e ↦ flat_mark c text (ap is_mark (eqb-true c colon e)) f
    ]

flat_piece : (x text : List ℕ) → IsBracketPiece x → IsFlat text → IsFlat (x ++ text)
flat_piece x text (inl h) f = flat_as (ap (λ (t : List ℕ). t ++ text) h.1) (flat_byte h.0 text h.2 f)
flat_piece x text (inr (inl h)) f = record { pieces = quoted x f.pieces; split = ap (λ (t : List ℕ). x ++ t) f.split; flat = (h, f.flat) }
flat_piece x text (inr (inr h)) f = record { pieces = space x f.pieces; split = ap (λ (t : List ℕ). x ++ t) f.split; flat = (h, f.flat) }

flat_pieces : (xs : List (List ℕ)) (text : List ℕ) → Each IsBracketPiece xs → IsFlat text → IsFlat (concat xs ++ text)
flat_pieces [] text h f = f
flat_pieces (x ∷ xs) text h f = flat_as (append_assoc x (concat xs) text) (flat_piece x (concat xs ++ text) h.0 (flat_pieces xs text h.1 f))

flat_bracket : (text : List ℕ) → IsBracket text → IsFlat text
flat_bracket text h =
    let closed : IsFlat (right_bracket ∷ []) = record { pieces = mark right_bracket nothing; split = refl; flat = (refl, tt) } in
    flat_as h.whole (flat_mark left_bracket (concat h.pieces ++ right_bracket ∷ []) refl (flat_pieces h.pieces (right_bracket ∷ []) h.each closed))

-- a bracket as sent
pub runs_bracket : (levels : ℕ) (b : Before) (text : List ℕ) → IsBracket text → Runs levels b false text
runs_bracket levels b text h =
    let f = flat_bracket text h in
    record {
      behind = after b f.pieces;
      ends = ends_word false f.pieces;
      fits = record { pieces = f.pieces; split = f.split; valid = flat_valid levels b f.pieces f.flat; joins = tt; last = refl; over = refl };
    }
