-- Stretches of a group: texts that may stand in one, put one behind the other.
use Rattle.std.proofs.Common.{◌≡◌, ℕ, ◌-◌, ◌≤◌, ◌<◌, Bool, true, false, List, [], ◌∷◌, ◌++◌, refl, ap, sym, ◌∙◌, subst, append_assoc, append-nil, arith}
use Rattle.gw_text.specs.Lexical.{left_brace, right_brace, comma}
use Rattle.gw_text.specs.Forms.{IsWord}
use Rattle.gw_text.specs.Quoted.{IsQuoted}
use Rattle.gw_text.specs.Octets.{IsOctets}
use Rattle.gw_text.specs.Group.{Pieces, nothing, space, quoted, word, mark, octets, group, text_of, is_mark, after_word, after_mark, after, begins_octets, is_word_first, AreValid, IsGroup}
use Rattle.gw_reply_law.proofs.Spots.{Before, Other}

-- ---- pieces behind pieces

abbrev pub append : Pieces → Pieces → Pieces
append nothing q = q
append (space span rest) q = space span (append rest q)
append (quoted span rest) q = quoted span (append rest q)
append (word w rest) q = word w (append rest q)
append (mark b rest) q = mark b (append rest q)
append (octets body rest) q = octets body (append rest q)
append (group inside rest) q = group inside (append rest q)

text_append : (p q : Pieces) → text_of p ++ text_of q ≡ text_of (append p q)
text_append nothing q = refl
text_append (space span rest) q = append_assoc span (text_of rest) (text_of q) ∙ ap (λ (t : List ℕ). span ++ t) (text_append rest q)
text_append (quoted span rest) q = append_assoc span (text_of rest) (text_of q) ∙ ap (λ (t : List ℕ). span ++ t) (text_append rest q)
text_append (word w rest) q = append_assoc w (text_of rest) (text_of q) ∙ ap (λ (t : List ℕ). w ++ t) (text_append rest q)
text_append (mark b rest) q = ap (λ (t : List ℕ). b ∷ t) (text_append rest q)
text_append (octets body rest) q = ap (λ (t : List ℕ). left_brace ∷ t) (append_assoc body (right_brace ∷ text_of rest) (text_of q) ∙ ap (λ (t : List ℕ). body ++ right_brace ∷ t) (text_append rest q))
text_append (group inside rest) q = ap (λ (t : List ℕ). left_brace ∷ t) (append_assoc (text_of inside) (right_brace ∷ text_of rest) (text_of q) ∙ ap (λ (t : List ℕ). text_of inside ++ right_brace ∷ t) (text_append rest q))

after_append : (b : Before) (p q : Pieces) → after b (append p q) ≡ after (after b p) q
after_append b nothing q = refl
after_append b (space span rest) q = after_append b rest q
after_append b (quoted span rest) q = after_append Other rest q
after_append b (word w rest) q = after_append (after_word b w) rest q
after_append b (mark m rest) q = after_append (after_mark m) rest q
after_append b (octets body rest) q = after_append Other rest q
after_append b (group inside rest) q = after_append Other rest q

-- whether a word ends where the pieces end; ended: where they begin
abbrev pub ends_word : Bool → Pieces → Bool
ends_word ended nothing = ended
ends_word ended (word w rest) = ends_word true rest
ends_word ended (space span rest) = ends_word false rest
ends_word ended (quoted span rest) = ends_word false rest
ends_word ended (mark b rest) = ends_word false rest
ends_word ended (octets body rest) = ends_word false rest
ends_word ended (group inside rest) = ends_word false rest

ends_append : (ended : Bool) (p q : Pieces) → ends_word ended (append p q) ≡ ends_word (ends_word ended p) q
ends_append ended nothing q = refl
ends_append ended (space span rest) q = ends_append false rest q
ends_append ended (quoted span rest) q = ends_append false rest q
ends_append ended (word w rest) q = ends_append true rest q
ends_append ended (mark b rest) q = ends_append false rest q
ends_append ended (octets body rest) q = ends_append false rest q
ends_append ended (group inside rest) q = ends_append false rest q

-- behind a word no other begins
abbrev pub Joins : Bool → Pieces → Type 0
Joins true p = is_word_first p ≡ false
Joins false p = Unit {0}

joins_append : (ended : Bool) (p q : Pieces) → Joins ended p → Joins (ends_word ended p) q → Joins ended (append p q)
joins_append ended p q h k = grind arith

valid_append : (levels : ℕ) (b : Before) (ended : Bool) (p q : Pieces) → AreValid levels b p → AreValid levels (after b p) q → Joins (ends_word ended p) q → AreValid levels b (append p q)
valid_append levels b ended nothing q h k j = k
valid_append levels b ended (space span rest) q h k j = (h.0, valid_append levels b false rest q h.1 k j)
valid_append levels b ended (quoted span rest) q h k j = (h.0, valid_append levels Other false rest q h.1 k j)
valid_append levels b ended (word w rest) q h k j = (h.0, joins_append true rest q h.1 j, valid_append levels (after_word b w) true rest q h.2 k j)
valid_append levels b ended (mark m rest) q h k j = (h.0, valid_append levels (after_mark m) false rest q h.1 k j)
valid_append levels b ended (octets body rest) q h k j = (h.0, h.1, h.2, valid_append levels Other false rest q h.3 k j)
valid_append levels b ended (group inside rest) q h k j = (h.0, h.1, h.2, valid_append levels Other false rest q h.3 k j)

-- more levels hold as much
valid_deeper : (few many : ℕ) (b : Before) (p : Pieces) → few ≤ many → AreValid few b p → AreValid many b p
valid_deeper few many b nothing le h = tt
valid_deeper few many b (space span rest) le h = (h.0, valid_deeper few many b rest le h.1)
valid_deeper few many b (quoted span rest) le h = (h.0, valid_deeper few many Other rest le h.1)
valid_deeper few many b (word w rest) le h = (h.0, h.1, valid_deeper few many (after_word b w) rest le h.2)
valid_deeper few many b (mark m rest) le h = (h.0, valid_deeper few many (after_mark m) rest le h.1)
valid_deeper few many b (octets body rest) le h = (h.0, omega (arith, h.1), h.2, valid_deeper few many Other rest le h.3)
valid_deeper few many b (group inside rest) le h = grind (arith, valid_deeper (few - 1) (many - 1) Other inside (omega (arith, h.1)) h.2, valid_deeper few many Other rest le h.3)

-- ---- stretches

-- A text that may stand where before is before it, and where a word ended if ended; what stands before the next, and
-- whether a word ends there.
pub record Fits (levels : ℕ) (before : Before) (ended : Bool) (text : List ℕ) (behind : Before) (ends : Bool) : Type 0 where
  pub pieces : Pieces
  pub split : text ≡ text_of pieces
  pub valid : AreValid levels before pieces
  pub joins : Joins ended pieces
  pub last : after before pieces ≡ behind
  pub over : ends_word ended pieces ≡ ends

-- the same, however it ends
pub record Runs (levels : ℕ) (before : Before) (ended : Bool) (text : List ℕ) : Type 0 where
  pub behind : Before
  pub ends : Bool
  pub fits : Fits levels before ended text behind ends

-- one behind the other
pub then : {levels : ℕ} {a b c : Before} {u v w : Bool} {x y : List ℕ} → Fits levels a u x b v → Fits levels b v y c w → Fits levels a u (x ++ y) c w
then {levels} {a} {b} {c} {u} {v} {w} {x} {y} f g = record {
  pieces = append f.pieces g.pieces;
  split = ap (λ (t : List ℕ). t ++ y) f.split ∙ ap (λ (t : List ℕ). text_of f.pieces ++ t) g.split ∙ text_append f.pieces g.pieces;
  valid = valid_append levels a u f.pieces g.pieces f.valid (subst (λ (b : Before). AreValid levels b g.pieces) (sym f.last) g.valid) (subst (λ (v : Bool). Joins v g.pieces) (sym f.over) g.joins);
  joins = joins_append u f.pieces g.pieces f.joins (subst (λ (v : Bool). Joins v g.pieces) (sym f.over) g.joins);
  last = after_append a f.pieces g.pieces ∙ ap (λ (b : Before). after b g.pieces) f.last ∙ g.last;
  over = ends_append u f.pieces g.pieces ∙ ap (λ (v : Bool). ends_word v g.pieces) f.over ∙ g.over;
}

pub as_runs : {levels : ℕ} {a b : Before} {u v : Bool} {x : List ℕ} → Fits levels a u x b v → Runs levels a u x
as_runs {levels} {a} {b} {u} {v} {x} f = record { behind = b; ends = v; fits = f }

pub then_runs : {levels : ℕ} {a b : Before} {u v : Bool} {x y : List ℕ} → Fits levels a u x b v → Runs levels b v y → Runs levels a u (x ++ y)
then_runs f g = record { behind = g.behind; ends = g.ends; fits = then f g.fits }

pub runs_then_runs : {levels : ℕ} {a : Before} {u : Bool} {x y : List ℕ} → Runs levels a u x → ((b : Before) (v : Bool) → Runs levels b v y) → Runs levels a u (x ++ y)
runs_then_runs f g = let h = g f.behind f.ends in record { behind = h.behind; ends = h.ends; fits = then f.fits h.fits }

-- ---- what they are made of

pub fits_nothing : (levels : ℕ) (b : Before) (v : Bool) → Fits levels b v [] b v
fits_nothing levels b v = record { pieces = nothing; split = refl; valid = tt; joins = none v; last = refl; over = refl }
  where
    none : (v : Bool) → Joins v nothing
    none true = refl
    none false = tt

any_joins : (v : Bool) (p : Pieces) → is_word_first p ≡ false → Joins v p
any_joins v p h = grind arith

pub fits_word : (levels : ℕ) (b : Before) (w : List ℕ) → IsWord w → Fits levels b false w (after_word b w) true
fits_word levels b w h = record { pieces = word w nothing; split = sym (append-nil w); valid = (h, refl, tt); joins = tt; last = refl; over = refl }

pub fits_mark : (levels : ℕ) (b : Before) (v : Bool) (m : ℕ) → is_mark m ≡ true → Fits levels b v (m ∷ []) (after_mark m) false
fits_mark levels b v m h = record { pieces = mark m nothing; split = refl; valid = (h, tt); joins = any_joins v (mark m nothing) refl; last = refl; over = refl }

pub fits_quoted : (levels : ℕ) (b : Before) (v : Bool) (q : List ℕ) → IsQuoted q → Fits levels b v q Other false
fits_quoted levels b v q h = record { pieces = quoted q nothing; split = sym (append-nil q); valid = (h, tt); joins = any_joins v (quoted q nothing) refl; last = refl; over = refl }

pub fits_octets : (levels : ℕ) (b : Before) (v : Bool) (body : List ℕ) → begins_octets b ≡ true → 0 < levels → IsOctets body → Fits levels b v (left_brace ∷ (body ++ right_brace ∷ [])) Other false
fits_octets levels b v body kind room h = record { pieces = octets body nothing; split = refl; valid = (kind, room, h, tt); joins = any_joins v (octets body nothing) refl; last = refl; over = refl }

-- braces round what begins in them afresh
pub fits_braces : (levels : ℕ) (b : Before) (v : Bool) (text : List ℕ) → begins_octets b ≡ false → 0 < levels → Runs (levels - 1) Other false text → Fits levels b v (left_brace ∷ (text ++ right_brace ∷ [])) Other false
fits_braces levels b v text kind room h = record {
  pieces = group h.fits.pieces nothing;
  split = ap (λ (t : List ℕ). left_brace ∷ (t ++ right_brace ∷ [])) h.fits.split;
  valid = (kind, room, h.fits.valid, tt);
  joins = any_joins v (group h.fits.pieces nothing) refl;
  last = refl;
  over = refl;
}

-- a group as sent
pub fits_group : (levels depth : ℕ) (b : Before) (v : Bool) (text : List ℕ) → begins_octets b ≡ false → depth ≤ levels → IsGroup depth text → Fits levels b v text Other false
fits_group levels depth b v text kind le h = record {
  pieces = group h.inside nothing;
  split = h.split;
  valid = (kind, omega (arith, h.some), valid_deeper (depth - 1) (levels - 1) Other h.inside (omega arith) h.valid, tt);
  joins = any_joins v (group h.inside nothing) refl;
  last = refl;
  over = refl;
}

-- so braces round what begins in them afresh are a group
pub is_group : (depth : ℕ) (text : List ℕ) → 0 < depth → Runs (depth - 1) Other false text → IsGroup depth (left_brace ∷ (text ++ right_brace ∷ []))
is_group depth text room h = record { inside = h.fits.pieces; split = ap (λ (t : List ℕ). left_brace ∷ (t ++ right_brace ∷ [])) h.fits.split; some = room; valid = h.fits.valid }

-- ---- lists with commas

pub fits_comma : (levels : ℕ) (b : Before) (v : Bool) → Fits levels b v (comma ∷ []) Other false
fits_comma levels b v = fits_mark levels b v comma refl

-- a word and a mark behind it, as in `Context=`
pub fits_key : (levels : ℕ) (b : Before) (w : List ℕ) (m : ℕ) → IsWord w → is_mark m ≡ true → Fits levels b false (w ++ m ∷ []) (after_mark m) false
fits_key levels b w m h k = then (fits_word levels b w h) (fits_mark levels (after_word b w) true m k)
