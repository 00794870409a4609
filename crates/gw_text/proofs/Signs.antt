-- Bytes, signs with white space on both sides, and bytes in any case: what is behind them.
use Rattle.std.proofs.Common.{◌≡◌, ℕ, ◌<◌, Bool, true, false, ◌==◌, List, [], ◌∷◌, ◌++◌, length, Some, None, refl, ap, sym, ◌∙◌, append_assoc, length-append, arith}
use Rattle.std.specs.Prelude.{MatchBool}
use Rattle.std.specs.Bool.{OnTrue, OnFalse}
use Rattle.std.specs.Char.{to_ascii_lowercase}
use Rattle.std.proofs.lemmas.List.{take-append-drop, take_at, drop_at, length-map}
use Rattle.std.proofs.lemmas.Slice.Eq.{bytes_eq-Decides}
use Rattle.std.proofs.lemmas.Bool.{not-true}
use Rattle.gw_text.specs.Lexical.{is_space_start, is_solid}
use Rattle.gw_text.specs.Space.{IsSpace}
use Rattle.gw_text.specs.SpaceScan.{skip}
use Rattle.gw_text.specs.Runs.{begins, is_byte}
use Rattle.gw_text.specs.Longest.{IsLongest}
use Rattle.gw_text.specs.Sign.{byte_at, behind, sign_at, prefix_at}
use Rattle.gw_text.specs.Forms.{IsSign, IsInAnyCase}
use Rattle.gw_text.proofs.Skips.{skip_space, skip_stays, skip_is, skip_len, space_first}

pub some_is : {A : Type 0} (x y : A) → Some x ≡ Some y → x ≡ y
some_is x y e = cc

pub same_byte : (b : ℕ) → b == b ≡ true
same_byte b = grind arith

-- ---- one byte

pub byte_sound : (b : ℕ) (text rest : List ℕ) → byte_at b text ≡ Some rest → text ≡ b ∷ rest
unfolding byte_at
byte_sound b text rest e = grind arith

pub byte_again : (b : ℕ) (rest : List ℕ) → byte_at b (b ∷ rest) ≡ Some rest
unfolding byte_at
byte_again b rest = rw (same_byte b) refl

-- ---- a sign

-- what is left behind a sign does not depend on the white space in front of it
pub sign_from : (b : ℕ) (start text : List ℕ) → skip start ≡ skip text → sign_at b start ≡ sign_at b text
unfolding sign_at
sign_from b start text h = ap (behind b) h

behind_sound : (b : ℕ) (text rest : List ℕ) → behind b text ≡ Some rest → (more : List ℕ) × (text ≡ b ∷ more) × (skip more ≡ rest)
behind_sound b text rest e = grind arith

pub sign_sound : (b : ℕ) (text rest : List ℕ) → sign_at b text ≡ Some rest → (front : List ℕ) × (text ≡ front ++ rest) × IsSign b front
unfolding sign_at
sign_sound b text rest e =
    let h = skip_is text in
    let s = behind_sound b (skip text) rest e in
    let t = skip_is s.0 in
    let back-is : h.back ≡ b ∷ (t.front ++ rest) = h.second ∙ s.1 ∙ ap (λ (x : List ℕ). b ∷ x) (t.split ∙ ap (λ (x : List ℕ). t.front ++ x) (t.second ∙ s.2)) in (
      h.front ++ (b ∷ t.front),
      h.split ∙ ap (λ (x : List ℕ). h.front ++ x) back-is ∙ sym (append_assoc h.front (b ∷ t.front) rest),
      record { front = h.front; back = b ∷ t.front; split = refl; first = h.first; second = record { front = b ∷ []; back = t.front; split = refl; first = refl; second = t.first } },
    )

-- the text of a sign, and what follows
sign_split : (b : ℕ) (front rest : List ℕ) (h : IsSign b front) → front ++ rest ≡ h.front ++ (b ∷ (h.second.back ++ rest))
sign_split b front rest h = grind (arith, append_assoc)

skip_sign : (b : ℕ) (front rest : List ℕ) (h : IsSign b front) → is_space_start b ≡ false → skip (front ++ rest) ≡ b ∷ (h.second.back ++ rest)
skip_sign b front rest h solid = ap skip (sign_split b front rest h) ∙ skip_space h.front (b ∷ (h.second.back ++ rest)) h.first ∙ skip_stays (b ∷ (h.second.back ++ rest)) solid

pub sign_again : (b : ℕ) (front rest : List ℕ) → is_space_start b ≡ false → IsSign b front → sign_at b (front ++ rest) ≡ Some (skip rest)
unfolding sign_at
sign_again b front rest solid h =
    let same : b == b ≡ true = same_byte b in
    ap (behind b) (skip_sign b front rest h solid) ∙ rw same (ap (λ (x : List ℕ). Some x) (skip_space h.second.back rest h.second.second))

-- another sign is not there
pub sign_other : (a b : ℕ) (front rest : List ℕ) → is_space_start a ≡ false → a == b ≡ false → IsSign a front → sign_at b (front ++ rest) ≡ None
unfolding sign_at
sign_other a b front rest solid other h = ap (behind b) (skip_sign a front rest h solid) ∙ rw other refl

-- a text that begins with a byte which is neither white space nor the sign
pub no_sign : (b c : ℕ) (cs : List ℕ) → is_space_start c ≡ false → c == b ≡ false → sign_at b (c ∷ cs) ≡ None
unfolding sign_at
no_sign b c cs solid other = ap (behind b) (skip_stays (c ∷ cs) solid) ∙ rw other refl

-- the same behind white space
pub sign_space : (b : ℕ) (front rest : List ℕ) → IsSpace front → sign_at b (front ++ rest) ≡ sign_at b rest
sign_space b front rest h = sign_from b (front ++ rest) rest (skip_space front rest h)

pub sign_end : (b : ℕ) → sign_at b [] ≡ None
unfolding sign_at
sign_end b = ap (behind b) (skip_stays [] refl)

ends_at : (p : ℕ → Bool) (b : ℕ) (space more : List ℕ) → IsSpace space → ((c : ℕ) → is_space_start c ≡ true → p c ≡ false) → p b ≡ false → begins p (space ++ (b ∷ more)) ≡ false
ends_at p b [] more h apart solid = solid
ends_at p b (c ∷ cs) more h apart solid = apart c (space_first c cs h)

-- a sign ends what white space and the sign's byte do not go on with
pub sign_ends : (p : ℕ → Bool) (b : ℕ) (front rest : List ℕ) → ((c : ℕ) → is_space_start c ≡ true → p c ≡ false) → p b ≡ false → IsSign b front → begins p (front ++ rest) ≡ false
sign_ends p b front rest apart solid h = ap (begins p) (sign_split b front rest h) ∙ ends_at p b h.front (h.second.back ++ rest) h.first apart solid

pub sign_len : (b : ℕ) (front : List ℕ) → IsSign b front → 0 < length front
sign_len b front h = omega (arith, ap length h.split, length-append h.front h.back, ap length h.second.split, length-append h.second.front h.second.back, ap length h.second.first)

pub sign_shrinks : (b : ℕ) (text rest : List ℕ) → sign_at b text ≡ Some rest → length rest < length text
sign_shrinks b text rest e = grind (arith, sign_sound, sign_len, length-append)

-- ---- bytes in any case

pub prefix_sound : (bytes text rest : List ℕ) → prefix_at bytes text ≡ Some rest → (front : List ℕ) × (text ≡ front ++ rest) × IsInAnyCase bytes front
unfolding prefix_at
prefix_sound bytes text rest e = grind (arith, bytes_eq-Decides, take-append-drop)

case_len : (bytes front : List ℕ) → IsInAnyCase bytes front → length front ≡ length bytes
case_len bytes front h = sym (length-map front to_ascii_lowercase) ∙ ap length h ∙ length-map bytes to_ascii_lowercase

pub prefix_again : (bytes front rest : List ℕ) → IsInAnyCase bytes front → prefix_at bytes (front ++ rest) ≡ Some rest
unfolding prefix_at
prefix_again bytes front rest h = grind (arith, case_len, bytes_eq-Decides, drop_at, take_at)

-- bytes letter for letter
pub exact_again : (bytes text rest : List ℕ) → text ≡ bytes ++ rest → prefix_at bytes text ≡ Some rest
exact_again bytes text rest e = ap (prefix_at bytes) e ∙ prefix_again bytes bytes rest refl

-- ---- what is there, and what is not

-- the sign that is taken is the longest
pub sign_longest : (b : ℕ) (text rest : List ℕ) → sign_at b text ≡ Some rest → is_solid b ≡ true → (span : List ℕ) × IsLongest (IsSign b) text span rest
sign_longest b text rest e solid =
    let s = sign_sound b text rest e in (
      s.0,
      record {
        split = s.1;
        inside = s.2;
        longest = λ other left split sign.
            let again : sign_at b text ≡ Some (skip left) = ap (sign_at b) split ∙ sign_again b other left (not-true (is_space_start b) solid) sign in
            let same : rest ≡ skip left = some_is rest (skip left) (sym e ∙ again) in
            omega (arith, ap length s.1, length-append s.0 rest, ap length split, length-append other left, ap length same, skip_len left);
      },
    )

behind_none : (b : ℕ) (text : List ℕ) → behind b text ≡ None → begins (is_byte b) text ≡ false
behind_none b text e = grind arith

-- behind the white space the byte b does not come next, where there is no sign b
pub sign_none : (b : ℕ) (text : List ℕ) → sign_at b text ≡ None → begins (is_byte b) (skip text) ≡ false
unfolding sign_at
sign_none b text e = behind_none b (skip text) e

-- ---- as a scan answers

pub sign_took : (r : Bool) (b : ℕ) (old new : List ℕ) → MatchBool r (sign_at b old ≡ Some new) ((sign_at b old ≡ None) × (new ≡ old)) → OnTrue r (is_solid b ≡ true → (span : List ℕ) × IsLongest (IsSign b) old span new)
sign_took r b old new e = grind (arith, sign_longest)

pub sign_missed : (r : Bool) (b : ℕ) (old new : List ℕ) → MatchBool r (sign_at b old ≡ Some new) ((sign_at b old ≡ None) × (new ≡ old)) → OnFalse r (is_solid b ≡ true → (before after : List ℕ) → old ≡ before ++ after → ¬ IsSign b before)
sign_missed r b old new e = grind (arith, sign_again, not-true)
