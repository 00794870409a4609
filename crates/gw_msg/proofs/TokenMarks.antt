-- No token has a dash as its second byte. So what begins with a token does not begin with a mark such as `O-` or `W-`.
use Rattle.std.proofs.lemmas.Grind.{common_steps}
use Rattle.std.proofs.Common.{◌≡◌, ℕ, ◌<◌, Bool, true, false, not, ◌==◌, List, [], ◌∷◌, ◌++◌, map, length, Option, Some, None, refl, ap, ◌∙◌, arith}
use Rattle.std.specs.Char.{to_ascii_lowercase}
use Rattle.std.proofs.lemmas.Bool.{both_ways}
use Rattle.gw_text.specs.Lexical.{is_safe, dash}
use Rattle.gw_text.specs.Runs.{NoMore}
use Rattle.gw_text.specs.Forms.{IsWord}
use Rattle.gw_text.specs.Sign.{prefix_at}
use Rattle.gw_text.specs.Tokens.{token_of}
use Rattle.gw_text.specs.declared.token.Token.{Token}
use Rattle.gw_text.proofs.FormLaws.{prefix_sound}
use Rattle.gw_msg.proofs.Starts.{token_has}

-- neither form has a dash as its second byte
abbrev no_dash : List ℕ → Bool
no_dash [] = true
no_dash (a ∷ []) = true
no_dash (a ∷ (b ∷ bs)) = not (b == dash)

-- ---- a letter and a dash

lower_dash : (r : ℕ) → is_safe r ≡ false → not (to_ascii_lowercase r == dash) ≡ true
lower_dash r out = grind (arith, common_steps)

front_dash : (front rest : List ℕ) (l : ℕ) → map to_ascii_lowercase front ≡ l ∷ (dash ∷ []) → no_dash (map to_ascii_lowercase (front ++ rest)) ≡ false
front_dash front rest l e = grind (arith, common_steps)

word_no_dash : (word rest : List ℕ) → 0 < length word → no_dash (map to_ascii_lowercase word) ≡ true → NoMore is_safe rest → no_dash (map to_ascii_lowercase (word ++ rest)) ≡ true
word_no_dash [] rest some h n = absurd (omega arith)
word_no_dash (a ∷ []) [] some h n = refl
word_no_dash (a ∷ []) (r ∷ rs) some h n = lower_dash r n
word_no_dash (a ∷ (b ∷ cs)) rest some h n = h

none_is : {A : Type 0} (o : Option A) → ((x : A) → o ≡ Some x → ⊥) → o ≡ None
none_is o h = grind arith

-- no letter and dash stand in front of a word that is a token
pub no_mark : (letter : ℕ) (word rest : List ℕ) (t : Token) → IsWord word → token_of word ≡ Some t → NoMore is_safe rest → prefix_at (letter ∷ (dash ∷ [])) (word ++ rest) ≡ None
no_mark letter word rest t is token n =
    none_is (prefix_at (letter ∷ (dash ∷ [])) (word ++ rest)) (λ more e.
    let s = prefix_sound (letter ∷ (dash ∷ [])) (word ++ rest) more e in
    let a : no_dash (map to_ascii_lowercase (word ++ rest)) ≡ false = ap (λ (x : List ℕ). no_dash (map to_ascii_lowercase x)) s.1 ∙ front_dash s.0 more (to_ascii_lowercase letter) s.2 in
    let b : no_dash (map to_ascii_lowercase (word ++ rest)) ≡ true = word_no_dash word rest is.some (token_has (λ u. no_dash) word t refl token) n in
    both_ways (no_dash (map to_ascii_lowercase (word ++ rest))) a b)
