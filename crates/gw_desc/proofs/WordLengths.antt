-- A word that is a token is as long as a form of it, and begins with the same letter.
use Rattle.std.proofs.Common.{◌≡◌, ℕ, ◌==◌, ◌||◌, ◌&&◌, not, cond, Bool, true, false, List, [], ◌∷◌, length, Option, Some, None, refl, sym, ◌∙◌, arith}
use Rattle.std.proofs.lemmas.Bool.{or_from, or_parts, false_from_ne_true, eq-eqb, and_parts}
use Rattle.std.proofs.lemmas.List.{length-map}
use Rattle.std.proofs.lemmas.Slice.Eq.{bytes_eq-Decides}
use Rattle.std.specs.Prelude.{codes}
use Rattle.gw_base.specs.Bytes.{byte}
use Rattle.gw_text.specs.TokenTable.{begins_in}
use Rattle.gw_text.specs.Tokens.{Spelling, table, is_same_word, is_spelling, find_token, token_of}
use Rattle.gw_text.specs.declared.token.Token.{Token}
use Rattle.gw_desc.specs.Values.{is_for_mode, is_for_states, is_mode, is_service_states}

-- a form of a token that passes is so long
abbrev has_form : (Option Token → Bool) → ℕ → List Spelling → Bool
has_form passes n [] = false
has_form passes n (s ∷ rest) = (passes (Some s.token) && (n == length s.long || n == length s.short)) || has_form passes n rest

other_spelling : (word : List ℕ) (s : Spelling) → (length word == length s.long || length word == length s.short) ≡ false → is_spelling s.long s.short word ≡ false
unfolding is_spelling
other_spelling word s h = grind (arith, or_from, or_parts, bytes_eq-Decides, eq-eqb, false_from_ne_true, length-map)

not_found : (passes : Option Token → Bool) (word : List ℕ) (rows : List Spelling) → passes None ≡ false → has_form passes (length word) rows ≡ false → passes (find_token word rows) ≡ false
not_found passes word [] none h = none
not_found passes word (s ∷ rest) none h =
    let fits : Bool = length word == length s.long || length word == length s.short in
    let parts = or_parts (passes (Some s.token) && fits) (has_form passes (length word) rest) h in
    by (passes (Some s.token)) (is_spelling s.long s.short word) refl refl parts.0 (not_found passes word rest none parts.1)
  where
    by : (p t : Bool) → passes (Some s.token) ≡ p → is_spelling s.long s.short word ≡ t → (p && (length word == length s.long || length word == length s.short)) ≡ false
        → passes (find_token word rest) ≡ false → passes (cond t (Some s.token) (find_token word rest)) ≡ false
    by p false e f k later = later
    by false true e f k later = e
    by true true e f k later = let clash : true ≡ false = sym f ∙ other_spelling word s k in absurd cc

pub no_mode : (name : List ℕ) → (length name == 4 || length name == 2) ≡ false → is_mode name ≡ false
unfolding is_mode token_of
no_mode name h = not_found is_for_mode name table refl (rw h refl)

pub no_states : (name : List ℕ) → (length name == 13 || length name == 2) ≡ false → is_service_states name ≡ false
unfolding is_service_states token_of
no_states name h = not_found is_for_states name table refl (rw h refl)

-- ---- the first letter

-- each form of a token that passes begins with the letter
abbrev all_in : (Option Token → Bool) → ℕ → List Spelling → Bool
all_in passes letter [] = true
all_in passes letter (s ∷ rest) = (not (passes (Some s.token)) || (begins_in letter s.long && begins_in letter s.short)) && all_in passes letter rest

other_letter : (letter : ℕ) (word form : List ℕ) → begins_in letter form ≡ true → begins_in letter word ≡ false → is_same_word word form ≡ false
other_letter letter word form is other = grind arith

unspelled : (word : List ℕ) (s : Spelling) → is_same_word word s.long ≡ false → is_same_word word s.short ≡ false → is_spelling s.long s.short word ≡ false
unfolding is_spelling
unspelled word s a b = or_from (is_same_word word s.long) (is_same_word word s.short) a b

not_there : (passes : Option Token → Bool) (letter : ℕ) (word : List ℕ) (rows : List Spelling) → passes None ≡ false → begins_in letter word ≡ false → all_in passes letter rows ≡ true
    → passes (find_token word rows) ≡ false
not_there passes letter word [] none other h = none
not_there passes letter word (s ∷ rest) none other h =
    let parts = and_parts (not (passes (Some s.token)) || (begins_in letter s.long && begins_in letter s.short)) (all_in passes letter rest) h in
    by (passes (Some s.token)) (is_spelling s.long s.short word) refl refl parts.0 (not_there passes letter word rest none other parts.1)
  where
    by : (p t : Bool) → passes (Some s.token) ≡ p → is_spelling s.long s.short word ≡ t → (not p || (begins_in letter s.long && begins_in letter s.short)) ≡ true
        → passes (find_token word rest) ≡ false → passes (cond t (Some s.token) (find_token word rest)) ≡ false
    by p false e f k later = later
    by false true e f k later = e
    by true true e f k later =
        let forms = and_parts (begins_in letter s.long) (begins_in letter s.short) k in
        let clash : true ≡ false = sym f ∙ unspelled word s (other_letter letter word s.long forms.0 other) (other_letter letter word s.short forms.1 other) in absurd cc

pub no_mode_in : (name : List ℕ) → begins_in (byte (codes "m")) name ≡ false → is_mode name ≡ false
unfolding is_mode token_of
no_mode_in name h = not_there is_for_mode (byte (codes "m")) name table refl h refl

pub no_states_in : (name : List ℕ) → begins_in (byte (codes "s")) name ≡ false → is_service_states name ≡ false
unfolding is_service_states token_of
no_states_in name h = not_there is_for_states (byte (codes "s")) name table refl h refl
