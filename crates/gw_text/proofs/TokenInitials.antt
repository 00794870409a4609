-- A word is looked up among the tokens with a form that begins with its letter: no other token is that word.
use Rattle.std.proofs.Common.{◌≡◌, ℕ, Bool, false, cond, ◌||◌, ◌<◌, get_or, length, List, [], ◌∷◌, refl, ap, ◌∙◌, arith, None}
use Rattle.std.specs.Char.{to_ascii_lowercase}
use Rattle.gw_text.specs.Tokens.{Spelling, table, is_same_word, is_spelling, find_token, token_of}
use Rattle.gw_text.specs.TokenTable.{begins_in, rows_in}

-- a form with another letter is another word
other_letter : (b : ℕ) (bs form : List ℕ) → begins_in (to_ascii_lowercase b) form ≡ false → is_same_word (b ∷ bs) form ≡ false
other_letter b bs form h = grind arith

neither : (a b c d : Bool) → (a ≡ false → c ≡ false) → (b ≡ false → d ≡ false) → a || b ≡ false → c || d ≡ false
neither a b c d f g h = grind arith

other_token : (b : ℕ) (bs : List ℕ) (s : Spelling) → begins_in (to_ascii_lowercase b) s.long || begins_in (to_ascii_lowercase b) s.short ≡ false → is_spelling s.long s.short (b ∷ bs) ≡ false
unfolding is_spelling
other_token b bs s = neither (begins_in (to_ascii_lowercase b) s.long) (begins_in (to_ascii_lowercase b) s.short) (is_same_word (b ∷ bs) s.long) (is_same_word (b ∷ bs) s.short) (other_letter b bs s.long) (other_letter b bs s.short)

kept : (t : Bool) (word : List ℕ) (s : Spelling) (rows rest : List Spelling) → (t ≡ false → is_spelling s.long s.short word ≡ false) → find_token word rows ≡ find_token word rest → find_token word (cond t (s ∷ rows) rows) ≡ find_token word (s ∷ rest)
kept t word s rows rest other so_far = grind arith

found_in : (b : ℕ) (bs : List ℕ) (rows : List Spelling) → find_token (b ∷ bs) (rows_in (to_ascii_lowercase b) rows) ≡ find_token (b ∷ bs) rows
found_in b bs [] = refl
found_in b bs (s ∷ rest) = kept (begins_in (to_ascii_lowercase b) s.long || begins_in (to_ascii_lowercase b) s.short) (b ∷ bs) s (rows_in (to_ascii_lowercase b) rest) rest (other_token b bs s) (found_in b bs rest)

pub among : (word : List ℕ) (letter : ℕ) → 0 < length word → letter ≡ to_ascii_lowercase (get_or word 0 0) → find_token word (rows_in letter table) ≡ token_of word
unfolding token_of
among [] letter some is = absurd (omega arith)
among (b ∷ bs) letter some is = ap (λ l. find_token (b ∷ bs) (rows_in l table)) is ∙ found_in b bs table

-- no token is without letters
pub none_empty : (word : List ℕ) → length word < 1 → None ≡ token_of word
unfolding token_of is_spelling
none_empty [] none = refl
none_empty (b ∷ bs) none = absurd (omega arith)
