-- From one entry of the table of tokens to the next, and the word that comes next.
use Rattle.std.proofs.lemmas.Grind.{common_steps}
use Rattle.std.proofs.Common.{◌≡◌, ℕ, ◌+◌, ◌-◌, ◌<◌, ◌≤◌, Bool, true, false, not, List, [], ◌∷◌, ◌++◌, length, get_or, take, drop, Option, Some, refl, ap, sym, ◌∙◌, arith, drop-cons}
use Rattle.std.specs.Bool.{OnTrue}
use Rattle.std.specs.List.{list_all}
use Rattle.std.proofs.lemmas.List.{take_at, take_all, take-append-drop, length-drop}
use Rattle.std.proofs.lemmas.Slice.Eq.{HasBytesAt, text_from_reads}
use Rattle.gw_text.specs.Lexical.{is_safe}
use Rattle.gw_text.specs.Runs.{begins, run_len}
use Rattle.gw_text.proofs.RunLemmas.{run_again, run_len-le}
use Rattle.gw_text.specs.Tokens.{is_spelling, find_token, token_of}
use Rattle.gw_text.specs.TokenTable.{entries, IsNext}
use Rattle.gw_text.specs.declared.token.Token.{Token}
use Rattle.gw_text.specs.declared.token.Spelling as code

pub found_here : (table : List code.Spelling) (i : ℕ) (s : code.Spelling) (word : List ℕ) (total : Option Token) → i < length table → is_spelling (get_or table i s).0.now (get_or table i s).1.now word ≡ true
    → find_token word (entries (drop i table)) ≡ total → total ≡ Some (get_or table i s).2
found_here table i s word total h is so_far = sym so_far ∙ rw (drop-cons table i s, is) refl

pub not_here : (table : List code.Spelling) (i : ℕ) (s : code.Spelling) (word : List ℕ) (total : Option Token) → i < length table → is_spelling (get_or table i s).0.now (get_or table i s).1.now word ≡ false
    → find_token word (entries (drop i table)) ≡ total → find_token word (entries (drop (i + 1) table)) ≡ total
not_here table i s word total h is so_far = grind (arith, common_steps)

-- a word of these bytes is the token that they are
pub sent_as : (word text : List ℕ) (token : Option Token) → length word ≡ length text → HasBytesAt word 0 text → token_of text ≡ token → token_of word ≡ token
sent_as word text token l reads is = ap token_of (text_from_reads word text l reads) ∙ is

-- ---- the word that comes next

-- the form is the word that comes next where no safe byte stands behind it
next_is : (text form rest : List ℕ) → text ≡ form ++ rest → list_all is_safe form ≡ true → begins is_safe rest ≡ false → (take (length form) text ≡ form) × (run_len is_safe text ≡ length form)
next_is text form rest e safe ends = rw e (take_at form rest (length form) refl, run_again is_safe form rest safe ends)

-- as many bytes as the form has, one by one
pub same_front : (text form : List ℕ) (i : ℕ) → i ≡ length form → take i text ≡ take i form → text ≡ form ++ drop (length form) text
same_front text form i e same = grind (arith, take-append-drop, take_all)

-- all that is behind the first n
pub whole_rest : (text : List ℕ) (n : ℕ) → take (length text - n) (drop n text) ≡ drop n text
whole_rest text n = take_all (length text - n) (drop n text) (omega (arith, length-drop n text))

pub next_at_end : (text form rest : List ℕ) → text ≡ form ++ rest → list_all is_safe form ≡ true → length rest < 1 → (take (length form) text ≡ form) × (run_len is_safe text ≡ length form)
next_at_end text form [] e safe h = next_is text form [] e safe refl
next_at_end text form (b ∷ bs) e safe h = absurd (omega arith)

pub next_before : (text form rest : List ℕ) (safe_next : Bool) → text ≡ form ++ rest → list_all is_safe form ≡ true → 0 < length rest → safe_next ≡ is_safe (get_or rest 0 0)
    → OnTrue (not safe_next) ((take (length form) text ≡ form) × (run_len is_safe text ≡ length form))
next_before text form rest safe_next e safe h is = grind (arith, next_is)

pub next_within : (token : Token) (len : ℕ) (text : List ℕ) → IsNext token len text → len ≤ length text
next_within token len text next = omega (arith, next.word, run_len-le is_safe text)
