-- The tokens as the code has them, by their first letters (own).
use Rattle.std.specs.Prelude.{◌≡◌, ◌<◌, ℕ, Bool, ◌||◌, List, [], ◌∷◌, map, length, take, Some}
use Rattle.std.specs.Char.{to_ascii_lowercase}
use Rattle.std.specs.List.{filter}
use Rattle.gw_text.specs.Lexical.{is_safe}
use Rattle.gw_text.specs.Runs.{begins, is_byte, run_len, IsRun}
use Rattle.gw_text.specs.Tokens.{Spelling, token_of}
use Rattle.gw_text.specs.declared.token.Token.{Token}
use Rattle.gw_text.specs.declared.token.Spelling as code

-- the code's rows, as those of the definition
abbrev pub entries : List code.Spelling → List Spelling
entries [] = []
entries (s ∷ rest) = (record { long = s.0.now; short = s.1.now; token = s.2 }) ∷ entries rest

-- the form begins with the letter, in any case
abbrev pub begins_in : ℕ → List ℕ → Bool
begins_in letter form = begins (is_byte letter) (map to_ascii_lowercase form)

-- the tokens with a form that begins with the letter
abbrev pub rows_in : ℕ → List Spelling → List Spelling
rows_in letter = filter (λ s. begins_in letter s.long || begins_in letter s.short)

-- a word of this token
pub record IsForm (token : Token) (form : List ℕ) : Type 0 where
  pub some : 0 < length form
  pub safe : IsRun is_safe form
  pub recognized : token_of form ≡ Some token

-- the word that comes next is of this token, and has so many bytes
pub record IsNext (token : Token) (len : ℕ) (text : List ℕ) : Type 0 where
  pub some : 0 < len
  pub word : run_len is_safe text ≡ len
  pub recognized : token_of (take len text) ≡ Some token
