-- Each entry of the table of tokens reads back.
use Rattle.std.proofs.Common.{◌≡◌, ℕ, cond, ◌||◌, List, [], ◌∷◌, map, Option, Some, None, refl, arith}
use Rattle.std.specs.Prelude.{bytes_eq}
use Rattle.std.specs.Char.{to_ascii_lowercase}
use Rattle.std.proofs.lemmas.Slice.Eq.{bytes_eq-Decides}
use Rattle.gw_text.specs.Tokens.{Spelling, table, is_spelling, find_token, token_of, ReadsBack, AllReadBack}
use Rattle.gw_text.specs.declared.token.Token.{Token}
use Rattle.gw_text.proofs.RunLemmas.{either}

-- the token of a word in lower case
abbrev find_lower : List ℕ → List Spelling → Option Token
find_lower lower [] = None
find_lower lower (s ∷ rest) = cond (bytes_eq lower (map to_ascii_lowercase s.long) || bytes_eq lower (map to_ascii_lowercase s.short)) (Some s.token) (find_lower lower rest)

find_is : (word : List ℕ) (entries : List Spelling) → find_token word entries ≡ find_lower (map to_ascii_lowercase word) entries
unfolding is_spelling
find_is word entries = grind arith

reads_back : (s : Spelling) → find_lower (map to_ascii_lowercase s.long) table ≡ Some s.token → find_lower (map to_ascii_lowercase s.short) table ≡ Some s.token → ReadsBack s
unfolding is_spelling token_of
reads_back s long short word is = grind (arith, find_is, bytes_eq-Decides, either)

-- what the computation has to show
abbrev AllComputed : List Spelling → Type 0
AllComputed [] = Unit {0}
AllComputed (s ∷ rest) = (find_lower (map to_ascii_lowercase s.long) table ≡ Some s.token) × (find_lower (map to_ascii_lowercase s.short) table ≡ Some s.token) × AllComputed rest

each_back : (entries : List Spelling) → AllComputed entries → AllReadBack entries
each_back [] h = tt
each_back (s ∷ rest) h = (reads_back s h.0 h.1, each_back rest h.2)

computed : AllComputed table
computed = (refl, refl, (refl, refl, (refl, refl, (refl, refl, (refl, refl, (refl, refl, (refl, refl, (refl, refl, (refl, refl, (refl, refl, (refl, refl, (refl, refl, (refl, refl, (refl, refl, (refl, refl, (refl, refl, (refl, refl, (refl, refl, (refl, refl, (refl, refl, (refl, refl, (refl, refl, (refl, refl, (refl, refl, (refl, refl, (refl, refl, (refl, refl, (refl, refl, (refl, refl, (refl, refl, (refl, refl, (refl, refl, (refl, refl, (refl, refl, (refl, refl, (refl, refl, (refl, refl, (refl, refl, (refl, refl, (refl, refl, (refl, refl, (refl, refl, (refl, refl, (refl, refl, (refl, refl, (refl, refl, (refl, refl, (refl, refl, (refl, refl, (refl, refl, (refl, refl, (refl, refl, (refl, refl, tt)))))))))))))))))))))))))))))))))))))))))))))))))))))

pub all_back : AllReadBack table
all_back = each_back table computed
