-- The reader of a header reads its form.
use Rattle.std.proofs.lemmas.Grind.{common_steps}
use Rattle.std.proofs.Common.{◌≡◌, ◌⊎◌, ℕ, Bool, true, ◌==◌, List, ◌++◌, Some, None, refl, subst, arith}
use Rattle.std.specs.Prelude.{codes}
use Rattle.std.specs.Char.{to_ascii_lowercase}
use Rattle.gw_base.specs.Bytes.{byte}
use Rattle.gw_base.specs.Lang.{◌▹◌, IsText}
use Rattle.gw_base.specs.Bytes.{is_digit}
use Rattle.gw_text.specs.Lexical.{is_solid}
use Rattle.gw_text.specs.Space.{IsSep}
use Rattle.gw_text.specs.Runs.{begins, NoMore}
use Rattle.gw_text.specs.Sign.{byte_at, prefix_at}
use Rattle.gw_text.specs.Scans.{sep_at}
use Rattle.gw_text.specs.Forms.{IsInAnyCase}
use Rattle.gw_text.specs.Reader.{Reader, ◌>>=◌, found, number_up_to, if_prefix}
use Rattle.gw_text.proofs.FormLaws.{BeginsWith, both_split, digit_apart, sep_ends, with_second}
use Rattle.gw_text.proofs.ReaderLaws.{ReadsUp, Same, Skipped, UpTo, Any, up_as, up_skipped, up_then, up_byte, up_space, up_if_prefix, up_number_up_to, up_sep_last}
use Rattle.gw_msg.specs.Grammar.{version_digits, version_max, IsVersion, IsMegacop, IsHeader}
use Rattle.gw_msg.specs.Reading.{version_at, header_at}

-- ---- behind the first token

abbrev number_sep : Reader ℕ
number_sep text = number_up_to version_digits version_max text >>= λ n. found (sep_at n.1) >>= λ s. Some (n.0, s.1)

abbrev NumberSep : ℕ → List ℕ → Type 0
NumberSep n = IsVersion n ▹ IsSep

number_sep_reads : ReadsUp number_sep NumberSep Any Same Skipped
number_sep_reads =
    up_as (up_then (number_up_to version_digits version_max) (λ n text. found (sep_at text) >>= λ s. Some (n, s.1)) IsVersion (λ n m text. (n ≡ m) × IsSep text) (NoMore is_digit) Any Same Same Skipped
    (up_number_up_to version_digits version_max) (λ n. up_sep_last n)
    (λ n m front rest q a. sep_ends is_digit digit_apart front rest q.1))
    (λ m text h. let b = h.1 in subst (λ (k : ℕ). NumberSep k text) b.second.0 (with_second b b.second.1))
    (λ m text b. (m, with_second b (refl, b.second)))

abbrev SlashNumber : ℕ → List ℕ → Type 0
SlashNumber n = IsText (codes "/") ▹ NumberSep n

version_at_reads : ReadsUp version_at SlashNumber Any Same Skipped
unfolding version_at
version_at_reads = up_byte (byte (codes "/")) number_sep NumberSep Any Skipped number_sep_reads

-- ---- the first token

abbrev Short : ℕ → List ℕ → Type 0
Short n = IsText (codes "!") ▹ SlashNumber n

abbrev Long : ℕ → List ℕ → Type 0
Long n = IsInAnyCase (codes "MEGACO") ▹ SlashNumber n

abbrev after_space : Reader ℕ
after_space = if_prefix (codes "MEGACO") version_at (λ rest. byte_at (byte (codes "!")) rest >>= version_at)

no_long : (more : List ℕ) → prefix_at (codes "MEGACO") (codes "!" ++ more) ≡ None
unfolding prefix_at
no_long more = refl

short_is_not_long : (n : ℕ) (front rest : List ℕ) → Short n front → prefix_at (codes "MEGACO") (front ++ rest) ≡ None
short_is_not_long n front rest b = grind (arith, both_split, no_long)

-- `M` in either case begins no white space
abbrev is_m : ℕ → Bool
is_m c = to_ascii_lowercase c == to_ascii_lowercase (byte (codes "M"))

long_solid : (text : List ℕ) → IsInAnyCase (codes "MEGACO") text → begins is_solid text ≡ true
long_solid text h = grind arith

first_solid : BeginsWith is_solid (λ n text. Long n text ⊎ Short n text)
first_solid n text h = grind (arith, common_steps, long_solid)

after_space_reads : ReadsUp after_space (λ n text. Long n text ⊎ Short n text) Any Skipped Skipped
after_space_reads =
    up_skipped first_solid
    (up_if_prefix (codes "MEGACO") version_at (λ rest. byte_at (byte (codes "!")) rest >>= version_at) SlashNumber Short Any Skipped
    version_at_reads
    (up_byte (byte (codes "!")) version_at SlashNumber Any Skipped version_at_reads)
    (λ n front rest q a. short_is_not_long n front rest q))

-- ---- the whole header

abbrev Token : ℕ → List ℕ → Type 0
Token n = IsMegacop ▹ SlashNumber n

token_to : (n : ℕ) (text : List ℕ) → (Long n text ⊎ Short n text) → Token n text
token_to n text h = grind (arith, common_steps)

token_from : (n : ℕ) (text front back : List ℕ) → text ≡ front ++ back → IsMegacop front → SlashNumber n back → (Long n text ⊎ Short n text)
token_from n text front back split first second = grind (arith, common_steps)

pub header_reads : ReadsUp header_at IsHeader Any UpTo Skipped
unfolding header_at
header_reads =
    up_as (up_space after_space (λ n text. Long n text ⊎ Short n text) Any Skipped after_space_reads)
    (λ n text b. with_second b (token_to n b.back b.second))
    (λ n text b. with_second b (let t = b.second in token_from n b.back t.front t.back t.split t.first t.second))
