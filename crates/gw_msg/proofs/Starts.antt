-- What the tokens of a message begin with, and so which of them comes next.
use Rattle.std.proofs.lemmas.Grind.{common_steps}
use Rattle.std.proofs.Common.{◌≡◌, inl, inr, ℕ, ◌-◌, Bool, true, false, cond, not, ◌==◌, ◌||◌, ◌&&◌, List, [], ◌∷◌, map, Option, Some, None, refl, ap, sym, ◌∙◌, arith}
use Rattle.std.specs.Prelude.{bytes_eq, codes}
use Rattle.std.specs.List.{list_all}
use Rattle.std.specs.Char.{to_ascii_lowercase}
use Rattle.std.proofs.lemmas.Slice.Eq.{bytes_eq-Decides}
use Rattle.std.proofs.lemmas.Bool.{and_parts, or_cases, eqb-true}
use Rattle.gw_base.specs.Bytes.{is_one_of}
use Rattle.gw_text.specs.Runs.{begins, first}
use Rattle.gw_text.specs.Forms.{IsInAnyCase}
use Rattle.gw_text.specs.Tokens.{Spelling, table, is_spelling, find_token, token_of}
use Rattle.gw_text.specs.declared.token.Token.{Token}
use Rattle.gw_text.specs.declared.token.Token.TheVariants as token
use Rattle.gw_text.proofs.FormLaws.{some_is}
use Rattle.gw_base.specs.declared.command_words.Verb.{Verb}
use Rattle.gw_base.specs.declared.command_words.Verb.TheVariants as verb
use Rattle.gw_msg.specs.Words.{is_error_start, is_context_property_start}
use Rattle.gw_msg.specs.Grammar.{SpellsVerb}

-- ---- the next byte

pub begins_none : (p : ℕ → Bool) (text : List ℕ) → None ≡ first text → begins p text ≡ false
begins_none p text e = grind arith

pub begins_some : (p : ℕ → Bool) (text : List ℕ) (b : ℕ) → Some b ≡ first text → begins p text ≡ p b
begins_some p text b e = grind arith

-- ---- the first bytes of tokens

-- the first byte of either form of a token, as a small letter
abbrev first_fits : Token → ℕ → Bool
first_fits token.Error b = is_one_of (codes "e") b
first_fits token.Transaction b = not (is_one_of (codes "e") b)
first_fits token.Reply b = not (is_one_of (codes "e") b)
first_fits token.Pending b = not (is_one_of (codes "e") b)
first_fits token.TransactionResponseAck b = not (is_one_of (codes "e") b)
first_fits token.Topology b = is_one_of (codes "tpec") b
first_fits token.Priority b = is_one_of (codes "tpec") b
first_fits token.Emergency b = is_one_of (codes "tpec") b
first_fits token.ContextAudit b = is_one_of (codes "tpec") b
first_fits token.Add b = not (is_one_of (codes "tpec") b)
first_fits token.Modify b = not (is_one_of (codes "tpec") b)
first_fits token.Move b = not (is_one_of (codes "tpec") b)
first_fits token.Subtract b = not (is_one_of (codes "tpec") b)
first_fits token.AuditValue b = not (is_one_of (codes "tpec") b)
first_fits token.AuditCapability b = not (is_one_of (codes "tpec") b)
first_fits token.Notify b = not (is_one_of (codes "tpec") b)
first_fits token.ServiceChange b = not (is_one_of (codes "tpec") b)
first_fits _ b = true

-- a property of both forms of each token
abbrev all_have : (Token → List ℕ → Bool) → List Spelling → Bool
all_have p [] = true
all_have p (s ∷ others) = p s.token (map to_ascii_lowercase s.long) && (p s.token (map to_ascii_lowercase s.short) && all_have p others)

found_in : (P : Type 0) (t : Bool) (a b : Option Token) (x : Token) → cond t a b ≡ Some x → (t ≡ true → a ≡ Some x → P) → (b ≡ Some x → P) → P
found_in P true a b x e f g = f refl e
found_in P false a b x e f g = g e

find_has : (p : Token → List ℕ → Bool) (word : List ℕ) (entries : List Spelling) (t : Token) → all_have p entries ≡ true → find_token word entries ≡ Some t → p t (map to_ascii_lowercase word) ≡ true
unfolding is_spelling
find_has p word [] t h e = absurd cc
find_has p word (s ∷ others) t h e =
    let lower : List ℕ = map to_ascii_lowercase word in
    let long : List ℕ = map to_ascii_lowercase s.long in
    let short : List ℕ = map to_ascii_lowercase s.short in
    let a = and_parts (p s.token long) (p s.token short && all_have p others) h in
    let b = and_parts (p s.token short) (all_have p others) a.1 in
    found_in (p t lower ≡ true) (bytes_eq lower long || bytes_eq lower short) (Some s.token) (find_token word others) t e
    (λ is same. ap (λ (u : Token). p u lower) (sym (some_is s.token t same)) ∙ elim (or_cases (bytes_eq lower long) (bytes_eq lower short) is) [
      | inl i ↦ ap (p s.token) ((bytes_eq-Decides lower long).0 i) ∙ a.0
      | inr i ↦ ap (p s.token) ((bytes_eq-Decides lower short).0 i) ∙ b.0
    ])
    (λ i. find_has p word others t b.1 i)

-- what both forms of each token have, each word of a token has
pub token_has : (p : Token → List ℕ → Bool) (word : List ℕ) (t : Token) → all_have p table ≡ true → token_of word ≡ Some t → p t (map to_ascii_lowercase word) ≡ true
unfolding token_of
token_has p word t all e = find_has p word table t all e

pub token_fits : (word : List ℕ) (t : Token) → token_of word ≡ Some t → begins (first_fits t) (map to_ascii_lowercase word) ≡ true
token_fits word t e = token_has (λ u. begins (first_fits u)) word t refl e

-- ---- small letters and letters

-- a letter of a class that has both its cases
pub either_case : (p : ℕ → Bool) (m c : ℕ) → to_ascii_lowercase c ≡ m → p m ≡ true → p (m - 32) ≡ true → p c ≡ true
either_case p m c e small large = grind (arith, common_steps)

-- what begins with a letter in any case
pub case_begins : (p : ℕ → Bool) (l : ℕ) (ls text : List ℕ) → IsInAnyCase (l ∷ ls) text → p (to_ascii_lowercase l) ≡ true → p (to_ascii_lowercase l - 32) ≡ true → begins p text ≡ true
case_begins p l ls text h small large = grind arith

-- what a class has of each of some marks
pub one_of : (p : ℕ → Bool) (marks : List ℕ) (c : ℕ) → list_all p marks ≡ true → is_one_of marks c ≡ true → p c ≡ true
one_of p [] c all h = absurd cc
one_of p (m ∷ marks) c all h =
    let a = and_parts (p m) (list_all p marks) all in
    elim (or_cases (m == c) (is_one_of marks c) h) [
      | inl e ↦ ap p (sym (eqb-true m c e)) ∙ a.0
      | inr e ↦ one_of p marks c a.1 e
    ]

lower_in : (p : ℕ → Bool) (marks : List ℕ) (c : ℕ) → list_all p marks ≡ true → list_all (λ m. p (m - 32)) marks ≡ true → is_one_of marks (to_ascii_lowercase c) ≡ true → p c ≡ true
lower_in p [] c small large h = absurd cc
lower_in p (m ∷ marks) c small large h =
    let a = and_parts (p m) (list_all p marks) small in
    let b = and_parts (p (m - 32)) (list_all (λ m. p (m - 32)) marks) large in
    elim (or_cases (m == to_ascii_lowercase c) (is_one_of marks (to_ascii_lowercase c)) h) [
      | inl e ↦ either_case p m c (sym (eqb-true m (to_ascii_lowercase c) e)) a.0 b.0
      | inr e ↦ lower_in p marks c a.1 b.1 e
    ]

begins_with : (p : ℕ → Bool) (marks text : List ℕ) → list_all p marks ≡ true → list_all (λ m. p (m - 32)) marks ≡ true → begins (is_one_of marks) (map to_ascii_lowercase text) ≡ true → begins p text ≡ true
begins_with p marks text small large h = grind (arith, lower_in)

begins_without : (marks letters text : List ℕ) → list_all (λ x. is_one_of marks (to_ascii_lowercase x)) letters ≡ true → begins (λ b. not (is_one_of marks b)) (map to_ascii_lowercase text) ≡ true → begins (λ b. not (is_one_of letters b)) text ≡ true
begins_without marks letters text all h = grind (arith, one_of)

-- ---- errors and items

pub error_starts : (word : List ℕ) → token_of word ≡ Some token.Error → begins is_error_start word ≡ true
error_starts word e = begins_with is_error_start (codes "e") word refl refl (token_fits word token.Error e)

abbrev pub no_error_start : ℕ → Bool
no_error_start b = not (is_error_start b)

pub small_e : (word : List ℕ) → begins (λ b. not (is_one_of (codes "e") b)) (map to_ascii_lowercase word) ≡ true → begins no_error_start word ≡ true
small_e word h = begins_without (codes "e") (codes "Ee") word refl h

-- ---- properties and commands

pub small_property : (word : List ℕ) → begins (is_one_of (codes "tpec")) (map to_ascii_lowercase word) ≡ true → begins is_context_property_start word ≡ true
small_property word h = begins_with is_context_property_start (codes "tpec") word refl refl h

abbrev pub no_context_property_start : ℕ → Bool
no_context_property_start b = not (is_context_property_start b)

small_verb : (word : List ℕ) → begins (λ b. not (is_one_of (codes "tpec") b)) (map to_ascii_lowercase word) ≡ true → begins no_context_property_start word ≡ true
small_verb word h = begins_without (codes "tpec") (codes "TtPpEeCc") word refl h

pub verb_starts : (v : Verb) (word : List ℕ) → SpellsVerb v word → begins no_context_property_start word ≡ true
verb_starts verb.Add word h = small_verb word (token_fits word token.Add h.stands)
verb_starts verb.Modify word h = small_verb word (token_fits word token.Modify h.stands)
verb_starts verb.Move word h = small_verb word (token_fits word token.Move h.stands)
verb_starts verb.Subtract word h = small_verb word (token_fits word token.Subtract h.stands)
verb_starts verb.AuditValue word h = small_verb word (token_fits word token.AuditValue h.stands)
verb_starts verb.AuditCapability word h = small_verb word (token_fits word token.AuditCapability h.stands)
verb_starts verb.Notify word h = small_verb word (token_fits word token.Notify h.stands)
verb_starts verb.ServiceChange word h = small_verb word (token_fits word token.ServiceChange h.stands)
