-- The readers of single words, numbers and names read their forms.
use Rattle.std.proofs.lemmas.Grind.{common_steps}
use Rattle.std.proofs.Common.{◌≡◌, ◌⊎◌, inl, inr, ℕ, ◌<◌, Bool, true, false, not, List, [], ◌∷◌, ◌++◌, length, Option, Some, refl, ap, ◌∙◌, arith, rules}
use Rattle.std.specs.Prelude.{codes}
use Rattle.std.specs.List.{list_all}
use Rattle.std.proofs.lemmas.Bool.{and_parts, and_from}
use Rattle.gw_base.specs.Bytes.{byte, is_digit}
use Rattle.gw_base.proofs.Booleans.{other_byte}
use Rattle.gw_base.specs.Lang.{Both, ◌▹◌, IsText}
use Rattle.gw_base.specs.Addresses.{is_address_byte, IsAddress}
use Rattle.gw_base.specs.Mids.{is_domain_byte, is_device_byte, IsDomain, IsOptionalPort, IsMid}
use Rattle.gw_base.specs.Wildcards.{is_term_byte, IsTermText}
use Rattle.gw_base.specs.declared.command_words.CtxRef.{CtxRef}
use Rattle.gw_base.specs.declared.command_words.CtxRef.TheVariants as ctx
use Rattle.gw_base.specs.declared.command_words.Verb.{Verb}
use Rattle.gw_text.specs.Lexical.{is_safe, is_solid, is_space_start}
use Rattle.gw_text.specs.Runs.{begins, NoMore}
use Rattle.gw_text.specs.Forms.{IsToken, IsSomeRun, IsWord, IsUint32}
use Rattle.gw_text.specs.Reader.{◌>>=◌, word_as, solid_as, number_at}
use Rattle.gw_text.specs.Tokens.{token_of}
use Rattle.gw_text.specs.declared.token.Token.{Token}
use Rattle.gw_text.specs.declared.token.Token.TheVariants as token
use Rattle.gw_text.proofs.FormLaws.{BeginsWith, begins_wider, space_bytes, is_solid_by, digit_apart, run_begins, word_solid, number_begins}
use Rattle.gw_text.proofs.ReaderLaws.{ReadsUp, Same, up_as, up_last, up_then, up_done, up_word, up_solid, up_number}
use Rattle.gw_msg.specs.Grammar.{command_token, SpellsVerb, SpellsTerm, SpellsContextId, SpellsMid}
use Rattle.gw_msg.specs.Words.{verb_for, verb_of, is_context, is_error}
use Rattle.gw_msg.specs.NameWords.{term_of, mid_of}
use Rattle.gw_msg.specs.Reading.{only_if, token_in, if_mark, context_number_at, context_id_at}
use Rattle.gw_msg.proofs.Steps.{Done, nothing_behind, nothing_more, other_than, up_mark, up_only_if}
use Rattle.gw_msg.proofs.WordLemmas.{term_is, term_again, mid_is, mid_again}

-- ---- tokens

verb_stands : (o : Option Token) (v : Verb) → verb_for o ≡ Some v → o ≡ Some (command_token v)
verb_stands o v e = grind arith

verb_again : (v : Verb) → verb_for (Some (command_token v)) ≡ Some v
verb_again v = grind arith

pub verb_reads : ReadsUp (word_as verb_of) SpellsVerb (NoMore is_safe) Same Same
verb_reads =
    up_as (up_word verb_of)
    (λ v text h. record { word = h.word; stands = verb_stands (token_of text) v h.stands })
    (λ v text h. record { word = h.word; stands = ap verb_for h.stands ∙ verb_again v })

pub any_token_reads : ReadsUp (word_as token_of) (λ t. IsToken t) (NoMore is_safe) Same Same
any_token_reads = up_word token_of

-- a token of the class
abbrev TokenIn : (Token → Bool) → Unit {0} → List ℕ → Type 0
TokenIn class u text = (t : Token) × (class t ≡ true) × IsToken t text

token_in_reads : (class : Token → Bool) → ReadsUp (token_in class) (TokenIn class) (NoMore is_safe) Same Same
token_in_reads class =
    up_as (up_then (word_as token_of) (λ t text. only_if (class t) >>= λ u. Some (tt, text)) (λ t. IsToken t) (λ t u text. (class t ≡ true) × Done tt u text) (NoMore is_safe) (NoMore is_safe) Same Same Same
    any_token_reads
    (λ t. up_only_if (class t) (λ text. Some (tt, text)) (Done tt) (NoMore is_safe) Same Same (up_done tt (NoMore is_safe) Same))
    (λ t u front rest q n. ap (λ (x : List ℕ). begins is_safe (x ++ rest)) q.1.1 ∙ n))
    (λ u text h. let b = h.1 in (h.0, b.second.0, nothing_behind (IsToken h.0) _ text b b.second.1.1))
    (λ u text h. (h.0, nothing_more text h.2 (h.1, (refl, refl))))

context_to : (t : Token) (text : List ℕ) → is_context t ≡ true → IsToken t text → IsToken token.Context text
context_to t text e h = grind arith

pub context_reads : ReadsUp (token_in is_context) (λ u. IsToken token.Context) (NoMore is_safe) Same Same
context_reads = up_as (token_in_reads is_context) (λ u text h. context_to h.0 text h.1 h.2) (λ u text h. (token.Context, refl, h))

error_to : (t : Token) (text : List ℕ) → is_error t ≡ true → IsToken t text → IsToken token.Error text
error_to t text e h = grind arith

pub error_word_reads : ReadsUp (token_in is_error) (λ u. IsToken token.Error) (NoMore is_safe) Same Same
error_word_reads = up_as (token_in_reads is_error) (λ u text h. error_to h.0 text h.1 h.2) (λ u text h. (token.Error, refl, h))

pub token_solid : (t : Token) (text : List ℕ) → IsToken t text → begins is_solid text ≡ true
token_solid t text h = word_solid text h.word

-- ---- runs of a class within runs of another

wider : (p q : ℕ → Bool) → ((c : ℕ) → p c ≡ true → q c ≡ true) → (text : List ℕ) → list_all p text ≡ true → list_all q text ≡ true
wider p q h [] all = refl
wider p q h (c ∷ cs) all =
    let a = and_parts (p c) (list_all p cs) all in
    and_from (q c) (list_all q cs) (h c a.0) (wider p q h cs a.1)

-- ---- TerminationIDs

term_byte_safe : (c : ℕ) → is_term_byte c ≡ true → is_safe c ≡ true
term_byte_safe c h = grind (arith, common_steps)

term_word : (text : List ℕ) → IsTermText text → IsWord text
term_word text h = record { run = wider is_term_byte is_safe term_byte_safe text h.each; some = h.some }

pub term_reads : ReadsUp (word_as term_of) SpellsTerm (NoMore is_safe) Same Same
term_reads =
    up_as (up_word term_of) (λ t text h. term_is t text h.stands)
    (λ t text h. record { word = term_word text h.0; stands = term_again t text h })

pub term_solid : BeginsWith is_solid SpellsTerm
term_solid t text h = word_solid text (term_word text h.0)

-- ---- ContextIDs

abbrev of_number : ℕ → CtxRef
of_number n = ctx.Num (record { 0 = n })

abbrev OfNumber : CtxRef → List ℕ → Type 0
OfNumber c text = (n : ℕ) × (of_number n ≡ c) × IsUint32 n text

abbrev Mark : List ℕ → CtxRef → CtxRef → List ℕ → Type 0
Mark mark v c text = Both (IsText mark) (Done v c) text

abbrev NullOn : CtxRef → List ℕ → Type 0
NullOn c text = Mark (codes "-") ctx.Null c text ⊎ OfNumber c text

abbrev AllOn : CtxRef → List ℕ → Type 0
AllOn c text = Mark (codes "*") ctx.All c text ⊎ NullOn c text

abbrev ChooseOn : CtxRef → List ℕ → Type 0
ChooseOn c text = Mark (codes "$") ctx.Choose c text ⊎ AllOn c text

digit_but : (b : ℕ) → is_digit b ≡ false → (c : ℕ) → is_digit c ≡ true → other_than b c ≡ true
digit_but b out c is = ap not (other_byte is_digit c b is out)

number_first : (b : ℕ) → is_digit b ≡ false → BeginsWith (other_than b) OfNumber
number_first b out c text h = begins_wider is_digit (other_than b) (digit_but b out) text (number_begins _ _ h.0 text h.2)

null_first : (b : ℕ) → is_digit b ≡ false → other_than b (byte (codes "-")) ≡ true → BeginsWith (other_than b) NullOn
null_first b out other c text h = grind (arith, common_steps)

all_first : (b : ℕ) → is_digit b ≡ false → other_than b (byte (codes "-")) ≡ true → other_than b (byte (codes "*")) ≡ true → BeginsWith (other_than b) AllOn
all_first b out other second c text h = grind (arith, common_steps)

context_id_to : (c : CtxRef) (text : List ℕ) → ChooseOn c text → SpellsContextId c text
context_id_to c text h = grind arith

context_id_from : (c : CtxRef) (text : List ℕ) → SpellsContextId c text → ChooseOn c text
context_id_from c text h = grind arith

pub context_id_reads : ReadsUp context_id_at SpellsContextId (NoMore is_digit) Same Same
unfolding context_id_at
context_id_reads =
    up_as (up_mark (byte (codes "$")) ctx.Choose (if_mark (codes "*") ctx.All (if_mark (codes "-") ctx.Null context_number_at)) AllOn (NoMore is_digit)
    (up_mark (byte (codes "*")) ctx.All (if_mark (codes "-") ctx.Null context_number_at) NullOn (NoMore is_digit)
    (up_mark (byte (codes "-")) ctx.Null context_number_at OfNumber (NoMore is_digit)
    (up_last number_at of_number IsUint32 (NoMore is_digit) Same Same up_number)
    (number_first (byte (codes "-")) refl))
    (null_first (byte (codes "*")) refl refl))
    (all_first (byte (codes "$")) refl refl refl))
    context_id_to context_id_from

pub context_id_solid : BeginsWith is_solid SpellsContextId
context_id_solid h text e = grind arith

-- ---- mIds

abbrev AllSolid : (List ℕ → Type 0) → Type 0
AllSolid P = (text : List ℕ) → P text → list_all is_solid text ≡ true

class_solid : (p : ℕ → Bool) → ((c : ℕ) → is_space_start c ≡ true → p c ≡ false) → (text : List ℕ) → list_all p text ≡ true → list_all is_solid text ≡ true
class_solid p apart text all = wider p is_solid (is_solid_by p apart) text all

both_solid : (P Q : List ℕ → Type 0) → AllSolid P → AllSolid Q → AllSolid (P ▹ Q)
both_solid P Q h k text b = grind (arith, common_steps)

text_solid : (bytes : List ℕ) → list_all is_solid bytes ≡ true → AllSolid (IsText bytes)
text_solid bytes all text h = ap (list_all is_solid) h ∙ all

port_solid : AllSolid IsOptionalPort
port_solid text h = grind (arith, both_solid, text_solid, class_solid, digit_apart)

bracketed_solid : (bracket close : List ℕ) (P : List ℕ → Type 0) → list_all is_solid bracket ≡ true → list_all is_solid close ≡ true → AllSolid P → AllSolid (IsText bracket ▹ P ▹ IsText close ▹ IsOptionalPort)
bracketed_solid bracket close P first last h = search (rules, both_solid, text_solid, port_solid)

mid_solid : AllSolid IsMid
mid_solid text h =
    elim h [
      | inl b ↦ bracketed_solid (codes "[") (codes "]") IsAddress refl refl (λ t a. class_solid is_address_byte (space_bytes (λ c. is_address_byte c ≡ false) refl refl refl refl refl) t a.each) text b
      | inr o ↦ elim o [
        | inl b ↦ bracketed_solid (codes "<") (codes ">") IsDomain refl refl (λ t d. class_solid is_domain_byte (space_bytes (λ c. is_domain_byte c ≡ false) refl refl refl refl refl) t d.each) text b
        | inr d ↦ class_solid is_device_byte (space_bytes (λ c. is_device_byte c ≡ false) refl refl refl refl refl) text d.each
      ]
    ]

mid_some : (text : List ℕ) → IsMid text → 0 < length text
mid_some text h = grind arith

mid_run : (text : List ℕ) → IsMid text → IsSomeRun is_solid text
mid_run text h = record { run = mid_solid text h; some = mid_some text h }

pub mid_reads : ReadsUp (solid_as mid_of) SpellsMid (NoMore is_solid) Same Same
mid_reads = up_as (up_solid mid_of) (λ mid text h. mid_is mid text h.1) (λ mid text h. (mid_run text h.1, mid_again mid text h))

pub mid_begins : BeginsWith is_solid SpellsMid
mid_begins mid text h = let r = mid_run text h.1 in run_begins is_solid is_solid (λ c e. e) text r.run r.some
