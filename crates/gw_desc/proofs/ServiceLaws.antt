-- The reader of a Services parameter reads its form.
use Rattle.std.proofs.lemmas.Grind.{common_steps}
use Rattle.std.proofs.Common.{◌≡◌, ◌⊎◌, inl, inr, ℕ, true, false, List, [], ◌++◌, Option, Some, None, refl, ap, sym, ◌∙◌, arith}
use Rattle.gw_base.specs.Lang.{Both}
use Rattle.gw_text.specs.Lexical.{is_safe, is_solid, is_space_start, comma, right_brace, equals_sign, quote_mark}
use Rattle.gw_text.specs.Runs.{begins, is_byte, NoMore}
use Rattle.gw_text.specs.Sign.{sign_at}
use Rattle.gw_text.specs.Forms.{IsWord, IsSign, IsSomeRun}
use Rattle.gw_text.specs.Bracket.{is_run_byte}
use Rattle.gw_text.specs.Quoted.{IsQuoted}
use Rattle.gw_text.specs.Reader.{◌>>=◌, quoted_read, word_read, run_read}
use Rattle.gw_text.proofs.FormLaws.{sign_ends, sign_other, some_is, BeginsWith, space_bytes, safe_apart, is_another, run_begins, begins_ends, both_begins, both_ends, with_second, quoted_begins}
use Rattle.gw_text.proofs.ReaderLaws.{ReadsUp, Same, Any, up_as, up_next, up_skipped, up_then, up_last, up_done, up_if_sign, up_if_begins, same_up, up_shrinks, up_run, BracesUp, up_quoted}
use Rattle.gw_desc.specs.declared.descriptor.ServiceParm.{ServiceParm}
use Rattle.gw_desc.specs.declared.descriptor.ServiceValue.{ServiceValue}
use Rattle.gw_desc.specs.declared.descriptor.ServiceValue.TheVariants as value
use Rattle.gw_text.specs.Parts.{Shrinks}
use Rattle.gw_desc.specs.Grammar.{Kept, SpellsServiceValue, SpellsOptionalValue, SpellsServiceParm}
use Rattle.gw_desc.specs.Reading.{service_value_at, service_rest, service_parm_at}
use Rattle.gw_desc.proofs.Texts.{word_reads, kept_solid}

-- ---- runs

pub run_reads : ReadsUp run_read (Kept (IsSomeRun is_run_byte)) (NoMore is_run_byte) Same Same
run_reads = up_as (up_run (λ r. Some r)) (λ r text h. (sym (some_is text r h.1), h.0)) (λ r text h. (h.1, ap (λ (x : List ℕ). Some x) (sym h.0)))

run_apart : (c : ℕ) → is_space_start c ≡ true → is_run_byte c ≡ false
run_apart = space_bytes (λ c. is_run_byte c ≡ false) refl refl refl refl refl

-- ---- values

abbrev AQuoted : ServiceValue → List ℕ → Type 0
AQuoted v text = (span : List ℕ) × (value.Quoted span ≡ v) × Kept IsQuoted span text

abbrev ARun : ServiceValue → List ℕ → Type 0
ARun v text = (span : List ℕ) × (value.Run span ≡ v) × Kept (IsSomeRun is_run_byte) span text

value_to : (v : ServiceValue) (text : List ℕ) → (AQuoted v text ⊎ ARun v text) → SpellsServiceValue v text
value_to v text h = grind arith

value_from : (v : ServiceValue) (text : List ℕ) → SpellsServiceValue v text → (AQuoted v text ⊎ ARun v text)
value_from v text h = grind arith

pub service_value_reads : ReadsUp service_value_at SpellsServiceValue (NoMore is_run_byte) Same Same
unfolding service_value_at
service_value_reads =
    up_as (up_if_begins (is_byte quote_mark) (λ text. quoted_read text >>= λ s. Some (value.Quoted s.0, s.1)) (λ text. run_read text >>= λ s. Some (value.Run s.0, s.1)) AQuoted ARun (NoMore is_run_byte) Same
    (up_next (up_last quoted_read (λ s. value.Quoted s) (Kept IsQuoted) Any Same Same up_quoted) (λ rest n. tt))
    (up_last run_read (λ s. value.Run s) (Kept (IsSomeRun is_run_byte)) (NoMore is_run_byte) Same Same run_reads)
    (λ v text h. quoted_begins text h.2.1)
    (λ v front rest q n. begins_ends is_run_byte (is_byte quote_mark) (λ c e. is_another c quote_mark is_run_byte refl e) front rest (run_begins is_run_byte is_run_byte (λ c e. e) front q.2.1.run q.2.1.some)))
    value_to value_from

value_solid : BeginsWith is_solid SpellsServiceValue
value_solid h text e = grind (arith, common_steps)

-- ---- parameters

-- what may follow a parameter: no more of its value, and no `=`
pub record AfterServiceParm (rest : List ℕ) : Type 0 where
  pub run : NoMore is_run_byte rest
  pub word : NoMore is_safe rest
  pub equals : sign_at equals_sign rest ≡ None

abbrev parm_of : List ℕ → Option ServiceValue → ServiceParm
parm_of name value = record { name = name; value = value }

abbrev WithValue : List ℕ → ServiceParm → List ℕ → Type 0
WithValue name p text = (v : ServiceValue) × (parm_of name (Some v) ≡ p) × SpellsServiceValue v text

abbrev WithoutValue : List ℕ → ServiceParm → List ℕ → Type 0
WithoutValue name p text = (parm_of name None ≡ p) × (text ≡ [])

abbrev ServiceRest : List ℕ → ServiceParm → List ℕ → Type 0
ServiceRest name p text = Both (IsSign equals_sign) (WithValue name p) text ⊎ WithoutValue name p text

service_rest_reads : (name : List ℕ) → ReadsUp (service_rest name) (ServiceRest name) AfterServiceParm Same Same
service_rest_reads name =
    up_if_sign equals_sign (λ text. service_value_at text >>= λ v. Some (parm_of name (Some v.0), v.1)) (λ text. Some (parm_of name None, text)) (WithValue name) (WithoutValue name) AfterServiceParm Same Same refl same_up
    (up_next (up_skipped (λ p text h. value_solid h.0 text h.2) (up_last service_value_at (λ v. parm_of name (Some v)) SpellsServiceValue (NoMore is_run_byte) Same Same service_value_reads)) (λ rest n. n.run))
    (up_done (parm_of name None) AfterServiceParm Same)
    (λ p front rest q n. ap (λ (x : List ℕ). sign_at equals_sign (x ++ rest)) q.1 ∙ n.equals)

service_rest_ends : (name : List ℕ) (p : ServiceParm) (front rest : List ℕ) → ServiceRest name p front → AfterServiceParm rest → NoMore is_safe (front ++ rest)
service_rest_ends name p front rest q n =
    elim q [
      | inl b ↦ both_ends is_safe equals_sign (WithValue name p) front rest safe_apart refl b
      | inr w ↦ ap (λ (x : List ℕ). begins is_safe (x ++ rest)) w.1 ∙ n.word
    ]

parm_to : (p : ServiceParm) (text : List ℕ) → ((name : List ℕ) × Both (Kept IsWord name) (ServiceRest name p) text) → SpellsServiceParm p text
parm_to p text h = grind arith

rest_from : (name : List ℕ) (o : Option ServiceValue) (text : List ℕ) → SpellsOptionalValue o text → ServiceRest name (parm_of name o) text
rest_from name o text h = grind arith

pub service_parm_reads : ReadsUp service_parm_at SpellsServiceParm AfterServiceParm Same Same
unfolding service_parm_at
service_parm_reads =
    up_as (up_then word_read service_rest (Kept IsWord) ServiceRest (NoMore is_safe) AfterServiceParm Same Same Same
    word_reads service_rest_reads service_rest_ends)
    parm_to
    (λ p text b. (p.name, with_second b (rest_from p.name p.value b.back b.second)))

pub service_parm_shrinks : Shrinks service_parm_at
service_parm_shrinks = up_shrinks service_parm_reads

service_parm_solid : BeginsWith is_solid SpellsServiceParm
service_parm_solid p text h = both_begins is_solid (Kept IsWord p.name) (SpellsOptionalValue p.value) (kept_solid p.name) text h

after_sign : (b : ℕ) → is_space_start b ≡ false → is_run_byte b ≡ false → is_safe b ≡ false → is_byte equals_sign b ≡ false → (front more : List ℕ) → IsSign b front → AfterServiceParm (front ++ more)
after_sign b solid run safe equals front more h = record {
  run = sign_ends is_run_byte b front more run_apart run h;
  word = sign_ends is_safe b front more safe_apart safe h;
  equals = sign_other b equals_sign front more solid equals h;
}

pub service_parm_braces : BracesUp SpellsServiceParm AfterServiceParm
service_parm_braces = record {
  lists = record { next = after_sign comma refl refl refl refl; begins = service_parm_solid };
  closes = after_sign right_brace refl refl refl refl;
}
