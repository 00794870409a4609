-- The reader of a property reads its form.
use Rattle.std.proofs.lemmas.Grind.{common_steps}
use Rattle.std.proofs.Common.{◌≡◌, ◌⊎◌, inl, inr, ℕ, true, false, List, [], ◌++◌, Some, refl, ap, sym, subst, ◌∙◌, arith}
use Rattle.std.proofs.lemmas.Bool.{eqb-true}
use Rattle.std.proofs.lemmas.List.{append-nil}
use Rattle.gw_base.specs.Lang.{Both, ◌▹◌}
use Rattle.gw_text.specs.Lexical.{is_safe, is_solid, left_brace, right_brace, left_bracket, quote_mark, comma}
use Rattle.gw_text.specs.Runs.{begins, is_byte, NoMore}
use Rattle.gw_text.specs.Sign.{sign_at}
use Rattle.gw_text.specs.Forms.{IsWord, IsSign}
use Rattle.gw_text.specs.Bracket.{IsBracket}
use Rattle.gw_text.specs.Quoted.{IsQuoted}
use Rattle.gw_text.specs.Reader.{Reader, ◌>>=◌, quoted_read, group_read, if_begins, if_sign, bracket_read, word_read}
use Rattle.gw_text.proofs.FormLaws.{sign_ends, sign_other, BeginsWith, begins_wider, byte_is_solid, safe_apart, both_begins, both_ends, both_other, begins_ends, with_second, word_begins, word_solid, group_begins, quoted_begins, bracket_begins}
use Rattle.gw_text.proofs.ReaderLaws.{ReadsUp, Same, Skipped, UpTo, Any, up_as, up_next, up_from, up_skipped, up_then, up_last, up_done, up_close, up_if_sign, up_if_begins, up_up, same_up, up_shrinks, BracesUp, up_quoted, up_group, up_bracket}
use Rattle.gw_desc.specs.declared.descriptor.Property.{Property}
use Rattle.gw_desc.specs.declared.descriptor.Sign.{Sign}
use Rattle.gw_desc.specs.declared.descriptor.Sign.TheVariants.{Equal, NotEqual, Less, Greater}
use Rattle.gw_text.specs.Parts.{Shrinks}
use Rattle.gw_desc.specs.Grammar.{Kept, request_depth, SpellsGroup, IsValue, sign_byte, SpellsProperty}
use Rattle.gw_desc.specs.Reading.{value_at, relation_at, property_at}
use Rattle.gw_desc.proofs.Texts.{safe_is_not, word_reads, kept_solid}

-- ---- values

abbrev NoMoreSafe : List ℕ → Type 0
NoMoreSafe = NoMore is_safe

abbrev GroupOrWord : List ℕ → List ℕ → Type 0
GroupOrWord v text = SpellsGroup v text ⊎ Kept IsWord v text

abbrev NotQuoted : List ℕ → List ℕ → Type 0
NotQuoted v text = Kept IsBracket v text ⊎ GroupOrWord v text

-- what begins with one byte does not begin with another
other_first : (a b : ℕ) → is_byte b a ≡ false → (front rest : List ℕ) → begins (is_byte a) front ≡ true → begins (is_byte b) (front ++ rest) ≡ false
other_first a b other front rest h = begins_ends (is_byte a) (is_byte b) (λ c e. ap (is_byte b) (eqb-true c a e) ∙ other) front rest h

word_first : (b : ℕ) → is_safe b ≡ false → (front rest : List ℕ) → IsWord front → begins (is_byte b) (front ++ rest) ≡ false
word_first b other front rest h = begins_ends is_safe (is_byte b) (safe_is_not b other) front rest (word_begins front h)

group_or_word_reads : ReadsUp (if_begins (is_byte left_brace) (group_read request_depth) word_read) GroupOrWord NoMoreSafe Same Same
group_or_word_reads =
    up_if_begins (is_byte left_brace) (group_read request_depth) word_read SpellsGroup (Kept IsWord) NoMoreSafe Same
    (up_next (up_group request_depth) (λ rest n. tt)) word_reads
    (λ v text h. group_begins request_depth text h.1)
    (λ v front rest q n. word_first left_brace refl front rest q.1)

not_quoted_reads : ReadsUp (if_begins (is_byte left_bracket) bracket_read (if_begins (is_byte left_brace) (group_read request_depth) word_read)) NotQuoted NoMoreSafe Same Same
not_quoted_reads =
    up_if_begins (is_byte left_bracket) bracket_read (if_begins (is_byte left_brace) (group_read request_depth) word_read) (Kept IsBracket) GroupOrWord NoMoreSafe Same
    (up_next up_bracket (λ rest n. tt)) group_or_word_reads
    (λ v text h. bracket_begins text h.1)
    (λ v front rest q n. elim q [
      | inl g ↦ other_first left_brace left_bracket refl front rest (group_begins request_depth front g.1)
      | inr w ↦ word_first left_bracket refl front rest w.1
    ])

value_to : (v text : List ℕ) → (Kept IsQuoted v text ⊎ NotQuoted v text) → Kept IsValue v text
value_to v text h = grind arith

value_from : (v text : List ℕ) → Kept IsValue v text → (Kept IsQuoted v text ⊎ NotQuoted v text)
value_from v text h = grind arith

pub value_reads : ReadsUp value_at (Kept IsValue) NoMoreSafe Same Same
unfolding value_at
value_reads =
    up_as (up_if_begins (is_byte quote_mark) quoted_read (if_begins (is_byte left_bracket) bracket_read (if_begins (is_byte left_brace) (group_read request_depth) word_read)) (Kept IsQuoted) NotQuoted NoMoreSafe Same
    (up_next up_quoted (λ rest n. tt)) not_quoted_reads
    (λ v text h. quoted_begins text h.1)
    (λ v front rest q n. elim q [
      | inl b ↦ other_first left_bracket quote_mark refl front rest (bracket_begins front b.1)
      | inr l ↦ elim l [
        | inl g ↦ other_first left_brace quote_mark refl front rest (group_begins request_depth front g.1)
        | inr w ↦ word_first quote_mark refl front rest w.1
      ]
    ]))
    value_to value_from

value_solid : BeginsWith is_solid (Kept IsValue)
value_solid v text h = grind (arith, begins_wider, bracket_begins, byte_is_solid, group_begins, quoted_begins, word_solid)

-- ---- signs

abbrev Here : Sign → Sign → List ℕ → Type 0
Here s t text = (s ≡ t) × (text ≡ [])

abbrev Signed : Sign → Sign → List ℕ → Type 0
Signed s t text = Both (IsSign (sign_byte s)) (Here s t) text

abbrev Last : Sign → List ℕ → Type 0
Last t text = (Greater ≡ t) × IsSign (sign_byte Greater) text

abbrev LessOn : Sign → List ℕ → Type 0
LessOn t text = Signed Less t text ⊎ Last t text

abbrev NotEqualOn : Sign → List ℕ → Type 0
NotEqualOn t text = Signed NotEqual t text ⊎ LessOn t text

abbrev EqualOn : Sign → List ℕ → Type 0
EqualOn t text = Signed Equal t text ⊎ NotEqualOn t text

abbrev last_at : Reader Sign
last_at text = sign_at (sign_byte Greater) text >>= λ rest. Some (Greater, rest)

abbrev less_at : Reader Sign
less_at = if_sign (sign_byte Less) (λ rest. Some (Less, rest)) last_at

abbrev not_equal_at : Reader Sign
not_equal_at = if_sign (sign_byte NotEqual) (λ rest. Some (NotEqual, rest)) less_at

less_reads : ReadsUp less_at LessOn Any UpTo Skipped
less_reads =
    up_if_sign (sign_byte Less) (λ rest. Some (Less, rest)) last_at (Here Less) Last Any UpTo Skipped refl up_up
    (up_done Less Any Skipped) (up_close (sign_byte Greater) Greater refl)
    (λ t front rest q n. sign_other (sign_byte Greater) (sign_byte Less) front rest refl refl q.1)

not_equal_reads : ReadsUp not_equal_at NotEqualOn Any UpTo Skipped
not_equal_reads =
    up_if_sign (sign_byte NotEqual) (λ rest. Some (NotEqual, rest)) less_at (Here NotEqual) LessOn Any UpTo Skipped refl up_up
    (up_done NotEqual Any Skipped) less_reads
    (λ t front rest q n. elim q [
      | inl b ↦ both_other (sign_byte Less) (sign_byte NotEqual) (Here Less t) front rest refl refl b
      | inr l ↦ sign_other (sign_byte Greater) (sign_byte NotEqual) front rest refl refl l.1
    ])

signed : (s : Sign) (text : List ℕ) → IsSign (sign_byte s) text → Signed s s text
signed s text h = record { front = text; back = []; split = sym (append-nil text); first = h; second = (refl, refl) }

relation_to : (t : Sign) (text : List ℕ) → EqualOn t text → IsSign (sign_byte t) text
relation_to t text h = grind (arith, common_steps)

relation_from : (t : Sign) (text : List ℕ) → IsSign (sign_byte t) text → EqualOn t text
relation_from t text h = grind (arith, signed)

relation_reads : ReadsUp relation_at (λ t. IsSign (sign_byte t)) Any UpTo Skipped
unfolding relation_at
relation_reads =
    up_as (up_if_sign (sign_byte Equal) (λ rest. Some (Equal, rest)) not_equal_at (Here Equal) NotEqualOn Any UpTo Skipped refl up_up
    (up_done Equal Any Skipped) not_equal_reads
    (λ t front rest q n. elim q [
      | inl b ↦ both_other (sign_byte NotEqual) (sign_byte Equal) (Here NotEqual t) front rest refl refl b
      | inr k ↦ elim k [
        | inl b ↦ both_other (sign_byte Less) (sign_byte Equal) (Here Less t) front rest refl refl b
        | inr l ↦ sign_other (sign_byte Greater) (sign_byte Equal) front rest refl refl l.1
      ]
    ]))
    relation_to relation_from

sign_not_safe : (s : Sign) → is_safe (sign_byte s) ≡ false
sign_not_safe s = grind arith

-- ---- properties

abbrev property_of : List ℕ → Sign → List ℕ → Property (List ℕ)
property_of name sign value = record { name = name; sign = sign; value = value }

abbrev property_value : List ℕ → Sign → Reader (Property (List ℕ))
property_value name sign text = value_at text >>= λ v. Some (property_of name sign v.0, v.1)

abbrev PropertyValue : List ℕ → Sign → Property (List ℕ) → List ℕ → Type 0
PropertyValue name sign p text = (v : List ℕ) × (property_of name sign v ≡ p) × Kept IsValue v text

abbrev property_rest : List ℕ → Reader (Property (List ℕ))
property_rest name text = relation_at text >>= λ s. property_value name s.0 s.1

abbrev PropertyRest : List ℕ → Property (List ℕ) → List ℕ → Type 0
PropertyRest name p text = (s : Sign) × Both (IsSign (sign_byte s)) (PropertyValue name s p) text

property_rest_reads : (name : List ℕ) → ReadsUp (property_rest name) (PropertyRest name) NoMoreSafe UpTo Same
property_rest_reads name =
    up_then relation_at (property_value name) (λ s. IsSign (sign_byte s)) (PropertyValue name) Any NoMoreSafe UpTo Skipped Same
    relation_reads
    (λ s. up_skipped (λ p text h. value_solid h.0 text h.2) (up_last value_at (property_of name s) (Kept IsValue) NoMoreSafe Same Same value_reads))
    (λ s p front rest q n. tt)

pub property_reads : ReadsUp property_at SpellsProperty NoMoreSafe Same Same
unfolding property_at
property_reads =
    up_as (up_then word_read property_rest (Kept IsWord) PropertyRest NoMoreSafe NoMoreSafe Same Same Same
    word_reads
    (λ name. up_from (property_rest_reads name) same_up)
    (λ name p front rest q n. both_ends is_safe (sign_byte q.0) (PropertyValue name q.0 p) front rest safe_apart (sign_not_safe q.0) q.1))
    (λ p text h.
    let b = h.1 in let s = b.second in let v = s.1.second in
    subst (λ (d : Property (List ℕ)). SpellsProperty d text) v.1 (with_second b (with_second s.1 v.2)))
    (λ p text b. let s = b.second in (p.name, with_second b (p.sign, with_second s (p.value, refl, s.second))))

pub property_shrinks : Shrinks property_at
property_shrinks = up_shrinks property_reads

property_solid : BeginsWith is_solid SpellsProperty
property_solid p text h = both_begins is_solid (Kept IsWord p.name) (IsSign (sign_byte p.sign) ▹ Kept IsValue p.value) (kept_solid p.name) text h

pub property_braces : BracesUp SpellsProperty NoMoreSafe
property_braces = record {
  lists = record { next = λ front more sign. sign_ends is_safe comma front more safe_apart refl sign; begins = property_solid };
  closes = λ front more sign. sign_ends is_safe right_brace front more safe_apart refl sign;
}
