-- The reader of a descriptor reads its form.
use Rattle.std.proofs.Common.{◌≡◌, ◌⊎◌, inl, inr, ℕ, false, List, [], ◌++◌, Option, Some, refl, ap, sym, subst, ◌∙◌, arith}
use Rattle.gw_base.specs.Lang.{Both}
use Rattle.gw_text.specs.Lexical.{is_safe, is_solid, is_space_start, comma, right_brace, left_brace, left_bracket, equals_sign}
use Rattle.gw_text.specs.Space.{IsSpace}
use Rattle.gw_text.specs.Runs.{is_byte, NoMore}
use Rattle.gw_text.specs.Forms.{IsWord, IsSign, IsToken, Braced, BracedOrEmpty}
use Rattle.gw_text.specs.Bracket.{IsBracket}
use Rattle.gw_text.specs.Tokens.{token_of}
use Rattle.gw_text.specs.Reader.{Reader, ◌>>=◌, braced_at, braced_or_empty_at, bracket_read, word_read}
use Rattle.gw_text.specs.declared.token.Token.{Token}
use Rattle.gw_text.specs.declared.token.Token.TheVariants as token
use Rattle.gw_text.proofs.FormLaws.{sign_ends, sign_other, sign_end, some_is, BeginsWith, safe_apart, safe_is_solid, both_begins, both_ends, with_second, bracket_begins, ahead_ends}
use Rattle.gw_text.proofs.ReaderLaws.{ReadsUp, Same, Skipped, UpTo, Any, up_as, up_next, up_from, up_to, up_then, up_last, up_if_ahead, same_up, skipped_up, up_shrinks, BracesUp, up_braced, up_braced_or_empty, up_bracket}
use Rattle.gw_desc.specs.declared.descriptor.Descriptor.{Descriptor}
use Rattle.gw_desc.specs.declared.descriptor.Descriptor.TheVariants as descriptor
use Rattle.gw_desc.specs.declared.descriptor.KeptKind.{KeptKind}
use Rattle.gw_desc.specs.declared.descriptor.KeptKind.TheVariants as kept
use Rattle.gw_desc.specs.declared.descriptor.MediaPart.{MediaPart}
use Rattle.gw_desc.specs.declared.descriptor.ServiceParm.{ServiceParm}
use Rattle.gw_desc.specs.declared.descriptor.Tail.{Tail}
use Rattle.gw_text.specs.Parts.{Shrinks}
use Rattle.gw_desc.specs.Grammar.{Kept, SpellsTail, SpellsMediaPart, SpellsServiceParm, kept_token, is_descriptor, IsOtherWord, IsDropped, SpellsDescriptor}
use Rattle.gw_desc.specs.Reading.{tail_at, media_part_at, service_parm_at, dropped_at, keep_at, descriptor_rest, descriptor_at, AfterTail, AfterDescriptor}
use Rattle.gw_desc.proofs.Texts.{first_two, last_two, with_first_part, word_reads, word_shrinks, kept_solid, kept_begins}
use Rattle.gw_desc.proofs.TailLaws.{tail_reads, tail_ends, tail_other, sign_after_tail}
use Rattle.gw_desc.proofs.MediaLaws.{braced_ends, media_part_reads, media_part_shrinks, media_part_braces}
use Rattle.gw_desc.proofs.ServiceLaws.{service_parm_reads, service_parm_shrinks, service_parm_braces, AfterServiceParm}

-- ---- what follows another word

abbrev behind_bracket : Reader (Tail (List ℕ))
behind_bracket text = bracket_read text >>= λ b. tail_at b.1

abbrev BehindBracket : Tail (List ℕ) → List ℕ → Type 0
BehindBracket t text = (span : List ℕ) × Both (Kept IsBracket span) (SpellsTail t) text

behind_up_bracket : ReadsUp behind_bracket BehindBracket AfterDescriptor Same Same
behind_up_bracket =
    up_then bracket_read (λ span. tail_at) (Kept IsBracket) (λ span. SpellsTail) Any AfterDescriptor Same Same Same
    up_bracket (λ span. up_next tail_reads (λ rest n. n.tail)) (λ span t front rest q n. tt)

abbrev Dropped : Tail (List ℕ) → List ℕ → Type 0
Dropped t text = Both IsSpace (BehindBracket t) text ⊎ SpellsTail t text

behind_begins : BeginsWith (is_byte left_bracket) BehindBracket
behind_begins t text h = both_begins (is_byte left_bracket) (Kept IsBracket h.0) (SpellsTail t) (λ x k. bracket_begins x k.1) text h.1

dropped_reads : ReadsUp dropped_at Dropped AfterDescriptor Same Same
unfolding dropped_at
dropped_reads =
    up_if_ahead left_bracket behind_bracket tail_at BehindBracket SpellsTail AfterDescriptor Same Same refl same_up
    behind_up_bracket (up_next tail_reads (λ rest n. n.tail)) behind_begins
    (λ t front rest q n. tail_other left_bracket refl refl t front rest q n.bracket)

dropped_ends : (t : Tail (List ℕ)) (front rest : List ℕ) → Dropped t front → AfterDescriptor rest → NoMore is_safe (front ++ rest)
dropped_ends t front rest q n =
    elim q [
      | inl b ↦ ahead_ends is_safe left_bracket (BehindBracket t) safe_apart refl (behind_begins t) front rest b
      | inr s ↦ tail_ends t front rest s n.tail
    ]

dropped_to : (t : Tail (List ℕ)) (text : List ℕ) → Dropped t text → IsDropped text
dropped_to t text h =
    elim h [
      | inl b ↦ let c = b.second.1 in let d = first_two (with_second b (record { front = c.front; back = c.back; split = c.split; first = c.first.1; second = (t, c.second) })) in with_first_part d (inr d.first)
      | inr s ↦ record { front = []; back = text; split = refl; first = inl refl; second = (t, s) }
    ]

dropped_from : (text : List ℕ) → IsDropped text → (t : Tail (List ℕ)) × Dropped t text
dropped_from text h =
    elim h.first [
      | inl none ↦ (h.second.0, inr (subst (SpellsTail h.second.0) (sym (h.split ∙ ap (λ (x : List ℕ). x ++ h.back) none)) h.second.1))
      | inr p ↦ let b = last_two (with_first_part h p) in let c = b.second in (c.second.0, inl (with_second b (c.front, record { front = c.front; back = c.back; split = c.split; first = (refl, c.first); second = c.second.1 })))
    ]

-- ---- behind the word

abbrev OfMedia : Descriptor → List ℕ → Type 0
OfMedia d text = (list : List MediaPart) × (descriptor.Media list ≡ d) × Braced SpellsMediaPart list text

abbrev OfServices : Descriptor → List ℕ → Type 0
OfServices d text = (list : List ServiceParm) × (descriptor.Services list ≡ d) × Braced SpellsServiceParm list text

abbrev OfAudit : Descriptor → List ℕ → Type 0
OfAudit d text = (list : List (List ℕ)) × (descriptor.Audit list ≡ d) × BracedOrEmpty (Kept IsWord) list text

abbrev OfKept : KeptKind → Descriptor → List ℕ → Type 0
OfKept kind d text = (t : Tail (List ℕ)) × (descriptor.Keep kind t ≡ d) × SpellsTail t text

abbrev OfOther : List ℕ → Descriptor → List ℕ → Type 0
OfOther word d text = (t : Tail (List ℕ)) × (descriptor.Other word ≡ d) × Dropped t text

abbrev DescriptorRest : List ℕ → Option Token → Descriptor → List ℕ → Type 0
DescriptorRest word (Some token.Media) d text = OfMedia d text
DescriptorRest word (Some token.Events) d text = OfKept kept.Events d text
DescriptorRest word (Some token.Signals) d text = OfKept kept.Signals d text
DescriptorRest word (Some token.DigitMap) d text = OfKept kept.DigitMap d text
DescriptorRest word (Some token.EventBuffer) d text = OfKept kept.EventBuffer d text
DescriptorRest word (Some token.Audit) d text = OfAudit d text
DescriptorRest word (Some token.Services) d text = OfServices d text
DescriptorRest word _ d text = OfOther word d text

-- what was read to the end of a brace stops up to white space
braced_made : {V : Type 0} (r : Reader V) (f : V → Descriptor) (P : V → List ℕ → Type 0) → ReadsUp r P Any UpTo Skipped → ReadsUp (λ text. r text >>= λ x. Some (f x.0, x.1)) (λ d text. (v : V) × (f v ≡ d) × P v text) AfterDescriptor Same UpTo
braced_made r f P h = up_next (up_to (up_from (up_last r f P Any UpTo Skipped h) same_up) skipped_up) (λ rest n. tt)

keep_reads : (kind : KeptKind) → ReadsUp (keep_at kind) (OfKept kind) AfterDescriptor Same UpTo
keep_reads kind = up_next (up_to (up_last tail_at (λ t. descriptor.Keep kind t) SpellsTail AfterTail Same Same tail_reads) same_up) (λ rest n. n.tail)

media_reads : ReadsUp (λ text. braced_at media_part_at text >>= λ x. Some (descriptor.Media x.0, x.1)) OfMedia AfterDescriptor Same UpTo
media_reads = braced_made (braced_at media_part_at) (λ x. descriptor.Media x) (Braced SpellsMediaPart) (up_braced media_part_at SpellsMediaPart Any (up_to media_part_reads skipped_up) media_part_braces)

services_reads : ReadsUp (λ text. braced_at service_parm_at text >>= λ x. Some (descriptor.Services x.0, x.1)) OfServices AfterDescriptor Same UpTo
services_reads = braced_made (braced_at service_parm_at) (λ x. descriptor.Services x) (Braced SpellsServiceParm) (up_braced service_parm_at SpellsServiceParm AfterServiceParm (up_to service_parm_reads same_up) service_parm_braces)

word_braces : BracesUp (Kept IsWord) (NoMore is_safe)
word_braces = record {
  lists = record { next = λ front more sign. sign_ends is_safe comma front more safe_apart refl sign; begins = kept_solid };
  closes = λ front more sign. sign_ends is_safe right_brace front more safe_apart refl sign;
}

audit_reads : ReadsUp (λ text. braced_or_empty_at word_read text >>= λ x. Some (descriptor.Audit x.0, x.1)) OfAudit AfterDescriptor Same UpTo
audit_reads = braced_made (braced_or_empty_at word_read) (λ x. descriptor.Audit x) (BracedOrEmpty (Kept IsWord)) (up_braced_or_empty is_safe word_read (Kept IsWord) (NoMore is_safe) safe_is_solid refl kept_begins (up_to word_reads same_up) word_braces)

other_reads : (word : List ℕ) → ReadsUp (λ text. dropped_at text >>= λ x. Some (descriptor.Other word, x.1)) (OfOther word) AfterDescriptor Same UpTo
other_reads word = up_to (up_last dropped_at (λ t. descriptor.Other word) Dropped AfterDescriptor Same Same dropped_reads) same_up

rest_reads : (word : List ℕ) (o : Option Token) → ReadsUp (descriptor_rest word o) (DescriptorRest word o) AfterDescriptor Same UpTo
rest_reads word (Some token.Media) = media_reads
rest_reads word (Some token.Events) = keep_reads kept.Events
rest_reads word (Some token.Signals) = keep_reads kept.Signals
rest_reads word (Some token.DigitMap) = keep_reads kept.DigitMap
rest_reads word (Some token.EventBuffer) = keep_reads kept.EventBuffer
rest_reads word (Some token.Audit) = audit_reads
rest_reads word (Some token.Services) = services_reads
rest_reads word _ = other_reads word

audit_ends : (list : List (List ℕ)) (front rest : List ℕ) → BracedOrEmpty (Kept IsWord) list front → NoMore is_safe (front ++ rest)
audit_ends list front rest b = grind (arith, both_ends, safe_apart)

rest_ends : (word : List ℕ) (o : Option Token) (d : Descriptor) (front rest : List ℕ) → DescriptorRest word o d front → AfterDescriptor rest → NoMore is_safe (front ++ rest)
rest_ends word (Some token.Media) d front rest q n = braced_ends is_safe SpellsMediaPart safe_apart refl q.0 front rest q.2
rest_ends word (Some token.Events) d front rest q n = tail_ends q.0 front rest q.2 n.tail
rest_ends word (Some token.Signals) d front rest q n = tail_ends q.0 front rest q.2 n.tail
rest_ends word (Some token.DigitMap) d front rest q n = tail_ends q.0 front rest q.2 n.tail
rest_ends word (Some token.EventBuffer) d front rest q n = tail_ends q.0 front rest q.2 n.tail
rest_ends word (Some token.Audit) d front rest q n = audit_ends q.0 front rest q.2
rest_ends word (Some token.Services) d front rest q n = braced_ends is_safe SpellsServiceParm safe_apart refl q.0 front rest q.2
rest_ends word _ d front rest q n = dropped_ends q.0 front rest q.2 n

-- ---- in other words

-- a word that is the token
word_is : (t : Token) (word text : List ℕ) → Kept IsWord word text → token_of word ≡ Some t → IsToken t text
word_is t word text h e = record { word = h.1; stands = ap token_of (sym h.0) ∙ e }

other_word : (word text : List ℕ) → Kept IsWord word text → is_descriptor (token_of word) ≡ false → Kept IsOtherWord word text
other_word word text h e = (h.0, (h.1, ap (λ (x : List ℕ). is_descriptor (token_of x)) (sym h.0) ∙ e))

abbrev WordAndRest : List ℕ → Option Token → Descriptor → List ℕ → Type 0
WordAndRest word o d text = Both (Kept IsWord word) (DescriptorRest word o d) text

kept_to : (kind : KeptKind) (word : List ℕ) (d : Descriptor) (text : List ℕ) → token_of word ≡ Some (kept_token kind) → Both (Kept IsWord word) (OfKept kind d) text → SpellsDescriptor d text
kept_to kind word d text e b = subst (λ (x : Descriptor). SpellsDescriptor x text) b.second.1 (with_second (with_first_part b (word_is (kept_token kind) word b.front b.first e)) b.second.2)

other_to : (word : List ℕ) (d : Descriptor) (text : List ℕ) → is_descriptor (token_of word) ≡ false → Both (Kept IsWord word) (OfOther word d) text → SpellsDescriptor d text
other_to word d text e b = subst (λ (x : Descriptor). SpellsDescriptor x text) b.second.1 (with_second (with_first_part b (other_word word b.front b.first e)) (dropped_to b.second.0 b.back b.second.2))

descriptor_to : (word : List ℕ) (o : Option Token) (d : Descriptor) (text : List ℕ) → token_of word ≡ o → WordAndRest word o d text → SpellsDescriptor d text
descriptor_to word (Some token.Media) d text e b = subst (λ (x : Descriptor). SpellsDescriptor x text) b.second.1 (with_second (with_first_part b (word_is token.Media word b.front b.first e)) b.second.2)
descriptor_to word (Some token.Events) d text e b = kept_to kept.Events word d text e b
descriptor_to word (Some token.Signals) d text e b = kept_to kept.Signals word d text e b
descriptor_to word (Some token.DigitMap) d text e b = kept_to kept.DigitMap word d text e b
descriptor_to word (Some token.EventBuffer) d text e b = kept_to kept.EventBuffer word d text e b
descriptor_to word (Some token.Audit) d text e b = subst (λ (x : Descriptor). SpellsDescriptor x text) b.second.1 (with_second (with_first_part b (word_is token.Audit word b.front b.first e)) b.second.2)
descriptor_to word (Some token.Services) d text e b = subst (λ (x : Descriptor). SpellsDescriptor x text) b.second.1 (with_second (with_first_part b (word_is token.Services word b.front b.first e)) b.second.2)
descriptor_to word _ d text e b = other_to word d text (ap is_descriptor e) b

-- a token, and what is behind it
token_from : (t : Token) (d : Descriptor) (text : List ℕ) (b : Both (IsToken t) (λ back. (front : List ℕ) → DescriptorRest front (Some t) d back) text) → (word : List ℕ) × WordAndRest word (token_of word) d text
token_from t d text b = (b.front, record { front = b.front; back = b.back; split = b.split; first = (refl, b.first.word); second = subst (λ (o : Option Token). DescriptorRest b.front o d b.back) (sym b.first.stands) (b.second b.front) })

other_rest : (word : List ℕ) (o : Option Token) (text : List ℕ) → is_descriptor o ≡ false → ((t : Tail (List ℕ)) × Dropped t text) → DescriptorRest word o (descriptor.Other word) text
other_rest word o text e s = grind arith

descriptor_from : (d : Descriptor) (text : List ℕ) → SpellsDescriptor d text → (word : List ℕ) × WordAndRest word (token_of word) d text
descriptor_from d text b = grind (arith, dropped_from, token_from, other_rest, with_first_part, with_second)

pub descriptor_reads : ReadsUp descriptor_at SpellsDescriptor AfterDescriptor Same UpTo
unfolding descriptor_at
descriptor_reads =
    up_as (up_then word_read (λ word. descriptor_rest word (token_of word)) (Kept IsWord) (λ word. DescriptorRest word (token_of word)) (NoMore is_safe) AfterDescriptor Same Same UpTo
    word_reads (λ word. rest_reads word (token_of word)) (λ word d front rest q n. rest_ends word (token_of word) d front rest q n))
    (λ d text h. descriptor_to h.0 (token_of h.0) d text refl h.1) descriptor_from

pub descriptor_shrinks : Shrinks descriptor_at
descriptor_shrinks = up_shrinks descriptor_reads

-- no part of a list in a descriptor gives back bytes that it took
pub ruleset parts_shrink = (media_part_shrinks, word_shrinks, service_parm_shrinks)

descriptor_solid : BeginsWith is_solid SpellsDescriptor
descriptor_solid d text h = let s = descriptor_from d text h in both_begins is_solid (Kept IsWord s.0) (DescriptorRest s.0 (token_of s.0) d) (kept_solid s.0) text s.1

-- a sign of another kind may follow a descriptor
pub sign_after : (b : ℕ) → is_space_start b ≡ false → is_safe b ≡ false → is_byte equals_sign b ≡ false → is_byte left_brace b ≡ false → is_byte left_bracket b ≡ false → (front more : List ℕ) → IsSign b front → AfterDescriptor (front ++ more)
sign_after b solid safe equals brace bracket front more h = grind (arith, sign_after_tail, sign_other)

pub descriptor_braces : BracesUp SpellsDescriptor AfterDescriptor
descriptor_braces = record {
  lists = record { next = sign_after comma refl refl refl refl refl; begins = descriptor_solid };
  closes = sign_after right_brace refl refl refl refl refl;
}

-- ---- a whole text

pub nothing_after_tail : AfterTail []
nothing_after_tail = record { word = refl; equals = sign_end equals_sign; group = sign_end left_brace }

nothing_after : AfterDescriptor []
nothing_after = record { tail = nothing_after_tail; bracket = sign_end left_bracket }

-- a text is of one value, where it is read
one_value : {V : Type 0} {read : Reader V} {Form : V → List ℕ → Type 0} {Next : List ℕ → Type 0} {To : List ℕ → List ℕ → Type 0} → ReadsUp read Form Next Same To → Next [] → (text : List ℕ) (v w : V) → Form v text → Form w text → v ≡ w
one_value {V} h none text v w p q =
    let a = h.complete v text [] (text ++ []) p none refl in
    let b = h.complete w text [] (text ++ []) q none refl in
    let first : V × List ℕ = (v, a.0) in
    ap (λ (x : V × List ℕ). x.0) (some_is first (w, b.0) (sym a.1 ∙ b.1))

pub one_tail : (text : List ℕ) (t u : Tail (List ℕ)) → SpellsTail t text → SpellsTail u text → t ≡ u
one_tail = one_value tail_reads nothing_after_tail

pub one_descriptor : (text : List ℕ) (d e : Descriptor) → SpellsDescriptor d text → SpellsDescriptor e text → d ≡ e
one_descriptor = one_value descriptor_reads nothing_after
