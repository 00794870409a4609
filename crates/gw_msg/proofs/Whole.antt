-- A whole text: its message, a header of another version, or neither.
use Rattle.std.proofs.Common.{◌≡◌, ◌≢◌, ◌⊎◌, inl, inr, ℕ, Bool, false, cond, ◌==◌, List, [], ◌++◌, Option, Some, None, Result, Ok, Err, refl, ap, sym, subst, ◌∙◌, arith}
use Rattle.std.proofs.lemmas.List.{append-nil}
use Rattle.std.proofs.lemmas.Bool.{eqb-false, ne_eqb}
use Rattle.gw_text.specs.SpaceScan.{skip}
use Rattle.gw_text.specs.Reader.{◌>>=◌, if_end}
use Rattle.gw_text.proofs.FormLaws.{bind_some, skip_solid}
use Rattle.gw_msg.specs.declared.message.Message.{Message}
use Rattle.gw_msg.specs.declared.fault.ReadFault.{ReadFault}
use Rattle.gw_msg.specs.declared.fault.ReadFault.TheVariants.{Version, Syntax, NoMemory}
use Rattle.gw_msg.specs.Grammar.{spoken_version, SpellsContent, Spells, HasHeader, HasVersionFault, IsReadingOf}
use Rattle.gw_msg.specs.Reading.{header_at, content_at, all_at, or_syntax, judged, message_of, IsSpoken, IsAnswer}
use Rattle.gw_msg.proofs.ItemLaws.{content_reads, content_solid}
use Rattle.gw_msg.proofs.HeaderLaws.{header_reads}

abbrev Answer : Type 0
Answer = Result Message ReadFault

if_version : (t : Bool) (r : Answer) → cond t r (Err Version) ≡ Err Version → (r ≡ Err Version → ⊥) → t ≡ false
if_version t r e h = grind arith

or_syntax_version : (o : Option Message) → or_syntax o ≡ Err Version → ⊥
or_syntax_version o e = grind arith

-- what was judged as a message, and as another version
judged_ok : (o : Option (ℕ × List ℕ)) (m : Message) → judged o ≡ Ok m → (rest : List ℕ) × (o ≡ Some (spoken_version, rest)) × (all_at content_at rest ≡ Some m)
judged_ok o m e = grind arith

judged_version : (o : Option (ℕ × List ℕ)) → judged o ≡ Err Version → (n : ℕ) × (rest : List ℕ) × (o ≡ Some (n, rest)) × (n ≢ spoken_version)
judged_version None e = absurd cc
judged_version (Some h) e =
    let other = if_version (h.0 == spoken_version) (or_syntax (all_at content_at h.1)) e (or_syntax_version (all_at content_at h.1)) in
    (h.0, h.1, refl, λ same. eqb-false h.0 spoken_version other same)

end_is : (m n : Message) (rest : List ℕ) → if_end m rest ≡ Some n → (rest ≡ []) × (m ≡ n)
end_is m n rest e = grind arith

-- a whole text is read as what it spells
content_sound : (text : List ℕ) (m : Message) → all_at content_at text ≡ Some m → SpellsContent m text
content_sound text m e =
    let b = bind_some (content_at text) (λ x. if_end x.0 x.1) m e in
    let s = content_reads.sound text b.0.0 b.0.1 b.1 in
    let n = end_is b.0.0 m b.0.1 b.2 in
    subst (λ (k : Message). SpellsContent k text) n.1
    (subst (SpellsContent b.0.0) (sym (s.1 ∙ ap (λ (x : List ℕ). s.0 ++ x) n.0 ∙ append-nil s.0)) s.2)

content_complete : (text : List ℕ) (m : Message) → SpellsContent m text → all_at content_at text ≡ Some m
content_complete text m h =
    let one = content_reads.complete m text [] text h refl (sym (append-nil text)) in
    ap (λ (o : Option (Message × List ℕ)). o >>= λ x. if_end x.0 x.1) one.1 ∙ ap (if_end m) one.2

-- ---- the answer is the grammar's

message_sound : (text : List ℕ) (m : Message) → message_of text ≡ Ok m → Spells m text
unfolding message_of
message_sound text m e = grind (arith, judged_ok, header_reads, content_sound)

message_complete : (text : List ℕ) (m : Message) → Spells m text → message_of text ≡ Ok m
unfolding message_of
message_complete text m h =
    let one = header_reads.complete spoken_version h.front h.back text h.first tt (ap skip h.split) in
    let solid : skip h.back ≡ h.back = skip_solid h.back (content_solid m h.back h.second) in
    let whole : all_at content_at one.0 ≡ Some m = ap (all_at content_at) (one.2 ∙ solid) ∙ content_complete h.back m h.second in
    ap judged one.1 ∙ ap or_syntax whole

version_sound : (text : List ℕ) → message_of text ≡ Err Version → HasVersionFault text
unfolding message_of
version_sound text e = grind (arith, judged_version, header_reads)

version_complete : (text : List ℕ) → HasVersionFault text → message_of text ≡ Err Version
unfolding message_of
version_complete text h =
    let b = h.header in
    let one = header_reads.complete h.version b.front b.back text b.first tt (ap skip b.split) in
    let other : h.version == spoken_version ≡ false = ne_eqb h.version spoken_version h.other in
    ap judged one.1 ∙ ap (λ (t : Bool). cond t (or_syntax (all_at content_at one.0)) (Err Version)) other

-- a header of the version that is spoken
spoken_sound : (text : List ℕ) (o : Option (ℕ × List ℕ)) → header_at text ≡ o → IsSpoken o → HasHeader spoken_version text
spoken_sound text None e h = absurd h
spoken_sound text (Some header) e h =
    let at : header_at text ≡ Some (spoken_version, header.1) = e ∙ ap (λ (k : ℕ). Some (k, header.1)) h in
    let s = header_reads.sound text spoken_version header.1 at in
    record { front = s.0; back = header.1; split = s.1; first = s.2; second = tt }

-- a text has a header of one version at most
version_of : (text : List ℕ) (n : ℕ) → HasHeader n text → (rest : List ℕ) × (header_at text ≡ Some (n, rest))
version_of text n b =
    let one = header_reads.complete n b.front b.back text b.first tt (ap skip b.split) in
    (one.0, one.1)

same_header : (m n : ℕ) (x y : List ℕ) → ◌≡◌ {A = Option (ℕ × List ℕ)} (Some (m, x)) (Some (n, y)) → m ≡ n
same_header m n x y e = let p : ◌≡◌ {A = ℕ × List ℕ} (m, x) (n, y) = cc in ap (λ (q : ℕ × List ℕ). q.0) p

not_both : (text : List ℕ) → HasHeader spoken_version text → HasVersionFault text → ⊥
not_both text h v =
    let a = version_of text spoken_version h in
    let b = version_of text v.version v.header in
    v.other (sym (same_header spoken_version v.version a.0 b.0 (sym a.1 ∙ b.1)))

pub reading : (text : List ℕ) (answer : Answer) → IsAnswer text answer → IsReadingOf text answer
reading text (Ok m) h = message_sound text m h
reading text (Err Version) h = version_sound text h
reading text (Err NoMemory) h = spoken_sound text (header_at text) refl h
reading text (Err Syntax) h = (
  λ v. let clash : Err Syntax ≡ Err Version = sym h ∙ version_complete text v in absurd cc,
  λ m s. let clash : Err Syntax ≡ Ok m = sym h ∙ message_complete text m s in absurd cc,
)

abbrev done : Message → Answer
done m = Ok m

done_is : (m n : Message) → done m ≡ done n → m ≡ n
done_is m n e = cc

pub one : (text : List ℕ) (m n : Message) → Spells m text → Spells n text → m ≡ n
one text m n p q = done_is m n (sym (message_complete text m p) ∙ message_complete text n q)

pub no_version : (text : List ℕ) (m : Message) → Spells m text → HasVersionFault text → ⊥
no_version text m p v = let clash : Ok m ≡ Err Version = sym (message_complete text m p) ∙ version_complete text v in absurd cc

-- a header of another version has one answer
pub version_answer : (text : List ℕ) (answer : Answer) → IsReadingOf text answer → HasVersionFault text → answer ≡ Err Version
version_answer text (Ok m) h v = absurd (no_version text m h v)
version_answer text (Err Version) h v = refl
version_answer text (Err Syntax) h v = absurd (h.0 v)
version_answer text (Err NoMemory) h v = absurd (not_both text h v)

-- ---- each text has one answer

judged_memory : (o : Option (ℕ × List ℕ)) → judged o ≢ Err NoMemory
judged_memory o e = grind arith

pub no_memory : (text : List ℕ) → message_of text ≢ Err NoMemory
unfolding message_of
no_memory text e = judged_memory (header_at text) e

answers_itself : (text : List ℕ) (answer : Answer) → message_of text ≡ answer → IsAnswer text answer
answers_itself text (Ok m) e = e
answers_itself text (Err Version) e = e
answers_itself text (Err Syntax) e = e
answers_itself text (Err NoMemory) e = absurd (no_memory text e)

pub its_answer : (text : List ℕ) → IsReadingOf text (message_of text)
its_answer text = reading text (message_of text) (answers_itself text (message_of text) refl)

syntax_at : (text : List ℕ) (answer : Answer) → message_of text ≡ answer → ¬ HasVersionFault text → ((m : Message) → ¬ Spells m text) → Err Syntax ≡ answer
syntax_at text (Ok m) e v s = absurd (s m (message_sound text m e))
syntax_at text (Err Version) e v s = absurd (v (version_sound text e))
syntax_at text (Err Syntax) e v s = refl
syntax_at text (Err NoMemory) e v s = absurd (no_memory text e)

pub only : (text : List ℕ) (answer : Answer) → IsReadingOf text answer → (answer ≡ message_of text) ⊎ (answer ≡ Err NoMemory)
only text (Ok m) h = inl (sym (message_complete text m h))
only text (Err Version) h = inl (sym (version_complete text h))
only text (Err Syntax) h = inl (syntax_at text (message_of text) refl h.0 h.1)
only text (Err NoMemory) h = inr refl
