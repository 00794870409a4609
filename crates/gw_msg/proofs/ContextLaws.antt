-- The readers of what an action asks of its context itself read their forms.
use Rattle.std.proofs.lemmas.Grind.{common_steps}
use Rattle.std.proofs.Common.{◌≡◌, ℕ, List, ◌++◌, Option, Some, refl, ap, ◌∙◌, arith, rules}
use Rattle.gw_base.specs.Bytes.{is_digit}
use Rattle.gw_base.specs.Lang.{Both, ◌▹◌}
use Rattle.gw_base.specs.declared.term_ref.TermRef.{TermRef}
use Rattle.gw_base.specs.declared.context_words.Flow.{Flow}
use Rattle.gw_base.specs.declared.context_words.Flow.TheVariants as flow
use Rattle.gw_text.specs.Lexical.{is_safe, is_solid, comma, equals_sign, right_brace}
use Rattle.gw_text.specs.Runs.{begins, NoMore}
use Rattle.gw_text.specs.Sign.{sign_at}
use Rattle.gw_text.specs.Forms.{IsToken, IsSign, Braced}
use Rattle.gw_text.specs.Parts.{Shrinks}
use Rattle.gw_text.specs.Reader.{Reader, ◌>>=◌, word_as, number_up_to, braced_at}
use Rattle.gw_text.specs.Tokens.{token_of}
use Rattle.gw_text.specs.declared.token.Token.{Token}
use Rattle.gw_text.specs.declared.token.Token.TheVariants as token
use Rattle.gw_text.proofs.FormLaws.{BeginsWith, sign_ends, safe_apart, word_solid, number_solid, both_begins, both_ends, with_second}
use Rattle.gw_text.proofs.ReaderLaws.{ReadsUp, Same, UpTo, up_as, up_next, up_to, up_then, up_last, up_done, up_shrinks, same_up, skipped_up, up_word, up_number_up_to, BracesUp, up_braced}
use Rattle.gw_desc.proofs.MediaLaws.{braced_ends, made_of, up_none}
use Rattle.gw_msg.specs.declared.message.Triple.{Triple}
use Rattle.gw_msg.specs.declared.message.ContextItem.{ContextItem}
use Rattle.gw_msg.specs.declared.message.ContextProp.{ContextProp}
use Rattle.gw_msg.specs.declared.message.ContextProp.TheVariants as property
use Rattle.gw_msg.specs.Grammar.{SpellsTerm, priority_digits, priority_max, IsPriority, flow_token, SpellsFlow, SpellsTriple, context_item_token, SpellsContextItem, SpellsContextProperty}
use Rattle.gw_msg.specs.Words.{flow_for, flow_of, context_item_for, context_item_of, is_context_property_start}
use Rattle.gw_msg.specs.NameWords.{term_of}
use Rattle.gw_msg.specs.Reading.{triple_at, context_item_at, priority_at, property_rest, context_property_at}
use Rattle.gw_msg.proofs.Starts.{small_property, token_fits}
use Rattle.gw_msg.proofs.Steps.{Done, nothing_more, behind_sign, no_digit}
use Rattle.gw_msg.proofs.WordLaws.{any_token_reads, token_solid, term_reads, term_solid}

-- ---- words

flow_stands : (o : Option Token) (f : Flow) → flow_for o ≡ Some f → o ≡ Some (flow_token f)
flow_stands o f e = grind arith

flow_again : (f : Flow) → flow_for (Some (flow_token f)) ≡ Some f
flow_again f = grind arith

flow_reads : ReadsUp (word_as flow_of) SpellsFlow (NoMore is_safe) Same Same
flow_reads =
    up_as (up_word flow_of)
    (λ f text h. record { word = h.word; stands = flow_stands (token_of text) f h.stands })
    (λ f text h. record { word = h.word; stands = ap flow_for h.stands ∙ flow_again f })

context_item_stands : (o : Option Token) (i : ContextItem) → context_item_for o ≡ Some i → o ≡ Some (context_item_token i)
context_item_stands o i e = grind arith

context_item_again : (i : ContextItem) → context_item_for (Some (context_item_token i)) ≡ Some i
context_item_again i = grind arith

context_item_reads : ReadsUp context_item_at SpellsContextItem (NoMore is_safe) Same Same
context_item_reads =
    up_as (up_word context_item_of)
    (λ i text h. record { word = h.word; stands = context_item_stands (token_of text) i h.stands })
    (λ i text h. record { word = h.word; stands = ap context_item_for h.stands ∙ context_item_again i })

pub context_item_shrinks : Shrinks context_item_at
context_item_shrinks = up_shrinks context_item_reads

context_item_braces : BracesUp SpellsContextItem (NoMore is_safe)
context_item_braces = record {
  lists = record { next = λ front more sign. sign_ends is_safe comma front more safe_apart refl sign; begins = λ i text h. word_solid text h.word };
  closes = λ front more sign. sign_ends is_safe right_brace front more safe_apart refl sign;
}

-- ---- a Topology

abbrev triple_of : TermRef → TermRef → Flow → Triple
triple_of a b f = record { a = a; b = b; flow = f }

abbrev flow_at : TermRef → TermRef → Reader Triple
flow_at a b text = word_as flow_of text >>= λ f. Some (triple_of a b f.0, f.1)

abbrev FlowPart : TermRef → TermRef → Triple → List ℕ → Type 0
FlowPart a b t text = (f : Flow) × (triple_of a b f ≡ t) × SpellsFlow f text

flow_part_solid : (a b : TermRef) → BeginsWith is_solid (FlowPart a b)
flow_part_solid a b t text h = word_solid text h.2.word

abbrev second_at : TermRef → Reader Triple
second_at a text = word_as term_of text >>= λ b. sign_at comma b.1 >>= flow_at a b.0

abbrev SecondPart : TermRef → Triple → List ℕ → Type 0
SecondPart a t text = (b : TermRef) × Both (SpellsTerm b) (IsSign comma ▹ FlowPart a b t) text

second_reads : (a : TermRef) → ReadsUp (second_at a) (SecondPart a) (NoMore is_safe) Same Same
second_reads a =
    up_then (word_as term_of) (λ b text. sign_at comma text >>= flow_at a b) SpellsTerm (λ b t. IsSign comma ▹ FlowPart a b t) (NoMore is_safe) (NoMore is_safe) Same Same Same
    term_reads
    (λ b. behind_sign comma (flow_at a b) (FlowPart a b) (NoMore is_safe) Same refl (flow_part_solid a b) (up_last (word_as flow_of) (triple_of a b) SpellsFlow (NoMore is_safe) Same Same flow_reads))
    (λ b t front rest q n. both_ends is_safe comma (FlowPart a b t) front rest safe_apart refl q)

second_solid : (a : TermRef) → BeginsWith is_solid (SecondPart a)
second_solid a t text h = both_begins is_solid (SpellsTerm h.0) _ (term_solid h.0) text h.1

abbrev FirstPart : Triple → List ℕ → Type 0
FirstPart t text = (a : TermRef) × Both (SpellsTerm a) (IsSign comma ▹ SecondPart a t) text

triple_to : (t : Triple) (text : List ℕ) → FirstPart t text → SpellsTriple t text
triple_to t text h = grind (arith, with_second)

triple_from : (t : Triple) (text : List ℕ) → SpellsTriple t text → FirstPart t text
triple_from t text a =
    let c = a.second in let b = c.second in let d = b.second in
    (t.a, with_second a (with_second c (t.b, with_second b (with_second d (t.flow, refl, d.second)))))

triple_reads : ReadsUp triple_at SpellsTriple (NoMore is_safe) Same Same
unfolding triple_at
triple_reads =
    up_as (up_then (word_as term_of) (λ a text. sign_at comma text >>= second_at a) SpellsTerm (λ a t. IsSign comma ▹ SecondPart a t) (NoMore is_safe) (NoMore is_safe) Same Same Same
    term_reads
    (λ a. behind_sign comma (second_at a) (SecondPart a) (NoMore is_safe) Same refl (second_solid a) (second_reads a))
    (λ a t front rest q n. both_ends is_safe comma (SecondPart a t) front rest safe_apart refl q))
    triple_to triple_from

pub triple_shrinks : Shrinks triple_at
triple_shrinks = up_shrinks triple_reads

triple_braces : BracesUp SpellsTriple (NoMore is_safe)
triple_braces = search (rules, sign_ends, safe_apart, both_begins, term_solid)

-- ---- a Priority

priority_reads : ReadsUp priority_at (λ n. IsSign equals_sign ▹ IsPriority n) (NoMore is_digit) Same Same
unfolding priority_at
priority_reads = behind_sign equals_sign (λ text. number_up_to priority_digits priority_max text) IsPriority (NoMore is_digit) Same refl (λ n text h. number_solid _ _ n text h) (up_number_up_to priority_digits priority_max)

-- ---- properties

abbrev PropertyRest : Token → ContextProp → List ℕ → Type 0
PropertyRest token.Priority p text = (n : ℕ) × (property.Priority n ≡ p) × Both (IsSign equals_sign) (IsPriority n) text
PropertyRest token.Emergency p text = Done property.Emergency p text
PropertyRest token.Topology p text = (list : List Triple) × (property.Topology list ≡ p) × Braced SpellsTriple list text
PropertyRest token.ContextAudit p text = (list : List ContextItem) × (property.ContextAudit list ≡ p) × Braced SpellsContextItem list text
PropertyRest _ p text = ⊥

property_rest_reads : (t : Token) → ReadsUp (property_rest t) (PropertyRest t) (NoMore is_safe) Same UpTo
property_rest_reads token.Priority = up_to (up_next (up_last priority_at (λ n. property.Priority n) (λ n. IsSign equals_sign ▹ IsPriority n) (NoMore is_digit) Same Same priority_reads) no_digit) same_up
property_rest_reads token.Emergency = up_to (up_done property.Emergency (NoMore is_safe) Same) same_up
property_rest_reads token.Topology =
    up_to (up_next (made_of (braced_at triple_at) (λ list. property.Topology list) (Braced SpellsTriple) (up_braced triple_at SpellsTriple (NoMore is_safe) (up_to triple_reads same_up) triple_braces)) (λ rest n. tt)) skipped_up
property_rest_reads token.ContextAudit =
    up_to (up_next (made_of (braced_at context_item_at) (λ list. property.ContextAudit list) (Braced SpellsContextItem) (up_braced context_item_at SpellsContextItem (NoMore is_safe) (up_to context_item_reads same_up) context_item_braces)) (λ rest n. tt)) skipped_up
property_rest_reads _ = up_none UpTo (NoMore is_safe)

property_rest_ends : (t : Token) (p : ContextProp) (front rest : List ℕ) → PropertyRest t p front → NoMore is_safe rest → NoMore is_safe (front ++ rest)
property_rest_ends token.Priority p front rest q n = both_ends is_safe equals_sign (IsPriority q.0) front rest safe_apart refl q.2
property_rest_ends token.Emergency p front rest q n = ap (λ (x : List ℕ). begins is_safe (x ++ rest)) q.1 ∙ n
property_rest_ends token.Topology p front rest q n = braced_ends is_safe SpellsTriple safe_apart refl q.0 front rest q.2
property_rest_ends token.ContextAudit p front rest q n = braced_ends is_safe SpellsContextItem safe_apart refl q.0 front rest q.2
property_rest_ends _ p front rest q n = absurd q

property_to : (t : Token) (p : ContextProp) (text : List ℕ) → Both (IsToken t) (PropertyRest t p) text → SpellsContextProperty p text
property_to t p text b = grind (arith, common_steps)

property_from : (p : ContextProp) (text : List ℕ) → SpellsContextProperty p text → (t : Token) × Both (IsToken t) (PropertyRest t p) text
property_from p text b = grind (arith, nothing_more)

pub context_property_reads : ReadsUp context_property_at SpellsContextProperty (NoMore is_safe) Same UpTo
unfolding context_property_at
context_property_reads =
    up_as (up_then (word_as token_of) property_rest IsToken PropertyRest (NoMore is_safe) (NoMore is_safe) Same Same UpTo
    any_token_reads property_rest_reads property_rest_ends)
    (λ p text h. property_to h.0 p text h.1) property_from

pub context_property_shrinks : Shrinks context_property_at
context_property_shrinks = up_shrinks context_property_reads

pub context_property_solid : BeginsWith is_solid SpellsContextProperty
context_property_solid p text h = let s = property_from p text h in both_begins is_solid (IsToken s.0) (PropertyRest s.0 p) (token_solid s.0) text s.1

pub context_property_begins : BeginsWith is_context_property_start SpellsContextProperty
context_property_begins (property.Priority n) text b = both_begins is_context_property_start (IsToken token.Priority) _ (λ w h. small_property w (token_fits w token.Priority h.stands)) text b
context_property_begins property.Emergency text h = small_property text (token_fits text token.Emergency h.stands)
context_property_begins (property.Topology list) text b = both_begins is_context_property_start (IsToken token.Topology) _ (λ w h. small_property w (token_fits w token.Topology h.stands)) text b
context_property_begins (property.ContextAudit list) text b = both_begins is_context_property_start (IsToken token.ContextAudit) _ (λ w h. small_property w (token_fits w token.ContextAudit h.stands)) text b
