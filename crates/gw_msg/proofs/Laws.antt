-- The readers of commands and actions read their forms.
use Rattle.std.proofs.lemmas.Grind.{common_steps}
use Rattle.std.proofs.Common.{◌≡◌, ◌⊎◌, inl, inr, ℕ, zero, suc, ◌<◌, ◌≤◌, Bool, true, false, ◌==◌, List, [], ◌∷◌, ◌++◌, length, Some, refl, ap, sym, subst, ◌∙◌, length-append, arith, rules}
use Rattle.std.specs.Prelude.{codes}
use Rattle.std.specs.Char.{to_ascii_lowercase}
use Rattle.std.proofs.lemmas.Bool.{not-true}
use Rattle.gw_base.specs.Bytes.{byte, is_digit}
use Rattle.gw_base.specs.Lang.{Both, ◌▹◌}
use Rattle.gw_base.specs.declared.term_ref.TermRef.{TermRef}
use Rattle.gw_base.specs.declared.command_words.CtxRef.{CtxRef}
use Rattle.gw_base.specs.declared.command_words.Verb.{Verb}
use Rattle.gw_text.specs.Lexical.{is_safe, is_solid, is_space_start, comma, dash, equals_sign, left_brace, right_brace}
use Rattle.gw_text.specs.Runs.{begins, NoMore}
use Rattle.gw_text.specs.Sign.{prefix_at, sign_at}
use Rattle.gw_text.specs.Forms.{IsToken, IsSign, IsInAnyCase, Separated}
use Rattle.gw_text.specs.Reader.{Reader, ◌>>=◌, word_as, if_sign, list_at}
use Rattle.gw_text.specs.declared.token.Token.TheVariants as token
use Rattle.gw_text.proofs.FormLaws.{sign_ends, sign_other, BeginsWith, both_split, begins_some, safe_apart, digit_apart, word_solid, both_begins, both_ends, begins_ends, with_second, separated_begins}
use Rattle.gw_text.proofs.ReaderLaws.{ReadsUp, Same, Skipped, UpTo, Any, up_as, up_from, up_next, up_to, up_skipped, up_then, up_last, up_done, up_sign, up_close, up_if_sign, up_if_begins, up_shrinks, same_up, up_up, NoSign, ListsUp, BracesUp, up_list, up_optional}
use Rattle.gw_desc.specs.declared.descriptor.Descriptor.{Descriptor}
use Rattle.gw_text.specs.Parts.{Shrinks}
use Rattle.gw_desc.specs.Grammar.{SpellsOptionalGroup, SpellsDescriptor}
use Rattle.gw_desc.specs.Reading.{optional_group_at, descriptor_at, AfterDescriptor}
use Rattle.gw_desc.proofs.TailLaws.{WithoutGroup, optional_group_reads, group_ends}
use Rattle.gw_desc.proofs.DescriptorLaws.{descriptor_reads, descriptor_braces}
use Rattle.gw_msg.specs.declared.message.Command.{Command}
use Rattle.gw_msg.specs.declared.message.Action.{Action}
use Rattle.gw_msg.specs.Grammar.{command_token, SpellsVerb, SpellsTerm, SpellsMark, may_be_wild, has_group, SpellsDetailsOf, SpellsDetails, SpellsCommand, SpellsContextId, SpellsContextProperty, SpellsContents, SpellsAction}
use Rattle.gw_msg.specs.declared.message.ContextProp.{ContextProp}
use Rattle.gw_msg.proofs.ActionParts.{alone_of, one_of, front_of, Spelled, in_front, split_front}
use Rattle.gw_msg.proofs.ContextLaws.{context_property_reads, context_property_solid, context_property_begins}
use Rattle.gw_msg.specs.Words.{verb_of, is_context, is_context_property_start}
use Rattle.gw_msg.specs.NameWords.{term_of}
use Rattle.gw_msg.specs.Reading.{mark_at, only_if, token_in, is_allowed, details_of, command_at, context_id_at, context_property_at, Contents, behind_property, property_then, commands_alone_at, contents_from, contents_at, action_at}
use Rattle.gw_msg.proofs.Starts.{case_begins, no_context_property_start, verb_starts}
use Rattle.gw_msg.proofs.Steps.{NoPrefix, Done, nothing_behind, mark_reads, mark_begins, up_only_if, behind_sign}
use Rattle.gw_msg.proofs.TokenMarks.{no_mark}
use Rattle.gw_msg.proofs.WordLaws.{verb_reads, context_reads, token_solid, term_reads, term_solid, context_id_reads, context_id_solid}

-- ---- commands

-- what may follow a command: no more of its last word, and no brace
abbrev AfterCommand : List ℕ → Type 0
AfterCommand = NoSign left_brace (NoMore is_safe)

abbrev command_of : Bool → Bool → Verb → TermRef → List Descriptor → Command
command_of o w v t ds = record { verb = v; term = t; optional = o; wild = w; descriptors = ds }

details_reads : (g : Bool) → ReadsUp (details_of g) (SpellsDetailsOf g) AfterCommand Same UpTo
unfolding details_of
details_reads true =
    up_to (up_next (up_as (up_last optional_group_at (λ group. []) SpellsOptionalGroup WithoutGroup Same Same optional_group_reads)
    (λ ds text h. (sym h.1, (h.0, h.2))) (λ ds text h. (h.1.0, sym h.0, h.1.1))) (λ rest n. n.bare)) same_up
details_reads false = up_from (up_optional descriptor_at SpellsDescriptor AfterDescriptor (NoMore is_safe) descriptor_reads descriptor_braces) same_up

details_ends : (g : Bool) (ds : List Descriptor) (front rest : List ℕ) → SpellsDetailsOf g ds front → NoMore is_safe rest → NoMore is_safe (front ++ rest)
details_ends g ds front rest h n = grind (arith, group_ends, safe_apart, both_ends)

-- a command without its verb and its marks
abbrev term_at : Bool → Bool → Verb → Reader Command
term_at o w v text = word_as term_of text >>= λ t. details_of (has_group v) t.1 >>= λ d. Some (command_of o w v t.0 d.0, d.1)

abbrev TermDetails : Bool → Bool → Verb → TermRef → Command → List ℕ → Type 0
TermDetails o w v t c text = (ds : List Descriptor) × (command_of o w v t ds ≡ c) × SpellsDetails v ds text

abbrev TermPart : Bool → Bool → Verb → Command → List ℕ → Type 0
TermPart o w v c text = (t : TermRef) × Both (SpellsTerm t) (TermDetails o w v t c) text

term_part_reads : (o w : Bool) (v : Verb) → ReadsUp (term_at o w v) (TermPart o w v) AfterCommand Same UpTo
term_part_reads o w v =
    up_then (word_as term_of) (λ t text. details_of (has_group v) text >>= λ d. Some (command_of o w v t d.0, d.1)) SpellsTerm (TermDetails o w v) (NoMore is_safe) AfterCommand Same Same UpTo
    term_reads
    (λ t. up_last (details_of (has_group v)) (command_of o w v t) (SpellsDetailsOf (has_group v)) AfterCommand Same UpTo (details_reads (has_group v)))
    (λ t c front rest q n. details_ends (has_group v) q.0 front rest q.2 n.next)

term_part_solid : (o w : Bool) (v : Verb) → BeginsWith is_solid (TermPart o w v)
term_part_solid o w v c text h = both_begins is_solid (SpellsTerm h.0) (TermDetails o w v h.0 c) (term_solid h.0) text h.1

-- behind the verb
abbrev EqualsPart : Bool → Bool → Verb → Command → List ℕ → Type 0
EqualsPart o w v c text = (is_allowed w v ≡ true) × (IsSign equals_sign ▹ TermPart o w v c) text

abbrev equals_at : Bool → Bool → Verb → Reader Command
equals_at o w v text = only_if (is_allowed w v) >>= λ u. sign_at equals_sign text >>= term_at o w v

equals_reads : (o w : Bool) (v : Verb) → ReadsUp (equals_at o w v) (EqualsPart o w v) AfterCommand Same UpTo
equals_reads o w v =
    up_only_if (is_allowed w v) (λ text. sign_at equals_sign text >>= term_at o w v) (λ c. IsSign equals_sign ▹ TermPart o w v c) AfterCommand Same UpTo
    (behind_sign equals_sign (term_at o w v) (TermPart o w v) AfterCommand UpTo refl (term_part_solid o w v) (term_part_reads o w v))

equals_ends : (o w : Bool) (v : Verb) (c : Command) (front rest : List ℕ) → EqualsPart o w v c front → NoMore is_safe (front ++ rest)
equals_ends o w v c front rest q = both_ends is_safe equals_sign (TermPart o w v c) front rest safe_apart refl q.1

-- behind the marks
abbrev VerbPart : Bool → Bool → Command → List ℕ → Type 0
VerbPart o w c text = (v : Verb) × Both (SpellsVerb v) (EqualsPart o w v c) text

abbrev verb_at : Bool → Bool → Reader Command
verb_at o w text = word_as verb_of text >>= λ v. equals_at o w v.0 v.1

verb_part_reads : (o w : Bool) → ReadsUp (verb_at o w) (VerbPart o w) AfterCommand Same UpTo
verb_part_reads o w =
    up_then (word_as verb_of) (equals_at o w) SpellsVerb (EqualsPart o w) (NoMore is_safe) AfterCommand Same Same UpTo
    verb_reads (equals_reads o w) (λ v c front rest q n. equals_ends o w v c front rest q)

-- no mark stands in front of a verb
verb_no_mark : (letter : ℕ) (o w : Bool) (c : Command) (front rest : List ℕ) → VerbPart o w c front → NoPrefix (letter ∷ (dash ∷ [])) (front ++ rest)
verb_no_mark letter o w c front rest q =
    let b = q.1 in
    ap (prefix_at (letter ∷ (dash ∷ []))) (both_split (SpellsVerb q.0) (EqualsPart o w q.0 c) front rest b)
    ∙ no_mark letter b.front (b.back ++ rest) (command_token q.0) b.first.word b.first.stands (equals_ends o w q.0 c b.back rest b.second)

abbrev WildPart : Bool → Command → List ℕ → Type 0
WildPart o c text = (w : Bool) × Both (SpellsMark (codes "W-") w) (VerbPart o w c) text

abbrev wild_at : Bool → Reader Command
wild_at o text = mark_at (codes "W-") text >>= λ w. verb_at o w.0 w.1

wild_reads : (o : Bool) → ReadsUp (wild_at o) (WildPart o) AfterCommand Same UpTo
wild_reads o =
    up_then (mark_at (codes "W-")) (verb_at o) (SpellsMark (codes "W-")) (VerbPart o) (NoPrefix (codes "W-")) AfterCommand Same Same UpTo
    (mark_reads (codes "W-")) (verb_part_reads o) (λ w c front rest q n. verb_no_mark (byte (codes "W")) o w c front rest q)

-- the one mark is not the other
other_mark : (mark rest : List ℕ) → IsInAnyCase (codes "W-") mark → NoPrefix (codes "O-") (mark ++ rest)
unfolding prefix_at
other_mark [] rest h = absurd cc
other_mark (c ∷ cs) rest h = let same : to_ascii_lowercase c ≡ to_ascii_lowercase (byte (codes "W")) = cc in rw same refl

wild_no_mark_by : (w : Bool) (o : Bool) (c : Command) (front rest : List ℕ) → Both (SpellsMark (codes "W-") w) (VerbPart o w c) front → NoPrefix (codes "O-") (front ++ rest)
wild_no_mark_by true o c front rest b = ap (prefix_at (codes "O-")) (both_split (SpellsMark (codes "W-") true) (VerbPart o true c) front rest b) ∙ other_mark b.front (b.back ++ rest) b.first
wild_no_mark_by false o c front rest b =
    ap (prefix_at (codes "O-")) (both_split (SpellsMark (codes "W-") false) (VerbPart o false c) front rest b ∙ ap (λ (x : List ℕ). x ++ (b.back ++ rest)) b.first)
    ∙ verb_no_mark (byte (codes "O")) o false c b.back rest b.second

abbrev CommandPart : Command → List ℕ → Type 0
CommandPart c text = (o : Bool) × Both (SpellsMark (codes "O-") o) (WildPart o c) text

command_part_reads : ReadsUp command_at CommandPart AfterCommand Same UpTo
unfolding command_at
command_part_reads =
    up_then (mark_at (codes "O-")) wild_at (SpellsMark (codes "O-")) WildPart (NoPrefix (codes "O-")) AfterCommand Same Same UpTo
    (mark_reads (codes "O-")) wild_reads (λ o c front rest q n. wild_no_mark_by q.0 o c front rest q.1)

allowed_from : (w : Bool) (v : Verb) → (w ≡ true → may_be_wild v ≡ true) → is_allowed w v ≡ true
allowed_from w v h = grind arith

command_to : (c : Command) (text : List ℕ) → CommandPart c text → SpellsCommand c text
command_to c text h = grind (arith, common_steps)

command_from : (c : Command) (text : List ℕ) → SpellsCommand c text → CommandPart c text
command_from c text h = grind (arith, with_second, allowed_from)

pub command_reads : ReadsUp command_at SpellsCommand AfterCommand Same UpTo
command_reads = up_as command_part_reads command_to command_from

pub command_shrinks : Shrinks command_at
command_shrinks = up_shrinks command_reads

-- a command begins with a letter of its first word
pub command_begins : (p : ℕ → Bool) → p (byte (codes "o")) ≡ true → p (byte (codes "O")) ≡ true → p (byte (codes "w")) ≡ true → p (byte (codes "W")) ≡ true → BeginsWith p SpellsVerb → BeginsWith p SpellsCommand
command_begins p o1 o2 w1 w2 verbs c text h = search (rules, mark_begins, case_begins, both_begins)

pub command_solid : BeginsWith is_solid SpellsCommand
command_solid = command_begins is_solid refl refl refl refl (λ v text h. word_solid text h.word)

-- a sign of another kind may follow a command
sign_after_command : (b : ℕ) → is_space_start b ≡ false → is_safe b ≡ false → b == left_brace ≡ false → (front more : List ℕ) → IsSign b front → AfterCommand (front ++ more)
sign_after_command b solid safe brace front more h = search (rules, sign_ends, safe_apart, sign_other)

command_lists : ListsUp SpellsCommand AfterCommand
command_lists = record { next = sign_after_command comma refl refl refl; begins = command_solid }

command_no_property : BeginsWith no_context_property_start SpellsCommand
command_no_property = command_begins no_context_property_start refl refl refl refl verb_starts

-- ---- contents

-- what may follow them
abbrev AfterContents : List ℕ → Type 0
AfterContents = NoSign comma AfterCommand

abbrev CommandsAlone : Contents → List ℕ → Type 0
CommandsAlone x text = (commands : List Command) × (alone_of commands ≡ x) × Separated SpellsCommand commands text

commands_alone_reads : ReadsUp commands_alone_at CommandsAlone AfterContents Same UpTo
commands_alone_reads = up_last (list_at command_at) alone_of (Separated SpellsCommand) AfterContents Same UpTo (up_list command_at SpellsCommand AfterCommand command_reads command_lists)

-- contents behind a property, of a form
abbrev BehindProperty : ContextProp → (Contents → List ℕ → Type 0) → Contents → List ℕ → Type 0
BehindProperty p Form x text = (y : Contents) × (front_of p y ≡ x) × Form y text

abbrev Behind : ContextProp → (Contents → List ℕ → Type 0) → Contents → List ℕ → Type 0
Behind p Form x text = Both (IsSign comma) (BehindProperty p Form x) text ⊎ Done (one_of p) x text

abbrev PropertyThen : (Contents → List ℕ → Type 0) → Contents → List ℕ → Type 0
PropertyThen Form x text = (p : ContextProp) × Both (SpellsContextProperty p) (Behind p Form x) text

-- contents of fewer properties than fuel
abbrev Fewer : ℕ → Contents → List ℕ → Type 0
Fewer zero x text = ⊥
Fewer (suc fuel) x text = PropertyThen (Fewer fuel) x text ⊎ CommandsAlone x text

fewer_solid : (fuel : ℕ) → BeginsWith is_solid (Fewer fuel)
fewer_solid fuel x text h = grind (arith, context_property_solid, separated_begins, command_solid)

behind_ends : (p : ContextProp) (Form : Contents → List ℕ → Type 0) (x : Contents) (front rest : List ℕ) → Behind p Form x front → AfterContents rest → NoMore is_safe (front ++ rest)
behind_ends p Form x front rest h n =
    elim h [
      | inl b ↦ both_ends is_safe comma (BehindProperty p Form x) front rest safe_apart refl b
      | inr d ↦ ap (λ (y : List ℕ). begins is_safe (y ++ rest)) d.1 ∙ n.next.next
    ]

fewer_reads : (fuel : ℕ) → ReadsUp (contents_from fuel) (Fewer fuel) AfterContents Same UpTo
unfolding contents_from
fewer_reads zero = record {
  sound = λ text v rest e. absurd cc;
  complete = λ v front rest start q n e. absurd q;
}
fewer_reads (suc fuel) =
    up_if_begins is_context_property_start (property_then (contents_from fuel)) commands_alone_at (PropertyThen (Fewer fuel)) CommandsAlone AfterContents UpTo
    (up_then context_property_at (λ p. if_sign comma (behind_property p (contents_from fuel)) (λ rest. Some (one_of p, rest))) SpellsContextProperty (λ p. Behind p (Fewer fuel)) (NoMore is_safe) AfterContents Same UpTo UpTo
    context_property_reads
    (λ p. up_if_sign comma (behind_property p (contents_from fuel)) (λ rest. Some (one_of p, rest)) (BehindProperty p (Fewer fuel)) (Done (one_of p)) AfterContents UpTo UpTo refl up_up
    (up_last (contents_from fuel) (front_of p) (Fewer fuel) AfterContents Skipped UpTo (up_skipped (fewer_solid fuel) (fewer_reads fuel)))
    (up_done (one_of p) AfterContents UpTo)
    (λ v front rest q n. ap (λ (x : List ℕ). sign_at comma (x ++ rest)) q.1 ∙ n.bare))
    (λ p v front rest q n. behind_ends p (Fewer fuel) v front rest q n))
    commands_alone_reads
    (λ v text p. both_begins is_context_property_start (SpellsContextProperty p.0) (Behind p.0 (Fewer fuel) v) (context_property_begins p.0) text p.1)
    (λ v front rest q n. begins_ends no_context_property_start is_context_property_start (λ c is. not-true _ is) front rest (separated_begins no_context_property_start SpellsCommand command_no_property q.0 front q.2))

fewer_to : (fuel : ℕ) (x : Contents) (text : List ℕ) → Fewer fuel x text → Spelled x text
fewer_to zero x text h = absurd h
fewer_to (suc fuel) x text (inr s) = subst (λ (y : Contents). Spelled y text) s.1 s.2
fewer_to (suc fuel) x text (inl p) =
    elim p.1.second [
      | inl d ↦
          let y = d.second.0 in
          subst (λ (z : Contents). Spelled z text) d.second.1 (in_front p.0 y.0 y.1 text (with_second p.1 (with_second d (fewer_to fuel y d.back d.second.2))))
      | inr d ↦ subst (λ (z : Contents). Spelled z text) d.0 (nothing_behind (SpellsContextProperty p.0) (Behind p.0 (Fewer fuel) x) text p.1 d.1)
    ]

fewer_from : (fuel : ℕ) (ps : List ContextProp) (cs : List Command) (text : List ℕ) → length ps < fuel → SpellsContents ps cs text → Fewer fuel (ps, cs) text
fewer_from zero ps cs text less h = absurd (omega (arith, less))
fewer_from (suc fuel) [] cs text less h = inr (cs, refl, h)
fewer_from (suc fuel) (p ∷ ps) cs text less h =
    let s = split_front p ps cs text h in
    elim s.second [
      | inl d ↦ inl (p, with_second s (inr d))
      | inr d ↦ inl (p, with_second s (inl (with_second d ((ps, cs), refl, fewer_from fuel ps cs d.back (omega (arith, less)) d.second))))
    ]

-- there are no more properties than bytes
contents_len : (ps : List ContextProp) (cs : List Command) (text : List ℕ) → SpellsContents ps cs text → length ps ≤ length text
contents_len [] cs text h = omega arith
contents_len (p ∷ ps) cs text h =
    let s = split_front p ps cs text h in
    elim s.second [
      | inl d ↦ omega (arith, ap (λ (x : Contents). length x.0) d.0, begins_some is_solid s.front (context_property_solid p s.front s.first), ap length s.split, length-append s.front s.back)
      | inr d ↦ omega (arith, begins_some is_solid s.front (context_property_solid p s.front s.first), contents_len ps cs d.back d.second, ap length s.split, length-append s.front s.back, ap length d.split, length-append d.front d.back)
    ]

contents_reads : ReadsUp contents_at Spelled AfterContents Same UpTo
contents_reads = record {
  sound = λ text x rest e. let s = (fewer_reads (suc (length text))).sound text x rest e in (s.0, s.1, fewer_to (suc (length text)) x s.0 s.2);
  complete = λ x front rest start q n e.
      (fewer_reads (suc (length start))).complete x front rest start (fewer_from (suc (length start)) x.0 x.1 front (omega (arith, contents_len x.0 x.1 front q, ap length e, length-append front rest)) q) n e;
}

contents_solid : BeginsWith is_solid Spelled
contents_solid x text h = fewer_solid (suc (length x.0)) x text (fewer_from (suc (length x.0)) x.0 x.1 text (omega arith) h)

-- ---- actions

abbrev action_of : CtxRef → Contents → Action
action_of ctx x = record { ctx = ctx; props = x.0; commands = x.1 }

abbrev action_contents : CtxRef → Reader Action
action_contents ctx text = sign_at left_brace text >>= λ l. contents_at l >>= λ x. sign_at right_brace x.1 >>= λ r. Some (action_of ctx x.0, r)

abbrev ContentsClosed : CtxRef → Action → List ℕ → Type 0
ContentsClosed ctx a text = (x : Contents) × Both (Spelled x) (λ t. (action_of ctx x ≡ a) × IsSign right_brace t) text

abbrev ActionContents : CtxRef → Action → List ℕ → Type 0
ActionContents ctx a = IsSign left_brace ▹ ContentsClosed ctx a

after_contents : (front rest : List ℕ) → IsSign right_brace front → AfterContents (front ++ rest)
after_contents front rest h = search (rules, sign_after_command, sign_other)

action_contents_reads : (ctx : CtxRef) → ReadsUp (action_contents ctx) (ActionContents ctx) Any UpTo Skipped
action_contents_reads ctx =
    up_sign left_brace (λ l. contents_at l >>= λ x. sign_at right_brace x.1 >>= λ r. Some (action_of ctx x.0, r)) (ContentsClosed ctx) Any Skipped refl
    (up_skipped (λ a text h. both_begins is_solid (Spelled h.0) _ (contents_solid h.0) text h.1)
    (up_then contents_at (λ x text. sign_at right_brace text >>= λ r. Some (action_of ctx x, r)) Spelled (λ x a t. (action_of ctx x ≡ a) × IsSign right_brace t) AfterContents Any Same UpTo Skipped
    contents_reads (λ x. up_close right_brace (action_of ctx x) refl)
    (λ x a front rest q n. after_contents front rest q.1)))

abbrev action_ctx : Reader Action
action_ctx text = context_id_at text >>= λ x. action_contents x.0 x.1

abbrev ActionCtx : Action → List ℕ → Type 0
ActionCtx a text = (ctx : CtxRef) × Both (SpellsContextId ctx) (ActionContents ctx a) text

action_ctx_reads : ReadsUp action_ctx ActionCtx Any Same Skipped
action_ctx_reads =
    up_then context_id_at action_contents SpellsContextId ActionContents (NoMore is_digit) Any Same Same Skipped context_id_reads
    (λ ctx. up_from (action_contents_reads ctx) same_up)
    (λ ctx a front rest q n. both_ends is_digit left_brace _ front rest digit_apart refl q)

action_ctx_solid : BeginsWith is_solid ActionCtx
action_ctx_solid a text h = both_begins is_solid (SpellsContextId h.0) (ActionContents h.0 a) (context_id_solid h.0) text h.1

action_to : (a : Action) (text : List ℕ) → Both (IsToken token.Context) (IsSign equals_sign ▹ ActionCtx a) text → SpellsAction a text
action_to a text b = grind (arith, common_steps)

action_from : (a : Action) (text : List ℕ) → SpellsAction a text → Both (IsToken token.Context) (IsSign equals_sign ▹ ActionCtx a) text
action_from a text b =
    let ctx = b.second.second in let left = ctx.second in let c = left.second in
    with_second b (with_second b.second (a.ctx, with_second ctx (with_second left ((a.props, a.commands), with_second c (refl, c.second)))))

pub action_reads : ReadsUp action_at SpellsAction Any Same Skipped
unfolding action_at
action_reads =
    up_as (up_then (token_in is_context) (λ u text. sign_at equals_sign text >>= action_ctx) (λ u. IsToken token.Context) (λ u a. IsSign equals_sign ▹ ActionCtx a) (NoMore is_safe) Any Same Same Skipped
    context_reads
    (λ u. behind_sign equals_sign action_ctx ActionCtx Any Skipped refl action_ctx_solid action_ctx_reads)
    (λ u a front rest q n. both_ends is_safe equals_sign (ActionCtx a) front rest safe_apart refl q))
    (λ a text h. action_to a text h.1)
    (λ a text h. (tt, action_from a text h))

pub action_shrinks : Shrinks action_at
action_shrinks = up_shrinks action_reads

action_solid : BeginsWith is_solid SpellsAction
action_solid a text h = both_begins is_solid (IsToken token.Context) _ (token_solid token.Context) text h

pub action_braces : BracesUp SpellsAction Any
action_braces = search (rules, action_solid)
