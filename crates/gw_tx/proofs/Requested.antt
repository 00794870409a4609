-- What a request of the grammar asks has its forms.
use Rattle.std.proofs.Common.{ℕ, Bool, true, false, List, [], ◌∷◌, sym, subst, arith}
use Rattle.std.specs.List.{All}
use Rattle.std.proofs.lemmas.List.Elements.{All-nil, All-cons}
use Rattle.gw_base.specs.declared.term_ref.TermRef.{TermRef}
use Rattle.gw_text.specs.Forms.{Separated, OptionalBraced}
use Rattle.gw_desc.specs.Grammar.{SpellsDescriptor}
use Rattle.gw_desc.specs.KeptTexts.{HasKeptTexts}
use Rattle.gw_desc.specs.declared.descriptor.Descriptor.{Descriptor}
use Rattle.gw_desc.proofs.KeptForms.{descriptor_kept}
use Rattle.gw_msg.specs.Grammar.{SpellsTerm, SpellsDetailsOf, SpellsCommand, SpellsTriple, SpellsContextProperty, SpellsContents, SpellsAction, SpellsRequest}
use Rattle.gw_msg.specs.declared.message.ContextProp.{ContextProp}
use Rattle.gw_msg.specs.declared.message.ContextProp.TheVariants.{Priority, Emergency, Topology, ContextAudit}
use Rattle.gw_msg.specs.declared.message.Triple.{Triple}
use Rattle.gw_msg.specs.declared.message.Action.{Action}
use Rattle.gw_msg.specs.declared.message.Command.{Command}
use Rattle.gw_msg.specs.declared.message.Request.{Request}
use Rattle.gw_reply.specs.KeptReplies.{HasForm}
use Rattle.gw_cmd.specs.KeptForms.{IsRequested}
use Rattle.gw_tx.specs.KeptForms.{HasForms, IsRequestedProperty, AreRequested, IsReadRequest}

separated : {V : Type 0} (Form : V → List ℕ → Type 0) (P : V → Type 0) → ((v : V) (text : List ℕ) → Form v text → P v) → (vs : List V) (text : List ℕ) → Separated Form vs text → All P vs
separated Form P each [] text h = absurd h
separated Form P each (x ∷ []) text h = All-cons P x [] (each x text h) (All-nil P)
separated Form P each (x ∷ (y ∷ ys)) text h = All-cons P x (y ∷ ys) (each x h.front h.first) (separated Form P each (y ∷ ys) h.second.back h.second.second)

term_asked : (t : TermRef) (text : List ℕ) → SpellsTerm t text → HasForm t
term_asked t text h = grind arith

optional_asked : (ds : List Descriptor) (text : List ℕ) → OptionalBraced SpellsDescriptor ds text → All HasKeptTexts ds
optional_asked [] text h = All-nil HasKeptTexts
optional_asked (d ∷ ds) text h = separated SpellsDescriptor HasKeptTexts descriptor_kept (d ∷ ds) h.second.front h.second.first

details_asked : (b : Bool) (ds : List Descriptor) (text : List ℕ) → SpellsDetailsOf b ds text → All HasKeptTexts ds
details_asked true ds text h = subst (All HasKeptTexts) (sym h.0) (All-nil HasKeptTexts)
details_asked false ds text h = optional_asked ds text h

command_asked : (c : Command) (text : List ℕ) → SpellsCommand c text → IsRequested c
command_asked c text h = grind (arith, details_asked)

triple_asked : (t : Triple) (text : List ℕ) → SpellsTriple t text → HasForms t
triple_asked t text h = let second = h.second.second in (term_asked t.a h.front h.first, term_asked t.b second.front second.first)

property_asked : (p : ContextProp) (text : List ℕ) → SpellsContextProperty p text → IsRequestedProperty p
property_asked (Priority n) text h = All-nil HasForms
property_asked Emergency text h = All-nil HasForms
property_asked (Topology ts) text h = let list = h.second.second in separated SpellsTriple HasForms triple_asked ts list.front list.first
property_asked (ContextAudit items) text h = All-nil HasForms

contents_asked : (ps : List ContextProp) (cs : List Command) (text : List ℕ) → SpellsContents ps cs text → All IsRequestedProperty ps × All IsRequested cs
contents_asked [] cs text h = (All-nil IsRequestedProperty, separated SpellsCommand IsRequested command_asked cs text h)
contents_asked (p ∷ ps) [] text h = (separated SpellsContextProperty IsRequestedProperty property_asked (p ∷ ps) text h, All-nil IsRequested)
contents_asked (p ∷ ps) (c ∷ cs) text h =
    let more = h.second.second in
    (separated SpellsContextProperty IsRequestedProperty property_asked (p ∷ ps) h.front h.first, separated SpellsCommand IsRequested command_asked (c ∷ cs) h.second.back more)

action_asked : (a : Action) (text : List ℕ) → SpellsAction a text → AreRequested a
action_asked a text h = grind (arith, contents_asked)

pub request_asked : (r : Request) (text : List ℕ) → SpellsRequest r text → IsReadRequest r
request_asked r text h =
    let number = h.second.second.first in
    let list = h.second.second.second in
    record { number = omega (arith, number.small); actions = separated SpellsAction AreRequested action_asked r.actions list.second.front list.second.first }
