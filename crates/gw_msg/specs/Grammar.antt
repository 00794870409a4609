-- Which texts spell a message (RFC 3525, Annex B.2). EQUAL, LBRKT, RBRKT and COMMA are signs, with LWSP on both sides.
use Rattle.std.specs.Prelude.{◌≡◌, ◌≢◌, ◌⊎◌, ℕ, true, false, Bool, List, [], ◌∷◌, Option, Result, Ok, Err, codes}
use Rattle.gw_base.specs.Lang.{◌▹◌, Optional, IsText}
use Rattle.gw_base.specs.Mids.{IsMid}
use Rattle.gw_base.specs.TermRefs.{IsTerm}
use Rattle.gw_base.specs.declared.term_ref.TermRef.{TermRef}
use Rattle.gw_base.specs.declared.context_words.Flow.{Flow}
use Rattle.gw_base.specs.declared.context_words.Flow.TheVariants as flow
use Rattle.gw_base.specs.declared.command_words.CtxRef.{CtxRef}
use Rattle.gw_base.specs.declared.command_words.CtxRef.TheVariants.{Null, All, Choose, Num}
use Rattle.gw_base.specs.declared.command_words.Verb.{Verb}
use Rattle.gw_base.specs.declared.command_words.Verb.TheVariants as verb
use Rattle.gw_text.specs.Lexical.{comma, equals_sign, left_brace, right_brace}
use Rattle.gw_text.specs.Space.{IsSpace, IsSep}
use Rattle.gw_text.specs.Forms.{IsSign, IsInAnyCase, OptionalIf, IsToken, IsNumber, IsUint32, Separated, Spaced, Braced, OptionalBraced}
use Rattle.gw_text.specs.Quoted.{IsQuoted}
use Rattle.gw_text.specs.Group.{IsGroup}
use Rattle.gw_text.specs.declared.token.Token.{Token}
use Rattle.gw_text.specs.declared.token.Token.TheVariants as token
use Rattle.gw_desc.specs.Grammar.{SpellsOptionalGroup, SpellsDescriptor}
use Rattle.gw_desc.specs.declared.descriptor.Descriptor.{Descriptor}
pub use Rattle.gw_msg.specs.Bounds.{may_be_wild, has_group, priority_digits, priority_max}
use Rattle.gw_msg.specs.declared.message.Command.{Command}
use Rattle.gw_msg.specs.declared.message.Action.{Action}
use Rattle.gw_msg.specs.declared.message.Triple.{Triple}
use Rattle.gw_msg.specs.declared.message.ContextItem.{ContextItem}
use Rattle.gw_msg.specs.declared.message.ContextItem.TheVariants as audited
use Rattle.gw_msg.specs.declared.message.ContextProp.{ContextProp}
use Rattle.gw_msg.specs.declared.message.ContextProp.TheVariants as property
use Rattle.gw_msg.specs.declared.message.Request.{Request}
use Rattle.gw_msg.specs.declared.message.AckRange.{AckRange}
use Rattle.gw_msg.specs.declared.message.Item.{Item}
use Rattle.gw_msg.specs.declared.message.Item.TheVariants as item
use Rattle.gw_msg.specs.declared.message.Message.{Message}
use Rattle.gw_msg.specs.declared.fault.ReadFault.{ReadFault}
use Rattle.gw_msg.specs.declared.fault.ReadFault.TheVariants.{Version, Syntax, NoMemory}

-- ---- commands

-- the token of each command
abbrev pub command_token : Verb → Token
command_token verb.Add = token.Add
command_token verb.Modify = token.Modify
command_token verb.Move = token.Move
command_token verb.Subtract = token.Subtract
command_token verb.AuditValue = token.AuditValue
command_token verb.AuditCapability = token.AuditCapability
command_token verb.Notify = token.Notify
command_token verb.ServiceChange = token.ServiceChange

-- AddToken, SubtractToken and so on
abbrev pub SpellsVerb : Verb → List ℕ → Type 0
SpellsVerb v = IsToken (command_token v)

-- TerminationID: its form, and its class
abbrev pub SpellsTerm : TermRef → List ℕ → Type 0
SpellsTerm = IsTerm

-- [`O-`] or [`W-`] in front of a command, in any case, and whether it is there
abbrev pub SpellsMark : List ℕ → Bool → List ℕ → Type 0
SpellsMark mark = OptionalIf (IsInAnyCase mark)

-- how deep groups may lie in a reply (own)
abbrev pub reply_depth : ℕ
reply_depth = 16

-- what stands behind the TerminationID: descriptors in braces, or a group, of which nothing is kept
abbrev pub SpellsDetailsOf : Bool → List Descriptor → List ℕ → Type 0
SpellsDetailsOf true descriptors text = (descriptors ≡ []) × ((group : Option (List ℕ)) × SpellsOptionalGroup group text)
SpellsDetailsOf false descriptors text = OptionalBraced SpellsDescriptor descriptors text

-- descriptors, or a group behind a command that is not executed
abbrev pub SpellsDetails : Verb → List Descriptor → List ℕ → Type 0
SpellsDetails v = SpellsDetailsOf (has_group v)

-- commandRequest
pub record SpellsCommand (c : Command) (text : List ℕ) : Type 0 where
  pub words : (SpellsMark (codes "O-") c.optional ▹ SpellsMark (codes "W-") c.wild ▹ SpellsVerb c.verb ▹ IsSign equals_sign ▹ SpellsTerm c.term ▹ SpellsDetails c.verb c.descriptors) text
  pub wild : c.wild ≡ true → may_be_wild c.verb ≡ true

-- ---- actions

-- ContextID
abbrev pub SpellsContextId : CtxRef → List ℕ → Type 0
SpellsContextId Choose text = IsText (codes "$") text
SpellsContextId All text = IsText (codes "*") text
SpellsContextId Null text = IsText (codes "-") text
SpellsContextId (Num n) text = IsUint32 n.0 text

-- UINT16 of a priority
abbrev pub IsPriority : ℕ → List ℕ → Type 0
IsPriority = IsNumber priority_digits priority_max

-- the token of each topologyDirection
abbrev pub flow_token : Flow → Token
flow_token flow.Bothway = token.Bothway
flow_token flow.Isolate = token.Isolate
flow_token flow.Oneway = token.Oneway

-- topologyDirection: BothwayToken, IsolateToken, OnewayToken
abbrev pub SpellsFlow : Flow → List ℕ → Type 0
SpellsFlow f = IsToken (flow_token f)

-- topologyTriple: terminationA COMMA terminationB COMMA topologyDirection
abbrev pub SpellsTriple : Triple → List ℕ → Type 0
SpellsTriple t = SpellsTerm t.a ▹ IsSign comma ▹ SpellsTerm t.b ▹ IsSign comma ▹ SpellsFlow t.flow

-- the token of each of contextAuditProperties
abbrev pub context_item_token : ContextItem → Token
context_item_token audited.Topology = token.Topology
context_item_token audited.Priority = token.Priority
context_item_token audited.Emergency = token.Emergency

-- contextAuditProperties: TopologyToken, PriorityToken, EmergencyToken
abbrev pub SpellsContextItem : ContextItem → List ℕ → Type 0
SpellsContextItem i = IsToken (context_item_token i)

-- a contextProperty or a contextAudit: priority, emergency, topologyDescriptor, contextAudit
abbrev pub SpellsContextProperty : ContextProp → List ℕ → Type 0
SpellsContextProperty (property.Priority n) text = (IsToken token.Priority ▹ IsSign equals_sign ▹ IsPriority n) text
SpellsContextProperty property.Emergency text = IsToken token.Emergency text
SpellsContextProperty (property.Topology triples) text = (IsToken token.Topology ▹ Braced SpellsTriple triples) text
SpellsContextProperty (property.ContextAudit items) text = (IsToken token.ContextAudit ▹ Braced SpellsContextItem items) text

-- contextProperties and contextAudit, with COMMA between them
abbrev pub SpellsContextProperties : List ContextProp → List ℕ → Type 0
SpellsContextProperties = Separated SpellsContextProperty

-- commandRequestList
abbrev pub SpellsCommands : List Command → List ℕ → Type 0
SpellsCommands = Separated SpellsCommand

-- what an action requests of its context: commands, or properties, or properties and behind COMMA commands
abbrev pub SpellsContents : List ContextProp → List Command → List ℕ → Type 0
SpellsContents [] commands = SpellsCommands commands
SpellsContents (p ∷ ps) [] = SpellsContextProperties (p ∷ ps)
SpellsContents (p ∷ ps) (c ∷ cs) = SpellsContextProperties (p ∷ ps) ▹ IsSign comma ▹ SpellsCommands (c ∷ cs)

-- actionRequest: CtxToken EQUAL ContextID LBRKT .. RBRKT
abbrev pub SpellsAction : Action → List ℕ → Type 0
SpellsAction a = IsToken token.Context ▹ IsSign equals_sign ▹ SpellsContextId a.ctx ▹ IsSign left_brace ▹ SpellsContents a.props a.commands ▹ IsSign right_brace

-- ---- messages

-- transactionRequest: TransToken EQUAL TransactionID LBRKT actionRequest *(COMMA actionRequest) RBRKT
abbrev pub SpellsRequest : Request → List ℕ → Type 0
SpellsRequest r = IsToken token.Transaction ▹ IsSign equals_sign ▹ IsUint32 r.id.0 ▹ Braced SpellsAction r.actions

-- a number that is read and dropped
abbrev pub IsSomeUint32 : List ℕ → Type 0
IsSomeUint32 text = (n : ℕ) × IsUint32 n text

-- transactionReply, whose body is read as a group (own)
abbrev pub SpellsReply : List ℕ → Type 0
SpellsReply = IsToken token.Reply ▹ IsSign equals_sign ▹ IsSomeUint32 ▹ IsSpace ▹ IsGroup reply_depth

-- transactionPending
abbrev pub SpellsPending : List ℕ → Type 0
SpellsPending = IsToken token.Pending ▹ IsSign equals_sign ▹ IsSomeUint32 ▹ IsSign left_brace ▹ IsSign right_brace

-- transactionAck: one number, or the first and the last of a range. The first may be above the last (own).
abbrev pub SpellsRange : AckRange → List ℕ → Type 0
SpellsRange r text = (IsUint32 r.first text × (r.first ≡ r.last)) ⊎ (IsUint32 r.first ▹ IsText (codes "-") ▹ IsUint32 r.last) text

-- transactionResponseAck
abbrev pub SpellsAck : List AckRange → List ℕ → Type 0
SpellsAck ranges = IsToken token.TransactionResponseAck ▹ Braced SpellsRange ranges

-- a part of a transactionList
abbrev pub SpellsItem : Item → List ℕ → Type 0
SpellsItem (item.Request r) text = SpellsRequest r text
SpellsItem (item.Ack ranges) text = SpellsAck ranges text
SpellsItem item.Ignored text = SpellsReply text ⊎ SpellsPending text

-- the most digits of an error code
abbrev pub code_digits : ℕ
code_digits = 4

-- the greatest error code
abbrev pub code_max : ℕ
code_max = 9999

-- errorCode
abbrev pub IsCode : List ℕ → Type 0
IsCode text = (n : ℕ) × IsNumber code_digits code_max n text

-- [quotedString]
abbrev pub IsOptionalQuoted : List ℕ → Type 0
IsOptionalQuoted = Optional IsQuoted

-- errorDescriptor, which is read and dropped
abbrev pub SpellsError : List ℕ → Type 0
SpellsError = IsToken token.Error ▹ IsSign equals_sign ▹ IsCode ▹ IsSign left_brace ▹ IsOptionalQuoted ▹ IsSign right_brace

-- messageBody: an errorDescriptor, or a transactionList
abbrev pub SpellsBody : List Item → List ℕ → Type 0
SpellsBody [] text = SpellsError text
SpellsBody (i ∷ others) text = Spaced SpellsItem (i ∷ others) text

-- mId, byte for byte
abbrev pub SpellsMid : List ℕ → List ℕ → Type 0
SpellsMid mid text = (mid ≡ text) × IsMid text

-- the version that this gateway speaks
abbrev pub spoken_version : ℕ
spoken_version = 1

-- the most digits of a version
abbrev pub version_digits : ℕ
version_digits = 2

-- the greatest version
abbrev pub version_max : ℕ
version_max = 99

-- Version: 1*2(DIGIT)
abbrev pub IsVersion : ℕ → List ℕ → Type 0
IsVersion = IsNumber version_digits version_max

-- MegacopToken
abbrev pub IsMegacop : List ℕ → Type 0
IsMegacop text = IsInAnyCase (codes "MEGACO") text ⊎ IsText (codes "!") text

-- what stands before the mId: LWSP MegacopToken SLASH Version SEP
abbrev pub IsHeader : ℕ → List ℕ → Type 0
IsHeader version = IsSpace ▹ IsMegacop ▹ IsText (codes "/") ▹ IsVersion version ▹ IsSep

-- what stands behind it: mId SEP messageBody, and LWSP at the end
abbrev pub SpellsContent : Message → List ℕ → Type 0
SpellsContent m = SpellsMid m.mid ▹ IsSep ▹ SpellsBody m.items ▹ IsSpace

-- megacoMessage, without authentication header
abbrev pub Spells : Message → List ℕ → Type 0
Spells m = IsHeader spoken_version ▹ SpellsContent m

-- ---- what is answered

-- a header of the version, whatever follows
abbrev pub HasHeader : ℕ → List ℕ → Type 0
HasHeader version = IsHeader version ▹ (λ rest. Unit {0})

-- a header of another version, whatever follows
pub record HasVersionFault (text : List ℕ) : Type 0 where
  pub version : ℕ
  pub other : version ≢ spoken_version
  pub header : HasHeader version text

-- What reading a text may answer: the message that it spells; Version where the header has another; Syntax where it is
-- neither. Memory is taken, and may run out, behind a header of the version that is spoken alone.
abbrev pub IsReadingOf : List ℕ → Result Message ReadFault → Type 0
IsReadingOf text (Ok m) = Spells m text
IsReadingOf text (Err Version) = HasVersionFault text
IsReadingOf text (Err Syntax) = (¬ HasVersionFault text) × ((m : Message) → ¬ Spells m text)
IsReadingOf text (Err NoMemory) = HasHeader spoken_version text
