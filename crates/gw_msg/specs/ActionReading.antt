-- Commands and actions as they are read, from left to right (own). That this is the grammar (RFC 3525, Annex B.2) is
-- proved.
use Rattle.std.specs.Prelude.{◌||◌, not, ℕ, zero, suc, length, true, false, Bool, List, [], ◌∷◌, Option, Some, None, codes}
use Rattle.gw_base.specs.Bytes.{byte}
use Rattle.gw_base.specs.declared.command_words.CtxRef.{CtxRef}
use Rattle.gw_base.specs.declared.command_words.CtxRef.TheVariants.{Null, All, Choose, Num}
use Rattle.gw_base.specs.declared.command_words.Verb.{Verb}
use Rattle.gw_text.specs.Lexical.{comma, equals_sign, left_brace, right_brace}
use Rattle.gw_text.specs.Tokens.{token_of}
use Rattle.gw_text.specs.declared.token.Token.{Token}
use Rattle.gw_text.specs.declared.token.Token.TheVariants as token
use Rattle.gw_text.specs.Sign.{sign_at}
use Rattle.gw_text.specs.Reader.{Reader, ◌>>=◌, word_as, number_at, number_up_to, if_byte, if_sign, if_prefix, if_begins, list_at, braced_at, optional_at}
use Rattle.gw_msg.specs.declared.message.Command.{Command}
use Rattle.gw_msg.specs.declared.message.Action.{Action}
use Rattle.gw_msg.specs.declared.message.Triple.{Triple}
use Rattle.gw_msg.specs.declared.message.ContextItem.{ContextItem}
use Rattle.gw_msg.specs.declared.message.ContextProp.{ContextProp}
use Rattle.gw_msg.specs.declared.message.ContextProp.TheVariants as property
use Rattle.gw_desc.specs.Reading.{optional_group_at, descriptor_at}
use Rattle.gw_desc.specs.declared.descriptor.Descriptor.{Descriptor}
use Rattle.gw_msg.specs.Bounds.{may_be_wild, has_group, priority_digits, priority_max}
use Rattle.gw_msg.specs.Words.{verb_of, flow_of, context_item_of, is_context, is_context_property_start}
use Rattle.gw_msg.specs.NameWords.{term_of}
use Rattle.gw_msg.specs.declared.message.Request.{Request}

-- ---- steps

-- whether these bytes come next, in any case; they are taken
unfoldable pub mark_at : List ℕ → Reader Bool
mark_at mark = if_prefix mark (λ rest. Some (true, rest)) (λ text. Some (false, text))

-- nothing is read, and all depends on a test
abbrev pub only_if : Bool → Option (Unit {0})
only_if true = Some tt
only_if false = None

-- a word that is a token of the class
abbrev pub token_in : (Token → Bool) → Reader (Unit {0})
token_in class text = do
  word ← word_as token_of text
  allowed ← only_if (class word.0)
  Some (tt, word.1)

-- nothing is read, and nothing is kept
abbrev pub nothing_at : Reader (Unit {0})
nothing_at text = Some (tt, text)

-- ---- commands and actions

-- `W-` in front of a command that may have it
abbrev pub is_allowed : Bool → Verb → Bool
is_allowed wild v = not wild || may_be_wild v

-- descriptors in braces, or a group, read and dropped
unfoldable pub details_of : Bool → Reader (List Descriptor)
details_of true text = optional_group_at text >>= λ group. Some ([], group.1)
details_of false text = optional_at descriptor_at text

-- `O-` and `W-`, a command's token, `=`, a TerminationID, and what stands behind it
unfoldable pub command_at : Reader Command
command_at text = do
  optional ← mark_at (codes "O-") text
  wild ← mark_at (codes "W-") optional.1
  verb ← word_as verb_of wild.1
  allowed ← only_if (is_allowed wild.0 verb.0)
  equals ← sign_at equals_sign verb.1
  term ← word_as term_of equals
  details ← details_of (has_group verb.0) term.1
  Some (record { verb = verb.0; term = term.0; optional = optional.0; wild = wild.0; descriptors = details.0 }, details.1)

-- the context that the byte stands for, or what more reads
abbrev pub if_mark : List ℕ → CtxRef → Reader CtxRef → Reader CtxRef
if_mark mark ctx more = if_byte (byte mark) (λ rest. Some (ctx, rest)) more

-- the context of a number
abbrev pub context_number_at : Reader CtxRef
context_number_at text = do
  number ← number_at text
  Some (Num (record { 0 = number.0 }), number.1)

-- `$`, `*`, `-` or a number
unfoldable pub context_id_at : Reader CtxRef
context_id_at = if_mark (codes "$") Choose (if_mark (codes "*") All (if_mark (codes "-") Null context_number_at))

-- two TerminationIDs, and how media flow between them
unfoldable pub triple_at : Reader Triple
triple_at text = do
  a ← word_as term_of text
  second ← sign_at comma a.1
  b ← word_as term_of second
  third ← sign_at comma b.1
  flow ← word_as flow_of third
  Some (record { a = a.0; b = b.0; flow = flow.0 }, flow.1)

-- a property that is requested
abbrev pub context_item_at : Reader ContextItem
context_item_at = word_as context_item_of

-- behind the word Priority: `=`, and its number
unfoldable pub priority_at : Reader ℕ
priority_at text = do
  equals ← sign_at equals_sign text
  number_up_to priority_digits priority_max equals

-- behind the word of a context property, or of a contextAudit
abbrev pub property_rest : Token → Reader ContextProp
property_rest token.Priority text = priority_at text >>= λ n. Some (property.Priority n.0, n.1)
property_rest token.Emergency text = Some (property.Emergency, text)
property_rest token.Topology text = braced_at triple_at text >>= λ list. Some (property.Topology list.0, list.1)
property_rest token.ContextAudit text = braced_at context_item_at text >>= λ list. Some (property.ContextAudit list.0, list.1)
property_rest _ text = None

-- the word, and what is behind it
unfoldable pub context_property_at : Reader ContextProp
context_property_at text = do
  word ← word_as token_of text
  property_rest word.0 word.1

-- what an action requests of its context: properties, and commands
abbrev pub Contents : Type 0
Contents = List ContextProp × List Command

-- what others read, behind a property
abbrev pub behind_property : ContextProp → Reader Contents → Reader Contents
behind_property p others text = do
  contents ← others text
  Some ((p ∷ contents.0.0, contents.0.1), contents.1)

-- a property, and what others read behind a comma
abbrev pub property_then : Reader Contents → Reader Contents
property_then others text = do
  p ← context_property_at text
  if_sign comma (behind_property p.0 others) (λ rest. Some ((p.0 ∷ [], []), rest)) p.1

-- commands without properties
abbrev pub commands_alone_at : Reader Contents
commands_alone_at text = do
  commands ← list_at command_at text
  Some (([], commands.0), commands.1)

-- properties, fewer than fuel, and the commands behind them
unfoldable pub contents_from : ℕ → Reader Contents
contents_from zero text = None
contents_from (suc fuel) text = if_begins is_context_property_start (property_then (contents_from fuel)) commands_alone_at text

-- each property is a byte at least, so the text has fewer than this
abbrev pub contents_at : Reader Contents
contents_at text = contents_from (suc (length text)) text

-- the token of an action, `=`, a ContextID, and its contents in braces
unfoldable pub action_at : Reader Action
action_at text = do
  word ← token_in is_context text
  equals ← sign_at equals_sign word.1
  ctx ← context_id_at equals
  left ← sign_at left_brace ctx.1
  contents ← contents_at left
  right ← sign_at right_brace contents.1
  Some (record { ctx = ctx.0; props = contents.0.0; commands = contents.0.1 }, right)

-- behind the token of a transaction: `=`, its number, and its actions in braces
unfoldable pub request_tree_at : Reader Request
request_tree_at text = do
  equals ← sign_at equals_sign text
  id ← number_at equals
  actions ← braced_at action_at id.1
  Some (record { id = record { 0 = id.0 }; actions = actions.0 }, actions.1)
