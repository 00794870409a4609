-- Messages as they are read, from left to right (own). That this is the grammar (RFC 3525, Annex B.2) is proved.
use Rattle.std.specs.Prelude.{◌≡◌, ◌==◌, ℕ, List, [], if◌then◌else◌, Option, Some, None, Result, Ok, Err, codes}
use Rattle.gw_base.specs.Bytes.{byte}
use Rattle.gw_text.specs.Lexical.{equals_sign, left_brace, right_brace, dash, quote_mark}
use Rattle.gw_text.specs.Runs.{is_byte}
use Rattle.gw_text.specs.Tokens.{token_of}
use Rattle.gw_text.specs.declared.token.Token.{Token}
use Rattle.gw_text.specs.declared.token.Token.TheVariants as token
use Rattle.gw_text.specs.SpaceScan.{skip}
use Rattle.gw_text.specs.Sign.{byte_at, sign_at}
use Rattle.gw_text.specs.Scans.{sep_at}
use Rattle.gw_text.specs.Reader.{Reader, ◌>>=◌, found, word_as, solid_as, number_at, number_up_to, group_read, quoted_read, if_byte, if_prefix, if_begins, braced_at, items_at, if_end}
use Rattle.gw_msg.specs.declared.message.AckRange.{AckRange}
use Rattle.gw_msg.specs.declared.message.Item.{Item}
use Rattle.gw_msg.specs.declared.message.Item.TheVariants as item
use Rattle.gw_msg.specs.declared.message.Message.{Message}
use Rattle.gw_msg.specs.declared.fault.ReadFault.{ReadFault}
use Rattle.gw_msg.specs.declared.fault.ReadFault.TheVariants.{Version, Syntax, NoMemory}
use Rattle.gw_text.specs.declared.fault.ParseFault.{ParseFault}
use Rattle.gw_text.specs.declared.fault.ParseFault.TheVariants as part
use Rattle.gw_msg.specs.Grammar.{reply_depth, code_digits, code_max, spoken_version, version_digits, version_max}
use Rattle.gw_msg.specs.Words.{is_error, is_error_start}
use Rattle.gw_msg.specs.NameWords.{mid_of}
unfoldable pub use Rattle.gw_msg.specs.ActionReading.{mark_at, details_of, command_at, context_id_at, triple_at, priority_at, context_property_at, contents_from, action_at}
pub use Rattle.gw_msg.specs.ActionReading.{only_if, token_in, nothing_at, is_allowed, if_mark, context_number_at, context_item_at, property_rest, Contents, behind_property, property_then, commands_alone_at, contents_at}

-- ---- messages

-- behind the token of a transaction: `=`, its number, and its actions in braces
unfoldable pub request_at : Reader Item
request_at text = do
  equals ← sign_at equals_sign text
  id ← number_at equals
  actions ← braced_at action_at id.1
  Some (item.Request (record { id = record { 0 = id.0 }; actions = actions.0 }), actions.1)

-- behind the token of a reply: `=`, its number, and its body, a group that is dropped
unfoldable pub reply_at : Reader Item
reply_at text = do
  equals ← sign_at equals_sign text
  id ← number_at equals
  group ← group_read reply_depth (skip id.1)
  Some (item.Ignored, group.1)

-- behind the token of a pending transaction: `=`, its number, and empty braces
unfoldable pub pending_at : Reader Item
pending_at text = do
  equals ← sign_at equals_sign text
  id ← number_at equals
  left ← sign_at left_brace id.1
  right ← sign_at right_brace left
  Some (item.Ignored, right)

-- behind the first number of a range
abbrev pub last_at : ℕ → Reader AckRange
last_at first = if_byte dash (λ text. do
  last ← number_at text
  Some (record { first = first; last = last.0 }, last.1)) (λ text. Some (record { first = first; last = first }, text))

-- one number, or the first and the last of a range
unfoldable pub range_at : Reader AckRange
range_at text = do
  first ← number_at text
  last_at first.0 first.1

-- behind the token of an acknowledgement: its ranges in braces
unfoldable pub ack_at : Reader Item
ack_at text = do
  ranges ← braced_at range_at text
  Some (item.Ack ranges.0, ranges.1)

-- behind the token of a part
abbrev pub item_behind : Token → Reader Item
item_behind token.Transaction text = request_at text
item_behind token.Reply text = reply_at text
item_behind token.Pending text = pending_at text
item_behind token.TransactionResponseAck text = ack_at text
item_behind _ text = None

-- a part of a transactionList: its token, and what is behind it
unfoldable pub item_at : Reader Item
item_at text = do
  word ← word_as token_of text
  item_behind word.0 word.1

-- a quoted text, or nothing
unfoldable pub quoted_or_nothing : Reader (Unit {0})
quoted_or_nothing = if_begins (is_byte quote_mark) (λ text. do
  quoted ← quoted_read text
  Some (tt, quoted.1)) nothing_at

-- an errorDescriptor, which is dropped
unfoldable pub error_at : Reader (Unit {0})
error_at text = do
  word ← token_in is_error text
  equals ← sign_at equals_sign word.1
  code ← number_up_to code_digits code_max equals
  left ← sign_at left_brace code.1
  quoted ← quoted_or_nothing left
  right ← sign_at right_brace quoted.1
  Some (tt, right)

-- nothing is left
abbrev pub at_end : List ℕ → Option (List ℕ)
at_end text = if_end text text

-- an errorDescriptor, to the end of the text
unfoldable pub error_body_at : Reader (List Item)
error_body_at text = do
  error ← error_at text
  rest ← at_end (skip error.1)
  Some ([], rest)

-- the body, to the end of the text
unfoldable pub body_at : Reader (List Item)
body_at = if_begins is_error_start error_body_at (items_at item_at)

-- what stands behind the header
unfoldable pub content_at : Reader Message
content_at text = do
  mid ← solid_as mid_of text
  space ← found (sep_at mid.1)
  items ← body_at space.1
  Some (record { mid = mid.0; items = items.0 }, items.1)

-- what follows MegacopToken in a header
unfoldable pub version_at : Reader ℕ
version_at text = do
  slash ← byte_at (byte (codes "/")) text
  version ← number_up_to version_digits version_max slash
  space ← found (sep_at version.1)
  Some (version.0, space.1)

-- a header gives its version
unfoldable pub header_at : Reader ℕ
header_at text = if_prefix (codes "MEGACO") version_at (λ rest. byte_at (byte (codes "!")) rest >>= version_at) (skip text)

-- ---- whole texts

-- the value of which the whole text is the form
abbrev pub all_at : {V : Type 0} → Reader V → List ℕ → Option V
all_at read text = read text >>= λ x. if_end x.0 x.1

-- the message that was read, if there is one
abbrev pub or_syntax : Option Message → Result Message ReadFault
or_syntax (Some m) = Ok m
or_syntax None = Err Syntax

-- the version counts before anything behind it is looked at
abbrev pub judged : Option (ℕ × List ℕ) → Result Message ReadFault
judged None = Err Syntax
judged (Some header) = if header.0 == spoken_version then or_syntax (all_at content_at header.1) else Err Version

-- the one answer to a text
unfoldable pub message_of : List ℕ → Result Message ReadFault
message_of text = judged (header_at text)

-- a part that was not read
abbrev pub fault_of : ParseFault → ReadFault
fault_of part.Syntax = Syntax
fault_of part.NoMemory = NoMemory

-- a header was read, of the version that is spoken
abbrev pub IsSpoken : Option (ℕ × List ℕ) → Type 0
IsSpoken None = ⊥
IsSpoken (Some header) = header.0 ≡ spoken_version

-- What a function returned is the answer to the text, unless memory ran out, which it does behind such a header alone.
abbrev pub IsAnswer : List ℕ → Result Message ReadFault → Type 0
IsAnswer text (Ok m) = message_of text ≡ Ok m
IsAnswer text (Err Version) = message_of text ≡ Err Version
IsAnswer text (Err Syntax) = message_of text ≡ Err Syntax
IsAnswer text (Err NoMemory) = IsSpoken (header_at text)
