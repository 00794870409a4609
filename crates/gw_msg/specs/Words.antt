-- What the words of a message that are tokens stand for (own; the tokens: RFC 3525, Annex B.2).
use Rattle.std.specs.Prelude.{ℕ, Bool, true, false, List, Option, Some, None, codes}
use Rattle.gw_base.specs.Bytes.{is_one_of}
use Rattle.gw_base.specs.declared.command_words.Verb.{Verb}
use Rattle.gw_base.specs.declared.command_words.Verb.TheVariants as verb
use Rattle.gw_base.specs.declared.context_words.Flow.{Flow}
use Rattle.gw_base.specs.declared.context_words.Flow.TheVariants.{Bothway, Isolate, Oneway}
use Rattle.gw_msg.specs.declared.message.ContextItem.{ContextItem}
use Rattle.gw_msg.specs.declared.message.ContextItem.TheVariants as item
use Rattle.gw_text.specs.Tokens.{token_of}
use Rattle.gw_text.specs.declared.token.Token.{Token}
use Rattle.gw_text.specs.declared.token.Token.TheVariants as token

-- the command that a token names
abbrev pub verb_for : Option Token → Option Verb
verb_for (Some token.Add) = Some verb.Add
verb_for (Some token.Modify) = Some verb.Modify
verb_for (Some token.Move) = Some verb.Move
verb_for (Some token.Subtract) = Some verb.Subtract
verb_for (Some token.AuditValue) = Some verb.AuditValue
verb_for (Some token.AuditCapability) = Some verb.AuditCapability
verb_for (Some token.Notify) = Some verb.Notify
verb_for (Some token.ServiceChange) = Some verb.ServiceChange
verb_for _ = None

-- the command that a word names
abbrev pub verb_of : List ℕ → Option Verb
verb_of word = verb_for (token_of word)

-- the token of an action
abbrev pub is_context : Token → Bool
is_context token.Context = true
is_context _ = false

-- the token of an error
abbrev pub is_error : Token → Bool
is_error token.Error = true
is_error _ = false

-- how media flow, by its token
abbrev pub flow_for : Option Token → Option Flow
flow_for (Some token.Bothway) = Some Bothway
flow_for (Some token.Isolate) = Some Isolate
flow_for (Some token.Oneway) = Some Oneway
flow_for _ = None

-- how media flow, by a word
abbrev pub flow_of : List ℕ → Option Flow
flow_of word = flow_for (token_of word)

-- the property that a ContextAudit requests, by its token
abbrev pub context_item_for : Option Token → Option ContextItem
context_item_for (Some token.Topology) = Some item.Topology
context_item_for (Some token.Priority) = Some item.Priority
context_item_for (Some token.Emergency) = Some item.Emergency
context_item_for _ = None

-- the property that a ContextAudit requests, by a word
abbrev pub context_item_of : List ℕ → Option ContextItem
context_item_of word = context_item_for (token_of word)

-- of what may stand in an action, context properties alone begin with one of these letters
abbrev pub is_context_property_start : ℕ → Bool
is_context_property_start b = is_one_of (codes "TtPpEeCc") b

-- of the tokens that may begin a body, Error alone begins with an E
abbrev pub is_error_start : ℕ → Bool
is_error_start b = is_one_of (codes "Ee") b
