-- What a gateway answers to a burst of datagrams, and the state that it leaves: the items in order of arrival, one
-- after another (RFC 3525, section 8; the order between transactions, who owns identifiers, and the kept replies are
-- own).
use Rattle.std.specs.Prelude.{◌≡◌, ◌+◌, nat_lt, ℕ, if◌then◌else◌, List, [], ◌∷◌, ◌++◌, drop, Option, None, Some, Result, Ok, Err}
use Rattle.std.specs.List.{AllZip}
use Rattle.gw_base.specs.declared.code.Code.{Code}
use Rattle.gw_base.specs.declared.code.Code.TheVariants.{SyntaxError, VersionNotSupported, InsufficientResources}
use Rattle.gw_base.specs.declared.ids.CtxNum.{CtxNum}
use Rattle.gw_reserve.specs.Ids.{Ids}
use Rattle.gw_msg.specs.declared.message.AckRange.{AckRange}
use Rattle.gw_msg.specs.declared.message.Request.{Request}
use Rattle.gw_msg.specs.declared.message.Item.{Item}
use Rattle.gw_msg.specs.declared.message.Item.TheVariants as item
use Rattle.gw_msg.specs.declared.message.Message.{Message}
use Rattle.gw_msg.specs.declared.fault.ReadFault.TheVariants.{Version, Syntax}
use Rattle.gw_msg.specs.Grammar.{IsReadingOf}
use Rattle.gw_reply.specs.declared.reply.TxReply.{TxReply}
use Rattle.gw_reply.specs.Messages.{reply_text, fault_text}
use Rattle.gw_kept.specs.Classes.{most_new}
use Rattle.gw_kept.specs.Forgotten.{forgotten}
use Rattle.gw_kept.specs.Pairs.{bytes_for, with_pair}
use Rattle.gw_kept.specs.declared.entry.Entry.{Entry}
use Rattle.gw_kept.specs.declared.entry.RequestKey.{RequestKey}
use Rattle.gw_table.specs.Maps.{Outcome}
use Rattle.gw_tx.specs.Transactions.{transaction}
use Rattle.gw_reserve.specs.declared.owners.Cursors.{Cursors}
use Rattle.gw_reserve.specs.Owners.{free_numbers, free_slots, ids_of, new_cursors, number_choices, slot_choices}
use Rattle.gw_engine.specs.declared.datagram.Datagram.{Datagram}
use Rattle.gw_engine.specs.declared.reading.ReadDatagram.{ReadDatagram}
use Rattle.gw_engine.specs.State.{State, Settings, GatewayValue}

-- ---- the messages of datagrams

-- The message that the text spells; 406 where its header has another version; 400 where it is neither.
abbrev pub IsMessageOf : List ℕ → Result Message Code → Type 0
IsMessageOf text (Ok m) = IsReadingOf text (Ok m)
IsMessageOf text (Err VersionNotSupported) = IsReadingOf text (Err Version)
IsMessageOf text (Err SyntaxError) = IsReadingOf text (Err Syntax)
IsMessageOf text (Err _) = ⊥

-- who sent the datagram, and its message or error
pub record IsReadAs (d : Datagram) (h : ReadDatagram) : Type 0 where
  pub peer : h.peer ≡ d.peer
  pub message : IsMessageOf d.bytes h.message

-- ---- between two items

-- Where a burst stands: the state so far; what its requests so far have left of the numbers and slots that were free
-- at its start; and how many of them were new.
pub record Progress : Type 0 where
  pub state : State
  pub numbers : List CtxNum
  pub slots : List ℕ
  pub count : ℕ

-- what one item is answered, and where the burst stands behind it
pub record Step : Type 0 where
  pub answers : List Datagram
  pub after : Progress

-- an answer for a peer
abbrev pub answer_to : ℕ → List ℕ → List Datagram
answer_to peer bytes = record { peer = peer; bytes = bytes } ∷ []

-- an answer that changes nothing
abbrev pub unchanged : Progress → List Datagram → Step
unchanged p answers = record { answers = answers; after = p }

-- ---- a new request

abbrev pub cursors_of : State → Cursors
cursors_of s = record { context = s.context_cursor; slot = s.slot_cursor }

-- what the choices of a request own: the first of what those before it left
abbrev pub owned_by : Request → Progress → Ids
owned_by r p = ids_of r p.numbers p.slots

-- the transaction on the tables as they are, with the identifiers that it owns
abbrev pub carried_request : Settings → Request → Progress → Outcome TxReply
carried_request s r p = transaction s.rules r (owned_by r p) p.state.maps

-- the text of its reply
abbrev pub reply_to : Settings → Request → Progress → List ℕ
reply_to s r p = reply_text s.mid (carried_request s r p).answer

-- what is kept of it
abbrev pub entry_for : List ℕ → Request → List ℕ → Entry
entry_for mid r bytes = record { mid = mid; id = r.id; bytes = bytes }

-- where the next search for free identifiers begins
unfoldable pub cursors_after : Request → Progress → Cursors
cursors_after r p = new_cursors (cursors_of p.state) (owned_by r p ∷ [])

abbrev pub state_after : Settings → List ℕ → Request → Progress → State
state_after s mid r p = record {
  maps = (carried_request s r p).maps;
  context_cursor = (cursors_after r p).context;
  slot_cursor = (cursors_after r p).slot;
  kept = with_pair p.state.kept (entry_for mid r (reply_to s r p));
}

-- It is executed, and its reply is kept.
abbrev pub new_step : Settings → (peer : ℕ) → (mid : List ℕ) → Request → Progress → Step
new_step s peer mid r p = record {
  answers = answer_to peer (reply_to s r p);
  after = record { state = state_after s mid r p; numbers = drop (number_choices r) p.numbers; slots = drop (slot_choices r) p.slots; count = p.count + 1 };
}

-- ---- an acknowledgement

-- what it names is kept no longer; nothing else changes
abbrev pub state_without : State → (mid : List ℕ) → List AckRange → State
state_without s mid ranges = record { maps = s.maps; context_cursor = s.context_cursor; slot_cursor = s.slot_cursor; kept = forgotten s.kept mid ranges }

-- It gets no answer.
abbrev pub ack_step : (mid : List ℕ) → List AckRange → Progress → Step
ack_step mid ranges p = record {
  answers = [];
  after = record { state = state_without p.state mid ranges; numbers = p.numbers; slots = p.slots; count = p.count };
}

-- ---- one item after another

-- the reply to a request that comes behind too many new ones
abbrev pub over_reply : Request → TxReply
over_reply r = record { id = r.id; result = Err InsufficientResources }

abbrev pub over_step : Settings → (peer : ℕ) → Request → Progress → Step
over_step s peer r p = unchanged p (answer_to peer (reply_text s.mid (over_reply r)))

-- A request whose reply is among the kept ones is a repeat: it gets that reply. Any other is new, if fewer than so
-- many new ones came before it.
abbrev pub request_step : Settings → (peer : ℕ) → (mid : List ℕ) → Request → Progress → Option (List ℕ) → Step
request_step s peer mid r p (Some bytes) = unchanged p (answer_to peer bytes)
request_step s peer mid r p None = if nat_lt p.count most_new then new_step s peer mid r p else over_step s peer r p

abbrev pub key_of_request : List ℕ → Request → RequestKey
key_of_request mid r = record { id = r.id.0; mid = mid }

-- an item of a message: what is neither a request nor an acknowledgement is of no effect
unfoldable pub item_step : Settings → (peer : ℕ) → (mid : List ℕ) → Item → Progress → Step
item_step s peer mid (item.Request r) p = request_step s peer mid r p (bytes_for (key_of_request mid r) p.state.kept.pairs)
item_step s peer mid (item.Ack ranges) p = ack_step mid ranges p
item_step s peer mid item.Ignored p = unchanged p []

-- one after another, each where the one before it left the burst
unfoldable pub in_turn : {X : Type 0} → (X → Progress → Step) → List X → Progress → Step
in_turn step [] p = unchanged p []
in_turn step (x ∷ xs) p =
    let now = step x p in
    let rest = in_turn step xs now.after in
    record { answers = now.answers ++ rest.answers; after = rest.after }

-- the items of a message, or the error of a text that is none
abbrev pub message_step : Settings → (peer : ℕ) → Result Message Code → Progress → Step
message_step s peer (Ok m) p = in_turn (item_step s peer m.mid) m.items p
message_step s peer (Err code) p = unchanged p (answer_to peer (fault_text s.mid code))

abbrev pub datagram_step : Settings → ReadDatagram → Progress → Step
datagram_step s h p = message_step s h.peer h.message p

-- ---- a burst

-- before its first item: what is free is listed from the cursors on
abbrev pub start_of : GatewayValue → Progress
start_of g = record {
  state = g.state;
  numbers = free_numbers g.state.maps g.state.context_cursor g.settings.contexts;
  slots = free_slots g.state.maps g.state.slot_cursor g.settings.slots;
  count = 0;
}

unfoldable pub burst_outcome : GatewayValue → List ReadDatagram → Step
burst_outcome g messages = in_turn (datagram_step g.settings) messages (start_of g)

-- The answers, in order of arrival and each for the peer that sent what it answers, and the state afterwards, are
-- those of the burst's messages.
pub record AnswersBurst (old : GatewayValue) (burst : List Datagram) (answers : List Datagram) (new : GatewayValue) : Type 0 where
  pub messages : List ReadDatagram
  pub read : AllZip IsReadAs burst messages
  pub answers_are : answers ≡ (burst_outcome old messages).answers
  pub state : new ≡ record { settings = old.settings; state = (burst_outcome old messages).after.state }
