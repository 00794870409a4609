-- A burst in phases (own), each over the whole table of its items before the next begins: the classes, from keys and
-- acknowledgements alone; who owns which identifiers; the transactions; the answers; what changes in the kept replies.
use Rattle.std.specs.Prelude.{◌≡◌, ◌+◌, ℕ, List, [], ◌∷◌, map, length, flat_map, Option, None, Some, Result, Ok, Err}
use Rattle.std.specs.List.{zip, slice_get, AllZip}
use Rattle.std.specs.Option.{option_to_list}
use Rattle.gw_base.specs.declared.code.Code.{Code}
use Rattle.gw_base.specs.declared.code.Code.TheVariants.{InsufficientResources}
use Rattle.gw_base.specs.declared.command_words.Rules.{Rules}
use Rattle.gw_base.specs.declared.ids.TxId.{TxId}
use Rattle.gw_board.specs.Results.{slots_of}
use Rattle.gw_board.specs.declared.requested.BurstRequest.{BurstRequest}
use Rattle.gw_kept.specs.Classes.{classes_of}
use Rattle.gw_kept.specs.Changes.{Change, changes_of, kept_after, AreNew}
use Rattle.gw_kept.specs.Pairs.{KeptList, bytes_at}
use Rattle.gw_kept.specs.declared.class.Class.{Class}
use Rattle.gw_kept.specs.declared.class.Class.TheVariants.{New, Repeat, Over, Nothing}
use Rattle.gw_kept.specs.declared.class.Source.{Source}
use Rattle.gw_kept.specs.declared.class.Source.TheVariants as source
use Rattle.gw_kept.specs.declared.entry.Entry.{Entry}
use Rattle.gw_kept.specs.declared.change.Turn.{Turn}
use Rattle.gw_kept.specs.declared.change.Turn.TheVariants as turn
use Rattle.gw_kept.specs.declared.point.Point.{Point}
use Rattle.gw_kept.specs.declared.point.Point.TheVariants as point
use Rattle.gw_msg.specs.declared.message.Item.{Item}
use Rattle.gw_msg.specs.declared.message.Item.TheVariants as item
use Rattle.gw_msg.specs.declared.message.Message.{Message}
use Rattle.gw_msg.specs.declared.message.Request.{Request}
use Rattle.gw_reply.specs.Messages.{reply_text, fault_text}
use Rattle.gw_reply.specs.declared.reply.TxReply.{TxReply}
use Rattle.gw_reserve.specs.Ids.{Ids}
use Rattle.gw_reserve.specs.Owned.{OwnedAction, with_ids, paired}
use Rattle.gw_reserve.specs.Owners.{owners, owned_slots, new_cursors}
use Rattle.gw_reserve.specs.declared.owners.Cursors.{Cursors}
use Rattle.gw_table.specs.Maps.{Maps, Outcome}
use Rattle.gw_engine.specs.declared.items.BurstItem.{BurstItem}
use Rattle.gw_engine.specs.declared.items.Content.{Content}
use Rattle.gw_engine.specs.declared.items.Content.TheVariants as content
use Rattle.gw_engine.specs.declared.items.Sent.{Sent}
use Rattle.gw_engine.specs.declared.datagram.Datagram.{Datagram}
use Rattle.gw_engine.specs.declared.reading.ReadDatagram.{ReadDatagram}
use Rattle.gw_engine.specs.Bursts.{cursors_of, entry_for, key_of_request, burst_outcome}
use Rattle.gw_engine.specs.Carried.{carried}
use Rattle.gw_engine.specs.Readable.{IsAnswerTo, questions}
use Rattle.gw_engine.specs.State.{State, GatewayValue, IsWellFormed}

-- ---- the table of a burst

-- an item as it is read: it has no class yet
abbrev pub item_of : (peer : ℕ) → Content → BurstItem
item_of peer x = record { peer = peer; content = x; class = Nothing; before = 0 }

-- a request and an acknowledgement are items of a burst, and no other item of a message is
abbrev pub items_in : (peer : ℕ) → (mid : List ℕ) → Item → List BurstItem
items_in peer mid (item.Request r) = item_of peer (content.Request (record { mid = mid; request = r })) ∷ []
items_in peer mid (item.Ack ranges) = item_of peer (content.Ack (record { mid = mid; ranges = ranges })) ∷ []
items_in peer mid item.Ignored = []

-- a text that is no message is one
abbrev pub items_from : (peer : ℕ) → Result Message Code → List BurstItem
items_from peer (Ok m) = flat_map (items_in peer m.mid) m.items
items_from peer (Err code) = item_of peer (content.Fault code) ∷ []

-- the items of a burst, in order of arrival
abbrev pub items_of : List ReadDatagram → List BurstItem
items_of messages = flat_map (λ d. items_from d.peer d.message) messages

-- ---- classes

-- what it is to the kept replies
abbrev pub point_of : Content → Point
point_of (content.Request s) = point.Request (key_of_request s.mid s.request)
point_of (content.Ack r) = point.Ack r
point_of (content.Fault code) = point.Nothing

abbrev pub points_of : List BurstItem → List Point
points_of items = map (λ i. point_of i.content) items

-- the request, if it is new
abbrev pub new_for : Content → Class → Option Sent
new_for (content.Request s) New = Some s
new_for (content.Request s) (Repeat from) = None
new_for (content.Request s) Over = None
new_for (content.Request s) Nothing = None
new_for (content.Ack r) class = None
new_for (content.Fault code) class = None

-- an item with its class, and so many new requests before it
abbrev pub with_class : BurstItem → Class → (before : ℕ) → BurstItem
with_class i class before = record { peer = i.peer; content = i.content; class = class; before = before }

-- so many new requests come before the next item
abbrev pub count_behind : BurstItem → Class → (before : ℕ) → ℕ
count_behind i class before = before + length (option_to_list (new_for i.content class))

-- items with these classes, and so many new requests before them
abbrev pub classified : (before : ℕ) → List BurstItem → List Class → List BurstItem
classified before [] classes = []
classified before (i ∷ rest) [] = i ∷ rest
classified before (i ∷ rest) (c ∷ classes) = with_class i c before ∷ classified (count_behind i c before) rest classes

-- the requests that are executed, in order
abbrev pub new_in : List BurstItem → List Sent
new_in items = flat_map (λ i. option_to_list (new_for i.content i.class)) items

-- What it changes in the kept replies: that of a new request is kept, and an acknowledgement removes what it names.
abbrev pub turn_for : Content → Class → Option Turn
turn_for (content.Request s) New = Some turn.Keep
turn_for (content.Request s) (Repeat from) = None
turn_for (content.Request s) Over = None
turn_for (content.Request s) Nothing = None
turn_for (content.Ack r) class = Some (turn.Forget r)
turn_for (content.Fault code) class = None

-- all that changes in the kept replies, in order
abbrev pub turns_in : List BurstItem → List Turn
turns_in items = flat_map (λ i. option_to_list (turn_for i.content i.class)) items

-- ---- who owns what

abbrev pub requests_of : List Sent → List Request
requests_of new = map (λ s. s.request) new

-- what the new requests own of what is free at the burst's start
abbrev pub ids_in : GatewayValue → List Sent → List Ids
ids_in g new = owners g.state.maps (cursors_of g.state) g.settings.contexts g.settings.slots (requests_of new)

-- a request, paired with what its $ own
abbrev pub paired_request : Sent × Ids → Request × List OwnedAction
paired_request p = (p.0.request, with_ids p.0.request p.1)

-- each request, paired with what it owns
abbrev pub paired_requests : List Sent → List Ids → List (Request × List OwnedAction)
paired_requests new ids = map paired_request (zip new ids)

-- ---- jobs

abbrev pub sent_of : BurstRequest → Sent
sent_of j = record { mid = j.mid; request = j.request }

-- a job, whose entries pair its request
abbrev pub paired_job : BurstRequest → Request × List OwnedAction
paired_job j = (j.request, paired j.request j.owned)

-- Jobs for these requests, each paired with what it owns, and with its slots and no others.
pub record AreJobs (new : List Sent) (ids : List Ids) (jobs : List BurstRequest) : Type 0 where
  pub sent : map sent_of jobs ≡ new
  pub pairs : map paired_job jobs ≡ paired_requests new ids
  pub slots : slots_of jobs ≡ owned_slots ids

-- their transactions, one after another
abbrev pub done_by : Rules → List BurstRequest → Maps → Outcome (List TxReply)
done_by rules jobs m = carried rules (map paired_job jobs) m

-- ---- what is kept, and what is answered

-- the pair of a request and its reply
abbrev pub entry_of : List ℕ → Sent × TxReply → Entry
entry_of mid p = entry_for p.0.mid p.0.request (reply_text mid p.1)

abbrev pub entries_of : List ℕ → List Sent → List TxReply → List Entry
entries_of mid new replies = map (entry_of mid) (zip new replies)

-- the reply to a request that comes behind too many new ones
abbrev pub refusal_of : TxId → TxReply
refusal_of id = record { id = id; result = Err InsufficientResources }

-- the texts that are kept in pairs
abbrev pub texts_of : List Entry → List (List ℕ)
texts_of entries = map (λ e. e.bytes) entries

-- the reply that a source names: of a pair that was kept at the burst's start, or one of these, to its new requests
abbrev pub reply_from : Source → KeptList → (replies : List (List ℕ)) → Option (List ℕ)
reply_from (source.Kept place) k replies = bytes_at place k.pairs
reply_from (source.Place place) k replies = slice_get replies place

-- the text of an item's answer: an error, a reply, or a refusal
abbrev pub text_by : List ℕ → KeptList → List (List ℕ) → Content → Class → (before : ℕ) → Option (List ℕ)
text_by mid k replies (content.Fault code) class before = Some (fault_text mid code)
text_by mid k replies (content.Request s) New before = slice_get replies before
text_by mid k replies (content.Request s) (Repeat from) before = reply_from from k replies
text_by mid k replies (content.Request s) Over before = Some (reply_text mid (refusal_of s.request.id))
text_by mid k replies (content.Request s) Nothing before = None
text_by mid k replies (content.Ack r) class before = None

abbrev pub text_for : List ℕ → KeptList → List (List ℕ) → BurstItem → Option (List ℕ)
text_for mid k replies i = text_by mid k replies i.content i.class i.before

abbrev pub answer_for : (peer : ℕ) → Option (List ℕ) → List Datagram
answer_for peer None = []
answer_for peer (Some bytes) = record { peer = peer; bytes = bytes } ∷ []

abbrev pub answers_of : List ℕ → KeptList → List (List ℕ) → List BurstItem → List Datagram
answers_of mid k replies items = flat_map (λ i. answer_for i.peer (text_for mid k replies i)) items

-- ---- a burst

-- the state with other tables and cursors, and its kept replies changed
abbrev pub adopted : State → Maps → Cursors → List Change → State
adopted s m cursors changes = record { maps = m; context_cursor = cursors.context; slot_cursor = cursors.slot; kept = kept_after s.kept changes }

-- the table of a burst, each item with its class: these follow from keys and acknowledgements alone
abbrev pub table_of : GatewayValue → List ReadDatagram → List BurstItem
table_of g messages = classified 0 (items_of messages) (classes_of g.state.kept (points_of (items_of messages)))

-- the new requests of a burst
abbrev pub new_of : GatewayValue → List ReadDatagram → List Sent
new_of g messages = new_in (table_of g messages)

-- what a burst changes in the kept replies
abbrev pub turns_of : GatewayValue → List ReadDatagram → List Turn
turns_of g messages = turns_in (table_of g messages)

-- where the next burst's search for identifiers begins
abbrev pub cursors_behind : GatewayValue → List ReadDatagram → Cursors
cursors_behind g messages = new_cursors (cursors_of g.state) (ids_in g (new_of g messages))

-- what is kept of jobs that are executed on the tables of the gateway
abbrev pub kept_of : GatewayValue → List BurstRequest → List Entry
kept_of g jobs = entries_of g.settings.mid (map sent_of jobs) (done_by g.settings.rules jobs g.state.maps).answer

-- what comes of the phases
pub record Phased : Type 0 where
  pub answers : List Datagram
  pub changes : List Change
  pub state : State

unfoldable pub phased : GatewayValue → List ReadDatagram → Phased
phased g messages =
    let new = new_of g messages in
    let done = carried g.settings.rules (paired_requests new (ids_in g new)) g.state.maps in
    let entries = entries_of g.settings.mid new done.answer in
    let changes = changes_of (turns_of g messages) entries in
    record {
      answers = answers_of g.settings.mid g.state.kept (texts_of entries) (table_of g messages);
      changes = changes;
      state = adopted g.state done.maps (cursors_behind g messages) changes;
    }

-- What came of a burst is what comes of its items one after another: it can be read, and may be adopted.
pub record IsOutcome (g : GatewayValue) (messages : List ReadDatagram) (answers : List Datagram) (m : Maps) (cursors : Cursors) (changes : List Change) : Type 0 where
  pub answers_are : answers ≡ (burst_outcome g messages).answers
  pub readable : AllZip (IsAnswerTo g.settings.mid) (questions messages) answers
  pub state : adopted g.state m cursors changes ≡ (burst_outcome g messages).after.state
  pub new : AreNew g.state.kept changes
  pub fits : IsWellFormed g.settings (adopted g.state m cursors changes)
