-- What the requests of datagrams name and describe has its forms.
use Rattle.std.proofs.Common.{ℕ, List, [], ◌∷◌, Result, Ok, Err}
use Rattle.std.specs.List.{All, AllZip}
use Rattle.std.proofs.lemmas.List.Elements.{All-nil, All-cons}
use Rattle.gw_base.specs.declared.code.Code.{Code}
use Rattle.gw_msg.specs.Grammar.{SpellsItem, SpellsBody}
use Rattle.gw_msg.specs.declared.message.Item.{Item}
use Rattle.gw_msg.specs.declared.message.Item.TheVariants as item
use Rattle.gw_msg.specs.declared.message.Message.{Message}
use Rattle.gw_tx.proofs.Requested.{request_asked}
use Rattle.gw_engine.specs.declared.datagram.Datagram.{Datagram}
use Rattle.gw_engine.specs.declared.reading.ReadDatagram.{ReadDatagram}
use Rattle.gw_engine.specs.Bursts.{IsMessageOf, IsReadAs}
use Rattle.gw_engine.specs.Forms.{IsItemInForm, IsMessageInForm, IsInForm, AreInForm}

item_asked : (i : Item) (text : List ℕ) → SpellsItem i text → IsItemInForm i
item_asked (item.Request r) text h = request_asked r text h
item_asked (item.Ack ranges) text h = tt
item_asked item.Ignored text h = tt

items_asked : (items : List Item) (text : List ℕ) → SpellsBody items text → All IsItemInForm items
items_asked [] text h = All-nil IsItemInForm
items_asked (i ∷ []) text h = All-cons IsItemInForm i [] (item_asked i text h) (All-nil IsItemInForm)
items_asked (i ∷ (j ∷ others)) text h = All-cons IsItemInForm i (j ∷ others) (item_asked i h.front h.first) (items_asked (j ∷ others) h.second.back h.second.second)

message_asked : (m : Result Message Code) (text : List ℕ) → IsMessageOf text m → IsMessageInForm m
message_asked (Ok m) text h = let body = h.second.second.second in items_asked m.items body.front body.first
message_asked (Err code) text h = tt

pub datagrams_in_form : (burst : List Datagram) (messages : List ReadDatagram) → AllZip IsReadAs burst messages → AreInForm messages
datagrams_in_form [] [] all = All-nil IsInForm
datagrams_in_form [] (h ∷ hs) all = absurd all
datagrams_in_form (d ∷ ds) [] all = absurd all
datagrams_in_form (d ∷ ds) (h ∷ hs) all = All-cons IsInForm h hs (message_asked h.message d.bytes all.0.message) (datagrams_in_form ds hs all.1)
