-- The forms of what requests ask: their TerminationIDs and descriptors (own).
use Rattle.std.specs.Prelude.{List, Result, Ok, Err}
use Rattle.std.specs.List.{All}
use Rattle.gw_base.specs.declared.code.Code.{Code}
use Rattle.gw_msg.specs.declared.message.Item.{Item}
use Rattle.gw_msg.specs.declared.message.Item.TheVariants as item
use Rattle.gw_msg.specs.declared.message.Message.{Message}
use Rattle.gw_tx.specs.KeptForms.{IsReadRequest}
use Rattle.gw_engine.specs.declared.reading.ReadDatagram.{ReadDatagram}

-- what a request names and describes has its forms
abbrev pub IsItemInForm : Item → Type 0
IsItemInForm (item.Request r) = IsReadRequest r
IsItemInForm (item.Ack ranges) = Unit {0}
IsItemInForm item.Ignored = Unit {0}

abbrev pub IsMessageInForm : Result Message Code → Type 0
IsMessageInForm (Ok m) = All IsItemInForm m.items
IsMessageInForm (Err code) = Unit {0}

abbrev pub IsInForm : ReadDatagram → Type 0
IsInForm h = IsMessageInForm h.message

-- so it has in all messages
abbrev pub AreInForm : List ReadDatagram → Type 0
AreInForm messages = All IsInForm messages
