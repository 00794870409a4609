-- How many requests of a burst there are of each class (own).
use Rattle.std.specs.Prelude.{◌≡◌, Bool, true, false, List, count_by}
use Rattle.std.specs.List.{AllZip}
use Rattle.gw_kept.specs.Classes.{classes_of}
use Rattle.gw_kept.specs.declared.class.Class.{Class}
use Rattle.gw_kept.specs.declared.class.Class.TheVariants.{New, Repeat, Over, Nothing}
use Rattle.gw_engine.specs.declared.items.BurstItem.{BurstItem}
use Rattle.gw_engine.specs.declared.items.Content.{Content}
use Rattle.gw_engine.specs.declared.items.Content.TheVariants as content
use Rattle.gw_engine.specs.declared.counts.BurstCounts.{BurstCounts}
use Rattle.gw_engine.specs.declared.datagram.Datagram.{Datagram}
use Rattle.gw_engine.specs.declared.reading.ReadDatagram.{ReadDatagram}
use Rattle.gw_engine.specs.Bursts.{IsReadAs}
use Rattle.gw_engine.specs.Phases.{items_of, points_of}
use Rattle.gw_engine.specs.State.{GatewayValue}

abbrev pub is_new : Class → Bool
is_new New = true
is_new (Repeat from) = false
is_new Over = false
is_new Nothing = false

abbrev pub is_repeat : Class → Bool
is_repeat New = false
is_repeat (Repeat from) = true
is_repeat Over = false
is_repeat Nothing = false

abbrev pub is_over : Class → Bool
is_over New = false
is_over (Repeat from) = false
is_over Over = true
is_over Nothing = false

-- a text that is no message
abbrev pub is_fault_content : Content → Bool
is_fault_content (content.Request s) = false
is_fault_content (content.Ack r) = false
is_fault_content (content.Fault code) = true

abbrev pub is_fault : BurstItem → Bool
is_fault a = is_fault_content a.content

-- how many are new, repeats, and behind too many new ones; and how many datagrams are no message
abbrev pub counts_in : List BurstItem → List Class → BurstCounts
counts_in items classes = record {
  executed = count_by is_new classes;
  repeats = count_by is_repeat classes;
  over = count_by is_over classes;
  errors = count_by is_fault items;
}

-- the counts of a burst that was read so
abbrev pub counts_of : GatewayValue → List ReadDatagram → BurstCounts
counts_of g messages = counts_in (items_of messages) (classes_of g.state.kept (points_of (items_of messages)))

-- The counts are those of the classes of the burst's messages.
pub record CountsBurst (old : GatewayValue) (burst : List Datagram) (counts : BurstCounts) : Type 0 where
  pub messages : List ReadDatagram
  pub read : AllZip IsReadAs burst messages
  pub counts_are : counts ≡ counts_of old messages
