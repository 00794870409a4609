-- The burst in hand (own).
use Rattle.std.specs.Prelude.{◌≡◌, ◌<◌, true, false, List, ◌++◌, length, Option}
use Rattle.gw_front.specs.declared.controllers.Controller.{Controller}
use Rattle.gw_front.specs.declared.inbox.Inbox.{Inbox}
use Rattle.gw_front.specs.Events.{Packet, Event, came_all, Happens}
use Rattle.gw_front.specs.Serving.{taken, burst_of, senders_of}

-- The inbox holds the burst of these datagrams with their senders; or it is refused, since memory was refused to one of
-- them.
pub record Holds (inbox : Inbox) (packets : List Packet) : Type 0 where
  pub datagrams : inbox.is_refused ≡ false → inbox.datagrams.items ≡ burst_of packets
  pub senders : inbox.is_refused ≡ false → inbox.senders.items ≡ senders_of packets
  pub refused : inbox.is_refused ≡ true → 0 < length packets

-- Datagrams came, and those that are taken went last into the burst in hand.
pub record Gathers (controllers : List Controller) (before after : Option (List Event)) (old new : Inbox) : Type 0 where
  pub packets : List Packet
  pub happened : Happens before after (came_all packets)
  pub holds : (earlier : List Packet) → Holds old (taken controllers earlier)
      → Holds new (taken controllers (earlier ++ packets))
