-- Datagrams that come and go over a network (own).
use Rattle.std.specs.Prelude.{◌≡◌, ℕ, ⊤, List, ◌++◌, map, Option, None, Some}
use Rattle.std.specs.declared.net.socket_addr.SocketAddr.{SocketAddr}

-- a datagram's bytes, and the address that it came from or goes to
pub record Packet : Type 0 where
  pub bytes : List ℕ
  pub address : SocketAddr

-- a datagram came, or one was handed over to be sent
pub data Event : Type 0 where
  came : Packet → Event
  sent : Packet → Event

abbrev pub came_all : List Packet → List Event
came_all packets = map (λ l. came l) packets

abbrev pub sent_all : List Packet → List Event
sent_all packets = map (λ l. sent l) packets

-- Where what happened is known, these events happened, in this order, and no others.
abbrev pub Happens : Option (List Event) → Option (List Event) → List Event → Type 0
Happens None after events = ⊤
Happens (Some xs) None events = ⊥
Happens (Some xs) (Some ys) events = ys ≡ xs ++ events
