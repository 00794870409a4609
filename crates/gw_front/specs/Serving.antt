-- Serving: datagrams that come and go, turn after turn, and which fault comes when (own).
use Rattle.std.specs.Prelude.{◌≡◌, ℕ, ◌+◌, ◌<◌, ◌≤◌, ◌⊎◌, ◌&&◌, ⊤, Bool, nat_le, List, [], ◌∷◌, ◌++◌, length, map, flat_map, slice_get, All, Option, None, Some, Result, Ok, Err, IfSome}
use Rattle.std.specs.List.{filter, filter_map}
use Rattle.std.specs.Option.{option_map}
use Rattle.std.specs.declared.net.socket_addr.SocketAddr.{SocketAddr}
use Rattle.gw_engine.specs.declared.counts.BurstCounts.{BurstCounts}
use Rattle.gw_engine.specs.declared.datagram.Datagram.{Datagram}
use Rattle.gw_engine.specs.State.{GatewayValue}
use Rattle.gw_engine.specs.Bursts.{AnswersBurst}
use Rattle.gw_engine.specs.Counts.{CountsBurst}
use Rattle.gw_front.specs.declared.controllers.Controller.{Controller}
use Rattle.gw_front.specs.declared.serve_fault.ServeFault.{ServeFault}
use Rattle.gw_front.specs.declared.serve_fault.ServeFault.TheVariants.{Bind, Poll, Receive, NoMemory, Full}
use Rattle.gw_front.specs.declared.serve_options.ServeOptions.{ServeOptions}
use Rattle.gw_front.specs.declared.totals.Totals.{Totals}
use Rattle.gw_front.specs.Controllers.{is_admitted}
use Rattle.gw_front.specs.Events.{Packet, Event, came_all, sent_all, Happens}
use Rattle.gw_front.specs.Records.{longest_datagram, most_datagrams}
use Rattle.gw_front.specs.TotalNumbers.{IsFull, no_totals, with_burst, with_dropped}

-- ---- a burst

-- a burst that keeps the limits: 256 datagrams, of 65,507 bytes each
pub record IsWithinLimits (burst : List Datagram) : Type 0 where
  pub few : length burst ≤ most_datagrams
  pub short : All (λ d. length d.bytes ≤ longest_datagram) burst

-- it came from a controller, and is not too long
abbrev pub is_taken : List Controller → Packet → Bool
is_taken controllers p = is_admitted controllers p.address && nat_le (length p.bytes) longest_datagram

-- those that are taken, in order; the others are in no burst
abbrev pub taken : List Controller → List Packet → List Packet
taken controllers packets = filter (is_taken controllers) packets

-- a burst of packets, from this place on: each has its place as its peer
abbrev pub burst_from : ℕ → List Packet → List Datagram
burst_from place [] = []
burst_from place (packet ∷ packets) = record { peer = place; bytes = packet.bytes } ∷ burst_from (place + 1) packets

abbrev pub burst_of : List Packet → List Datagram
burst_of packets = burst_from 0 packets

-- who sent each of them
abbrev pub senders_of : List Packet → List SocketAddr
senders_of packets = map (λ p. p.address) packets

-- an answer goes to the sender in the place that is its peer
abbrev pub packet_to : List SocketAddr → Datagram → Option Packet
packet_to senders answer =
    option_map (λ a. record { bytes = answer.bytes; address = a }) (slice_get senders answer.peer)

abbrev pub packets_to : List SocketAddr → List Datagram → List Packet
packets_to senders answers = filter_map (packet_to senders) answers

-- ---- a turn

-- One turn of serving: the datagrams that came, and those that were handed over to be sent.
pub record Turn : Type 0 where
  pub came : List Packet
  pub sent : List Packet

-- The burst was executed and counted, and each answer sent to where its datagram came from.
abbrev pub IsExecuted : (burst sent : List Packet) → (old new : GatewayValue) → (before after : Totals) → Type 0
IsExecuted burst sent old new before after =
    (answers : List Datagram) × (counts : BurstCounts)
    × IsWithinLimits (burst_of burst) × AnswersBurst old (burst_of burst) answers new
    × CountsBurst old (burst_of burst) counts
    × (sent ≡ packets_to (senders_of burst) answers)
    × (after ≡ with_burst before (length burst) counts (length answers))

-- The burst was dropped: nothing was sent, and the gateway is as it was.
abbrev pub IsDropped : (sent : List Packet) → (old new : GatewayValue) → (before after : Totals) → Type 0
IsDropped sent old new before after = (sent ≡ []) × (new ≡ old) × (after ≡ with_dropped before)

abbrev pub IsAnswered : (burst sent : List Packet) → (old new : GatewayValue) → (before after : Totals) → Type 0
IsAnswered burst sent old new before after =
    IsExecuted burst sent old new before after ⊎ IsDropped sent old new before after

-- A turn comes where not too many bursts were dropped, and has one datagram or more that was taken.
pub record IsTurn (options : ServeOptions) (turn : Turn) (old new : GatewayValue) (before after : Totals) : Type 0 where
  pub goes_on : ¬ IsFull options.give_up before
  pub some : 0 < length (taken options.controllers.now turn.came)
  pub answered : IsAnswered (taken options.controllers.now turn.came) turn.sent old new before after

-- ---- turn after turn

-- the gateway and the totals came there by the turns, one after another
abbrev pub GoesBy : ServeOptions → List Turn → (old new : GatewayValue) → (before after : Totals) → Type 0
GoesBy options [] old new before after = (new ≡ old) × (after ≡ before)
GoesBy options (turn ∷ later) old new before after =
    (next : GatewayValue) × (between : Totals) × IsTurn options turn old next before between
    × GoesBy options later next new between after

-- what happens in a turn
abbrev pub events_of : Turn → List Event
events_of turn = came_all turn.came ++ sent_all turn.sent

-- a fault that comes where too many bursts in a row were dropped, and there alone
abbrev pub IsForDropped : Option ℕ → Totals → ServeFault → Type 0
IsForDropped give_up totals Full = IsFull give_up totals
IsForDropped give_up totals fault = ¬ IsFull give_up totals

-- As many turns as the options say, and the answer is what was executed; after a fault no more turns.
abbrev pub IsEnd : ServeOptions → (turns : ℕ) → Totals → Result Totals ServeFault → Type 0
IsEnd options turns totals (Ok executed) =
    (options.bursts ≡ Some turns) × (executed ≡ totals) × ¬ IsFull options.give_up totals
IsEnd options turns totals (Err fault) =
    IfSome options.bursts (λ most. turns ≤ most) × IsForDropped options.give_up totals fault

-- Nothing happened behind the turns; before a fault datagrams may have come that were not executed.
abbrev pub AreLast : List Packet → Result Totals ServeFault → Type 0
AreLast rest (Ok executed) = rest ≡ []
AreLast rest (Err fault) = ⊤

-- Serving went from turn to turn, and nothing else happened.
pub record Serves (options : ServeOptions) (before after : Option (List Event)) (old new : GatewayValue)
    (ended : Result Totals ServeFault) : Type 0 where
  pub turns : List Turn
  pub rest : List Packet
  pub totals : Totals
  pub goes : GoesBy options turns old new no_totals totals
  pub happened : Happens before after (flat_map events_of turns ++ came_all rest)
  pub end : IsEnd options (length turns) totals ended
  pub last : AreLast rest ended

-- the same, whatever happened: all that is known of a network of which no clause says what happens
abbrev pub ServesSome : ServeOptions → GatewayValue → GatewayValue → Result Totals ServeFault → Type 0
ServesSome options old new ended = Serves options None None old new ended

-- a fault that comes before the first burst alone
abbrev pub IsAtStart : ServeFault → Type 0
IsAtStart Bind = ⊤
IsAtStart NoMemory = ⊤
IsAtStart Poll = ⊥
IsAtStart Receive = ⊥
IsAtStart Full = ⊥
