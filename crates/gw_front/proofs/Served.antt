-- How far serving has come.
use Rattle.std.proofs.Common.{◌≡◌, ℕ, ◌+◌, ◌-◌, ◌≤◌, ◌<◌, List, [], ◌∷◌, ◌++◌, length, flat_map, refl, arith, length-append, inl, inr, subst, sym, ap, ◌∙◌}
use Rattle.std.specs.Prelude.{◌≢◌, Option, Some, None, Err, IfSome, ⊤, false, suc}
use Rattle.std.specs.declared.net.socket_addr.SocketAddr.{SocketAddr}
use Rattle.gw_engine.specs.declared.counts.BurstCounts.{BurstCounts}
use Rattle.gw_engine.specs.declared.datagram.Datagram.{Datagram}
use Rattle.gw_engine.specs.Bursts.{AnswersBurst}
use Rattle.gw_engine.specs.Counts.{CountsBurst}
use Rattle.std.proofs.lemmas.Grind.{flat_map-append}
use Rattle.std.proofs.lemmas.List.{append-nil}
use Rattle.gw_engine.specs.State.{GatewayValue}
use Rattle.gw_front.specs.Events.{Packet, Event, sent_all, Happens}
use Rattle.gw_front.specs.Inboxes.{Holds, Gathers}
use Rattle.gw_front.specs.Serving.{Turn, IsTurn, IsAnswered, IsWithinLimits, GoesBy, Serves, IsForDropped, burst_from, burst_of, taken, events_of, packets_to, senders_of}
use Rattle.gw_front.specs.TotalNumbers.{IsFull, no_totals, with_burst, with_dropped}
use Rattle.gw_front.specs.declared.inbox.Inbox.{Inbox}
use Rattle.gw_front.specs.declared.serve_fault.ServeFault.{ServeFault}
use Rattle.gw_front.specs.declared.serve_fault.ServeFault.TheVariants.{Full}
use Rattle.gw_front.specs.declared.serve_options.ServeOptions.{ServeOptions}
use Rattle.gw_front.specs.declared.server.Server.{Server}
use Rattle.gw_front.specs.declared.totals.Totals.{Totals}
use Rattle.gw_front.specs.Servers.{HasSame}
use Rattle.gw_front.proofs.Happening.{Happens-trans, Happens-refl}

-- so many turns are still to come, of as many as were done
abbrev pub AreLeft : Option ℕ → ℕ → Option ℕ → Type 0
AreLeft None done None = ⊤
AreLeft None done (Some left) = ⊥
AreLeft (Some most) done None = ⊥
AreLeft (Some most) done (Some left) = most ≡ done + left

-- some turns were done, and `left` are still to come
pub record IsPartway (options : ServeOptions) (left : Option ℕ) (before now : Option (List Event))
    (old new : GatewayValue) (totals : Totals) : Type 0 where
  pub turns : List Turn
  pub goes : GoesBy options turns old new no_totals totals
  pub happened : Happens before now (flat_map events_of turns)
  pub are_left : AreLeft options.bursts (length turns) left
  pub goes_on : ¬ IsFull options.give_up totals

-- nothing was dropped yet
none_dropped : (give_up : Option ℕ) → ¬ IsFull give_up no_totals
none_dropped None h = h
none_dropped (Some most) h = omega (arith, h.1)

-- ---- the end

no_more : (most left : Option ℕ) (n : ℕ) → AreLeft most n left → IfSome most (λ m. n ≤ m)
no_more None left n h = tt
no_more (Some most) None n h = absurd h
no_more (Some most) (Some left) n h = omega (arith, h)

-- a fault for another reason
for_other : (give_up : Option ℕ) (totals : Totals) (fault : ServeFault) → ¬ IsFull give_up totals → ¬ (fault ≡ Full)
    → IsForDropped give_up totals fault
for_other give_up totals Full h other = absurd (other refl)
for_other give_up totals fault h other = h

pub stopped : (options : ServeOptions) (left : Option ℕ) (before now after : Option (List Event))
    (old new : GatewayValue) (totals : Totals) (i j : Inbox) (fault : ServeFault) → ¬ (fault ≡ Full)
    → IsPartway options left before now old new totals
    → Gathers options.controllers.now now after i j → Serves options before after old new (Err fault)
stopped options left before now after old new totals i j fault other h more = record {
  turns = h.turns;
  rest = more.packets;
  totals = totals;
  goes = h.goes;
  happened = Happens-trans before now after _ _ h.happened more.happened;
  end = (
    no_more options.bursts left (length h.turns) h.are_left,
    for_other options.give_up totals fault h.goes_on
        other,
  );
  last = tt;
}

-- ---- one turn more

goes_more : (options : ServeOptions) (turns : List Turn) (turn : Turn) (old middle new : GatewayValue)
    (before between after : Totals) → GoesBy options turns old middle before between
    → IsTurn options turn middle new between after
    → GoesBy options (turns ++ turn ∷ []) old new before after
goes_more options [] turn old middle new before between after (e, f) h = (
  new,
  after,
  subst (λ t. IsTurn options turn old new t after) f
      (subst (λ g. IsTurn options turn g new between after) e h),
  (refl, refl),
)
goes_more options (first ∷ later) turn old middle new before between after goes h =
    (goes.0, goes.1, goes.2, goes_more options later turn goes.0 middle new goes.1 between after goes.3 h)

-- what is to come behind a turn of the loop
pub data IsNext : Option ℕ → Option ℕ → Type 0 where
  endless : IsNext None None
  counted : (left : ℕ) → left ≢ 0 → IsNext (Some left) (Some (left - 1))

pub next_none : (left next : Option ℕ) → left ≡ None → next ≡ None → IsNext left next
next_none left next e f = rw (e, f) endless

pub next_some : (left next : Option ℕ) (count : ℕ) → left ≡ Some count → next ≡ Some (count - 1) → count ≢ 0
    → IsNext left next
next_some left next count e f some = rw (e, f) (counted count some)

after_one : (most left next : Option ℕ) (turns : List Turn) (turn : Turn) → IsNext left next
    → AreLeft most (length turns) left → AreLeft most (length (turns ++ turn ∷ [])) next
after_one None left next turns turn (endless) h = tt
after_one (Some most) left next turns turn (endless) h = absurd h
after_one None left next turns turn (counted k some) h = absurd h
after_one (Some most) left next turns turn (counted k some) h = omega (arith, h, length-append turns (turn ∷ []))

-- what became of a burst
abbrev pub IsAnsweredBy : Inbox → (a b : Option (List Event)) → (old new : GatewayValue) → (before after : Totals)
    → Type 0
IsAnsweredBy inbox a b old new before after =
    (packets : List Packet) → Holds inbox packets → (sent : List Packet) × Happens a b (sent_all sent)
    × IsAnswered packets sent old new before after

-- Some turns were done, the last of them just now.
record IsTurned (options : ServeOptions) (next : Option ℕ) (before after : Option (List Event)) (old new : GatewayValue)
    (totals : Totals) : Type 0 where
  turns : List Turn
  goes : GoesBy options turns old new no_totals totals
  happened : Happens before after (flat_map events_of turns)
  are_left : AreLeft options.bursts (length turns) next

-- what a server had at the start, before the turn, with its burst and behind it
module _ (first behind : Server) (after : Option (List Event)) (new : GatewayValue)
    {before_turn with_burst_in_hand : Server} {left next : Option ℕ} {before now between : Option (List Event)}
    {old middle : GatewayValue} (same_options : before_turn.options ≡ first.options)
    (same : HasSame before_turn with_burst_in_hand) (kept : behind.options ≡ with_burst_in_hand.options)
    (h : IsPartway first.options left before now old middle before_turn.totals) (is_next : IsNext left next)
    (empty : Holds before_turn.inbox [])
    (gathered : Gathers before_turn.options.controllers.now now between before_turn.inbox with_burst_in_hand.inbox)
    (some : (packets : List Packet) → Holds with_burst_in_hand.inbox packets → 0 < length packets)
    (answered : IsAnsweredBy with_burst_in_hand.inbox between after middle new with_burst_in_hand.totals
    behind.totals) where
  all_kept : behind.options ≡ first.options
  all_kept = kept ∙ same.options ∙ same_options

  turned : IsTurned first.options next before after old new behind.totals
  turned =
      let options = first.options in
      let more : Gathers options.controllers.now now between before_turn.inbox with_burst_in_hand.inbox =
      subst (λ (o : ServeOptions). Gathers o.controllers.now now between before_turn.inbox with_burst_in_hand.inbox)
      same_options gathered in
      let came = taken options.controllers.now more.packets in
      let holds : Holds with_burst_in_hand.inbox came = more.holds [] empty in
      let burst = subst (λ (t : Totals). IsAnsweredBy with_burst_in_hand.inbox between after middle new t behind.totals)
      same.totals answered came holds in
      let turn : Turn = record { came = more.packets; sent = burst.0 } in
      let is_turn : IsTurn options turn middle new before_turn.totals behind.totals =
      record { goes_on = h.goes_on; some = some came holds; answered = burst.2 } in
      record {
        turns = h.turns ++ turn ∷ [];
        goes = goes_more options h.turns turn old middle new no_totals before_turn.totals behind.totals h.goes is_turn;
        happened = subst (λ (l : List Event). Happens before after l)
            (sym (flat_map-append events_of h.turns (turn ∷ [])
            ∙ ap (λ (l : List Event). flat_map events_of h.turns ++ l) (append-nil (events_of turn))))
            (Happens-trans before now after _ _ h.happened
            (Happens-trans now between after _ _ more.happened burst.1));
        are_left = after_one options.bursts left next h.turns turn is_next h.are_left;
      }

  pub server_stepped : ¬ IsFull behind.options.give_up behind.totals
      → IsPartway first.options next before after old new behind.totals
  server_stepped goes_on = record {
    turns = turned.turns;
    goes = turned.goes;
    happened = turned.happened;
    are_left = turned.are_left;
    goes_on = subst (λ (o : ServeOptions). ¬ IsFull o.give_up behind.totals) all_kept goes_on;
  }

  -- too many were dropped
  pub server_overfull : (fault : ServeFault) → fault ≡ Full → IsFull behind.options.give_up behind.totals
      → Serves first.options before after old new (Err fault)
  server_overfull fault is full = record {
    turns = turned.turns;
    rest = [];
    totals = behind.totals;
    goes = turned.goes;
    happened = subst (λ (l : List Event). Happens before after l) (sym (append-nil (flat_map events_of turned.turns)))
        turned.happened;
    end = (
      no_more first.options.bursts next (length turned.turns) turned.are_left,
      subst (λ (f : ServeFault). IsForDropped first.options.give_up behind.totals f) (sym is)
          (subst (λ (o : ServeOptions). IsFull o.give_up behind.totals) all_kept full),
    );
    last = tt;
  }

-- ---- one burst

length-burst_from : (place : ℕ) (packets : List Packet) → length (burst_from place packets) ≡ length packets
length-burst_from place [] = refl
length-burst_from place (packet ∷ packets) = ap suc (length-burst_from (place + 1) packets)

length-burst : (packets : List Packet) → length (burst_of packets) ≡ length packets
length-burst packets = length-burst_from 0 packets

-- the burst was executed, and its answers sent
pub executed : (inbox : Inbox) (packets : List Packet) (answers : List Datagram) (counts : BurstCounts)
    (a b : Option (List Event)) (old new : GatewayValue) (before after : Totals) → Holds inbox packets
    → inbox.is_refused ≡ false
    → IsWithinLimits inbox.datagrams.items → AnswersBurst old inbox.datagrams.items answers new
    → CountsBurst old inbox.datagrams.items counts → Happens a b (sent_all (packets_to inbox.senders.items answers))
    → after ≡ with_burst before (length inbox.datagrams.items) counts (length answers)
    → (sent : List Packet) × Happens a b (sent_all sent) × IsAnswered packets sent old new before after
executed inbox packets answers counts a b old new before after h whole limits answered numbers happened total =
    let same : inbox.datagrams.items ≡ burst_of packets = h.datagrams whole in (
      packets_to (senders_of packets) answers,
      subst (λ (l : List SocketAddr). Happens a b (sent_all (packets_to l answers))) (h.senders whole) happened,
      inl (
        answers,
        counts,
        subst (λ (l : List Datagram). IsWithinLimits l) same limits,
        subst (λ (l : List Datagram). AnswersBurst old l answers new) same answered,
        subst (λ (l : List Datagram). CountsBurst old l counts) same numbers,
        refl,
        total ∙ ap (λ (n : ℕ). with_burst before n counts (length answers))
            (ap (λ (l : List Datagram). length l) same ∙ length-burst packets),
      ),
    )

-- it was dropped
pub dropped : (packets : List Packet) (a : Option (List Event)) (old new : GatewayValue) (before after : Totals)
    → new ≡ old → after ≡ with_dropped before
    → (sent : List Packet) × Happens a a (sent_all sent) × IsAnswered packets sent old new before after
dropped packets a old new before after same total = ([], Happens-refl a, inr (refl, same, total))

-- ---- before the first turn

some_turns : (most : Option ℕ) → IfSome most (λ m. 0 ≤ m)
some_turns None = tt
some_turns (Some m) = omega arith

pub not_begun : (options : ServeOptions) (a : Option (List Event)) (gateway : GatewayValue) (fault : ServeFault)
    → ¬ (fault ≡ Full) → Serves options a a gateway gateway (Err fault)
not_begun options a gateway fault other = record {
  turns = [];
  rest = [];
  totals = no_totals;
  goes = (refl, refl);
  happened = Happens-refl a;
  end = (some_turns options.bursts, for_other options.give_up no_totals fault (none_dropped options.give_up) other);
  last = tt;
}
