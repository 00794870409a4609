-- How a burst is gathered, datagram after datagram.
use Rattle.std.proofs.Common.{◌≡◌, ℕ, ◌+◌, ◌<◌, ◌≤◌, Bool, true, false, ◌&&◌, refl, List, [], ◌∷◌, ◌++◌, length, cond, Option, ap, sym, subst, ◌∙◌, append_assoc, arith, length-append}
use Rattle.std.specs.Prelude.{Result, Ok, Err, is_err, OnOk}
use Rattle.std.proofs.lemmas.Bool.{le-leb, lt-leb, false≢true}
use Rattle.std.proofs.lemmas.List.{append-nil, map-append, length-map}
use Rattle.std.proofs.lemmas.List.Elements.{filter-append}
use Rattle.std.specs.declared.net.socket_addr.SocketAddr.{SocketAddr}
use Rattle.gw_engine.specs.declared.datagram.Datagram.{Datagram}
use Rattle.gw_front.specs.Controllers.{is_admitted}
use Rattle.gw_front.specs.declared.controllers.Controller.{Controller}
use Rattle.gw_front.specs.Events.{Packet, Event, came, came_all, Happens}
use Rattle.gw_front.specs.Inboxes.{Holds, Gathers}
use Rattle.gw_front.specs.Serving.{taken, is_taken, burst_from, burst_of}
use Rattle.gw_front.specs.Servers.{HasSame}
use Rattle.gw_front.specs.declared.inbox.Inbox.{Inbox}
use Rattle.gw_front.specs.declared.serve_options.ServeOptions.{ServeOptions}
use Rattle.gw_front.specs.declared.server.Server.{Server}
use Rattle.gw_front.proofs.Happening.{Happens-trans, Happens-nothing}

-- ---- a burst with one datagram more

datagram_at : ℕ → Packet → Datagram
datagram_at n l = record { peer = n; bytes = l.bytes }

burst_from-more : (place : ℕ) (packets : List Packet) (packet : Packet)
    → burst_from place (packets ++ packet ∷ [])
    ≡ burst_from place packets ++ record { peer = place + length packets; bytes = packet.bytes } ∷ []
unfolding datagram_at
burst_from-more place [] packet = let e : place ≡ place + 0 = omega arith in ap (λ (n : ℕ). datagram_at n packet ∷ []) e
burst_from-more place (first ∷ packets) packet =
    let e : (place + 1) + length packets ≡ place + length (first ∷ packets) = omega arith in
    ap (λ (l : List Datagram). datagram_at place first ∷ l)
    (burst_from-more (place + 1) packets packet
    ∙ ap (λ (n : ℕ). burst_from (place + 1) packets ++ datagram_at n packet ∷ []) e)

burst_of-more : (packets : List Packet) (packet : Packet)
    → burst_of (packets ++ packet ∷ [])
    ≡ burst_of packets ++ record { peer = length packets; bytes = packet.bytes } ∷ []
unfolding datagram_at
burst_of-more packets packet =
    let e : 0 + length packets ≡ length packets = omega arith in
    burst_from-more 0 packets packet ∙ ap (λ (n : ℕ). burst_of packets ++ datagram_at n packet ∷ []) e

-- the datagram went last
pub Holds-more : (old new : Inbox) (packets : List Packet) (packet : Packet) → Holds old packets
    → (new.is_refused ≡ false
    → (old.is_refused ≡ false)
    × (new.datagrams.items
    ≡ old.datagrams.items ++ record { peer = length old.senders.items; bytes = packet.bytes } ∷ [])
    × (new.senders.items ≡ old.senders.items ++ packet.address ∷ []))
    → Holds new (packets ++ packet ∷ [])
unfolding datagram_at
Holds-more old new packets packet h push = record {
  datagrams = λ e.
      let p = push e in
      let same : length old.senders.items ≡ length packets =
      ap (λ (l : List SocketAddr). length l) (h.senders p.0) ∙ length-map packets (λ l. l.address) in
      p.1 ∙ ap (λ (l : List Datagram). l ++ datagram_at (length old.senders.items) packet ∷ []) (h.datagrams p.0)
      ∙ ap (λ (n : ℕ). burst_of packets ++ datagram_at n packet ∷ []) same ∙ sym (burst_of-more packets packet);
  senders = λ e.
      let p = push e in
      p.2 ∙ ap (λ (l : List SocketAddr). l ++ packet.address ∷ []) (h.senders p.0)
      ∙ sym (map-append (λ l. l.address) packets (packet ∷ []));
  refused = λ e. omega (arith, length-append packets (packet ∷ []));
}

-- ---- which are taken

pub taken-one : (controllers : List Controller) (packet : Packet) → is_admitted controllers packet.address ≡ true
    → length packet.bytes ≤ 65507 → taken controllers (packet ∷ []) ≡ packet ∷ []
taken-one controllers packet admitted short = rw (admitted, le-leb (length packet.bytes) 65507 short) refl

pub taken-stranger : (controllers : List Controller) (packet : Packet) → is_admitted controllers packet.address ≡ false
    → taken controllers (packet ∷ []) ≡ []
taken-stranger controllers packet stranger = rw stranger refl

pub taken-long : (controllers : List Controller) (packet : Packet) → 65507 < length packet.bytes
    → taken controllers (packet ∷ []) ≡ []
taken-long controllers packet long =
    rw (lt-leb (length packet.bytes) 65507 long) (none (is_admitted controllers packet.address))
  where
    none : (a : Bool) → cond (a && false) (packet ∷ []) [] ≡ []
    none true = refl
    none false = refl

-- ---- receipts

-- a datagram came, of which this much is taken
pub gathers_packet : {controllers : List Controller} {i j : Inbox} (a b : Option (List Event)) (packet : Packet) (l : List Packet)
    → Happens a b (came_all (packet ∷ [])) → taken controllers (packet ∷ []) ≡ l
    → ((packets : List Packet) → Holds i packets → Holds j (packets ++ l)) → Gathers controllers a b i j
gathers_packet {controllers} {i} {j} a b packet l h e takes = record {
  packets = packet ∷ [];
  happened = h;
  holds = λ earlier p. subst (λ (x : List Packet). Holds j x)
      (sym (filter-append (is_taken controllers) earlier (packet ∷ [])
      ∙ ap (λ (x : List Packet). taken controllers earlier ++ x) e)) (takes (taken controllers earlier) p);
}

-- it is not taken
pub gathers_none : {controllers : List Controller} {i : Inbox} (a b : Option (List Event)) (packet : Packet)
    → Happens a b (came_all (packet ∷ [])) → taken controllers (packet ∷ []) ≡ [] → Gathers controllers a b i i
gathers_none {i = i} a b packet h none =
    gathers_packet a b packet [] h none (λ packets p. subst (λ (x : List Packet). Holds i x) (sym (append-nil packets)) p)

gathers_more : {controllers : List Controller} {a b c : Option (List Event)} {i j k : Inbox}
    → Gathers controllers a b i j → Gathers controllers b c j k → Gathers controllers a c i k
gathers_more {controllers} {a} {b} {c} {i} {j} {k} p q = record {
  packets = p.packets ++ q.packets;
  happened = subst (λ (l : List Event). Happens a c l) (sym (map-append (λ l. came l) p.packets q.packets))
      (Happens-trans a b c _ _ p.happened q.happened);
  holds = λ earlier h. subst (λ (l : List Packet). Holds k (taken controllers l))
      (append_assoc earlier p.packets q.packets) (q.holds (earlier ++ p.packets) (p.holds earlier h));
}

pub on_ok : {A E : Type 0} (r : Result A E) {P : Type 0} → is_err r ≡ false → OnOk r P → P
on_ok (Ok done) e h = h
on_ok (Err fault) e h = absurd (false≢true (sym e))

-- nothing happened behind it
pub gathers_still : {controllers : List Controller} {a b c : Option (List Event)} {i j : Inbox}
    → Gathers controllers a b i j → Happens b c [] → Gathers controllers a c i j
gathers_still {controllers} {a} {b} {c} p h =
    record { packets = p.packets; happened = Happens-nothing a b c _ p.happened h; holds = p.holds }

-- ---- of a server

pub HasSame-trans : {a b c : Server} → HasSame a b → HasSame b c → HasSame a c
HasSame-trans p q = record { options = q.options ∙ p.options; totals = q.totals ∙ p.totals }

-- more by a server that is told the same
pub gathers_next : {old now : Server} {a b c : Option (List Event)} {i j k : Inbox} → HasSame old now
    → Gathers old.options.controllers.now a b i j → Gathers now.options.controllers.now b c j k
    → Gathers old.options.controllers.now a c i k
gathers_next {b = b} {c = c} {j = j} {k = k} same p q =
    gathers_more p (subst (λ (o : ServeOptions). Gathers o.controllers.now b c j k) same.options q)
