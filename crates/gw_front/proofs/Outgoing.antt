-- Answers sent, one after another.
use Rattle.std.proofs.Common.{◌≡◌, ℕ, ◌+◌, ◌<◌, List, [], ◌∷◌, ◌++◌, length, take, get_or, Option, ap, sym, subst, ◌∙◌}
use Rattle.std.proofs.lemmas.List.{map-append, take_more}
use Rattle.std.proofs.lemmas.List.Elements.{filter_map-append}
use Rattle.std.specs.declared.net.socket_addr.SocketAddr.{SocketAddr}
use Rattle.gw_engine.specs.declared.datagram.Datagram.{Datagram}
use Rattle.gw_front.specs.Events.{Event, sent, sent_all, Happens}
use Rattle.gw_front.specs.Serving.{packet_to, packets_to}
use Rattle.gw_front.proofs.Happening.{Happens-trans}

packets-more : (senders : List SocketAddr) (ds : List Datagram) (i : ℕ) (d : Datagram) → i < length ds
    → d ≡ get_or ds i d
    → packets_to senders (take (i + 1) ds) ≡ packets_to senders (take i ds) ++ packets_to senders (d ∷ [])
packets-more senders ds i d within is =
    ap (packets_to senders) (take_more ds i d within)
    ∙ filter_map-append (packet_to senders) (take i ds) (get_or ds i d ∷ [])
    ∙ ap (λ (x : Datagram). packets_to senders (take i ds) ++ packets_to senders (x ∷ [])) (sym is)

events-more : (senders : List SocketAddr) (ds : List Datagram) (i : ℕ) (d : Datagram) → i < length ds
    → d ≡ get_or ds i d
    → sent_all (packets_to senders (take (i + 1) ds))
    ≡ sent_all (packets_to senders (take i ds)) ++ sent_all (packets_to senders (d ∷ []))
events-more senders ds i d within is =
    ap sent_all (packets-more senders ds i d within is)
    ∙ map-append (λ l. sent l) (packets_to senders (take i ds)) (packets_to senders (d ∷ []))

-- one answer more
pub sent_more : (a b c : Option (List Event)) (senders : List SocketAddr) (ds : List Datagram) (i : ℕ) (d : Datagram)
    → i < length ds → d ≡ get_or ds i d
    → Happens a b (sent_all (packets_to senders (take i ds))) → Happens b c (sent_all (packets_to senders (d ∷ [])))
    → Happens a c (sent_all (packets_to senders (take (i + 1) ds)))
sent_more a b c senders ds i d within is h more =
    subst (λ (l : List Event). Happens a c l) (sym (events-more senders ds i d within is))
    (Happens-trans a b c _ _ h more)
