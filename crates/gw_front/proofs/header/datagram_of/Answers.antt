use Rattle.gw_front.proofs.HeaderForms.{header_parts, at_none}
use Rattle.gw_front.proofs.header.datagram_of.Goals as goal

pub returns-in_err-number_of : goal.returns-in_err-number_of
returns-in_err-number_of c =
    at_none c.from_residual-in_err-number_of.result _ _ c.from_residual-in_err-number_of.ensures
    (λ peer len h. c.in_err-number_of.ensures peer
    (header_parts c.args.line.now c.in_ok-behind.field-0.now c.in_ok-peer.peer.now c.in_ok-peer.size.now peer len c.in_ok-behind.ensures c.in_ok-peer.ensures.split c.in_ok-peer.ensures.first h).0)

pub returns-in_err-length_of : goal.returns-in_err-length_of
returns-in_err-length_of c =
    at_none c.from_residual-in_err-length_of.result _ _ c.from_residual-in_err-length_of.ensures
    (λ peer len h. c.in_err-length_of.ensures len
    (header_parts c.args.line.now c.in_ok-behind.field-0.now c.in_ok-peer.peer.now c.in_ok-peer.size.now peer len c.in_ok-behind.ensures c.in_ok-peer.ensures.split c.in_ok-peer.ensures.first h).1)
