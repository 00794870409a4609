use Rattle.std.proofs.Common.{◌≡◌, arith, rules, false, true, take, length-take-le}
use Rattle.gw_front.specs.Controllers.{is_admitted}
use Rattle.gw_front.specs.Events.{Packet}
use Rattle.gw_front.proofs.Gathering.{gathers_packet, gathers_none, taken-one, taken-stranger, taken-long}
use Rattle.gw_front.proofs.inbox.Inbox.receive.Goals as goal

pub returns-then-not-is_admitted-clause-gathered : goal.returns-then-not-is_admitted-clause-gathered
returns-then-not-is_admitted-clause-gathered g c =
    let stranger : is_admitted c.args.controllers.now c.in-Ok.sender ≡ false = search rules in
    let packet : Packet = record { bytes = take c.in-Ok.count c.receive.new.buffer; address = c.in-Ok.sender } in
    gathers_none (g.S.Exchange.course c.args.exchange.now) (g.S.Exchange.course c.receive.new.self) packet
    c.in-Ok.ensures.came (taken-stranger c.args.controllers.now packet stranger)

pub returns-then-count-gt-LONGEST_DATAGRAM-clause-gathered : goal.returns-then-count-gt-LONGEST_DATAGRAM-clause-gathered
returns-then-count-gt-LONGEST_DATAGRAM-clause-gathered g c =
    let packet : Packet = record { bytes = take c.in-Ok.count c.receive.new.buffer; address = c.in-Ok.sender } in
    let all = length-take-le c.in-Ok.count c.receive.new.buffer c.in-Ok.ensures.bound in
    gathers_none (g.S.Exchange.course c.args.exchange.now) (g.S.Exchange.course c.receive.new.self) packet
    c.in-Ok.ensures.came (taken-long c.args.controllers.now packet (omega arith))

pub returns-else-count-gt-LONGEST_DATAGRAM-clause-gathered : goal.returns-else-count-gt-LONGEST_DATAGRAM-clause-gathered
returns-else-count-gt-LONGEST_DATAGRAM-clause-gathered g c =
    let admitted : is_admitted c.args.controllers.now c.in-Ok.sender ≡ true = search rules in
    let packet : Packet = record { bytes = take c.in-Ok.count c.receive.new.buffer; address = c.in-Ok.sender } in
    let all = length-take-le c.in-Ok.count c.receive.new.buffer c.in-Ok.ensures.bound in
    gathers_packet (g.S.Exchange.course c.args.exchange.now) (g.S.Exchange.course c.receive.new.self) packet _
    c.in-Ok.ensures.came (taken-one c.args.controllers.now packet admitted (omega arith)) c.take.ensures.taken
