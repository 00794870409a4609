use Rattle.std.proofs.Common.{sym, ◌∙◌}
use Rattle.gw_front.proofs.Gathering.{Holds-more, on_ok}
use Rattle.gw_front.proofs.inbox.Inbox.take.Goals as goal

pub returns-else-is_err-clause-taken : goal.returns-else-is_err-clause-taken
returns-else-is_err-clause-taken c = λ packets h.
    Holds-more c.args.self.now c.push.new.self packets (record { bytes = c.args.bytes.now; address = c.args.sender }) h
    (λ e. (sym c.push.ensures.mark ∙ e, on_ok c.push.result (cc) c.push.ensures.datagrams, on_ok c.push.result (cc) c.push.ensures.senders))
