use Rattle.std.proofs.Common.{sym}
use Rattle.gw_cmd.proofs.Ready.{ready, ready_new}
use Rattle.gw_cmd.proofs.execute.on_allowed.Goals as goal

pub executed-requires-clause-ready : goal.executed-requires-clause-ready
executed-requires-clause-ready c =
    let a = c.args in
    ready a.draft.now.keys a.execution.at a.execution.slot a.prepared.now.command.now a.draft.now.maps c.requires.covered c.requires.allowed.0 (sym c.in_default.ensures)

pub executed-requires-clause-new : goal.executed-requires-clause-new
executed-requires-clause-new c =
    let a = c.args in
    ready_new a.draft.now.keys a.execution.at a.execution.slot a.prepared.now.command.now a.draft.now.maps c.requires.covered c.requires.allowed.0
