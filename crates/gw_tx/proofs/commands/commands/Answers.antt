use Rattle.std.proofs.Common.{ℕ, true, false, List, ◌+◌, drop, sym, subst, ◌∙◌}
use Rattle.std.proofs.Math.ListN.{drop_of_length-le}
use Rattle.gw_msg.specs.declared.message.Command.{Command}
use Rattle.gw_reply.specs.Replies.{command_reply_text}
use Rattle.gw_table.proofs.Folding.{rest_of}
use Rattle.gw_refusal.specs.declared.at.At.{At}
use Rattle.gw_reserve.specs.Owned.{paired_commands}
use Rattle.gw_tx.specs.declared.limited_text.Progress.{Progress}
use Rattle.gw_tx.specs.Footprints.{list_keys, Covers}
use Rattle.gw_tx.specs.Transactions.{commands}
use Rattle.gw_reply.specs.declared.reply.CommandReply.{CommandReply}
use Rattle.gw_tx.proofs.CommandsSoFar.{no_command_yet, no_command_left, next_unused, next_covered, last_command, one_command_more}
use Rattle.gw_tx.proofs.Steps.{IsAll}
use Rattle.gw_tx.proofs.commands.commands.Goals as goal

pub loop-command-init : goal.loop-command-init
loop-command-init c =
    let a = c.args in
    no_command_yet a.task.now.rules.now a.late.now a.draft.now a.writer a.at a.task.now.slots.now c.as_slice-sent.result.now
    (subst (λ (l : List Command). Covers a.draft.now (list_keys a.at (paired_commands a.task.now.slots.now l) a.draft.now.maps)) (sym c.as_slice-sent.ensures) c.requires.covered) c.requires.unused

pub attempt-requires-clause-covered : goal.attempt-requires-clause-covered
attempt-requires-clause-covered c =
    let i : ℕ = c.loop-command.command-index in
    let sent : List Command = c.as_slice-sent.result.now in
    let command : Command = c.command-item.result in
    next_covered c.loop-command.invariant c.next_entry-slot.result.0 command c.new-prepared.result.command.now (drop (i + 1) sent) c.next_entry-slot.ensures.own c.new-prepared.ensures.command (rest_of sent i command command c.loop-command-test.true c.command-item.is)

pub attempt-requires-clause-unused : goal.attempt-requires-clause-unused
attempt-requires-clause-unused c =
    let i : ℕ = c.loop-command.command-index in
    let sent : List Command = c.as_slice-sent.result.now in
    let command : Command = c.command-item.result in
    next_unused c.loop-command.invariant c.next_entry-slot.result.0 command c.new-prepared.result.command.now (drop (i + 1) sent) c.next_entry-slot.ensures.own c.new-prepared.ensures.command (rest_of sent i command command c.loop-command-test.true c.command-item.is)

pub returns-then-done : goal.returns-then-done
returns-then-done c =
    let a = c.args in
    let i : ℕ = c.loop-command.command-index in
    let sent : List Command = c.as_slice-sent.result.now in
    let command : Command = c.command-item.result in
    let done : Progress At CommandReply = c.in_ok-done.done in
    let all = subst (λ (l : List Command). IsAll command_reply_text a.writer (commands a.task.now.rules.now a.late.now a.at (paired_commands a.task.now.slots.now l) a.draft.now.maps) c.attempt.new.draft.maps (record { next = done.next; writer = done.writer; stopped = true })) c.as_slice-sent.ensures
    (last_command c.loop-command.invariant c.next_entry-slot.result.0 command c.new-prepared.result.command.now (drop (i + 1) sent) c.next_entry-slot.ensures.own c.new-prepared.ensures.command (rest_of sent i command command c.loop-command-test.true c.command-item.is)
    c.new-prepared.result.rules.now c.next_entry-slot.result.1.now c.attempt.new.draft done c.new-prepared.ensures.rules c.next_entry-slot.ensures.later c.in_ok-done.ensures.maps c.in_ok-done.ensures.answer c.if-done.true) in
    record { maps = all.maps; answer = all.answer; keys = c.in_ok-done.ensures.keys ∙ c.loop-command.invariant.keys }

pub loop-command-preserved : goal.loop-command-preserved
loop-command-preserved c =
    let i : ℕ = c.loop-command.command-index in
    let sent : List Command = c.as_slice-sent.result.now in
    let command : Command = c.command-item.result in
    one_command_more c.loop-command.invariant c.next_entry-slot.result.0 command c.new-prepared.result.command.now (drop (i + 1) sent) c.next_entry-slot.ensures.own c.new-prepared.ensures.command (rest_of sent i command command c.loop-command-test.true c.command-item.is)
    c.new-prepared.result.rules.now c.next_entry-slot.result.1.now c.attempt.new.draft c.in_ok-done.done c.new-prepared.ensures.rules c.next_entry-slot.ensures.later c.in_ok-done.ensures.maps c.in_ok-done.ensures.answer c.requires.plain c.in_ok-done.ensures.keys c.if-done.false

pub returns : goal.returns
returns c =
    let a = c.args in
    let now = c.loop-command in
    let all = subst (λ (l : List Command). IsAll command_reply_text a.writer (commands a.task.now.rules.now a.late.now a.at (paired_commands a.task.now.slots.now l) a.draft.now.maps) now.draft.maps (record { next = now.at; writer = now.writer; stopped = false })) c.as_slice-sent.ensures
    (no_command_left now.invariant (drop_of_length-le c.as_slice-sent.result.now c.loop-command-test.false)) in
    record { maps = all.maps; answer = all.answer; keys = now.invariant.keys }
