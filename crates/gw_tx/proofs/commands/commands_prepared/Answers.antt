use Rattle.std.proofs.Common.{◌≡◌, ℕ, ◌<◌, List, [], ◌+◌, length, drop, get_or, refl, ◌∙◌, arith}
use Rattle.gw_msg.specs.declared.message.Command.{Command}
use Rattle.gw_cmd.specs.declared.prepared.Prepared.{Prepared}
use Rattle.gw_tx.specs.Properties.{ArePlain}
use Rattle.gw_tx.proofs.CommandsSoFar.{no_command_yet, no_command_left, next_covered, last_command, one_command_more}
use Rattle.gw_tx.proofs.Prepared.{none_prepared, next_prepared, next_under, still_prepared}
use Rattle.gw_tx.proofs.commands.commands_prepared.Goals as goal

none_late : ArePlain []
none_late = record { low = refl; unlinked = refl }

pub loop-command-init : goal.loop-command-init
loop-command-init c =
    let a = c.args in
    record {
      so_far = no_command_yet a.task.now.rules.now [] a.draft.now a.writer a.at a.task.now.slots.now a.task.now.sent.now.commands c.requires.covered c.requires.unused;
      prepared = c.requires.prepared;
    }

pub attempt-requires-clause-covered : goal.attempt-requires-clause-covered
attempt-requires-clause-covered c =
    let now = c.loop-command in
    let task = c.args.task.now in
    let i : ℕ = now.command-index in
    let cs : List Command = task.sent.now.commands in
    let one : Prepared = get_or now.prepared i c.command-item.result in
    let within : i < length now.prepared = omega arith in
    next_covered now.invariant.so_far c.next_entry-slot.result.0 one.command.now one.command.now (drop (i + 1) cs) c.next_entry-slot.ensures.own refl (next_prepared task.rules.now now.prepared cs i now.invariant.prepared c.command-item.result within)

pub returns-then-done : goal.returns-then-done
returns-then-done c =
    let now = c.loop-command in
    let task = c.args.task.now in
    let i : ℕ = now.command-index in
    let cs : List Command = task.sent.now.commands in
    let one : Prepared = get_or now.prepared i c.command-item.result in
    let within : i < length now.prepared = omega arith in
    let all = last_command now.invariant.so_far c.next_entry-slot.result.0 one.command.now one.command.now (drop (i + 1) cs) c.next_entry-slot.ensures.own refl (next_prepared task.rules.now now.prepared cs i now.invariant.prepared c.command-item.result within)
    one.rules.now c.next_entry-slot.result.1.now c.attempt.new.draft c.in_ok-done.done (next_under task.rules.now now.prepared cs i now.invariant.prepared c.command-item.result within) c.next_entry-slot.ensures.later c.in_ok-done.ensures.maps c.in_ok-done.ensures.answer c.if-done.true in
    record {
      maps = all.maps;
      answer = all.answer;
      keys = c.in_ok-done.ensures.keys ∙ now.invariant.so_far.keys;
      prepared = still_prepared task.rules.now now.prepared cs i now.invariant.prepared c.command-item.result within c.attempt.new.prepared c.in_ok-done.ensures.same;
    }

pub loop-command-preserved : goal.loop-command-preserved
loop-command-preserved c =
    let now = c.loop-command in
    let task = c.args.task.now in
    let i : ℕ = now.command-index in
    let cs : List Command = task.sent.now.commands in
    let one : Prepared = get_or now.prepared i c.command-item.result in
    let within : i < length now.prepared = omega arith in
    record {
      so_far = one_command_more now.invariant.so_far c.next_entry-slot.result.0 one.command.now one.command.now (drop (i + 1) cs) c.next_entry-slot.ensures.own refl (next_prepared task.rules.now now.prepared cs i now.invariant.prepared c.command-item.result within)
          one.rules.now c.next_entry-slot.result.1.now c.attempt.new.draft c.in_ok-done.done (next_under task.rules.now now.prepared cs i now.invariant.prepared c.command-item.result within) c.next_entry-slot.ensures.later c.in_ok-done.ensures.maps c.in_ok-done.ensures.answer none_late c.in_ok-done.ensures.keys c.if-done.false;
      prepared = still_prepared task.rules.now now.prepared cs i now.invariant.prepared c.command-item.result within c.attempt.new.prepared c.in_ok-done.ensures.same;
    }

pub returns : goal.returns
returns c =
    let now = c.loop-command in
    let cs : List Command = c.args.task.now.sent.now.commands in
    let none : drop now.command-index cs ≡ [] = none_prepared c.args.task.now.rules.now now.prepared cs now.command-index now.invariant.prepared (omega arith) in
    let all = no_command_left now.invariant.so_far none in
    record { maps = all.maps; answer = all.answer; keys = now.invariant.so_far.keys; prepared = now.invariant.prepared }
