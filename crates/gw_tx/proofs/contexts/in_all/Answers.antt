use Rattle.std.proofs.Common.{◌≡◌, ℕ, Bool, false, List, ◌∷◌, ◌+◌, get_or, drop, Option, refl, sym, ap, subst, ◌∙◌}
use Rattle.std.specs.Prelude.{◌||◌}
use Rattle.std.proofs.Math.ListN.{drop_of_length-le}
use Rattle.gw_base.specs.declared.ids.CtxNum.{CtxNum}
use Rattle.gw_msg.specs.declared.message.Command.{Command}
use Rattle.gw_refusal.specs.declared.at.At.TheVariants.{Each}
use Rattle.gw_reply.specs.declared.reply.ActionReply.{ActionReply}
use Rattle.gw_reply.specs.declared.writer.ReplyWriter.{ReplyWriter}
use Rattle.gw_reply.specs.Replies.{action_reply_text}
use Rattle.gw_reserve.specs.Owned.{paired_commands}
use Rattle.gw_table.specs.Maps.{Maps, number}
use Rattle.gw_table.specs.Parts.{Parted}
use Rattle.gw_table.proofs.Folding.{rest_of}
use Rattle.gw_cmd.proofs.Parted.{StaysPart}
use Rattle.gw_tx.specs.declared.limited_text.Progress.{Progress}
use Rattle.gw_tx.specs.Footprints.{list_keys, Covers}
use Rattle.gw_tx.specs.LimitedText.{owned_action, progress}
use Rattle.gw_tx.specs.Transactions.{in_each}
use Rattle.gw_tx.proofs.Facts.{commands_keep_part}
use Rattle.gw_tx.proofs.FreeSlots.{AnySlot}
use Rattle.gw_tx.proofs.Kept.{With, kept_in_each}
use Rattle.gw_tx.proofs.Parts.{starts, listed, covers_list}
use Rattle.gw_tx.proofs.SetProperties.{plain_can}
use Rattle.gw_tx.proofs.Steps.{none_yet, none_left, one_more}
use Rattle.gw_tx.proofs.contexts.in_all.Goals as goal
use Rattle.gw_tx.proofs.contexts.in_all.Goals.{then-stopped, else-stopped}

pub loop-number-init : goal.loop-number-init
loop-number-init c =
    let a = c.args in
    let requested : List (Option ℕ × Command) = paired_commands a.task.now.slots.now a.task.now.sent.now.commands in
    record {
      replies = none_yet (in_each a.task.now.rules.now (owned_action a.task.now)) action_reply_text a.writer false a.numbers.now a.draft.now.maps;
      kept = starts a.draft.now a.task.now.slots.now (list_keys (Each (number 0)) requested a.draft.now.maps) (c.requires.covered (number 0)) c.requires.unused;
      keys = refl;
      prepared = c.requires.prepared;
    }

pub in_each-requires-clause-covered : goal.in_each-requires-clause-covered
in_each-requires-clause-covered c =
    let a = c.args in
    let n : CtxNum = get_or a.numbers.now c.loop-number.number-index (number 0) in
    subst (λ (p : Parted). Covers p (list_keys (Each n) (paired_commands a.task.now.slots.now a.task.now.sent.now.commands) p.maps)) (sym c.seek_ctx.ensures)
    (covers_list a.draft.now c.loop-number.draft a.task.now.slots.now c.loop-number.invariant.kept c.loop-number.invariant.keys (Each n) (paired_commands a.task.now.slots.now a.task.now.sent.now.commands) (c.requires.covered n).held)

pub loop-number-preserved : goal.loop-number-preserved
loop-number-preserved c =
    let a = c.args in
    let i : ℕ = c.loop-number.number-index in
    let start : Parted = a.draft.now in
    let now : Maps = c.loop-number.draft.maps in
    let n : CtxNum = get_or a.numbers.now i (number 0) in
    let rest : List CtxNum = drop (i + 1) a.numbers.now in
    let split : drop i a.numbers.now ≡ n ∷ rest = rest_of a.numbers.now i (number 0) n c.loop-number-test.true refl in
    let stopped : c.if-stopped.stopped ≡ (c.loop-number.stopped || c.in_ok-done.done.stopped) = elim c.if-stopped.branch [
      | then-stopped w ↦ w.stopped-is ∙ w.if-stopped.true ∙ ap (λ (b : Bool). b || c.in_ok-done.done.stopped) (sym w.if-stopped.true)
      | else-stopped w ↦ w.stopped-is ∙ ap (λ (b : Bool). b || c.in_ok-done.done.stopped) (sym w.if-stopped.false)
    ] in
    let writer : c.if-stopped.writer ≡ c.in_ok-done.done.writer = elim c.if-stopped.branch [ then-stopped w ↦ w.writer-is | else-stopped w ↦ w.writer-is ] in
    let one : Progress Bool ActionReply = record { next = c.if-stopped.stopped; writer = c.if-stopped.writer; stopped = false } in
    let answer : one ≡ progress action_reply_text c.loop-number.writer (in_each a.task.now.rules.now (owned_action a.task.now) c.loop-number.stopped n now).answer =
    ap (λ (v : ReplyWriter ActionReply). let d : Progress Bool ActionReply = record { next = c.if-stopped.stopped; writer = v; stopped = false } in d) writer
    ∙ ap (λ (b : Bool). let d : Progress Bool ActionReply = record { next = b; writer = c.in_ok-done.done.writer; stopped = false } in d) stopped
    ∙ ap (λ (p : Progress Unit ActionReply). let d : Progress Bool ActionReply = record { next = c.loop-number.stopped || p.stopped; writer = p.writer; stopped = false } in d) (rw c.seek_ctx.ensures at c.in_ok-done.ensures.answer) in
    record {
      replies = one_more c.loop-number.invariant.replies n rest c.in_each.new.draft.maps one split (rw c.seek_ctx.ensures at c.in_ok-done.ensures.maps) answer refl;
      kept = subst (λ (m : Maps). With AnySlot (StaysPart start.keys start.maps) a.task.now.slots.now m) (sym (rw c.seek_ctx.ensures at c.in_ok-done.ensures.maps))
          (kept_in_each a.task.now.rules.now (commands_keep_part a.task.now.rules.now start.keys start.maps) a.task.now.number n a.task.now.slots.now a.task.now.sent.now now (plain_can a.task.now.sent.now.props c.requires.plain)
          (listed start.keys start.maps (Each n) (paired_commands a.task.now.slots.now a.task.now.sent.now.commands) (c.requires.covered n).held) c.loop-number.invariant.kept);
      keys = c.in_ok-done.ensures.keys ∙ ap (λ (p : Parted). p.keys) c.seek_ctx.ensures ∙ c.loop-number.invariant.keys;
      prepared = c.in_ok-done.ensures.prepared;
    }

pub returns : goal.returns
returns c =
    let all = none_left c.loop-number.invariant.replies (drop_of_length-le c.args.numbers.now c.loop-number-test.false) in
    record { maps = all.maps; answer = all.answer; keys = c.loop-number.invariant.keys }
