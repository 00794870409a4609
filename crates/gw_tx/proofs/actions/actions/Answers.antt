use Rattle.std.proofs.Common.{◌≡◌, ℕ, List, ◌∷◌, ◌+◌, drop, length, Option, sym, ap, subst, ◌∙◌}
use Rattle.std.proofs.Math.ListN.{drop_of_length-le}
use Rattle.gw_base.specs.declared.ids.CtxNum.{CtxNum}
use Rattle.gw_msg.specs.declared.message.Action.{Action}
use Rattle.gw_reply.specs.declared.reply.ActionReply.{ActionReply}
use Rattle.gw_reply.specs.Replies.{action_reply_text}
use Rattle.gw_table.specs.declared.attempts.Attempts.{Attempts}
use Rattle.gw_table.specs.Maps.{Maps, Outcome}
use Rattle.gw_table.specs.Parts.{Parted, Holds}
use Rattle.gw_table.proofs.Folding.{rest_of}
use Rattle.gw_cmd.proofs.Parted.{StaysPart}
use Rattle.gw_reserve.specs.Owned.{OwnedAction, first_owned, later_owned, paired_action, paired_actions}
use Rattle.gw_tx.specs.Footprints.{action_footprint, footprint_of, Covers}
use Rattle.gw_tx.specs.LimitedText.{progress}
use Rattle.gw_tx.specs.Transactions.{action, actions}
use Rattle.gw_tx.proofs.Facts.{commands_keep_part}
use Rattle.gw_tx.proofs.FreeSlots.{AnySlot}
use Rattle.gw_tx.proofs.HeldKeys.{left_held, right_held}
use Rattle.gw_tx.proofs.Kept.{With, kept_action}
use Rattle.gw_tx.proofs.Parts.{listed_in, covers_action}
use Rattle.gw_tx.proofs.Steps.{IsSoFar, none_left, one_more, the_last}
use Rattle.gw_tx.proofs.actions.actions.Goals as goal

pub action-requires-clause-covered : goal.action-requires-clause-covered
action-requires-clause-covered c =
    let one : Action = c.one-item.result in
    let i : ℕ = c.loop-one.one-index in
    let start : Parted = c.args.draft.now in
    let numbers : List (Option CtxNum) = c.loop-one.numbers_left.now in
    let slots : List (Option ℕ) = c.loop-one.slots_left.now in
    let rest : List Action = drop (i + 1) c.args.sent.now in
    let split : drop i c.args.sent.now ≡ one ∷ rest = rest_of c.args.sent.now i one one c.loop-one-test.true c.one-item.is in
    let pair : OwnedAction = paired_action (first_owned numbers) slots one in
    let later : List OwnedAction = paired_actions (later_owned numbers) (drop (length one.commands) slots) rest in
    let held : Holds start.keys (footprint_of (pair ∷ later) start.maps) = subst (λ (l : List Action). Holds start.keys (footprint_of (paired_actions numbers slots l) start.maps)) split c.loop-one.invariant.held in
    subst (λ (o : Option CtxNum). Covers c.loop-one.draft (action_footprint (paired_action o slots one) c.loop-one.draft.maps)) (sym c.next_entry-number.ensures.own)
    (covers_action start c.loop-one.draft slots c.loop-one.invariant.kept c.loop-one.invariant.keys pair (left_held start.keys (action_footprint pair start.maps) (footprint_of later start.maps) held))

pub returns-then-done : goal.returns-then-done
returns-then-done c =
    let one : Action = c.one-item.result in
    let i : ℕ = c.loop-one.one-index in
    let m : Maps = c.loop-one.draft.maps in
    let numbers : List (Option CtxNum) = c.loop-one.numbers_left.now in
    let slots : List (Option ℕ) = c.loop-one.slots_left.now in
    let rest : List Action = drop (i + 1) c.args.sent.now in
    let did : Option CtxNum → Outcome (Attempts Unit ActionReply) = λ n. action c.args.rules.now tt (paired_action n slots one) m in
    let split = ap (λ (l : List Action). paired_actions numbers slots l) (rest_of c.args.sent.now i one one c.loop-one-test.true c.one-item.is) in
    let all = the_last c.loop-one.invariant.replies (paired_action (first_owned numbers) slots one) (paired_actions (later_owned numbers) (drop (length one.commands) slots) rest) c.action.new.draft.maps c.in_ok-done.done split
    (c.in_ok-done.ensures.maps ∙ ap (λ (n : Option CtxNum). (did n).maps) c.next_entry-number.ensures.own) (c.in_ok-done.ensures.answer ∙ ap (λ (n : Option CtxNum). progress action_reply_text c.loop-one.writer (did n).answer) c.next_entry-number.ensures.own) c.if-done.true in
    record { maps = all.maps; answer = ap (λ d. d.writer) all.answer; keys = c.in_ok-done.ensures.keys ∙ c.loop-one.invariant.keys }

pub loop-one-preserved : goal.loop-one-preserved
loop-one-preserved c =
    let one : Action = c.one-item.result in
    let i : ℕ = c.loop-one.one-index in
    let m : Maps = c.loop-one.draft.maps in
    let start : Parted = c.args.draft.now in
    let all : Outcome (Attempts Unit ActionReply) = actions c.args.rules.now (paired_actions c.args.numbers.now c.args.slots.now c.args.sent.now) start.maps in
    let numbers : List (Option CtxNum) = c.loop-one.numbers_left.now in
    let slots : List (Option ℕ) = c.loop-one.slots_left.now in
    let behind : List (Option ℕ) = drop (length one.commands) slots in
    let rest : List Action = drop (i + 1) c.args.sent.now in
    let pair : OwnedAction = paired_action (first_owned numbers) slots one in
    let later : List OwnedAction = paired_actions (later_owned numbers) behind rest in
    let did : Option CtxNum → Outcome (Attempts Unit ActionReply) = λ n. action c.args.rules.now tt (paired_action n slots one) m in
    let split : paired_actions numbers slots (drop i c.args.sent.now) ≡ pair ∷ later = ap (λ (l : List Action). paired_actions numbers slots l) (rest_of c.args.sent.now i one one c.loop-one-test.true c.one-item.is) in
    let maps : c.action.new.draft.maps ≡ (did (first_owned numbers)).maps = c.in_ok-done.ensures.maps ∙ ap (λ (n : Option CtxNum). (did n).maps) c.next_entry-number.ensures.own in
    let held : Holds start.keys (footprint_of (pair ∷ later) start.maps) = subst (λ (l : List OwnedAction). Holds start.keys (footprint_of l start.maps)) split c.loop-one.invariant.held in
    let slots_are : c.entries_behind-slots_left.result.now ≡ behind = c.entries_behind-slots_left.ensures ∙ ap (λ (k : ℕ). drop k slots) c.len.ensures in
    let left : later ≡ paired_actions c.next_entry-number.result.1.now c.entries_behind-slots_left.result.now rest =
    ap (λ (o : List (Option CtxNum)). paired_actions o behind rest) (sym c.next_entry-number.ensures.later) ∙ ap (λ (o : List (Option ℕ)). paired_actions c.next_entry-number.result.1.now o rest) (sym slots_are) in
    record {
      replies = subst (λ (l : List OwnedAction). IsSoFar (action c.args.rules.now) action_reply_text c.args.writer all c.in_ok-done.done.writer tt l c.action.new.draft.maps) left
          (one_more c.loop-one.invariant.replies pair later c.action.new.draft.maps c.in_ok-done.done split maps (c.in_ok-done.ensures.answer ∙ ap (λ (n : Option CtxNum). progress action_reply_text c.loop-one.writer (did n).answer) c.next_entry-number.ensures.own) c.if-done.false);
      held = subst (λ (l : List OwnedAction). Holds start.keys (footprint_of l start.maps)) left (right_held start.keys (action_footprint pair start.maps) (footprint_of later start.maps) held);
      kept = subst (λ (o : List (Option ℕ)). With AnySlot (StaysPart start.keys start.maps) o c.action.new.draft.maps) (sym slots_are)
          (subst (λ (x : Maps). With AnySlot (StaysPart start.keys start.maps) behind x) (sym maps)
          (kept_action c.args.rules.now (commands_keep_part c.args.rules.now start.keys start.maps) one (first_owned numbers) slots m (listed_in start.keys start.maps pair (left_held start.keys (action_footprint pair start.maps) (footprint_of later start.maps) held)) c.loop-one.invariant.kept));
      keys = c.in_ok-done.ensures.keys ∙ c.loop-one.invariant.keys;
    }

pub returns : goal.returns
returns c =
    let none = ap (λ (l : List Action). paired_actions c.loop-one.numbers_left.now c.loop-one.slots_left.now l) (drop_of_length-le c.args.sent.now c.loop-one-test.false) in
    let all = none_left c.loop-one.invariant.replies none in
    record { maps = all.maps; answer = ap (λ d. d.writer) all.answer; keys = c.loop-one.invariant.keys }
