use Rattle.std.specs.Prelude.{◌≢◌, ◌||◌}
use Rattle.std.specs.List.{list_any}
use Rattle.std.specs.Option.{option_or}
use Rattle.std.proofs.Common.{◌≡◌, true, false, Bool, Option, None, Some, is_some, ℕ, ◌+◌, List, [], ◌∷◌, ◌++◌, drop, refl, sym, ap, subst, ◌∙◌}
use Rattle.std.proofs.Math.ListN.{drop_of_length-le}
use Rattle.gw_base.specs.declared.code.Code.{Code}
use Rattle.gw_base.specs.declared.command_words.Rules.{Rules}
use Rattle.gw_base.specs.declared.ids.CtxNum.{CtxNum}
use Rattle.gw_base.specs.declared.key.Key.TheVariants.{Term}
use Rattle.gw_base.specs.declared.term_ref.TermRef.TheVariants.{Name}
use Rattle.gw_reply.specs.declared.writer.ReplyWriter.{ReplyWriter}
use Rattle.gw_reply.specs.Writers.{written_behind}
use Rattle.gw_reply.proofs.Writers.{written_none, written_more}
use Rattle.gw_msg.specs.declared.message.Command.{Command}
use Rattle.gw_reply.specs.Replies.{command_reply_text}
use Rattle.gw_reply.specs.declared.reply.CommandReply.{CommandReply}
use Rattle.gw_term.specs.declared.record.Termination.{Termination}
use Rattle.gw_table.specs.declared.attempts.Attempts.{Attempts}
use Rattle.gw_table.specs.Maps.{Maps, Outcome, term}
use Rattle.gw_table.specs.Parts.{Parted, PartKeys, holds}
use Rattle.gw_table.specs.Reserved.{slot_name}
use Rattle.gw_table.specs.WellFormed.{IsSound}
use Rattle.gw_table.proofs.Folding.{ended, rest_of, goes_on, ends}
use Rattle.gw_cmd.specs.declared.outcome.Seen.{Seen}
use Rattle.gw_cmd.specs.Commands.{reply, is_done, first_error}
use Rattle.gw_cmd.specs.Effects.{on_name}
use Rattle.gw_cmd.specs.Tasks.{task_place, target_in, targets_in}
use Rattle.gw_cmd.specs.Written.{code_of, seen}
use Rattle.gw_cmd.proofs.Kept.{kept_name}
use Rattle.gw_cmd.proofs.KeptSound.{sound_is_kept, absent_is_kept}
use Rattle.gw_cmd.proofs.OneByOne.{in_at}
use Rattle.gw_cmd.proofs.Same.{same_in, same_itself, same_after}
use Rattle.gw_cmd.proofs.Seen.{first_more, done_more}
use Rattle.gw_cmd.proofs.targets.on_targets.Goals as goal
use Rattle.gw_cmd.proofs.targets.on_targets.Goals.{then-any_done, else-any_done}

-- a termination that is there now was there when the targets were fixed
was_there : (t : List ℕ) (old new : Maps) → (term old t ≡ None → term new t ≡ None) → is_some (term new t) ≡ true → is_some (term old t) ≡ true
was_there t old new absent h = at (term old t) refl
  where
    at : (o : Option Termination) → term old t ≡ o → is_some o ≡ true
    at (Some r) e = refl
    at None e = let clash : false ≡ true = ap (λ (o : Option Termination). is_some o) (sym (absent e)) ∙ h in absurd cc

pub on_target-requires-clause-term_key : goal.on_target-requires-clause-term_key
on_target-requires-clause-term_key c = λ found.
    ap (λ (p : Parted). holds p.keys (Term c.target-item.result)) c.seek_term.ensures ∙ ap (λ (k : PartKeys). holds k (Term c.target-item.result)) c.loop-target.invariant.keys
    ∙ c.requires.term_keys c.target-item.result (in_at c.args.named.now c.loop-target.target-index c.target-item.result c.loop-target-test.true c.target-item.is)
    (was_there c.target-item.result c.args.draft.now.maps c.loop-target.draft.maps (c.loop-target.invariant.absent c.target-item.result) (rw c.seek_term.ensures at found))

pub loop-target-preserved : goal.loop-target-preserved
loop-target-preserved c =
    let t : List ℕ = c.target-item.result in
    let i = c.loop-target.target-index in
    let p = c.args.prepared.now in
    let rules : Rules = p.rules.now in
    let sent : Command = p.command.now in
    let place : Option CtxNum = task_place c.args.task in
    let m : Maps = c.loop-target.draft.maps in
    let before : ReplyWriter CommandReply = c.loop-target.written in
    let rest : List (List ℕ) = drop (i + 1) c.args.named.now in
    let split : drop i c.args.named.now ≡ t ∷ rest = rest_of c.args.named.now i t t c.loop-target-test.true c.target-item.is in
    let r : CommandReply = reply sent (Name t) (on_name rules place sent t m).answer in
    let maps : c.on_target.new.draft.maps ≡ (on_name rules place sent t m).maps =
    (rw c.seek_term.ensures at c.in_ok-one.ensures.maps) ∙ same_in (λ x y. (on_name x place y t m).maps) p c.loop-target.prepared c.loop-target.invariant.same in
    let one : c.in_ok-one.one ≡ seen before (r ∷ []) =
    (rw c.seek_term.ensures at c.in_ok-one.ensures.answer) ∙ same_in (λ x y. seen before (reply y (Name t) (on_name x place y t m).answer ∷ [])) p c.loop-target.prepared c.loop-target.invariant.same in
    let now : Outcome (Attempts Unit CommandReply) = ended c.on_target.new.draft.maps tt (r ∷ []) false in
    let did : now ≡ target_in rules place sent tt t m = ap (λ (x : Maps). ended x tt (r ∷ []) false) maps in
    let front : List CommandReply = c.loop-target.invariant.replies.0 in
    let written : c.in_ok-one.one.written ≡ written_behind command_reply_text c.args.writer (front ++ r ∷ []) =
    ap (λ (s : Seen). s.written) one ∙ ap (λ (x : ReplyWriter CommandReply). written_behind command_reply_text x (r ∷ [])) c.loop-target.invariant.replies.1
    ∙ written_more command_reply_text c.args.writer front (r ∷ []) in
    let first : c.or-first_error.result ≡ code_of (first_error (front ++ r ∷ [])) =
    c.or-first_error.ensures ∙ ap (λ (o : Option Code). option_or o c.in_ok-one.one.first_error) c.loop-target.invariant.replies.2
    ∙ ap (λ (o : Option Code). option_or (code_of (first_error front)) o) (ap (λ (s : Seen). s.first_error) one ∙ first_more [] r) ∙ sym (first_more front r) in
    let either : c.if-any_done.any_done ≡ (c.loop-target.any_done || c.in_ok-one.one.any_done) = elim c.if-any_done.branch [
      | then-any_done w ↦ w.any_done-is ∙ w.if-any_done.true ∙ ap (λ (b : Bool). b || c.in_ok-one.one.any_done) (sym w.if-any_done.true)
      | else-any_done w ↦ w.any_done-is ∙ ap (λ (b : Bool). b || c.in_ok-one.one.any_done) (sym w.if-any_done.false)
    ] in
    let any : c.if-any_done.any_done ≡ list_any is_done (front ++ r ∷ []) =
    either ∙ ap (λ (b : Bool). b || c.in_ok-one.one.any_done) c.loop-target.invariant.replies.3
    ∙ ap (λ (b : Bool). list_any is_done front || b) (ap (λ (s : Seen). s.any_done) one ∙ done_more [] r) ∙ sym (done_more front r) in
    let held : is_some (term m t) ≡ true → holds c.args.draft.now.keys (Term t) ≡ true = λ found. c.requires.term_keys t (in_at c.args.named.now i t c.loop-target-test.true c.target-item.is) (was_there t c.args.draft.now.maps m (c.loop-target.invariant.absent t) found) in
    record {
      replies = (
        front ++ r ∷ [],
        written,
        first,
        any,
        goes_on (target_in rules place sent) tt t (drop i c.args.named.now) rest m front now (targets_in rules place sent c.args.named.now c.args.draft.now.maps) split did refl c.loop-target.invariant.replies.4,
      );
      sound = subst (IsSound c.args.draft.now.keys) (sym maps)
          (kept_name rules (λ x. holds c.args.draft.now.keys (Term x)) (λ _. Unit {0}) (sound_is_kept rules c.args.draft.now.keys (λ _. Unit {0})) place sent t m held c.loop-target.invariant.sound);
      absent = λ q none. ap (λ (x : Maps). term x q) maps
          ∙ kept_name rules (λ _. true) (λ s. slot_name s ≢ q) (absent_is_kept rules q) place sent t m (λ _. refl) (c.loop-target.invariant.absent q none);
      keys = c.in_ok-one.ensures.keys ∙ ap (λ (p : Parted). p.keys) c.seek_term.ensures ∙ c.loop-target.invariant.keys;
      same = same_after p c.loop-target.prepared c.on_target.new.prepared c.loop-target.invariant.same c.in_ok-one.ensures.same;
    }

pub returns : goal.returns
returns c =
    let p = c.args.prepared.now in
    let rules : Rules = p.rules.now in
    let sent : Command = p.command.now in
    let place : Option CtxNum = task_place c.args.task in
    let front : List CommandReply = c.loop-target.invariant.replies.0 in
    let left : drop c.loop-target.target-index c.args.named.now ≡ [] = drop_of_length-le c.args.named.now c.loop-target-test.false in
    let all = ends (target_in rules place sent) tt (drop c.loop-target.target-index c.args.named.now) c.loop-target.draft.maps front (targets_in rules place sent c.args.named.now c.args.draft.now.maps) left c.loop-target.invariant.replies.4 in
    let made : ReplyWriter CommandReply → Option Code → Bool → Seen = λ t e d. record { written = t; first_error = e; any_done = d } in
    record {
      maps = ap (λ (o : Outcome (Attempts Unit CommandReply)). o.maps) all;
      answer = ap (λ (t : ReplyWriter CommandReply). made t c.loop-target.first_error c.loop-target.any_done) c.loop-target.invariant.replies.1
          ∙ ap (λ (e : Option Code). made (written_behind command_reply_text c.args.writer front) e c.loop-target.any_done) c.loop-target.invariant.replies.2
          ∙ ap (λ (d : Bool). made (written_behind command_reply_text c.args.writer front) (code_of (first_error front)) d) c.loop-target.invariant.replies.3
          ∙ ap (λ (o : Outcome (Attempts Unit CommandReply)). seen c.args.writer o.answer.answers) all;
      keys = c.loop-target.invariant.keys;
      same = c.loop-target.invariant.same;
    }

pub loop-target-init : goal.loop-target-init
loop-target-init c = record {
  replies = ([], sym (written_none command_reply_text c.args.writer), refl, refl, c.in_ok-end_first.ensures.first.same c.args.prepared.now.rules.now c.args.prepared.now.command.now c.requires.does);
  sound = c.in_ok-end_first.ensures.first.sound;
  absent = λ q none. c.in_ok-end_first.ensures.first.terms q ∙ none;
  keys = c.end_first.ensures.keys;
  same = same_itself c.args.prepared.now;
}
