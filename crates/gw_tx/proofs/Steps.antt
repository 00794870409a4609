-- Items one after another, with what is written of their answers: the first, one more, and the last.
use Rattle.std.proofs.Common.{◌≡◌, ℕ, Bool, true, false, List, [], ◌∷◌, ◌++◌, refl, sym, ap, ◌∙◌}
use Rattle.gw_reply.specs.declared.writer.ReplyWriter.{ReplyWriter}
use Rattle.gw_reply.specs.Writers.{written_behind}
use Rattle.gw_reply.proofs.Writers.{written_none, written_more}
use Rattle.gw_table.specs.declared.attempts.Attempts.{Attempts}
use Rattle.gw_table.specs.Folds.{attempts_behind, in_order}
use Rattle.gw_table.specs.Maps.{Maps, Outcome}
use Rattle.gw_table.proofs.Folding.{ended, goes_on, stops, ends}
use Rattle.gw_tx.specs.declared.limited_text.Progress.{Progress}
use Rattle.gw_tx.specs.LimitedText.{progress}

-- what is written is that of some answers, which, and then those of the items that are left, are all
pub record IsSoFar {X S A : Type 0} (step : S → X → Maps → Outcome (Attempts S A)) (text : A → List ℕ) (first : ReplyWriter A) (all : Outcome (Attempts S A)) (w : ReplyWriter A) (s : S) (left : List X) (m : Maps) : Type 0 where
  pub front : List A
  pub written : w ≡ written_behind text first front
  pub rest : attempts_behind front (in_order step s left m) ≡ all

-- these are the maps and what is written of all
pub record IsAll {S A : Type 0} (text : A → List ℕ) (first : ReplyWriter A) (all : Outcome (Attempts S A)) (m : Maps) (done : Progress S A) : Type 0 where
  pub maps : m ≡ all.maps
  pub answer : done ≡ progress text first all.answer

module _ {X S A : Type 0} (step : S → X → Maps → Outcome (Attempts S A)) (text : A → List ℕ) (first : ReplyWriter A) where
  pub none_yet : (s : S) (xs : List X) (m : Maps) → IsSoFar step text first (in_order step s xs m) first s xs m
  none_yet s xs m = record { front = []; written = sym (written_none text first); rest = refl }

all_written : {S A : Type 0} (text : A → List ℕ) (first : ReplyWriter A) (all : Outcome (Attempts S A)) (w : ReplyWriter A) (s : S) (m : Maps) (answers : List A) (b : Bool) → w ≡ written_behind text first answers → ended m s answers b ≡ all
    → IsAll text first all m (record { next = s; writer = w; stopped = b })
all_written {S} {A} text first all w s m answers b written is = record {
  maps = ap (λ (o : Outcome (Attempts S A)). o.maps) is;
  answer = ap (λ (v : ReplyWriter A). let d : Progress S A = record { next = s; writer = v; stopped = b } in d) written ∙ ap (λ (o : Outcome (Attempts S A)). progress text first o.answer) is;
}

module _ {X S A : Type 0} {step : S → X → Maps → Outcome (Attempts S A)} {text : A → List ℕ} {first : ReplyWriter A} {all : Outcome (Attempts S A)} {w : ReplyWriter A} {s : S} {left : List X} {m : Maps} (so_far : IsSoFar step text first all w s left m) where
  pub none_left : left ≡ [] → IsAll text first all m (record { next = s; writer = w; stopped = false })
  none_left none = all_written text first all w s m so_far.front false so_far.written (ends step s left m so_far.front all none so_far.rest)

  module _ (x : X) (rest : List X) (after : Maps) (done : Progress S A) (split : left ≡ x ∷ rest) (maps : after ≡ (step s x m).maps) (answer : done ≡ progress text w (step s x m).answer) where
    did : ended after done.next (step s x m).answer.answers done.stopped ≡ step s x m
    did =
        ap (λ (d : Progress S A). ended after d.next (step s x m).answer.answers d.stopped) answer
        ∙ ap (λ (k : Maps). ended k (step s x m).answer.next (step s x m).answer.answers (step s x m).answer.stopped) maps

    now_written : done.writer ≡ written_behind text first (so_far.front ++ (step s x m).answer.answers)
    now_written =
        ap (λ (d : Progress S A). d.writer) answer ∙ ap (λ (v : ReplyWriter A). written_behind text v (step s x m).answer.answers) so_far.written
        ∙ written_more text first so_far.front (step s x m).answer.answers

    pub one_more : done.stopped ≡ false → IsSoFar step text first all done.writer done.next rest after
    one_more goes = record {
      front = so_far.front ++ (step s x m).answer.answers;
      written = now_written;
      rest = goes_on step s x left rest m so_far.front (ended after done.next (step s x m).answer.answers done.stopped) all split did goes so_far.rest;
    }

    pub the_last : done.stopped ≡ true → IsAll text first all after (record { next = done.next; writer = done.writer; stopped = true })
    the_last stop =
        all_written text first all done.writer done.next after (so_far.front ++ (step s x m).answer.answers) true now_written
        (stops step s x left rest m so_far.front (ended after done.next (step s x m).answer.answers done.stopped) all split did stop so_far.rest)
