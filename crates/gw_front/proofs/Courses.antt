-- A replay, burst after burst.
use Rattle.std.proofs.Common.{◌≡◌, inl, inr, ℕ, ◌+◌, List, [], ◌∷◌, ◌++◌, length, take, flat_map, Option, Some, None, IfSome, Result, Ok, Err, refl, ap, sym, subst, ◌∙◌, arith, append_assoc, length-append}
use Rattle.std.specs.Io.KnownBytes.{Appends, Keeps, IsAtEnd}
use Rattle.std.proofs.KnownBytes.{Appends-kept, Appends-nil, Appends-trans, Consumes-whole}
use Rattle.std.proofs.lemmas.Grind.{flat_map-append}
use Rattle.std.proofs.lemmas.List.{append-nil}
use Rattle.gw_base.specs.Lang.{◌▹◌}
use Rattle.gw_engine.specs.declared.datagram.Datagram.{Datagram}
use Rattle.gw_engine.specs.State.{GatewayValue}
use Rattle.gw_engine.specs.Bursts.{AnswersBurst}
use Rattle.gw_front.specs.declared.counts.Counts.{Counts}
use Rattle.gw_front.specs.declared.replay_fault.ReplayFault.{ReplayFault}
use Rattle.gw_front.specs.declared.replay_fault.ReplayFault.TheVariants.{Read, Write, NoMemory}
use Rattle.gw_front.specs.AnswerTexts.{answers_text, all_answers_text}
use Rattle.gw_front.specs.Records.{AreWholeBursts, IsBurst, IsLastBurst, AreBursts}
use Rattle.gw_front.specs.RecordFaults.{IsFirstFault}
use Rattle.gw_front.specs.Inputs.{IsFaultAt, TakesFrom}
use Rattle.gw_front.specs.Replays.{AnswersBursts, AreCounts, IsReplay, IsStopped, BeginsWith}
use Rattle.gw_front.specs.Replaying.{IsBurstDone, CountsMore, IsSoFar}

-- ---- one burst more

bursts_more : (bs : List (List Datagram)) (text more : List ℕ) (b : List Datagram) → AreWholeBursts bs text → IsBurst b more → AreWholeBursts (bs ++ b ∷ []) (text ++ more)
bursts_more [] text more b h r =
    subst (λ (l : List ℕ). AreWholeBursts (b ∷ []) (l ++ more)) (sym h) (record { front = more; back = []; split = sym (append-nil more); first = r; second = refl })
bursts_more (e ∷ es) text more b h r = record {
  front = h.front;
  back = h.back ++ more;
  split = ap (λ (l : List ℕ). l ++ more) h.split ∙ append_assoc h.front h.back more;
  first = h.first;
  second = bursts_more es h.back more b h.second r;
}

answers_more : (old mid new : GatewayValue) (bs answers : List (List Datagram)) (b a : List Datagram) → AnswersBursts old bs answers mid → AnswersBurst mid b a new → AnswersBursts old (bs ++ b ∷ []) (answers ++ a ∷ []) new
answers_more old mid new [] [] b a h r = (new, subst (λ (g : GatewayValue). AnswersBurst g b a new) h r, refl)
answers_more old mid new [] (x ∷ xs) b a h r = absurd h
answers_more old mid new (y ∷ ys) [] b a h r = absurd h
answers_more old mid new (y ∷ ys) (x ∷ xs) b a h r = (h.0, h.1, answers_more h.0 mid new ys xs b a h.2 r)

text_more : (answers : List (List Datagram)) (a : List Datagram) → all_answers_text (answers ++ a ∷ []) ≡ all_answers_text answers ++ answers_text a
text_more answers a = flat_map-append answers_text answers (a ∷ []) ∙ ap (λ (l : List ℕ). all_answers_text answers ++ l) (append-nil (answers_text a))

number_more : (bursts : List (List Datagram)) (b : List Datagram) → length (flat_map (λ (burst : List Datagram). burst) (bursts ++ b ∷ [])) ≡ length (flat_map (λ (burst : List Datagram). burst) bursts) + length b
number_more bursts b =
    ap (λ (l : List Datagram). length l) (flat_map-append (λ (burst : List Datagram). burst) bursts (b ∷ []) ∙ ap (λ (l : List Datagram). flat_map (λ (burst : List Datagram). burst) bursts ++ l) (append-nil b))
    ∙ length-append (flat_map (λ (burst : List Datagram). burst) bursts) b

counts_more : (counts more : Counts) (bursts answers : List (List Datagram)) (b a : List Datagram) → AreCounts counts bursts answers → CountsMore counts more (length b) (length a) → AreCounts more (bursts ++ b ∷ []) (answers ++ a ∷ [])
counts_more counts more bursts answers b a h m = record {
  bursts_are = let e = h.bursts_are in let f = m.bursts_are in omega (arith, length-append bursts (b ∷ []));
  datagrams_are = m.datagrams_are ∙ ap (λ (n : ℕ). n + length b) h.datagrams_are ∙ sym (number_more bursts b);
  replies_are = m.replies_are ∙ ap (λ (n : ℕ). n + length a) h.replies_are ∙ sym (number_more answers a);
}

-- ---- the bursts so far

begins : (input : Option (List ℕ)) → IfSome input (AreWholeBursts [] ▹ (λ rest. input ≡ Some rest))
begins None = tt
begins (Some x) = record { front = []; back = x; split = refl; first = refl; second = refl }

-- before the first burst
pub begun : (input before : Option (List ℕ)) (old : GatewayValue) (counts : Counts) → counts ≡ record { bursts = 0; datagrams = 0; replies = 0 } → IsSoFar input input before before old old counts
begun input before old counts none = record {
  bursts = [];
  answers = [];
  read = begins input;
  carried = refl;
  written = Appends-nil before;
  counted = record { bursts_are = ap (λ (c : Counts). c.bursts) none; datagrams_are = ap (λ (c : Counts). c.datagrams) none; replies_are = ap (λ (c : Counts). c.replies) none };
}

-- what was taken behind whole bursts
behind_more : (input now later : Option (List ℕ)) (bursts : List (List Datagram)) (b : List Datagram) → IfSome input (AreWholeBursts bursts ▹ (λ rest. now ≡ Some rest)) → TakesFrom (IsBurst b) now later
    → IfSome input (AreWholeBursts (bursts ++ b ∷ []) ▹ (λ rest. later ≡ Some rest))
behind_more None now later bursts b h t = tt
behind_more (Some x) None later bursts b h t = let clash = h.second in absurd cc
behind_more (Some x) (Some y) None bursts b h t = absurd t.2
behind_more (Some x) (Some y) (Some z) bursts b h t =
    let same : y ≡ h.back = let e = h.second in cc in
    record {
      front = h.front ++ t.0;
      back = z;
      split = h.split ∙ ap (λ (l : List ℕ). h.front ++ l) (sym same ∙ t.2) ∙ sym (append_assoc h.front t.0 z);
      first = bursts_more bursts h.front t.0 b h.first t.1;
      second = refl;
    }

-- a burst was executed and answered
pub stepped : (input now later before between after : Option (List ℕ)) (old mid new : GatewayValue) (counts more : Counts) (b : List Datagram) → IsSoFar input now before between old mid counts
    → TakesFrom (IsBurst b) now later → IsBurstDone b counts between after mid new (Ok more) → IsSoFar input later before after old new more
stepped input now later before between after old mid new counts more b h t d = record {
  bursts = h.bursts ++ b ∷ [];
  answers = h.answers ++ d.0 ∷ [];
  read = behind_more input now later h.bursts b h.read t;
  carried = answers_more old mid new h.bursts h.answers b d.0 h.carried d.1;
  written = subst (λ (l : List ℕ). Appends before after l) (sym (text_more h.answers d.0)) (Appends-trans before between after (all_answers_text h.answers) (answers_text d.0) h.written d.2);
  counted = counts_more counts more h.bursts h.answers b d.0 h.counted d.3;
}

-- ---- how it ends

-- what holds of the text that is left holds of it behind the bursts
behind_bursts : (At : List ℕ → Type 0) (input now : Option (List ℕ)) (bursts : List (List Datagram)) → IfSome input (AreWholeBursts bursts ▹ (λ rest. now ≡ Some rest)) → IfSome now At → IfSome input (AreWholeBursts bursts ▹ At)
behind_bursts At None now bursts h f = tt
behind_bursts At (Some x) None bursts h f = let clash = h.second in absurd cc
behind_bursts At (Some x) (Some y) bursts h f =
    let same : y ≡ h.back = let e = h.second in cc in
    record { front = h.front; back = h.back; split = h.split; first = h.first; second = subst At same f }

always : (now : Option (List ℕ)) → IfSome now (λ rest. Unit {0})
always None = tt
always (Some x) = tt

ends_with : (input : Option (List ℕ)) (bursts : List (List Datagram)) (b : List Datagram) → IfSome input (AreWholeBursts bursts ▹ IsLastBurst b) → IfSome input (AreBursts (bursts ++ b ∷ []))
ends_with None bursts b h = tt
ends_with (Some x) bursts b h = inr (record { whole = bursts; last = b; all = refl; form = h })

-- a burst that was taken stands there
begins_at : (now later : Option (List ℕ)) (b : List Datagram) → TakesFrom (IsBurst b) now later → IfSome now (BeginsWith b)
begins_at None later b t = tt
begins_at (Some y) None b t = absurd t.2
begins_at (Some y) (Some z) b t = inl (record { front = t.0; back = z; split = t.2; first = t.1; second = tt })

-- a front of the answers to a burst is out
short_of : (input before between after : Option (List ℕ)) (now : Option (List ℕ)) (old mid new : GatewayValue) (counts : Counts) (b : List Datagram) → (h : IsSoFar input now before between old mid counts)
    → IfSome input (AreWholeBursts h.bursts ▹ BeginsWith b) → IsBurstDone b counts between after mid new (Err Write) → IsReplay input before after old new (Err Write)
short_of input before between after now old mid new counts b h read d = record {
  bursts = h.bursts;
  answers = h.answers;
  burst = b;
  replies = d.0;
  count = d.2.0;
  read = read;
  carried = answers_more old mid new h.bursts h.answers b d.0 h.carried d.1;
  written = Appends-trans before between after (all_answers_text h.answers) (take d.2.0 (answers_text d.0)) h.written d.2.1;
}

-- a burst was not executed
refused : (input now before between after : Option (List ℕ)) (old mid new : GatewayValue) (counts : Counts) → IsSoFar input now before between old mid counts → Keeps between after → new ≡ mid → IsReplay input before after old new (Err NoMemory)
refused input now before between after old mid new counts h k same = record {
  bursts = h.bursts;
  answers = h.answers;
  read = behind_bursts (λ rest. Unit {0}) input now h.bursts h.read (always now);
  carried = subst (λ (g : GatewayValue). AnswersBursts old h.bursts h.answers g) (sym same) h.carried;
  written = Appends-kept before between after (all_answers_text h.answers) h.written k;
}

-- a burst was not executed, or not written whole
pub failed : (input now later before between after : Option (List ℕ)) (old mid new : GatewayValue) (counts : Counts) (b : List Datagram) (fault : ReplayFault) → IsSoFar input now before between old mid counts
    → TakesFrom (IsBurst b) now later → IsBurstDone b counts between after mid new (Err fault) → IsReplay input before after old new (Err fault)
failed input now later before between after old mid new counts b Write h t d = short_of input before between after now old mid new counts b h (behind_bursts (BeginsWith b) input now h.bursts h.read (begins_at now later b t)) d
failed input now later before between after old mid new counts b NoMemory h t d = refused input now before between after old mid new counts h d.0 d.1
failed input now later before between after old mid new counts b fault h t d = absurd d

-- the last burst was executed, or not
pub last_done : (input now later before between after : Option (List ℕ)) (old mid new : GatewayValue) (counts : Counts) (b : List Datagram) (result : Result Counts ReplayFault) → IsSoFar input now before between old mid counts
    → TakesFrom (IsLastBurst b) now later × IsAtEnd later → IsBurstDone b counts between after mid new result → IsReplay input before after old new result
last_done input now later before between after old mid new counts b (Ok more) h t d = record {
  bursts = h.bursts ++ b ∷ [];
  answers = h.answers ++ d.0 ∷ [];
  read = ends_with input h.bursts b
      (behind_bursts (IsLastBurst b) input now h.bursts h.read (Consumes-whole now later t.0.0 (IsLastBurst b) t.0.2 t.1 t.0.1));
  carried = answers_more old mid new h.bursts h.answers b d.0 h.carried d.1;
  written = subst (λ (l : List ℕ). Appends before after l) (sym (text_more h.answers d.0)) (Appends-trans before between after (all_answers_text h.answers) (answers_text d.0) h.written d.2);
  counted = counts_more counts more h.bursts h.answers b d.0 h.counted d.3;
}
last_done input now later before between after old mid new counts b (Err Write) h t d =
    short_of input before between after now old mid new counts b h
    (behind_bursts (BeginsWith b) input now h.bursts h.read (Consumes-whole now later t.0.0 (BeginsWith b) t.0.2 t.1 (inr t.0.1))) d
last_done input now later before between after old mid new counts b (Err NoMemory) h t d = refused input now before between after old mid new counts h d.0 d.1
last_done input now later before between after old mid new counts b (Err fault) h t d = absurd d

stopped_by : (At : List ℕ → Type 0) (input now before after : Option (List ℕ)) (old new : GatewayValue) (counts : Counts) → IsSoFar input now before after old new counts → IfSome now At → IsStopped At input before after old new
stopped_by At input now before after old new counts h f = record {
  bursts = h.bursts;
  answers = h.answers;
  read = behind_bursts At input now h.bursts h.read f;
  carried = h.carried;
  written = h.written;
}

-- no burst was read
pub stopped : (input now before after : Option (List ℕ)) (old new : GatewayValue) (counts : Counts) (fault : ReplayFault) → IsSoFar input now before after old new counts → IsFaultAt IsFirstFault now fault → IsReplay input before after old new (Err fault)
stopped input now before after old new counts Read h f = stopped_by (λ rest. Unit {0}) input now before after old new counts h (always now)
stopped input now before after old new counts NoMemory h f = stopped_by (λ rest. Unit {0}) input now before after old new counts h (always now)
stopped input now before after old new counts Write h f = absurd f
stopped input now before after old new counts fault h f = stopped_by (IsFirstFault fault) input now before after old new counts h f

-- nothing was read
pub not_begun : (input before : Option (List ℕ)) (old : GatewayValue) → IsReplay input before before old old (Err NoMemory)
not_begun input before old = stopped input input before before old old _ NoMemory (begun input before old _ refl) tt
