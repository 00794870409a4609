-- The runs of all workers, their seats joined one after another.
use Rattle.std.proofs.Common.{◌≡◌, ℕ, ◌+◌, List, [], ◌∷◌, ◌++◌, All, length, sym, ap, ◌∙◌, subst, arith, Option, None, Ok, Some, Result, IfOk, replicate}
use Rattle.std.proofs.lemmas.List.Elements.{All-pop}
use denote.Ref.{Bor}
use denote.Param.Members.{Shared}
use Rattle.gw_base.specs.declared.fault.NoMemory.{NoMemory}
use Rattle.gw_draw.specs.declared.table.View.{View}
use Rattle.gw_draw.specs.declared.table.Table.{Table}
use Rattle.gw_draw.specs.declared.table.Seat.{Seat}
use Rattle.gw_draw.specs.declared.map.Run.{Run}
use Rattle.gw_draw.specs.Draws.{times, view}
use Rattle.gw_draw.specs.Answers.{IsSeatOf, view_of, placed, IsRun, IsJoined, IsFilled}
use Rattle.gw_draw.proofs.Sums.{weigh-append, is}
use Rattle.gw_draw.proofs.Places.{filled_none, filled_more, has_past}

module _ {F J R : Type 0} (g : Shared F (Bor J × Unit {0}) R) (f : F) (t : Table) (js : List J) (workers : ℕ) where
  abbrev Ran : Result (Run R) NoMemory → Type 0
  Ran r = IfOk r (IsRun g f t js workers)

  pub popped : (xs ys : List (Result (Run R) NoMemory)) (x : Result (Run R) NoMemory) (w : Run R) → All Ran xs → xs ≡ ys ++ x ∷ [] → x ≡ Ok w → All Ran ys × IsRun g f t js workers w
  popped xs ys x w all e is = let p = All-pop Ran xs ys (Some x) e all in (p.0, subst Ran is p.1)

  pub allowance_of : (w : Run R) → IsRun g f t js workers w → (view_of w.seat).allowance ≡ 1
  allowance_of w r = ap (λ (v : View). v.allowance) r.1.drawn

  pub first_joined : (w : Run R) (blank out : List (Option R)) → IsRun g f t js workers w → blank ≡ replicate (length js) None → out ≡ placed blank w.answers.items → IsJoined g f t js workers w.seat out
  first_joined w blank out r e o =
      let d = r.1 in
      let fill = filled_more g f js [] (replicate (length js) None) workers (view_of w.seat) w.answers.items (filled_none g f js) d in
      record {
        table = r.0;
        knows = d.drawn ∙ sym (ap (λ (v : View). view v.drawn v.allowance (length js) workers) d.drawn);
        past = d.past;
        is_past = d.is_past;
        has_past = has_past g f js workers (view_of w.seat) w.answers.items d;
        filled = subst (IsFilled g f js (view_of w.seat).drawn) (sym (o ∙ ap (λ (b : List (Option R)). placed b w.answers.items) e)) fill;
      }

  pub more_joined : (seat next : Seat) (w : Run R) (out after : List (Option R)) → IsJoined g f t js workers seat out → IsRun g f t js workers w → IsSeatOf t next
      → view_of next ≡ view ((view_of seat).drawn ++ (view_of w.seat).drawn) ((view_of seat).allowance + (view_of w.seat).allowance) (view_of seat).jobs (view_of seat).workers
      → after ≡ placed out w.answers.items → IsJoined g f t js workers next after
  more_joined seat next w out after j r of both o =
      let d = r.1 in
      let stands = j.has_past in
      let drawn : (view_of next).drawn ≡ (view_of seat).drawn ++ (view_of w.seat).drawn = ap (λ (v : View). v.drawn) both in
      let jobs : (view_of seat).jobs ≡ length js = ap (λ (v : View). v.jobs) j.knows in
      let crew : (view_of seat).workers ≡ workers = ap (λ (v : View). v.workers) j.knows in
      let whole : view_of next ≡ view ((view_of seat).drawn ++ (view_of w.seat).drawn) ((view_of seat).allowance + (view_of w.seat).allowance) (length js) workers =
      both ∙ (λ i. view ((view_of seat).drawn ++ (view_of w.seat).drawn) ((view_of seat).allowance + (view_of w.seat).allowance) (jobs i) (crew i)) in
      let sum = weigh-append (is j.past) (view_of seat).drawn (view_of w.seat).drawn in
      let same : times j.past (view_of next).drawn ≡ times j.past ((view_of seat).drawn ++ (view_of w.seat).drawn) = ap (times j.past) drawn in
      let fill = filled_more g f js (view_of seat).drawn out workers (view_of w.seat) w.answers.items j.filled d in
      record {
        table = of;
        knows = whole ∙ sym (ap (λ (v : View). view v.drawn v.allowance (length js) workers) whole);
        past = j.past;
        is_past = j.is_past;
        has_past = omega arith;
        filled = subst (λ (p : List ℕ × List (Option R)). IsFilled g f js p.0 p.1) (λ i. (sym drawn i, sym o i)) fill;
      }
