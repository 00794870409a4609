-- What is out of the tables while jobs are open.
use Rattle.std.proofs.Common.{◌≡◌, ℕ, suc, Bool, true, false, not, List, [], ◌∷◌, ◌++◌, take, drop, Option, None, Some, is_some, refl, sym, ap, ◌∙◌}
use Rattle.std.specs.Prelude.{◌||◌, ◌&&◌, slice_get, slice_set}
use Rattle.std.specs.FinMap as finite
use Rattle.gw_base.specs.declared.key.Key.{Key}
use Rattle.gw_base.specs.declared.key.Key.TheVariants.{Term, Ctx, Whole}
use Rattle.gw_base.specs.Keys.{has}
use Rattle.gw_table.specs.declared.place.Place.{Place as Slot}
use Rattle.gw_table.specs.Stored.{Stored, has_left, is_out, names_entry, AreReady, AreIn, AreOut, NoneIsOut, KeepReady, WentOut, CameBack}
use Rattle.gw_board.specs.BoardView.{IsOnTheWay, IsKeptIn}
use Rattle.gw_board.specs.Boards.{Seen, Handed, HasOpen, core_of, begun_board, job_of, undo_step_in, with_open, with_result, unchanged, outcome_of}
use Rattle.gw_board.specs.Carried.{BurstRequest}
use Rattle.gw_board.specs.Core.{Place, pending, open_with, closed_with, MayOpen}
use Rattle.gw_board.specs.Fitting.{Each, out_at, out}
use Rattle.gw_board.specs.UndoLog.{UndoStep}
use Rattle.gw_board.specs.Results.{NothingIsOpen}
use Rattle.gw_board.proofs.Closing.{clear_of_others}
use Rattle.gw_board.proofs.Comes.{out_of_none}
use Rattle.gw_board.proofs.Orders.{each_map, each_joined}
use Rattle.gw_board.proofs.Outs.{out-place}
use Rattle.gw_board.proofs.Slices.{parts_at, parts_set}
use Rattle.gw_board.proofs.Started.{nothing_out}
use Rattle.gw_board.proofs.Steps.{open_clear, here_stand}

-- ---- tests

opened_too : (e k o : Bool) → ((o && e) || (k && e)) ≡ ((k || o) && e)
opened_too true true true = refl
opened_too true true false = refl
opened_too true false true = refl
opened_too true false false = refl
opened_too false true true = refl
opened_too false true false = refl
opened_too false false true = refl
opened_too false false false = refl

no_more : (k o e : Bool) → (k ≡ true → o ≡ false) → (((k || o) && e) && not k) ≡ (o && e)
no_more true true e f = absurd (let clash : true ≡ false = f refl in cc)
no_more true false true f = refl
no_more true false false f = refl
no_more false true true f = refl
no_more false true false f = refl
no_more false false e f = refl

-- ---- what is out has a place

left_ready : {A : Type 0} (o : Option (Slot A)) → has_left o ≡ true → is_some o ≡ true
left_ready None h = absurd cc
left_ready (Some p) h = refl

pub out_are_ready : (keys : List Key) (s : Stored) → AreOut keys s → AreReady keys s
out_are_ready keys s o (Term t) h = left_ready (finite.get s.terms t) (o (Term t) h refl)
out_are_ready keys s o (Ctx n) h = left_ready (finite.get s.contexts n.0) (o (Ctx n) h refl)
out_are_ready keys s o Whole h = refl

pub all_ready : (undo_log : List UndoStep) (s t : Stored) → KeepReady s t → Each (λ o. AreReady o.keys s) undo_log → Each (λ o. AreReady o.keys t) undo_log
all_ready undo_log s t f h = each_map {P = λ o. AreReady o.keys s} {Q = λ o. AreReady o.keys t} (λ o g k i. f k (g k i)) undo_log h

-- ---- what the places have out

module _ (places : List Place) (i : ℕ) (x : Place) (e : slice_get places i ≡ Some x) where
  abbrev pub others : List Place
  others = take i places ++ drop (suc i) places

  pub was_out : (q : Key) → has (out places) q ≡ (has (out_at x.standing) q || has (out others) q)
  was_out q = ap (λ (l : List Place). has (out l) q) (parts_at places i x e) ∙ out-place (take i places) (drop (suc i) places) x q

  pub now_out : (new : Place) (q : Key) → has (out (slice_set places i new)) q ≡ (has (out_at new.standing) q || has (out others) q)
  now_out new q = ap (λ (l : List Place). has (out l) q) (parts_set places i x new e) ∙ out-place (take i places) (drop (suc i) places) new q

-- ---- at the start

pub begun_kept : (profile : _) (requested : List BurstRequest) (start s : Stored) → NoneIsOut s → IsKeptIn s (begun_board profile requested start)
begun_kept profile requested start s h = record { out = λ k. h k ∙ ap (λ b. b && names_entry k) (sym (nothing_out requested k)); ready = tt }

-- ---- a place is opened

pub open_in : (b : Seen) (i : ℕ) (a : BurstRequest) (keys : List Key) (s : Stored) → IsOnTheWay b → MayOpen (core_of b) i a keys → ((k : Key) → is_out s k ≡ (has (out b.places) k && names_entry k)) → AreIn keys s
open_in b i a keys s w may is k h = is k ∙ ap (λ o. o && names_entry k) ((open_clear b.profile (core_of b) w.fits i a keys may).none k h)

pub open_kept : (b : Seen) (i : ℕ) (a : BurstRequest) (keys : List Key) (s t : Stored) → IsKeptIn s b → slice_get b.places i ≡ Some (pending a) → WentOut keys s t → KeepReady s t → IsKeptIn t (with_open b i a keys)
open_kept b i a keys s t kept e went ready = record {
  out = λ k.
      went k
      ∙ ap (λ o. o || (has keys k && names_entry k)) (kept.out k ∙ ap (λ o. o && names_entry k) (was_out b.places i (pending a) e k))
      ∙ opened_too (names_entry k) (has keys k) (has (out (others b.places i (pending a) e)) k)
      ∙ ap (λ o. o && names_entry k) (sym (now_out b.places i (pending a) e (open_with a _) k));
  ready = all_ready b.undo_log s t ready kept.ready;
}

-- ---- a job is closed

module _ (b : Seen) (w : IsOnTheWay b) (h : Handed) (o : HasOpen b h) (s : Stored) (kept : IsKeptIn s b) where
  abbrev x : Place
  x = open_with h.requested (job_of h)

  pub open_out : AreOut h.keys s
  open_out k i n = kept.out k ∙ (λ j. was_out b.places h.place x o.stands k j && n j) ∙ (λ j. (i j || has (out (others b.places h.place x o.stands)) k) && true)

  not_others : (k : Key) → has h.keys k ≡ true → has (out (others b.places h.place x o.stands)) k ≡ false
  not_others k i = (clear_of_others b.profile w.fits.whole h.requested (job_of h) _ _ (here_stand b.profile (core_of b) w.fits h.place h.requested (job_of h) o.stands)).none k i

  module _ (t : Stored) (back : CameBack h.keys s t) (ready : KeepReady s t) where
    out_now : (new : Place) → out_at new.standing ≡ [] → (k : Key) → is_out t k ≡ (has (out (slice_set b.places h.place new)) k && names_entry k)
    out_now new e k =
        back k
        ∙ ap (λ q. q && not (has h.keys k)) (kept.out k ∙ ap (λ q. q && names_entry k) (was_out b.places h.place x o.stands k))
        ∙ no_more (has h.keys k) (has (out (others b.places h.place x o.stands)) k) (names_entry k) (not_others k)
        ∙ ap (λ q. q && names_entry k) (ap (λ (l : List Key). has l k || has (out (others b.places h.place x o.stands)) k) (sym e) ∙ sym (now_out b.places h.place x o.stands new k))

    pub unchanged_kept : IsKeptIn t (unchanged b h)
    unchanged_kept = record { out = out_now (pending h.requested) refl; ready = all_ready b.undo_log s t ready kept.ready }

    pub result_kept_in : IsKeptIn t (with_result b h)
    result_kept_in = record {
      out = out_now (closed_with h.requested (outcome_of h).answer) refl;
      ready = each_joined (λ p. AreReady p.keys t) b.undo_log (undo_step_in h ∷ []) (all_ready b.undo_log s t ready kept.ready) ((λ k i. ready k (out_are_ready h.keys s open_out k i)), tt);
    }

-- ---- at the end

pub none_out : (b : Seen) (s : Stored) → IsKeptIn s b → NothingIsOpen (core_of b) → NoneIsOut s
none_out b s kept h k = kept.out k ∙ ap (λ o. o && names_entry k) (out_of_none b.places h k)
