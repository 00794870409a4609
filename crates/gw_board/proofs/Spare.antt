-- Keys that are prepared without an entry: none but those of the undo log and of open jobs, where there was none at the start.
use Rattle.std.proofs.Common.{◌≡◌, ℕ, Bool, true, false, cond, List, [], ◌∷◌, ◌++◌, None, Some, is_some, refl, sym, ap, ◌∙◌}
use Rattle.std.specs.Prelude.{◌||◌, slice_get}
use Rattle.gw_base.specs.declared.key.Key.{Key}
use Rattle.gw_base.specs.declared.key.Key.TheVariants.{Term, Ctx, Whole}
use Rattle.gw_base.specs.Keys.{has}
use Rattle.gw_base.proofs.Booleans.{neither}
use Rattle.gw_table.specs.declared.undo_log.Write.{Write}
use Rattle.gw_table.specs.Maps.{Maps, term, ctx}
use Rattle.gw_table.specs.UndoLog.{keys_written, undone as taken}
use Rattle.gw_table.specs.Parts.{cut, overlaid}
use Rattle.gw_table.specs.Stored.{Stored, maps_of, is_ready, has_entry, AreAsReady, AreSwept, AreSweptAmong, KeepReady, NoOtherReady}
use Rattle.gw_table.proofs.PartLookups.{term-cut, ctx-cut, term-overlaid, ctx-overlaid}
use Rattle.gw_table.proofs.Swept.{both_or_none, entry_ready, still_swept}
use Rattle.gw_table.proofs.Undone.{entry-undone}
use Rattle.gw_board.specs.BoardView.{NoneIsSpare}
use Rattle.gw_board.specs.Boards.{Seen, Handed, HasOpen, core_of, job_of, undo_step_in, with_open, with_result, outcome_of}
use Rattle.gw_board.specs.Carried.{BurstRequest}
use Rattle.gw_board.specs.Core.{Place, pending, open_with, closed_with}
use Rattle.gw_board.specs.Fitting.{Each, out}
use Rattle.gw_board.specs.UndoLog.{UndoStep, is_logged}
use Rattle.gw_board.specs.Results.{NothingIsOpen}
use Rattle.gw_board.specs.BoardEntries.{undo_step_of_writes}
use Rattle.gw_board.proofs.Comes.{out_of_none}
use Rattle.gw_board.proofs.KeptIn.{others, was_out, now_out}
use Rattle.gw_board.proofs.Orders.{each_map}

-- ---- keys of the undo log

one_more : (a b c : Bool) → (a || (b || c)) ≡ ((a || b) || c)
one_more true b c = refl
one_more false b c = refl

or_none : (b : Bool) → (b || false) ≡ b
or_none true = refl
or_none false = refl

logged_more : (undo_log : List UndoStep) (o : UndoStep) (k : Key) → is_logged (undo_log ++ o ∷ []) k ≡ (is_logged undo_log k || has o.keys k)
logged_more [] o k = or_none (has o.keys k)
logged_more (p ∷ ps) o k = ap (λ b. has p.keys k || b) (logged_more ps o k) ∙ one_more (has p.keys k) (is_logged ps k) (has o.keys k)

-- each key of the undo log was swept
among : (undo_log : List UndoStep) (t : Stored) → Each (λ o. AreSweptAmong o.keys t) undo_log → (k : Key) → is_logged undo_log k ≡ true → is_ready t k ≡ has_entry (maps_of t) k
among [] t each k h = absurd cc
among (o ∷ os) t each k h = by (has o.keys k) refl h (among os t each.1 k)
  where
    by : (b : Bool) → has o.keys k ≡ b → (b || is_logged os k) ≡ true → (is_logged os k ≡ true → is_ready t k ≡ has_entry (maps_of t) k) → is_ready t k ≡ has_entry (maps_of t) k
    by true e g later = each.0 k e
    by false e g later = later g

pub swept_on : (undo_log : List UndoStep) (s t : Stored) → maps_of t ≡ maps_of s → KeepReady t s → Each (λ o. AreSweptAmong o.keys s) undo_log → Each (λ o. AreSweptAmong o.keys t) undo_log
swept_on undo_log s t same fewer h = each_map {P = λ o. AreSweptAmong o.keys s} {Q = λ o. AreSweptAmong o.keys t} (λ o g. still_swept o.keys s t same fewer g) undo_log h

-- ---- entries at other keys stay

entry_cut : (keys : List Key) (m : Maps) (k : Key) → has keys k ≡ false → has_entry (cut keys m) k ≡ has_entry m k
entry_cut keys m (Term t) h = ap (λ o. is_some o) (term-cut keys m t) ∙ ap (λ b. is_some (cond b None (term m t))) h
entry_cut keys m (Ctx n) h = ap (λ o. is_some o) (ctx-cut keys m n) ∙ ap (λ b. is_some (cond b None (ctx m n))) h
entry_cut keys m Whole h = refl

entry_overlaid : (keys : List Key) (part m : Maps) (k : Key) → has keys k ≡ false → has_entry (overlaid keys part m) k ≡ has_entry m k
entry_overlaid keys part m (Term t) h = ap (λ o. is_some o) (term-overlaid keys part m t) ∙ ap (λ b. is_some (cond b (term part t) (term m t))) h
entry_overlaid keys part m (Ctx n) h = ap (λ o. is_some o) (ctx-overlaid keys part m n) ∙ ap (λ b. is_some (cond b (ctx part n) (ctx m n))) h
entry_overlaid keys part m Whole h = refl

-- ---- the steps of a board

pub begun_spare : (start t : Stored) (undo_log : List UndoStep) (places : List Place) → start ≡ t → NoneIsSpare start t undo_log places
begun_spare start t undo_log places e swept k j o r = ap (λ (s : Stored). has_entry (maps_of s) k) (sym e) ∙ sym (swept k) ∙ ap (λ (s : Stored). is_ready s k) e ∙ r

-- of what was swept, none is
pub swept_spare : (start t : Stored) (undo_log : List UndoStep) (places : List Place) → AreSwept t → NoneIsSpare start t undo_log places
swept_spare start t undo_log places now swept k j o r = sym (now k) ∙ r

pub open_spare : (b : Seen) (i : ℕ) (a : BurstRequest) (keys : List Key) (s t : Stored) → slice_get b.places i ≡ Some (pending a) → NoOtherReady keys s t → maps_of t ≡ cut keys (maps_of s)
    → NoneIsSpare b.start s b.undo_log b.places → NoneIsSpare b.start t b.undo_log (with_open b i a keys).places
open_spare b i a keys s t e alone maps spare swept k j o r =
    let both = neither (has keys k) (has (out (others b.places i (pending a) e)) k) (sym (now_out b.places i (pending a) e (open_with a _) k) ∙ o) in
    ap (λ m. has_entry m k) maps ∙ entry_cut keys (maps_of s) k both.0 ∙ spare swept k j (was_out b.places i (pending a) e k ∙ both.1) (alone k both.0 r)

pub result_spare : (b : Seen) (h : Handed) → HasOpen b h → (s t : Stored) (part : Maps) → AreAsReady s t → maps_of t ≡ overlaid h.keys part (maps_of s)
    → NoneIsSpare b.start s b.undo_log b.places → NoneIsSpare b.start t (with_result b h).undo_log (with_result b h).places
result_spare b h o s t part same maps spare swept k j u r =
    let x : Place = open_with h.requested (job_of h) in
    let old = neither (is_logged b.undo_log k) (has h.keys k) (sym (logged_more b.undo_log (undo_step_in h) k) ∙ j) in
    let beside = sym (now_out b.places h.place x o.stands (closed_with h.requested (outcome_of h).answer) k) ∙ u in
    ap (λ m. has_entry m k) maps ∙ entry_overlaid h.keys part (maps_of s) k old.1
    ∙ spare swept k old.0 (was_out b.places h.place x o.stands k ∙ ap (λ y. y || has (out (others b.places h.place x o.stands)) k) old.1 ∙ beside) (sym (same k) ∙ r)

pub alone_spare : (b : Seen) → NothingIsOpen (core_of b) → (ws : List Write) (s t : Stored) → NoOtherReady (keys_written ws) s t → taken ws (maps_of t) ≡ maps_of s
    → NoneIsSpare b.start s b.undo_log b.places → (places : List Place) → NoneIsSpare b.start t (b.undo_log ++ undo_step_of_writes ws ∷ []) places
alone_spare b nothing ws s t alone back spare places swept k j o r =
    let parts = neither (is_logged b.undo_log k) (has (keys_written ws) k) (sym (logged_more b.undo_log (undo_step_of_writes ws) k) ∙ j) in
    sym (entry-undone ws (maps_of t) k parts.1) ∙ ap (λ m. has_entry m k) back ∙ spare swept k parts.0 (out_of_none b.places nothing k) (alone k parts.1 r)

pub finished : (start s t : Stored) (undo_log : List UndoStep) (places : List Place) (all : Bool) → maps_of t ≡ maps_of s → ((k : Key) → has (out places) k ≡ false) → KeepReady t s
    → (all ≡ true → AreSwept t) → Each (λ o. AreSweptAmong o.keys t) undo_log → (all ≡ false → NoneIsSpare start s undo_log places) → AreSwept start → AreSwept t
finished start s t undo_log places true same none fewer at_once each spare swept k = at_once refl k
finished start s t undo_log places false same none fewer at_once each spare swept k = by (is_logged undo_log k) refl
  where
    by : (b : Bool) → is_logged undo_log k ≡ b → is_ready t k ≡ has_entry (maps_of t) k
    by true e = among undo_log t each k e
    by false e = both_or_none (is_ready t k) (has_entry (maps_of t) k) (λ r. ap (λ m. has_entry m k) same ∙ spare refl swept k e (none k) (fewer k r)) (entry_ready t k)
