use Rattle.std.proofs.Common.{◌≡◌, ◌≤◌, ◌+◌, ℕ, true, false, List, ◌∷◌, ◌++◌, [], map, drop, take, length, sym, ap, subst, ◌∙◌, arith}
use Rattle.std.specs.Prelude.{◌&&◌, slice_get}
use Rattle.gw_table.specs.Maps.{Maps}
use Rattle.gw_table.specs.declared.undo_log.Write.{Write}
use Rattle.gw_table.specs.UndoLog.{keys_written, undone as taken}
use Rattle.gw_table.specs.Parts.{Parted, start_of}
use Rattle.gw_table.specs.Stored.{Stored, maps_of, names_entry, AreReady, KeepReady, NoOtherReady}
use Rattle.gw_board.specs.BoardView.{value_of, IsOnTheWay, IsKeptIn, NoneIsSpare}
use Rattle.gw_board.specs.Boards.{Seen, requested_in, begun_board, core_of, is_pending_at, AllClosed, unclosed}
use Rattle.gw_board.specs.Carried.{BurstRequest}
use Rattle.gw_board.specs.Core.{Place, pending}
use Rattle.gw_board.specs.Fitting.{Each}
use Rattle.gw_board.specs.GoingOn.{MayGoOn}
use Rattle.gw_board.specs.UndoLog.{UndoStep, undone}
use Rattle.gw_board.specs.Results.{NothingIsOpen}
use Rattle.gw_board.specs.BoardEntries.{place_of, undo_step_of_writes}
use Rattle.gw_board.proofs.Comes.{out_of_none}
use Rattle.gw_board.proofs.GoingOn.{begun_at, fewer_behind, first_left, left_behind, led_behind, led_from, none_pending, with_undo_log}
use Rattle.gw_board.proofs.KeptIn.{all_ready, begun_kept, none_out}
use Rattle.gw_board.proofs.OnTheWay.{begun_way, gives_the_fold}
use Rattle.gw_board.proofs.Orders.{each_joined}
use Rattle.gw_board.proofs.BoardEntryFacts.{unclosed-pending, length-places, length-requested}
use Rattle.gw_board.proofs.Spare.{swept_spare, alone_spare}
use Rattle.gw_board.proofs.board.Board.carry_places.Goals as goal
use Rattle.gw_board.proofs.board.Board.carry_places.Given.{Over}
use Rattle.gw_board.proofs.board.Board.carry_places.Goals.{After-all_pending, After-push_reserved}

-- what the caller knows of the board holds of it as its fields are
none_here : (b now : Seen) → b ≡ now → NothingIsOpen (core_of now) → NothingIsOpen (core_of b)
none_here b now e h = subst (λ (x : Seen). NothingIsOpen (core_of x)) (sym e) h

first_here : (b now : Seen) (i : ℕ) → b ≡ now → AllClosed (take i now.places) → is_pending_at (slice_get now.places i) ≡ true → unclosed (drop (i + 1) b.places) + 1 ≡ unclosed b.places
first_here b now i e h pends = subst (λ (x : Seen). unclosed (drop (i + 1) x.places) + 1 ≡ unclosed x.places) (sym e) (first_left now.places i h pends)

-- the draft begins on the way
started : (b : Seen) → IsOnTheWay b → NothingIsOpen (core_of b) → (maps : Maps) → maps ≡ b.maps → MayGoOn b.profile b.start maps b.places
started b w none maps e = subst (λ (m : Maps). MayGoOn b.profile b.start m b.places) (sym e) (record { undo_log = b.undo_log; way = w; none = none })

pub of_tables-draft-requires : goal.of_tables-draft-requires
of_tables-draft-requires g c = grind (arith, none_out, none_here)

pub carry_range-requires-clause-goes_on : goal.carry_range-requires-clause-goes_on
carry_range-requires-clause-goes_on g c κs within =
    let b : Seen = value_of c.self.inside in
    let maps_are : c.of_tables-draft.result.maps ≡ b.maps = ap (λ (p : Parted). p.maps) c.of_tables-draft.ensures ∙ ap (λ (s : Stored). maps_of s) c.replace-tables.ensures.value in
    (b.start, started b c.self.invariant.on_the_way (none_here b c.args.self.now c.self.view_is c.requires.«open») c.of_tables-draft.result.maps maps_are)

pub carry_range-requires-clause-inside : goal.carry_range-requires-clause-inside
carry_range-requires-clause-inside g c κs within =
    let same : length (value_of c.self.inside).places ≡ length c.args.self.now.places = ap (λ (x : Seen). length x.places) c.self.view_is in
    let places = length-places c.self.inside.board_entries.items in
    let o = c.self.inside.board_entries.ok.0 in
    omega (arith, c.requires.inside)

-- ---- after want of memory

pub put_all_back-requires-clause-ready : goal.put_all_back-requires-clause-ready
put_all_back-requires-clause-ready g c =
    let b : Seen = value_of c.self.inside in
    let begun = begun_at c.replace-tables.ensures.value c.of_tables-draft.ensures c.carry_range.ensures.keys in
    all_ready b.undo_log c.self.inside.tables c.undone.result (subst (λ (s : Stored). KeepReady s c.undone.result) begun c.undone.ensures.kept) c.self.invariant.kept.ready

module _ (g : Over) (c : After-all_pending g) where
  abbrev before : Seen
  before = value_of c.self.inside

  abbrev back : Stored
  back = c.put_all_back.new.tables

  abbrev left : Seen
  left = record { profile = before.profile; start = before.start; maps = maps_of back; places = map place_of c.all_pending.new.board_entries.items; undo_log = c.put_all_back.new.undo_log.items }

  places_are : map place_of c.all_pending.new.board_entries.items ≡ map pending (requested_in before.places)
  places_are = c.all_pending.ensures.places ∙ ap (λ (l : List BurstRequest). map pending l) c.carry_range.ensures.requested

  maps_begun : maps_of back ≡ (maps_of before.start)
  maps_begun =
      c.put_all_back.ensures.maps
      ∙ ap (undone before.undo_log) (c.undone.ensures.maps ∙ ap (λ (s : Stored). maps_of s) (begun_at c.replace-tables.ensures.value c.of_tables-draft.ensures c.carry_range.ensures.keys))
      ∙ led_from before c.self.invariant.on_the_way (none_here before c.args.self.now c.self.view_is c.requires.«open»)

  is_begun : left ≡ begun_board before.profile (requested_in before.places) before.start
  is_begun = λ j. record { profile = before.profile; start = before.start; maps = maps_begun j; places = places_are j; undo_log = c.put_all_back.ensures.none j }

  begun_again : IsOnTheWay (begun_board before.profile (requested_in before.places) before.start)
  begun_again = begun_way before.profile (requested_in before.places) before.start c.self.invariant.on_the_way.begun.well c.self.invariant.on_the_way.begun.unused

pub invariant_of-self : goal.invariant_of-self
invariant_of-self g c =
    let all : unclosed (map place_of c.all_pending.new.board_entries.items) ≡ length (requested_in (before g c).places) = ap unclosed (places_are g c) ∙ unclosed-pending (requested_in (before g c).places) in
    let requested : length (requested_in (before g c).places) ≡ length (before g c).places = length-requested (before g c).places in
    let places : length (before g c).places ≡ length c.self.inside.board_entries.items = length-places c.self.inside.board_entries.items in
    let none : length c.put_all_back.new.undo_log.items ≡ 0 = ap length c.put_all_back.ensures.none in
    let room = c.self.invariant.room.all in
    let replies = c.self.invariant.room.replies in
    let len = c.all_pending.ensures.len in
    let carried = c.carry_range.ensures.len in
    let space = c.put_all_back.ensures.capacity in
    let o = c.put_all_back.new.undo_log.ok.0 in
    let s = c.self.inside.board_entries.ok.0 in
    record {
      on_the_way = subst IsOnTheWay (sym (is_begun g c)) (begun_again g c);
      kept = subst (IsKeptIn (back g c)) (sym (is_begun g c)) (begun_kept (before g c).profile (requested_in (before g c).places) (before g c).start (back g c) c.put_all_back.ensures.here);
      room = record { undo_log = omega arith; all = omega arith; replies = omega arith; no_replies = c.self.invariant.room.no_replies };
      spare = λ e. swept_spare c.self.inside.start.value (back g c) c.put_all_back.new.undo_log.items (map place_of c.all_pending.new.board_entries.items) c.put_all_back.ensures.swept;
    }

pub returns-in_default-clause-none : goal.returns-in_default-clause-none
returns-in_default-clause-none g c = subst (λ (x : Seen). NothingIsOpen (core_of x)) (sym (is_begun g c)) (none_pending (requested_in (before g c).places))

pub returns-in_default-clause-outcome : goal.returns-in_default-clause-outcome
returns-in_default-clause-outcome g c = gives_the_fold (left g c) (subst IsOnTheWay (sym (is_begun g c)) (begun_again g c))

pub returns-in_default-clause-err : goal.returns-in_default-clause-err
returns-in_default-clause-err g c = is_begun g c ∙ ap (λ (x : Seen). begun_board x.profile (requested_in x.places) x.start) c.self.view_is

-- ---- with all replies

pub push_reserved-requires : goal.push_reserved-requires
push_reserved-requires g c =
    let some = first_here (value_of c.self.inside) c.args.self.now c.args.places.start c.self.view_is c.requires.first c.requires.pends in
    let room = c.self.invariant.room.undo_log in
    omega arith

module _ (g : Over) (c : After-push_reserved g) where
  abbrev b : Seen
  b = value_of c.self.inside

  abbrev way : IsOnTheWay b
  way = c.self.invariant.on_the_way

  none : NothingIsOpen (core_of b)
  none = none_here b c.args.self.now c.self.view_is c.requires.«open»

  abbrev tables : Stored
  tables = c.into_tables-tables.result.0

  abbrev found : List Write
  found = c.into_tables-tables.result.1

  abbrev last : UndoStep
  last = undo_step_of_writes found

  abbrev places : List Place
  places = map place_of c.carry_range.new.board_entries.items

  abbrev maps : Maps
  maps = c.carry_range.new.draft.maps

  went : MayGoOn b.profile b.start maps places
  went = c.in-Ok.ensures.goes_on b.start (started b way none c.of_tables-draft.result.maps (ap (λ (p : Parted). p.maps) c.of_tables-draft.ensures ∙ ap (λ (s : Stored). maps_of s) c.replace-tables.ensures.value))

  undo_log_is : c.push_reserved.new.self.items ≡ b.undo_log ++ last ∷ []
  undo_log_is = c.push_reserved.ensures.items ∙ ap (λ (o : UndoStep). b.undo_log ++ o ∷ []) c.of_writes.ensures

  begun : start_of c.carry_range.new.draft.keys ≡ c.self.inside.tables
  begun = begun_at c.replace-tables.ensures.value c.of_tables-draft.ensures c.carry_range.ensures.keys

  maps_are : maps_of tables ≡ maps
  maps_are = c.into_tables-tables.ensures.maps

  leads_back : taken found (maps_of tables) ≡ b.maps
  leads_back = c.into_tables-tables.ensures.back ∙ ap (λ (s : Stored). maps_of s) begun

  abbrev new : Seen
  new = record { profile = b.profile; start = b.start; maps = maps_of tables; places = places; undo_log = c.push_reserved.new.self.items }

  is_new : new ≡ record { profile = b.profile; start = b.start; maps = maps; places = places; undo_log = b.undo_log ++ last ∷ [] }
  is_new = λ j. record { profile = b.profile; start = b.start; maps = maps_are j; places = places; undo_log = undo_log_is j }

  new_way : IsOnTheWay new
  new_way = subst IsOnTheWay (sym is_new) (with_undo_log b.profile b.start maps places went (b.undo_log ++ last ∷ []) (led_behind b.undo_log last maps b.maps (maps_of b.start) (ap (taken found) (sym maps_are) ∙ leads_back) (led_from b way none)))

  still_ready : Each (λ o. AreReady o.keys tables) b.undo_log
  still_ready = all_ready b.undo_log c.self.inside.tables tables (subst (λ (s : Stored). KeepReady s tables) begun c.into_tables-tables.ensures.kept) c.self.invariant.kept.ready

  new_kept : IsKeptIn tables new
  new_kept = record {
    out = λ k. c.into_tables-tables.ensures.here k ∙ ap (λ x. x && names_entry k) (sym (out_of_none places went.none k));
    ready = subst (Each (λ o. AreReady o.keys tables)) (sym undo_log_is) (each_joined (λ o. AreReady o.keys tables) b.undo_log (last ∷ []) still_ready (c.into_tables-tables.ensures.ready, tt));
  }

  new_spare : c.self.inside.sweeps_all ≡ false → NoneIsSpare b.start tables c.push_reserved.new.self.items places
  new_spare h =
      subst (λ (l : List UndoStep). NoneIsSpare b.start tables l places) (sym undo_log_is)
      (alone_spare b none found c.self.inside.tables tables (subst (λ (s : Stored). NoOtherReady (keys_written found) s tables) begun c.into_tables-tables.ensures.alone) leads_back (c.self.invariant.spare h) places)

  now_left : unclosed places ≡ unclosed (drop c.args.places.end b.places)
  now_left = left_behind places c.args.places.end c.in-Ok.ensures.closed ∙ ap unclosed c.in-Ok.ensures.beside.behind

pub invariant_of-self-2 : goal.invariant_of-self-2
invariant_of-self-2 g c =
    let left : unclosed (map place_of c.carry_range.new.board_entries.items) ≡ unclosed (drop c.args.places.end (b g c).places) = now_left g c in
    let low : c.args.places.start + 1 ≤ c.args.places.end = omega (arith, c.requires.range) in
    let fewer = fewer_behind (b g c).places (c.args.places.start + 1) c.args.places.end low in
    let some = first_here (b g c) c.args.self.now c.args.places.start c.self.view_is c.requires.first c.requires.pends in
    let room = c.self.invariant.room.undo_log in
    let all = c.self.invariant.room.all in
    let replies = c.self.invariant.room.replies in
    let len = c.carry_range.ensures.len in
    let more = c.push_reserved.ensures.len in
    let space = c.push_reserved.ensures.capacity in
    record {
      on_the_way = new_way g c;
      kept = new_kept g c;
      room = record { undo_log = omega arith; all = omega arith; replies = omega arith; no_replies = c.self.invariant.room.no_replies };
      spare = new_spare g c;
    }

pub returns-clause-left : goal.returns-clause-left
returns-clause-left g c = now_left g c ∙ ap (λ (x : Seen). unclosed (drop c.args.places.end x.places)) c.self.view_is

pub returns-clause-none : goal.returns-clause-none
returns-clause-none g c = (went g c).none

pub returns-clause-outcome : goal.returns-clause-outcome
returns-clause-outcome g c = gives_the_fold (new g c) (new_way g c)
