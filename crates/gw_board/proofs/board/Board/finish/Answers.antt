use Rattle.std.proofs.Common.{◌≡◌, List, [], map, sym, ap, subst, ◌∙◌, arith}
use Rattle.gw_board.specs.Texts.{Text}
use Rattle.gw_table.specs.Maps.{Outcome}
use Rattle.gw_table.specs.Stored.{maps_of, AreSwept, AreSweptAmong}
use Rattle.gw_board.specs.BoardView.{value_of}
use Rattle.gw_board.specs.Boards.{Seen, core_of, requested_in}
use Rattle.gw_board.specs.Carried.{carried}
use Rattle.gw_board.specs.Fitting.{Each}
use Rattle.gw_board.specs.UndoLog.{UndoStep}
use Rattle.gw_board.specs.Results.{AreClosed}
use Rattle.gw_board.specs.BoardEntries.{place_of}
use Rattle.gw_board.specs.declared.board_entry.BoardEntry.{BoardEntry}
use Rattle.gw_board.proofs.Comes.{all_closed, closed_ones, out_of_none}
use Rattle.gw_board.proofs.KeptIn.{none_out}
use Rattle.gw_board.proofs.OnTheWay.{gives_the_fold}
use Rattle.gw_board.proofs.BoardEntryFacts.{told_as, told_all, nil_of}
use Rattle.gw_board.proofs.Spare.{finished}
use Rattle.gw_board.proofs.board.Board.finish.Goals as goal
use Rattle.gw_board.proofs.board.Board.finish.Goals.{After-drop-self-inside}

-- no seat is left, so each is closed with its reply
closed_now : (board_entries first rest : List BoardEntry) (replies : List Text) → first ≡ board_entries → told_as replies rest ≡ told_as [] first → rest ≡ [] → AreClosed (map place_of board_entries) replies
closed_now board_entries first rest replies e limited_text none = ap (λ (l : List BoardEntry). told_as [] l) (sym e) ∙ sym limited_text ∙ ap (told_as replies) none ∙ told_all replies

pub sweep_logged-requires : goal.sweep_logged-requires
sweep_logged-requires c =
    let b : Seen = value_of c.self.inside in
    let replies : List Text = c.loop-board_entry.replies.items in
    let rest : List BoardEntry = c.loop-board_entry.board_entry-iterator.rest.items in
    let none : rest ≡ [] = nil_of rest (let n = c.in-None.ensures.steps.0 in let o = c.loop-board_entry.board_entry-iterator.rest.ok.0 in omega arith) in
    let closed = closed_now c.self.inside.board_entries.items c.into_iter-board_entry-iterator.result.rest.items rest replies c.into_iter-board_entry-iterator.ensures.into_iter_gives.0 c.loop-board_entry.invariant.limited_text none in
    none_out b c.self.inside.tables c.self.invariant.kept (closed_ones b.places replies closed)

module _ (c : After-drop-self-inside) where
  abbrev b : Seen
  b = value_of c.self.inside

  abbrev replies : List Text
  replies = c.loop-board_entry.replies.items

  abbrev rest : List BoardEntry
  rest = c.loop-board_entry.board_entry-iterator.rest.items

  abbrev ended : Outcome (List Text)
  ended = record { maps = b.maps; answer = replies }

  are_closed : AreClosed b.places replies
  are_closed =
      closed_now c.self.inside.board_entries.items c.into_iter-board_entry-iterator.result.rest.items rest replies c.into_iter-board_entry-iterator.ensures.into_iter_gives.0 c.loop-board_entry.invariant.limited_text
      (nil_of rest (let n = c.in-None.ensures.steps.0 in let o = c.loop-board_entry.board_entry-iterator.rest.ok.0 in omega arith))

  comes_to : ended ≡ carried b.profile (requested_in b.places) (maps_of b.start)
  comes_to = sym (all_closed b.profile (core_of b) replies are_closed) ∙ gives_the_fold b c.self.invariant.on_the_way

pub returns-clause-maps : goal.returns-clause-maps
returns-clause-maps c = c.sweep_logged.ensures.maps ∙ ap (λ (o : Outcome (List Text)). o.maps) (comes_to c) ∙ ap (λ (x : Seen). (carried x.profile (requested_in x.places) (maps_of x.start)).maps) c.self.view_is

pub returns-clause-replies : goal.returns-clause-replies
returns-clause-replies c = ap (λ (o : Outcome (List Text)). o.answer) (comes_to c) ∙ ap (λ (x : Seen). (carried x.profile (requested_in x.places) (maps_of x.start)).answer) c.self.view_is

pub returns-clause-swept : goal.returns-clause-swept
returns-clause-swept c = λ start.
    let logged : c.deref.result.now ≡ (b c).undo_log = c.deref.ensures.value in
    finished (b c).start c.self.inside.tables c.sweep_logged.new.tables (b c).undo_log (b c).places c.self.inside.sweeps_all c.sweep_logged.ensures.maps
    (out_of_none (b c).places (closed_ones (b c).places (replies c) (are_closed c))) c.sweep_logged.ensures.fewer c.sweep_logged.ensures.all
    (subst (λ (l : List UndoStep). Each (λ o. AreSweptAmong o.keys c.sweep_logged.new.tables) l) logged c.sweep_logged.ensures.swept) c.self.invariant.spare
    (subst (λ (x : Seen). AreSwept x.start) (sym c.self.view_is) start)
