use Rattle.std.proofs.Common.{ap, sym, subst, ◌∙◌}
use Rattle.gw_table.specs.Stored.{maps_of}
use Rattle.gw_board.specs.BoardView.{value_of}
use Rattle.gw_board.specs.Boards.{Seen, core_of}
use Rattle.gw_board.specs.Fitting.{out}
use Rattle.gw_board.specs.UndoLog.{undone}
use Rattle.gw_board.specs.Results.{NothingIsOpen}
use Rattle.gw_board.proofs.Comes.{out_of_none}
use Rattle.gw_board.proofs.KeptIn.{none_out}
use Rattle.gw_board.proofs.Outs.{cut_none}
use Rattle.gw_board.proofs.board.Board.undo.Goals as goal

pub put_all_back-requires-clause-here : goal.put_all_back-requires-clause-here
put_all_back-requires-clause-here c =
    none_out (value_of c.self.inside) c.self.inside.tables c.self.invariant.kept (subst (λ (x : Seen). NothingIsOpen (core_of x)) (sym c.self.view_is) c.requires)

pub returns-clause-maps : goal.returns-clause-maps
returns-clause-maps c =
    let b : Seen = value_of c.self.inside in
    let none : NothingIsOpen (core_of b) = subst (λ (x : Seen). NothingIsOpen (core_of x)) (sym c.self.view_is) c.requires in
    let way = c.self.invariant.on_the_way in
    c.put_all_back.ensures.maps ∙ ap (undone b.undo_log) (way.fits.maps ∙ cut_none (out b.places) way.fits.whole (out_of_none b.places none)) ∙ way.back ∙ ap (λ (x : Seen). (maps_of x.start)) c.self.view_is
