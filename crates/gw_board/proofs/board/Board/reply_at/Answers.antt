use Rattle.std.proofs.Common.{◌≡◌, List, None, map, sym, ap, subst, ◌∙◌, option_copied}
use Rattle.std.specs.Prelude.{slice_get}
use Rattle.gw_board.specs.BoardView.{value_of}
use Rattle.gw_board.specs.Boards.{Seen, GivesTheFold, reply_at}
use Rattle.gw_board.specs.BoardEntries.{place_of}
use Rattle.gw_board.specs.declared.board_entry.BoardEntry.{BoardEntry}
use Rattle.gw_board.proofs.OnTheWay.{gives_the_fold}
use Rattle.gw_board.proofs.BoardEntryFacts.{seat_place}
use Rattle.gw_board.proofs.LimitedText.{reply_is, none_there}
use Rattle.gw_board.proofs.board.Board.reply_at.Goals as goal

pub returns-in-Some-clause-all : goal.returns-in-Some-clause-all
returns-in-Some-clause-all c = λ all.
    let here : option_copied c.text_in.result ≡ reply_at (slice_get c.args.self.now.places c.args.place) =
    c.text_in.ensures
    ∙ sym (ap (λ (x : Seen). reply_at (slice_get x.places c.args.place)) (sym c.self.view_is)
    ∙ ap (λ (l : List BoardEntry). reply_at (slice_get (map place_of l) c.args.place)) (sym c.deref.ensures.value)
    ∙ ap reply_at (seat_place c.deref.result.now c.args.place c.in-Some.board_entry.now c.in-Some.ensures.lookup.3.0 c.in-Some.ensures.lookup.1)) in
    here ∙ reply_is c.args.self.now (subst GivesTheFold c.self.view_is (gives_the_fold (value_of c.self.inside) c.self.invariant.on_the_way)) all c.args.place

pub returns-in-None-clause-reply : goal.returns-in-None-clause-reply
returns-in-None-clause-reply c =
    let none : slice_get (value_of c.self.inside).places c.args.place ≡ None = none_there c.self.inside.board_entries.items c.deref.result.now c.args.place c.deref.ensures.value c.in-None.ensures.lookup.3 in
    sym (ap (λ (x : Seen). reply_at (slice_get x.places c.args.place)) (sym c.self.view_is) ∙ ap reply_at none)

pub returns-in-None-clause-all : goal.returns-in-None-clause-all
returns-in-None-clause-all c = λ all.
    returns-in-None-clause-reply c
    ∙ reply_is c.args.self.now (subst GivesTheFold c.self.view_is (gives_the_fold (value_of c.self.inside) c.self.invariant.on_the_way)) all c.args.place
