-- The replies that stand on a board where every place is closed.
use Rattle.std.proofs.Common.{◌≡◌, ℕ, zero, suc, ◌≤◌, false, List, [], ◌∷◌, map, length, None, Some, unwrap_or, refl, sym, ap, ◌∙◌, arith}
use Rattle.std.specs.Prelude.{not, slice_get}
use Rattle.std.specs.List.{list_any}
use Rattle.std.proofs.lemmas.Option.{slice_get_past}
use Rattle.gw_base.proofs.Booleans.{neither}
use Rattle.gw_table.specs.Maps.{Outcome}
use Rattle.gw_table.specs.Stored.{maps_of}
use Rattle.gw_board.specs.Boards.{Seen, core_of, requested_in, is_closed, AllClosed, GivesTheFold, reply_of, reply_at}
use Rattle.gw_board.specs.Carried.{carried}
use Rattle.gw_board.specs.Core.{Standing, Pending, Opened, Closed, Place}
use Rattle.gw_board.specs.Results.{AreClosed}
use Rattle.gw_board.specs.BoardEntries.{place_of}
use Rattle.gw_board.specs.Texts.{Text}
use Rattle.gw_board.specs.declared.board_entry.BoardEntry.{BoardEntry}
use Rattle.gw_board.proofs.Comes.{all_closed}
use Rattle.gw_board.proofs.BoardEntryFacts.{length-places}

-- the texts at places that are closed
texts_at : List Place → List Text
texts_at [] = []
texts_at (p ∷ ps) = unwrap_or (reply_of p.standing) [] ∷ texts_at ps

here : (x : Standing) → not (is_closed x) ≡ false → (x ≡ Closed (unwrap_or (reply_of x) [])) × (reply_of x ≡ Some (unwrap_or (reply_of x) []))
here Pending h = absurd cc
here (Opened j) h = absurd cc
here (Closed reply) h = (refl, refl)

are_closed : (places : List Place) → AllClosed places → AreClosed places (texts_at places)
unfolding texts_at
are_closed [] h = refl
are_closed (p ∷ ps) h =
    let both = neither (not (is_closed p.standing)) (list_any (λ q. not (is_closed q.standing)) ps) h in
    λ i. (here p.standing both.0).0 i ∷ are_closed ps both.1 i

stands : (places : List Place) (i : ℕ) → AllClosed places → reply_at (slice_get places i) ≡ slice_get (texts_at places) i
unfolding texts_at
stands [] i h = refl
stands (p ∷ ps) zero h = (here p.standing (neither (not (is_closed p.standing)) (list_any (λ q. not (is_closed q.standing)) ps) h).0).1
stands (p ∷ ps) (suc i) h = stands ps i (neither (not (is_closed p.standing)) (list_any (λ q. not (is_closed q.standing)) ps) h).1

-- it is what carrying out all requests, one after another, answers there
pub reply_is : (b : Seen) → GivesTheFold b → AllClosed b.places → (i : ℕ) → reply_at (slice_get b.places i) ≡ slice_get (carried b.profile (requested_in b.places) (maps_of b.start)).answer i
reply_is b fold h i =
    stands b.places i h
    ∙ ap (λ (o : Outcome (List Text)). slice_get o.answer i) (sym (all_closed b.profile (core_of b) (texts_at b.places) (are_closed b.places h)) ∙ fold)

-- behind the last place there is none
pub none_there : (board_entries items : List BoardEntry) (i : ℕ) → items ≡ board_entries → length items ≤ i → slice_get (map place_of board_entries) i ≡ None
none_there board_entries items i e l =
    let count : length items ≡ length board_entries = ap length e in
    let places : length (map place_of board_entries) ≡ length board_entries = length-places board_entries in
    slice_get_past (map place_of board_entries) i (omega (arith, l, count, places))
