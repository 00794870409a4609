-- The jobs of a board that are open, each kept at its place (own), and when a board may come to its end.
use Rattle.std.specs.Prelude.{◌≡◌, ℕ, false, List, length, slice_get, Option, None, Some}
use Rattle.gw_board.specs.Boards.{Seen, Handed, HasOpen, AllClosed, core_of}
use Rattle.gw_board.specs.Results.{is_open_at, NothingIsOpen}
use Rattle.cases_board.specs.declared.held.End.{End}
use Rattle.cases_board.specs.declared.held.End.TheVariants.{Undo, Finish, Left}

-- what is kept at a place: the job that is open there, or nothing where none is
abbrev pub IsHeld : Seen → ℕ → Option (Option Handed) → Type 0
IsHeld b i None = is_open_at (slice_get b.places i) ≡ false
IsHeld b i (Some None) = is_open_at (slice_get b.places i) ≡ false
IsHeld b i (Some (Some h)) = (h.place ≡ i) × HasOpen b h

-- there is an entry for each place, and what is open is kept
pub record AreHeld (b : Seen) (held : List (Option Handed)) : Type 0 where
  pub count : length held ≡ length b.places
  pub each : (i : ℕ) → IsHeld b i (slice_get held i)

-- the job that is kept there
abbrev pub job_in : Option (Option Handed) → Option Handed
job_in None = None
job_in (Some o) = o

-- the board may end so
abbrev pub MayEnd : Seen → End → Type 0
MayEnd b Undo = NothingIsOpen (core_of b)
MayEnd b Finish = AllClosed b.places
MayEnd b Left = Unit {0}
