-- A job is closed: what the fields of the board are then.
use Rattle.std.proofs.Common.{◌≡◌, suc, refl}
use Rattle.gw_board.specs.Boards.{Seen, Handed, HasOpen, job_of, outcome_of, with_result, unchanged, unclosed}
use Rattle.gw_board.specs.Core.{pending, open_with, closed_with}
use Rattle.gw_board.proofs.BoardEntryFacts.{unclosed-stays, unclosed-less}

module _ (b : Seen) (h : Handed) (o : HasOpen b h) where
  pub fewer_unclosed : suc (unclosed (with_result b h).places) ≡ unclosed b.places
  fewer_unclosed = unclosed-less b.places h.place (open_with h.requested (job_of h)) (closed_with h.requested (outcome_of h).answer) o.stands refl refl

  pub as_many_unclosed : unclosed (unchanged b h).places ≡ unclosed b.places
  as_many_unclosed = unclosed-stays b.places h.place (open_with h.requested (job_of h)) (pending h.requested) o.stands refl refl
