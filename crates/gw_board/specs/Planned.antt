-- Places of a board that may be opened one after another (own), in whatever order their keys are listed.
use Rattle.std.specs.Prelude.{ℕ, List, [], ◌∷◌}
use Rattle.gw_base.specs.declared.key.Key.{Key}
use Rattle.gw_board.specs.Boards.{Seen, core_of, with_open}
use Rattle.gw_board.specs.Carried.{BurstRequest}
use Rattle.gw_board.specs.Core.{AreKeysOf, MayOpen}

abbrev pub MayOpenEach : Seen → List ℕ → Type 0
MayOpenEach b [] = Unit {0}
MayOpenEach b (i ∷ later) = (a : BurstRequest) × ((keys : List Key) → AreKeysOf a b.maps keys → MayOpen (core_of b) i a keys × MayOpenEach (with_open b i a keys) later)
