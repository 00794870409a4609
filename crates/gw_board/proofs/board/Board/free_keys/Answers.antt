use Rattle.std.proofs.Common.{◌≡◌, ℕ, List, map, take, None, Some, ap, subst, ◌∙◌}
use Rattle.std.specs.Prelude.{slice_get}
use Rattle.gw_base.specs.declared.key.Key.{Key}
use Rattle.gw_board.specs.BoardView.{value_of}
use Rattle.gw_board.specs.Boards.{Seen, core_of, IsFirstMet}
use Rattle.gw_board.specs.Carried.{BurstRequest}
use Rattle.gw_board.specs.Core.{Place, pending, MayOpen}
use Rattle.gw_board.specs.Met.{FindsFirstMet}
use Rattle.gw_board.specs.BoardEntries.{place_of}
use Rattle.gw_board.specs.declared.board_entry.BoardEntry.{BoardEntry}
use Rattle.gw_board.proofs.Alike.{first_met, none_met, take-map}
use Rattle.gw_board.proofs.board.Board.free_keys.Goals as goal

-- what is looked at are the earlier places
earlier : (board_entries items : List BoardEntry) (i : ℕ) → items ≡ board_entries → map place_of (take i items) ≡ take i (map place_of board_entries)
earlier board_entries items i e = ap (λ (l : List BoardEntry). map place_of (take i l)) e ∙ take-map place_of board_entries i

pub returns-in-Some-clause-fault : goal.returns-in-Some-clause-fault
returns-in-Some-clause-fault c =
    let b : Seen = value_of c.self.inside in
    let i : ℕ = c.args.place in
    let a : BurstRequest = c.args.task.now in
    let j : ℕ = c.in-Some.earlier in
    let keys : List Key = c.in_ok-keys.keys in
    let pends : slice_get b.places i ≡ Some (pending a) = ap (λ (x : Seen). slice_get x.places i) c.self.view_is ∙ c.requires in
    let found : FindsFirstMet keys b.maps (take i b.places) (Some j) =
    subst (λ (l : List Place). FindsFirstMet keys b.maps l (Some j)) (earlier c.self.inside.board_entries.items c.deref.result.now i c.deref.ensures.value) (rw c.in-Some.is at c.in_ok-earlier.ensures) in
    subst (λ (x : Seen). IsFirstMet x i j) c.self.view_is (first_met b i j a keys pends c.in_ok-keys.ensures.same found)

pub returns-in-None-clause-free : goal.returns-in-None-clause-free
returns-in-None-clause-free c =
    let b : Seen = value_of c.self.inside in
    let i : ℕ = c.args.place in
    let a : BurstRequest = c.args.task.now in
    let keys : List Key = c.in_ok-keys.keys in
    let pends : slice_get b.places i ≡ Some (pending a) = ap (λ (x : Seen). slice_get x.places i) c.self.view_is ∙ c.requires in
    let found : FindsFirstMet keys b.maps (take i b.places) None =
    subst (λ (l : List Place). FindsFirstMet keys b.maps l None) (earlier c.self.inside.board_entries.items c.deref.result.now i c.deref.ensures.value) (rw c.in-None.is at c.in_ok-earlier.ensures) in
    subst (λ (x : Seen). MayOpen (core_of x) i a keys) c.self.view_is (none_met b i a keys pends c.in_ok-keys.ensures.same found)
