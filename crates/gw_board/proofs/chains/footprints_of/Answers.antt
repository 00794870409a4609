use Rattle.std.proofs.Common.{ℕ, Option, IfSome, List, [], ◌∷◌, ◌++◌, map, take, sym, subst, slice_index_or}
use Rattle.std.specs.List.{AllZip}
use Rattle.std.proofs.lemmas.List.{map_more}
use Rattle.std.proofs.lemmas.Slice.Zip.{all_zipped_more}
use Rattle.gw_base.specs.declared.key.Key.{Key}
use Rattle.gw_table.specs.Stored.{maps_of}
use Rattle.gw_board.specs.BoardEntries.{place_of}
use Rattle.gw_board.specs.Core.{Place}
use Rattle.gw_board.specs.Stretches.{HasItsKeys}
use Rattle.gw_board.specs.declared.board_entry.BoardEntry.{BoardEntry}
use Rattle.gw_board.proofs.chains.footprints_of.Goals as goal

pub loop-board_entry-preserved : goal.loop-board_entry-preserved
loop-board_entry-preserved c =
    let stretch : List BoardEntry = c.args.stretch.now in
    let i : ℕ = c.loop-board_entry.board_entry-index in
    let one : BoardEntry = c.board_entry-item.result in
    let keys : List Key = c.in-Some.keys in
    let R : Place → List Key → Type 0 = HasItsKeys (maps_of c.args.tables.now) in
    subst (λ (l : List Place). AllZip R l c.push.new.self.items) (sym (map_more place_of stretch i one c.loop-board_entry-test.true))
    (subst (AllZip R (map place_of (take i stretch) ++ place_of (slice_index_or stretch i one) ∷ [])) (sym {A = List (List Key)} c.in_ok-push.ensures.items)
    (all_zipped_more R (map place_of (take i stretch)) c.loop-board_entry.footprints.items (place_of (slice_index_or stretch i one)) keys c.loop-board_entry.invariant
    (subst (λ (x : BoardEntry). R (place_of x) keys) c.board_entry-item.is (subst (λ (o : Option (List Key)). IfSome o (R (place_of one))) c.in-Some.is c.in_ok-keys.ensures))))
