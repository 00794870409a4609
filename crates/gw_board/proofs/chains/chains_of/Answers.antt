use Rattle.std.proofs.Common.{◌≡◌, ℕ, ◌<◌, Option, IfSome, List, map, length, sym, subst, arith}
use Rattle.std.specs.Global.{Vec}
use Rattle.std.specs.List.{All, AllZip}
use Rattle.gw_base.specs.declared.key.Key.{Key}
use Rattle.gw_table.specs.Stored.{maps_of}
use Rattle.gw_board.specs.BoardEntries.{place_of}
use Rattle.gw_board.specs.Stretches.{AreGathered, AreOfTheirChains, HasItsKeys}
use Rattle.gw_board.specs.declared.chains.Owners.{Owners}
use Rattle.gw_board.proofs.Gathered.{are_chained}
use Rattle.gw_board.proofs.chains.chains_of.Goals as goal

pub returns : goal.returns
returns c =
    let o : Owners = c.in_ok-owners.owners in
    let numbers : List ℕ = o.chains.items in
    let footprints : List (List Key) = c.in-Some.footprints.items in
    let lists : List (Vec Key) = c.in_ok-lists.lists.items in
    let keys : List (List Key) = c.in_ok-keys.keys.items in
    let count : length numbers ≡ length footprints =
    let a = c.in-Some.footprints.ok.0 in
    let b = o.chains.ok.0 in
    let e = c.len.ensures in
    let f = c.len-2.ensures in
    let g = c.if-len.false in
    omega arith in
    let inside : All (λ g. g < c.in_ok-owners.count) numbers =
    subst (All (λ g. g < c.in_ok-owners.count)) c.deref-else-len.ensures.value (c.are_numbered.ensures c.if-not-are_numbered.false) in
    are_chained o numbers lists keys (maps_of c.args.tables.now) (map place_of c.args.stretch.now) footprints count
    (subst (λ (n : ℕ). All (λ g. g < n) numbers) (sym c.in_ok-lists.ensures.len) inside)
    (subst (λ (o : Option (Vec (List Key))). IfSome o (λ f. AllZip (HasItsKeys (maps_of c.args.tables.now)) (map place_of c.args.stretch.now) f.items)) c.in-Some.is c.in_ok-footprints.ensures)
    (subst (λ (l : List ℕ). AreGathered lists l footprints) c.deref-3.ensures.value (subst (AreGathered lists c.deref-3.result.now) c.deref-2.ensures.value c.in_ok-lists.ensures.gathered))
    c.in_ok-keys.ensures
    (subst (AreOfTheirChains o) c.deref-4.ensures.value (c.are_apart.ensures c.if-not-are_apart.false))
