use Rattle.std.proofs.Common.{◌≡◌, ◌<◌, ◌≤◌, ◌+◌, ℕ, true, List, [], ◌∷◌, ◌++◌, drop, length, map, replicate, sym, ap, subst, ◌∙◌, arith}
use Rattle.std.specs.Prelude.{slice_index_or, slice_set}
use Rattle.std.proofs.lemmas.List.{append-nil, drop_all, get_or_default, get_or-map, get_or-replicate, length-map, length-replicate}
use Rattle.std.proofs.lemmas.List.Elements.{All-get_or}
use Rattle.gw_board.specs.BoardEntries.{place_of}
use Rattle.gw_board.specs.Carried.{BurstRequest}
use Rattle.gw_board.specs.Chained.{item_of}
use Rattle.gw_board.specs.Chains.{Chained, chain_of}
use Rattle.gw_board.specs.Core.{Place}
use Rattle.gw_board.specs.Stretches.{chained}
use Rattle.gw_board.specs.Waves.{is_pending}
use Rattle.gw_board.specs.declared.board_entry.BoardEntry.{BoardEntry}
use Rattle.gw_board.proofs.ChainTasks.{AreSorted, sorted_at, sorted_past}
use Rattle.gw_board.proofs.chain.tasks_of.Goals as goal

begun : (count : ℕ) (all : List Chained) (n : ℕ) → n ≡ count → AreSorted count all all (replicate n [])
begun count all n e = record {
  as_many = length-replicate n [] ∙ e;
  each = λ g h. ap (λ (l : List BurstRequest). l ++ chain_of g all) (get_or-replicate n g [] [] (subst (λ k. g < k) (sym e) h));
}

pub loop-i-init : goal.loop-i-init
loop-i-init c =
    let low = c.loop-chain-test.false in
    let high = c.loop-chain.auto._chain-end in
    let all : List Chained = chained c.args.numbers.now (map place_of c.args.stretch.now) in
    subst (λ (l : List (List BurstRequest)). AreSorted c.args.count all all l) (sym c.loop-chain.invariant) (begun c.args.count all c.loop-chain._chain (omega (arith, low, high)))

pub index_mut-requires : goal.index_mut-requires
index_mut-requires c =
    let numbered = All-get_or (λ g. g < c.args.count) c.args.numbers.now c.loop-i.i 0 (omega (arith, c.loop-i-test.true, c.requires.as_many)) c.requires.numbered in
    let as_many = c.loop-i.invariant.as_many in
    let len = c.loop-i.lists.ok.0 in
    omega (arith, numbered, as_many, len)

place_here : (stretch : List BoardEntry) (i : ℕ) (s : BoardEntry) → i < length stretch → s ≡ slice_index_or stretch i s → place_of s ≡ slice_index_or (map place_of stretch) i (place_of s)
place_here stretch i s h e = ap place_of e ∙ sym (get_or-map place_of stretch i s (place_of s) h)

pub loop-i-preserved : goal.loop-i-preserved
loop-i-preserved c =
    let i : ℕ = c.loop-i.i in
    let numbers : List ℕ = c.args.numbers.now in
    let places : List Place = map place_of c.args.stretch.now in
    let lists : List (List BurstRequest) = c.loop-i.lists.items in
    let p : Place = place_of c.index-stretch-i.result in
    let g : ℕ = slice_index_or numbers i 0 in
    let inside : i < length numbers = omega (arith, c.loop-i-test.true, c.requires.as_many) in
    let numbered : g < c.args.count = All-get_or (λ k. k < c.args.count) numbers i 0 inside c.requires.numbered in
    let there : g < length lists = omega (arith, numbered, c.loop-i.invariant.as_many) in
    let pends : is_pending p.standing ≡ true = sym c.is_pending.ensures ∙ c.if-not-is_pending.false in
    let item : c.push-in-loop-i.new.self ≡ item_of lists g ++ p.requested ∷ [] =
    c.in_ok-push-2.ensures.ok
    ∙ ap (λ (l : List BurstRequest). l ++ c.again.result ∷ []) (c.index_mut.ensures.value ∙ get_or_default lists g _ [] there)
    ∙ ap (λ (a : BurstRequest). item_of lists g ++ a ∷ []) c.again.ensures in
    subst (λ (l : List BurstRequest). AreSorted c.args.count (chained (drop (i + 1) numbers) (drop (i + 1) places)) (chained numbers places) (slice_set lists g l)) (sym item)
    (sorted_at c.args.count numbers places (chained numbers places) lists i p inside (subst (λ k. i < k) (sym (length-map c.args.stretch.now place_of)) c.loop-i-test.true) (place_here c.args.stretch.now i c.index-stretch-i.result c.loop-i-test.true c.index-stretch-i.is) c.loop-i.invariant pends numbered)

pub loop-i-preserved-then-not-is_pending : goal.loop-i-preserved-then-not-is_pending
loop-i-preserved-then-not-is_pending c =
    let i : ℕ = c.loop-i.i in
    let numbers : List ℕ = c.args.numbers.now in
    let places : List Place = map place_of c.args.stretch.now in
    let inside : i < length numbers = omega (arith, c.loop-i-test.true, c.requires.as_many) in
    sorted_past c.args.count numbers places (chained numbers places) c.loop-i.lists.items i (place_of c.index-stretch-i.result) inside (subst (λ k. i < k) (sym (length-map c.args.stretch.now place_of)) c.loop-i-test.true) (place_here c.args.stretch.now i c.index-stretch-i.result c.loop-i-test.true c.index-stretch-i.is) c.loop-i.invariant
    (sym c.is_pending.ensures ∙ c.if-not-is_pending.true)

pub returns : goal.returns
returns c =
    let numbers : List ℕ = c.args.numbers.now in
    let places : List Place = map place_of c.args.stretch.now in
    let end : length numbers ≤ c.loop-i.i = omega (arith, c.loop-i-test.false, c.requires.as_many) in
    let none : chained (drop c.loop-i.i numbers) (drop c.loop-i.i places) ≡ [] = ap (λ (l : List ℕ). chained l (drop c.loop-i.i places)) (drop_all c.loop-i.i numbers end) in
    record {
      as_many = c.loop-i.invariant.as_many;
      each = λ g h. sym (append-nil (item_of c.loop-i.lists.items g)) ∙ ap (λ (xs : List Chained). item_of c.loop-i.lists.items g ++ chain_of g xs) (sym none) ∙ c.loop-i.invariant.each g h;
    }
