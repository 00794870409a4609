use Rattle.std.proofs.Common.{◌≡◌, ◌<◌, List, [], ◌∷◌, ◌++◌, length, map, refl, sym, ap, subst, ◌∙◌, arith}
use Rattle.std.specs.Prelude.{slice_index_or, slice_set}
use Rattle.std.proofs.lemmas.List.{append-nil, get_or_default}
use Rattle.std.proofs.lemmas.List.Elements.{All-get_or}
use Rattle.gw_base.specs.declared.key.Key.{Key}
use Rattle.gw_table.specs.KeyLists.{IsInOrder}
use Rattle.gw_table.specs.Maps.{Maps}
use Rattle.gw_table.specs.Parts.{restricted}
use Rattle.gw_table.specs.Stored.{maps_of}
use Rattle.gw_board.specs.declared.profile.Profile.{Profile}
use Rattle.gw_board.specs.BoardEntries.{place_of}
use Rattle.gw_board.specs.Carried.{BurstRequest}
use Rattle.gw_board.specs.Chained.{ChainOf, AreTasks, chains_in, item_of}
use Rattle.gw_board.specs.Chains.{Chained, RunsOn, chain_of}
use Rattle.gw_board.specs.Stretches.{chained}
use Rattle.gw_board.proofs.ChainsMade.{AreMade, begun_made, inside, key_here, made_more, task_here}
use Rattle.gw_board.proofs.chain.chains_with_tasks.Goals as goal

nil_of : {X : Type 0} (l : List X) → length l ≡ 0 → l ≡ []
nil_of [] e = refl
nil_of (x ∷ l) e = absurd cc

pub loop-keys-init : goal.loop-keys-init
loop-keys-init c =
    let all : List (List Key) = c.into_iter-keys-iterator.result.rest.items in
    let m : Maps = maps_of c.args.tables.now in
    let xs : List Chained = chained c.args.numbers.now (map place_of c.args.stretch.now) in
    let len = c.args.keys.ok.0 in
    let count : c.len.result ≡ length all = c.len.ensures ∙ omega (arith, len) ∙ ap length (sym c.into_iter-keys-iterator.ensures.into_iter_gives.0) in
    subst (λ (l : List ChainOf). AreMade c.args.profile.now m xs all all l c.in_ok-lists.lists.items) (sym c.in_ok-chains.ensures.items)
    (begun_made c.args.profile.now m xs all c.in_ok-lists.lists.items (subst (λ n. AreTasks n xs c.in_ok-lists.lists.items) count c.in_ok-lists.ensures))

pub index_mut-requires : goal.index_mut-requires
index_mut-requires c =
    let all : List (List Key) = c.into_iter-keys-iterator.result.rest.items in
    let m : Maps = maps_of c.args.tables.now in
    let xs : List Chained = chained c.args.numbers.now (map place_of c.args.stretch.now) in
    let made : List ChainOf = c.loop-keys.chains.items in
    let lists : List (List BurstRequest) = c.loop-keys.lists.items in
    let left : List (List Key) = c.next.new.self.rest.items in
    let s : AreMade c.args.profile.now m xs all (c.in-Some.keys ∷ left) made lists = subst (λ (l : List (List Key)). AreMade c.args.profile.now m xs all l made lists) c.in-Some.ensures.steps.0 c.loop-keys.invariant in
    let room = c.loop-keys.chains.ok.0 in
    let len = c.loop-keys.lists.ok.0 in
    let within = inside c.args.profile.now m xs all c.in-Some.keys left made lists s in
    let as_many = s.as_many in
    let count = c.len-in-loop-keys.ensures in
    omega (arith, within, as_many, count, room, len)

pub invariant_of-push : goal.invariant_of-push
invariant_of-push c =
    let all : List (List Key) = c.into_iter-keys-iterator.result.rest.items in
    let profile : Profile = c.args.profile.now in
    let m : Maps = maps_of c.args.tables.now in
    let xs : List Chained = chained c.args.numbers.now (map place_of c.args.stretch.now) in
    let made : List ChainOf = c.loop-keys.chains.items in
    let lists : List (List BurstRequest) = c.loop-keys.lists.items in
    let left : List (List Key) = c.next.new.self.rest.items in
    let keys : List Key = c.in-Some.keys in
    let s : AreMade profile m xs all (keys ∷ left) made lists = subst (λ (l : List (List Key)). AreMade profile m xs all l made lists) c.in-Some.ensures.steps.0 c.loop-keys.invariant in
    let room = c.loop-keys.chains.ok.0 in
    let n : c.len-in-loop-keys.result ≡ length made = c.len-in-loop-keys.ensures ∙ omega (arith, room) in
    let within : length made < length all = inside profile m xs all keys left made lists s in
    let there : length made < length lists = subst (λ k. length made < k) (sym s.as_many) within in
    let given : all ≡ c.args.keys.items = c.into_iter-keys-iterator.ensures.into_iter_gives.0 in
    let key : keys ≡ item_of c.args.keys.items (length made) = key_here profile m xs all keys left made lists s ∙ ap (λ (l : List (List Key)). item_of l (length made)) given in
    let task : c.replace-tasks.result ≡ chain_of (length made) xs =
    c.replace-tasks.ensures.value ∙ c.index_mut.ensures.value ∙ ap (λ k. slice_index_or lists k c.index_mut.result.now) n ∙ get_or_default lists (length made) c.index_mut.result.now [] there ∙ task_here profile m xs all keys left made lists s in (
      subst IsInOrder (sym key) (All-get_or IsInOrder c.args.keys.items (length made) [] (subst (λ (l : List (List Key)). length made < length l) given within) c.requires.chained.ordered),
      subst (λ (r : List BurstRequest). RunsOn profile keys (restricted keys m) r) (sym task)
          (subst (λ (k : List Key). RunsOn profile k (restricted k m) (chain_of (length made) xs)) (sym key) (c.requires.goes.runs (length made))),
    )

pub loop-keys-preserved : goal.loop-keys-preserved
loop-keys-preserved c =
    let all : List (List Key) = c.into_iter-keys-iterator.result.rest.items in
    let m : Maps = maps_of c.args.tables.now in
    let xs : List Chained = chained c.args.numbers.now (map place_of c.args.stretch.now) in
    let made : List ChainOf = c.loop-keys.chains.items in
    let lists : List (List BurstRequest) = c.loop-keys.lists.items in
    let left : List (List Key) = c.next.new.self.rest.items in
    let keys : List Key = c.in-Some.keys in
    let s : AreMade c.args.profile.now m xs all (keys ∷ left) made lists = subst (λ (l : List (List Key)). AreMade c.args.profile.now m xs all l made lists) c.in-Some.ensures.steps.0 c.loop-keys.invariant in
    let room = c.loop-keys.chains.ok.0 in
    let n : c.len-in-loop-keys.result ≡ length made = c.len-in-loop-keys.ensures ∙ omega (arith, room) in
    let there : length made < length lists = subst (λ k. length made < k) (sym s.as_many) (inside c.args.profile.now m xs all keys left made lists s) in
    let task : c.replace-tasks.result ≡ item_of lists (length made) =
    c.replace-tasks.ensures.value ∙ c.index_mut.ensures.value ∙ ap (λ k. slice_index_or lists k c.index_mut.result.now) n ∙ get_or_default lists (length made) c.index_mut.result.now [] there in
    let pushed : c.push.new.self.items ≡ made ++ record { profile = c.args.profile.now; keys = keys; maps = m; requested = item_of lists (length made) } ∷ [] =
    c.in_ok-push.ensures.items ∙ ap (λ (r : List BurstRequest). made ++ record { profile = c.args.profile.now; keys = keys; maps = m; requested = r } ∷ []) task in
    let emptied : slice_set lists c.len-in-loop-keys.result c.replace-tasks.new.dest ≡ slice_set lists (length made) [] =
    ap (λ k. slice_set lists k c.replace-tasks.new.dest) n ∙ ap (λ (r : List BurstRequest). slice_set lists (length made) r) (c.replace-tasks.ensures.after ∙ c.new.ensures) in
    subst (λ (l : List (List BurstRequest)). AreMade c.args.profile.now m xs all left c.push.new.self.items l) (sym emptied)
    (subst (λ (l : List ChainOf). AreMade c.args.profile.now m xs all left l (slice_set lists (length made) [])) (sym pushed) (made_more c.args.profile.now m xs all keys left made lists s))

pub returns : goal.returns
returns c =
    let all : List (List Key) = c.into_iter-keys-iterator.result.rest.items in
    let m : Maps = maps_of c.args.tables.now in
    let xs : List Chained = chained c.args.numbers.now (map place_of c.args.stretch.now) in
    let made : List ChainOf = c.loop-keys.chains.items in
    let rest : List (List Key) = c.loop-keys.keys-iterator.rest.items in
    let none : rest ≡ [] = nil_of rest (let n = c.in-None.ensures.steps.0 in let o = c.loop-keys.keys-iterator.rest.ok.0 in omega arith) in
    sym (append-nil made)
    ∙ ap (λ (l : List (List Key)). made ++ chains_in c.args.profile.now m xs (length made) l) (sym none)
    ∙ c.loop-keys.invariant.so_far
    ∙ ap (chains_in c.args.profile.now m xs 0) c.into_iter-keys-iterator.ensures.into_iter_gives.0
