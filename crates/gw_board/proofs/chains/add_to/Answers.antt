use Rattle.std.proofs.Common.{◌≡◌, true, List, refl, sym, ap, subst, ◌∙◌}
use Rattle.std.specs.Global.{Vec}
use Rattle.gw_base.specs.declared.key.Key.{Key}
use Rattle.gw_base.specs.Keys.{has, same_key, Among}
use Rattle.gw_base.proofs.KeyTests.{any-append_left, any-append_right}
use Rattle.gw_table.proofs.KeyOrder.{test_by_cases}
use Rattle.gw_board.specs.Stretches.{collected_at}
use Rattle.gw_board.proofs.Gathered.{collected_is, collected_there, collected_stays, ends_among}
use Rattle.gw_board.proofs.chains.add_to.Goals as goal

pub returns-clause-there : goal.returns-clause-there
returns-clause-there c = λ k h.
    subst (λ (l : List Key). has l k ≡ true)
    (sym (collected_there c.args.lists.now.items c.args.chain c.extend_from_slice.new.self c.requires ∙ c.in_ok-extend_from_slice.ensures.items))
    (any-append_right (same_key k) c.index_mut-list.result.now.items c.args.keys.now h)

pub returns-clause-stay : goal.returns-clause-stay
returns-clause-stay c = λ g.
    collected_stays c.args.lists.now.items c.args.chain g c.index_mut-list.result.now c.extend_from_slice.new.self c.index_mut-list.ensures.value
    (λ k h. subst (λ (l : List Key). has l k ≡ true) (sym c.in_ok-extend_from_slice.ensures.items) (any-append_left (same_key k) c.index_mut-list.result.now.items c.args.keys.now h))

pub returns-then-ends_with-clause-there : goal.returns-then-ends_with-clause-there
returns-then-ends_with-clause-there c =
    let keys : List Key = c.args.keys.now in
    let at : c.deref.result.now ≡ collected_at c.args.lists.now.items c.args.chain = c.deref.ensures.value ∙ ap (λ (v : Vec Key). v.items) c.index.ensures ∙ collected_is c.args.lists.now.items c.args.chain c.index.result.now c.requires in
    subst (Among keys) at
    (ends_among _ (test_by_cases _ (λ a b. refl) (λ a b. refl) (λ a. refl) (λ a b. refl) (λ a b. refl) (λ a. refl) (λ a. refl) (λ a. refl) refl) c.deref.result.now keys c.ends_with.result c.ends_with.ensures.value c.if-ends_with.true)
