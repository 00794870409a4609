use Rattle.std.proofs.Common.{◌≡◌, ℕ, Some, List, subst, ◌∙◌, below_more, slice_index_or, arith}
use Rattle.std.proofs.lemmas.List.{get_or_default}
use Rattle.gw_base.specs.declared.key.Key.{Key}
use Rattle.gw_board.specs.Stretches.{chain_named}
use Rattle.gw_board.proofs.chains.are_of_chain.Goals as goal

pub loop-key-preserved : goal.loop-key-preserved
loop-key-preserved c = λ k d.
    let keys : List Key = c.args.keys.now in
    let i : ℕ = c.loop-key.key-index in
    below_more (λ j. chain_named c.args.owners.now (slice_index_or keys j d) ≡ Some c.args.chain) i (λ j. c.loop-key.invariant j d)
    (subst (λ (x : Key). chain_named c.args.owners.now x ≡ Some c.args.chain) (c.key-item.is ∙ get_or_default keys i c.key-item.result d c.loop-key-test.true) (c.is_of_chain.ensures c.if-not-is_of_chain.false)) k

pub returns : goal.returns
returns c = λ t k d h. c.loop-key.invariant k d (omega arith)
