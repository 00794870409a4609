use Rattle.std.proofs.Common.{◌≡◌, Bool, true, false, List, rules}
use Rattle.std.specs.Bool.{OnTrue}
use Rattle.std.specs.List.{IsAllAdjacentAnswer}
use Rattle.std.specs.Ordering.{is_lt}
use Rattle.std.proofs.lemmas.Fn.{always_returns_same}
use Rattle.gw_base.specs.declared.key.Key.{Key}
use Rattle.gw_table.specs.KeyLists.{key_cmp, IsInOrder}
use Rattle.gw_table.proofs.KeyLists.{in_order}
use Rattle.gw_table.proofs.key_list.are_in_order.Goals as goal

answered : (keys : List Key) (b : Bool) → IsAllAdjacentAnswer (λ x y c. c ≡ is_lt (key_cmp x y)) keys b → OnTrue b (IsInOrder keys)
answered keys true h = in_order keys h
answered keys false h = tt

pub returns : goal.returns
returns c = answered c.args.keys.now c.is_sorted_by.result (c.is_sorted_by.ensures.cases (λ x y. is_lt (key_cmp x y)) (always_returns_same _ _ _ (λ a r f k. search rules)))
