use Rattle.std.proofs.Common.{◌≡◌, ◌++◌, List, length, take, drop, subst, sym, ap, ◌∙◌}
use Rattle.gw_base.specs.declared.key.Key.{Key}
use Rattle.gw_base.specs.Keys.{has}
use Rattle.gw_table.specs.KeyLists.{IsInOrder, IsListOf}
use Rattle.gw_table.proofs.Celled.{written_back}
use Rattle.gw_table.proofs.KeyLists.{list_of_same, list_in_order}
use Rattle.gw_table.proofs.key_list.put_in_order.Goals as goal

-- what the slice wrote back is all that there is
written : (c : goal.After-sort) → take c.args.keys.now.len (c.move_whole_back.new.keys ++ drop (length c.move_whole_back.new.keys) c.args.keys.now.items) ≡ c.move_whole_back.new.keys
written c =
    written_back c.move_whole_back.new.keys c.args.keys.now.items c.args.keys.now.len (c.move_whole_back.ensures.as_many ∙ c.as_mut_slice.ensures.len)
    (ap (λ (l : List Key). length l) (sym c.as_mut_slice.ensures.value) ∙ c.as_mut_slice.ensures.len)

pub returns-then-not-are_in_order : goal.returns-then-not-are_in_order
returns-then-not-are_in_order c =
    list_of_same c.sort.new.keys.items c.move_whole_back.new.keys c.args.keys.now.items (λ k. c.move_whole_back.ensures.same k ∙ ap (λ (l : List Key). has l k) c.as_mut_slice.ensures.value)
    (subst (λ (l : List Key). IsListOf c.sort.new.keys.items l) (written c) c.sort.ensures)

pub returns-else-not-are_in_order : goal.returns-else-not-are_in_order
returns-else-not-are_in_order c =
    let back = written_back c.move_whole_back.new.keys c.args.keys.now.items c.args.keys.now.len (c.move_whole_back.ensures.as_many ∙ c.as_mut_slice.ensures.len)
    (ap (λ (l : List Key). length l) (sym c.as_mut_slice.ensures.value) ∙ c.as_mut_slice.ensures.len) in
    subst (λ (l : List Key). IsListOf l c.args.keys.now.items) (sym back)
    (list_in_order c.move_whole_back.new.keys c.args.keys.now.items (λ k. c.move_whole_back.ensures.same k ∙ ap (λ (l : List Key). has l k) c.as_mut_slice.ensures.value)
    (subst (λ (l : List Key). IsInOrder l) (c.deref.ensures.value ∙ back) c.if-not-are_in_order.ensures))
