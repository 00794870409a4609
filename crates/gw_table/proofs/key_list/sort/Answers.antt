use Rattle.std.proofs.Common.{refl, rules}
use Rattle.std.specs.Ordering.{is_lt}
use Rattle.std.proofs.lemmas.Fn.{always_returns_same}
use Rattle.std.proofs.lemmas.List.Filters.{dedup_is}
use Rattle.std.proofs.lemmas.List.Sorted.{ranks_by}
use Rattle.gw_table.specs.KeyLists.{key_cmp}
use Rattle.gw_table.proofs.KeyOrder.{key_total, test_by_cases}
use Rattle.gw_table.proofs.KeyLists.{put_in_order}
use Rattle.gw_table.proofs.key_list.sort.Goals as goal

pub returns : goal.returns
returns c =
    let sorted = c.sort_unstable_by.ensures.sorted (λ a b. is_lt (key_cmp a b)) (ranks_by key_total (λ k. k)) (always_returns_same _ _ _ (λ a r f k. search rules)) in
    put_in_order _ (test_by_cases _ (λ a b. refl) (λ a b. refl) (λ a. refl) (λ a b. refl) (λ a b. refl) (λ a. refl) (λ b. refl) (λ b. refl) refl) _ _ _ c.sort_unstable_by.ensures.permutation sorted (dedup_is _ _ _ c.dedup.ensures.filtered)
