use Rattle.std.proofs.Common.{◌-◌, sym, refl, true≢false, arith, rules}
use Rattle.std.specs.Ordering.{is_lt}
use Rattle.std.proofs.lemmas.Fn.{always_returns_same}
use Rattle.std.proofs.lemmas.Grind.{common_steps}
use Rattle.std.proofs.lemmas.List.Sorted.{ranks_by}
use Rattle.gw_desc.specs.Checks.{names_of}
use Rattle.gw_desc.proofs.NamePlaces.{order, order-total, ArePlaces, double-from_places, no_double-from_neighbours}
use Rattle.gw_desc.proofs.checks.names.is_twice_by_sorting.Goals as goal

pub returns-then-eq_ignore_ascii_case : goal.returns-then-eq_ignore_ascii_case
returns-then-eq_ignore_ascii_case c =
    let placed : ArePlaces (names_of c.args.properties.now) c.number.new.places c.sort_unstable_by.new.self = record { as_many = grind (arith, common_steps); own = c.number.ensures; moved = c.sort_unstable_by.ensures.permutation } in
    let double = double-from_places _ _ _ placed (c.loop-k.k - 1) c.loop-k.k (omega arith) (omega arith) (search rules) in
    (λ _. double, λ _. refl)

pub returns : goal.returns
returns c =
    let placed : ArePlaces (names_of c.args.properties.now) c.number.new.places c.sort_unstable_by.new.self = record { as_many = grind (arith, common_steps); own = c.number.ensures; moved = c.sort_unstable_by.ensures.permutation } in
    let sorted = c.sort_unstable_by.ensures.sorted (λ a b. is_lt (order (names_of c.args.properties.now) a b)) (ranks_by (order-total (names_of c.args.properties.now)) (λ p. p)) (always_returns_same _ _ _ (λ a r g h. search rules)) in
    let none = no_double-from_neighbours _ _ _ placed sorted (search rules) in
    (λ f. absurd (true≢false (sym f)), λ double. absurd (none double))
