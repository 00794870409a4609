-- Lists of what passes a test.
use Rattle.std.proofs.Common.{◌≡◌, ◌≤◌, not, Bool, List, [], ◌∷◌, map, length, refl, arith}
use Rattle.std.proofs.lemmas.Bool.{cond_both}
use Rattle.std.proofs.lemmas.List.Filters.{length-filter_both}
use Rattle.std.specs.List.{filter}

pub filter_map_is : {X Y : Type 0} (p : Y → Bool) (g : X → Y) (xs : List X) → filter p (map g xs) ≡ map g (filter (λ x. p (g x)) xs)
filter_map_is p g [] = refl
filter_map_is {X} p g (x ∷ xs) = grind (arith, filter_map_is p g xs, cond_both)

pub few_left : {X : Type 0} (t : X → Bool) (xs : List X) → length (filter t xs) ≤ length xs
few_left t xs = omega (arith, length-filter_both t (λ x. not (t x)) (λ x. refl) xs)
