-- The answers of workers that are there, one after another.
use Rattle.std.proofs.Common.{◌≡◌, true, List, [], ◌∷◌, ◌++◌, flat_map, Option, Result, Ok, Err, IfOk, refl}
use Rattle.std.specs.Prelude.{is_ok}
use Rattle.std.specs.List.{AllZip, list_all}
use Rattle.std.specs.Option.{option_to_list}
use Rattle.gw_engine.specs.Drawn.{given}

-- where each has an answer or none, all that is there is what is due to each
pub all_given : {A X E : Type 0} (due : A → List X) (jobs : List A) (rs : List (Result (Option X) E)) → AllZip (λ a r. IfOk r (λ o. option_to_list o ≡ due a)) jobs rs → list_all is_ok rs ≡ true → flat_map given rs ≡ flat_map due jobs
all_given due [] [] z ok = refl
all_given due [] (r ∷ rs) z ok = absurd z
all_given due (x ∷ xs) [] z ok = absurd z
all_given due (x ∷ xs) (Ok o ∷ rs) z ok = λ i. z.0 i ++ all_given due xs rs z.1 ok i
all_given due (x ∷ xs) (Err e ∷ rs) z ok = absurd cc
