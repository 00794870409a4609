-- The chains of a stretch, made one after another from their keys and the lists of their requests.
use Rattle.std.proofs.Common.{◌≡◌, ◌≤◌, ◌<◌, ℕ, suc, ◌+◌, ◌-◌, List, [], ◌∷◌, ◌++◌, length, drop, refl, sym, ap, subst, ◌∙◌, arith, length-append}
use Rattle.std.specs.Prelude.{slice_set}
use Rattle.std.proofs.lemmas.List.{append_assoc, drop_more, get_or-set_other, length-drop, length-set}
use Rattle.gw_base.specs.declared.key.Key.{Key}
use Rattle.gw_table.specs.Maps.{Maps}
use Rattle.gw_board.specs.declared.profile.Profile.{Profile}
use Rattle.gw_board.specs.Carried.{BurstRequest}
use Rattle.gw_board.specs.Chained.{ChainOf, AreTasks, chains_in, item_of}
use Rattle.gw_board.specs.Chains.{Chained, chain_of}

module _ (profile : Profile) (m : Maps) (xs : List Chained) (all : List (List Key)) where
  pub record AreMade (left : List (List Key)) (made : List ChainOf) (lists : List (List BurstRequest)) : Type 0 where
    pub left_is : left ≡ drop (length made) all
    pub so_far : made ++ chains_in profile m xs (length made) left ≡ chains_in profile m xs 0 all
    pub as_many : length lists ≡ length all
    pub tasks : (g : ℕ) → length made ≤ g → g < length all → item_of lists g ≡ chain_of g xs

  module _ (keys : List Key) (left : List (List Key)) (made : List ChainOf) (lists : List (List BurstRequest)) (s : AreMade (keys ∷ left) made lists) where
    abbrev n : ℕ
    n = length made

    pub inside : n < length all
    inside = let some : suc (length left) ≡ length all - n = ap length s.left_is ∙ length-drop n all in omega (arith, some)

    front : keys ∷ left ≡ item_of all n ∷ drop (n + 1) all
    front = s.left_is ∙ drop_more all n [] inside

    first_of : List (List Key) → List Key
    first_of [] = []
    first_of (k ∷ ks) = k

    pub key_here : keys ≡ item_of all n
    unfolding first_of
    key_here = ap first_of front

    pub task_here : item_of lists n ≡ chain_of n xs
    task_here = s.tasks n (omega arith) inside

    abbrev new : ChainOf
    new = record { profile = profile; keys = keys; maps = m; requested = item_of lists n }

    longer : length (made ++ new ∷ []) ≡ suc n
    longer = length-append made (new ∷ []) ∙ omega arith

    pub made_more : AreMade left (made ++ new ∷ []) (slice_set lists n [])
    made_more = record {
      left_is = ap (drop 1) front ∙ ap (λ k. drop k all) (omega arith ∙ sym longer);
      so_far =
          ap (λ k. (made ++ new ∷ []) ++ chains_in profile m xs k left) longer
          ∙ append_assoc made (new ∷ []) (chains_in profile m xs (suc n) left)
          ∙ ap (λ (r : List BurstRequest). made ++ record { profile = profile; keys = keys; maps = m; requested = r } ∷ chains_in profile m xs (suc n) left) task_here
          ∙ s.so_far;
      as_many = length-set lists n [] ∙ s.as_many;
      tasks = λ g h k.
          let past : n < g = subst (λ l. l ≤ g) longer h in
          get_or-set_other lists n g [] [] (λ e. absurd (omega (arith, past, e))) ∙ s.tasks g (omega (arith, past)) k;
    }

  pub begun_made : (lists : List (List BurstRequest)) → AreTasks (length all) xs lists → AreMade all [] lists
  begun_made lists t = record { left_is = refl; so_far = refl; as_many = t.as_many; tasks = λ g h k. t.each g k }
