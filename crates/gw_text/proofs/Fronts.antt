-- The bytes of a class at the front of a text, counted by an iterator, are a run.
use denote.Param.Members.{Mut}
use denote.Ref.{Bor}
use Rattle.std.specs.declared.iter.TakeWhile.{TakeWhile}
use Rattle.std.specs.declared.slice.Iter.{Iter}
use Rattle.std.proofs.Common.{◌≡◌, ℕ, Bool, false, List, [], ◌∷◌, length, refl, ◌∙◌, arith}
use Rattle.std.specs.Fn.{CalledAt}
use Rattle.std.specs.Iterator.{Drains}
use Rattle.std.specs.Iterator.Adapters.{take_while_source, take_while_done, take_while_callee, take_while_steps}
use Rattle.std.specs.List.{prefix_len}
use Rattle.std.specs.Slice.Iter.{iter_rest}
use Rattle.std.proofs.iter.Yields.{fronts}
use Rattle.std.proofs.lemmas.List.Folds.{length-prefix_len}
use Rattle.std.proofs.lemmas.Iterator.{YieldsList-from_slice}
use Rattle.std.proofs.lemmas.Iterator.Consumers.{count_from_yields_List}
use Rattle.std.proofs.lemmas.Iterator.Search.{YieldsList-from_take_while}
use Rattle.gw_text.specs.Runs.{run_len}

run_is_prefix : (p : ℕ → Bool) (text : List ℕ) → prefix_len p text ≡ run_len p text
run_is_prefix p [] = refl
run_is_prefix p (b ∷ bs) = grind (arith, run_is_prefix p bs)

-- how many a `take_while` over the text counts, where the closure is the test of the class
pub counted_run : {F : Type 0} {s : TakeWhile (Iter ℕ) F} {g : Mut F (Bor (Bor ℕ) × Unit {0}) Bool} {f : F} (p : ℕ → Bool) (text : List ℕ) (n : ℕ)
    → ((xs : List (Bor ℕ)) × Drains (take_while_steps fronts g) s xs × (n ≡ length xs)) → iter_rest (take_while_source s) ≡ text → take_while_callee s ≡ f → take_while_done s ≡ false
    → ((x : Bor ℕ) (b : Bool) (q : F) → CalledAt g f x b q → (q ≡ f) × (b ≡ p x.now)) → n ≡ run_len p text
counted_run {g = g} p text n ran source closure done called =
    count_from_yields_List _ n ran (YieldsList-from_take_while g p (YieldsList-from_slice text source) closure done called)
    ∙ length-prefix_len p text
    ∙ run_is_prefix p text
