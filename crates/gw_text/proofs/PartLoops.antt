-- Loops over lists: with commas, where a part was not read; and to the end of the text.
use Rattle.std.proofs.Common.{◌≡◌, ℕ, List, [], ◌∷◌, ◌++◌, Option, Some, None, Err, ap, sym, ◌∙◌, arith}
use Rattle.gw_text.specs.Lexical.{comma}
use Rattle.gw_text.specs.Sign.{sign_at}
use Rattle.gw_text.specs.SpaceScan.{skip}
use Rattle.gw_text.specs.Scans.{lwsp_at}
use Rattle.gw_text.specs.Reader.{Reader, list_at, items_at}
use Rattle.gw_text.proofs.Loops.{with_front, list_ends, list_fails, items_fail, items_end, items_go_on, list_goes_on}
use Rattle.gw_text.specs.declared.fault.ParseFault.{ParseFault}
use Rattle.gw_text.specs.Parts.{Gives, ShrinksMore}

pub loop_fails : {V : Type 0} (r : Reader V) (fault : ParseFault) (front : List V) (text after end : List ℕ) (total : Option (List V × List ℕ)) → Gives {V = V} (Err fault) after (r text) → with_front front (list_at r text) ≡ total → Gives {V = List V} (Err fault) end total
loop_fails r fault front text after end total h so_far = grind (arith, list_fails)

-- the first value was read, and no comma stands behind it
pub lone_ends : {V : Type 0} (r : Reader V) (front : List V) (text : List ℕ) (v : V) (rest : List ℕ) (total : Option (List V × List ℕ)) → front ≡ [] → r text ≡ Some (v, rest) → sign_at comma rest ≡ None
    → with_front front (list_at r text) ≡ total → total ≡ Some (v ∷ [], rest)
lone_ends {V} r front text v rest total first e c so_far =
    list_ends r front text v rest total e c so_far ∙ ap (λ (f : List V). Some (f ++ v ∷ [], rest)) first

-- the same over items to the end of the text
pub items_loop_fails : {V : Type 0} (r : Reader V) (fault : ParseFault) (front : List V) (text after end : List ℕ) (total : Option (List V × List ℕ)) → Gives {V = V} (Err fault) after (r text) → with_front front (items_at r text) ≡ total → Gives {V = List V} (Err fault) end total
items_loop_fails r fault front text after end total h so_far = grind (arith, items_fail)

-- behind the white space that was taken
lwsp_skips : (span new old : List ℕ) → (span, new) ≡ lwsp_at old → new ≡ skip old
unfolding skip
lwsp_skips span new old e = ap (λ (p : List ℕ × List ℕ). p.1) e

-- an item was read, and nothing stands behind it
pub items_loop_ends : {V : Type 0} (r : Reader V) (front : List V) (text : List ℕ) (v : V) (rest span new : List ℕ) (total : Option (List V × List ℕ)) → r text ≡ Some (v, rest) → (span, new) ≡ lwsp_at rest → new ≡ []
    → with_front front (items_at r text) ≡ total → total ≡ Some (front ++ v ∷ [], new)
items_loop_ends {V} r front text v rest span new total e skipped none so_far =
    items_end r front text v rest total e (sym (lwsp_skips span new rest skipped) ∙ none) so_far ∙ ap (λ (x : List ℕ). Some (front ++ v ∷ [], x)) (sym none)

-- the same of the first
pub lone_item_ends : {V : Type 0} (r : Reader V) (front : List V) (text : List ℕ) (v : V) (rest span new : List ℕ) (total : Option (List V × List ℕ)) → front ≡ [] → r text ≡ Some (v, rest) → (span, new) ≡ lwsp_at rest → new ≡ []
    → with_front front (items_at r text) ≡ total → total ≡ Some (v ∷ [], new)
lone_item_ends {V} r front text v rest span new total first e skipped none so_far =
    items_loop_ends r front text v rest span new total e skipped none so_far ∙ ap (λ (f : List V). Some (f ++ v ∷ [], new)) first

-- an item was read, and more stands behind it
pub items_loop_goes_on : {V : Type 0} (r : Reader V) → ShrinksMore r → (front : List V) (text : List ℕ) (v : V) (rest span new : List ℕ) (total : Option (List V × List ℕ)) → r text ≡ Some (v, rest) → (span, new) ≡ lwsp_at rest → (new ≡ [] → ⊥)
    → with_front front (items_at r text) ≡ total → with_front (front ++ v ∷ []) (items_at r new) ≡ total
items_loop_goes_on r h front text v rest span new total e skipped some so_far =
    let at = lwsp_skips span new rest skipped in
    ap (λ (x : List ℕ). with_front (front ++ v ∷ []) (items_at r x)) at ∙ items_go_on r h front text v rest total e (λ n. some (at ∙ n)) so_far

pub ruleset list_steps = (list_goes_on, list_ends, loop_fails)
