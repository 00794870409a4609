-- Lists as a loop reads them: what was read before, and what is still read.
use Rattle.std.proofs.Common.{◌≡◌, ℕ, zero, suc, ◌≤◌, ◌<◌, List, [], ◌∷◌, ◌++◌, length, Option, Some, None, ap, sym, ◌∙◌, append_assoc, arith}
use Rattle.gw_text.specs.Lexical.{comma}
use Rattle.gw_text.specs.SpaceScan.{skip}
use Rattle.gw_text.specs.Sign.{sign_at}
use Rattle.gw_text.specs.Reader.{Reader, ◌>>=◌, with_first, if_comma, list_from, list_at, if_more, items_from, items_at}
use Rattle.gw_text.proofs.Signs.{sign_shrinks}
use Rattle.gw_text.proofs.Skips.{skip_len}

-- no reader makes a text longer
abbrev pub Shrinks : {V : Type 0} → Reader V → Type 0
Shrinks {V} r = (text : List ℕ) (v : V) (rest : List ℕ) → r text ≡ Some (v, rest) → length rest ≤ length text

-- each value is a byte at least
abbrev pub ShrinksMore : {V : Type 0} → Reader V → Type 0
ShrinksMore {V} r = (text : List ℕ) (v : V) (rest : List ℕ) → r text ≡ Some (v, rest) → length rest < length text

-- what was read before, and what is still read
abbrev pub with_front : {V : Type 0} → List V → Option (List V × List ℕ) → Option (List V × List ℕ)
with_front front None = None
with_front front (Some x) = Some (front ++ x.0, x.1)

front_first : {V : Type 0} (front : List V) (v : V) (o : Option (List V × List ℕ)) → with_front front (with_first v o) ≡ with_front (front ++ v ∷ []) o
front_first front v o = grind (arith, append_assoc)

same_bind : {A B : Type 0} (o : Option A) (f g : A → Option B) → ((x : A) → o ≡ Some x → f x ≡ g x) → (o >>= f) ≡ (o >>= g)
same_bind o f g h = grind arith

-- ---- lists with commas

same_comma : {V : Type 0} (f g : Reader (List V)) (v : V) (rest : List ℕ) (o : Option (List ℕ)) → ((more : List ℕ) → o ≡ Some more → f more ≡ g more) → if_comma f v rest o ≡ if_comma g v rest o
same_comma f g v rest o h = grind arith

-- more fuel changes nothing
fuel_enough : {V : Type 0} (r : Reader V) → Shrinks r → (n m : ℕ) (text : List ℕ) → length text < n → length text < m → list_from r n text ≡ list_from r m text
unfolding list_from
fuel_enough r h zero m text p q = absurd (omega arith)
fuel_enough r h (suc n) zero text p q = absurd (omega arith)
fuel_enough r h (suc n) (suc m) text p q =
    same_bind (r text) (λ x. if_comma (list_from r n) x.0 x.1 (sign_at comma x.1)) (λ x. if_comma (list_from r m) x.0 x.1 (sign_at comma x.1))
    (λ x e. same_comma (list_from r n) (list_from r m) x.0 x.1 (sign_at comma x.1) (λ more c. fuel_enough r h n m more
    (omega (arith, h text x.0 x.1 e, sign_shrinks comma x.1 more c)) (omega (arith, h text x.0 x.1 e, sign_shrinks comma x.1 more c))))

-- a value was read, and a comma behind it
pub list_goes_on : {V : Type 0} (r : Reader V) → Shrinks r
    → (front : List V) (text : List ℕ) (v : V) (rest more : List ℕ) (total : Option (List V × List ℕ)) → r text ≡ Some (v, rest) → sign_at comma rest ≡ Some more
    → with_front front (list_at r text) ≡ total → with_front (front ++ v ∷ []) (list_at r more) ≡ total
unfolding list_from
list_goes_on r h front text v rest more total e c so_far = grind (arith, front_first, fuel_enough, sign_shrinks)

-- a value was read, and there is no comma behind it
pub list_ends : {V : Type 0} (r : Reader V) (front : List V) (text : List ℕ) (v : V) (rest : List ℕ) (total : Option (List V × List ℕ)) → r text ≡ Some (v, rest) → sign_at comma rest ≡ None
    → with_front front (list_at r text) ≡ total → total ≡ Some (front ++ v ∷ [], rest)
unfolding list_from
list_ends r front text v rest total e c so_far = grind arith

-- no value was read
pub list_fails : {V : Type 0} (r : Reader V) (front : List V) (text : List ℕ) (total : Option (List V × List ℕ)) → r text ≡ None → with_front front (list_at r text) ≡ total → total ≡ None
unfolding list_from
list_fails r front text total e so_far = grind arith

-- ---- items with white space between them, to the end of the text

same_more : {V : Type 0} (f g : Reader (List V)) (v : V) (rest : List ℕ) → f rest ≡ g rest → if_more f v rest ≡ if_more g v rest
same_more f g v rest h = grind arith

items_enough : {V : Type 0} (r : Reader V) → ShrinksMore r → (n m : ℕ) (text : List ℕ) → length text < n → length text < m → items_from r n text ≡ items_from r m text
unfolding items_from
items_enough r h zero m text p q = absurd (omega arith)
items_enough r h (suc n) zero text p q = absurd (omega arith)
items_enough r h (suc n) (suc m) text p q =
    same_bind (r text) (λ x. if_more (items_from r n) x.0 (skip x.1)) (λ x. if_more (items_from r m) x.0 (skip x.1))
    (λ x e. same_more (items_from r n) (items_from r m) x.0 (skip x.1) (items_enough r h n m (skip x.1)
    (omega (arith, h text x.0 x.1 e, skip_len x.1)) (omega (arith, h text x.0 x.1 e, skip_len x.1))))

more_is : {V : Type 0} (others : Reader (List V)) (v : V) (rest : List ℕ) → ¬ (rest ≡ []) → if_more others v rest ≡ with_first v (others rest)
more_is others v rest some = grind arith

-- an item was read, and behind it and the white space there is more
pub items_go_on : {V : Type 0} (r : Reader V) → ShrinksMore r
    → (front : List V) (text : List ℕ) (v : V) (rest : List ℕ) (total : Option (List V × List ℕ)) → r text ≡ Some (v, rest) → ¬ (skip rest ≡ [])
    → with_front front (items_at r text) ≡ total → with_front (front ++ v ∷ []) (items_at r (skip rest)) ≡ total
unfolding items_from
items_go_on {V} r h front text v rest total e some so_far =
    let enough = items_enough r h (length text) (suc (length (skip rest))) (skip rest) (omega (arith, h text v rest e, skip_len rest)) (omega arith) in
    let one : items_at r text ≡ with_first v (items_from r (length text) (skip rest)) = ap (λ (o : Option (V × List ℕ)). o >>= λ x. if_more (items_from r (length text)) x.0 (skip x.1)) e ∙ more_is (items_from r (length text)) v (skip rest) some in
    sym (ap (with_front front) (one ∙ ap (with_first v) enough) ∙ front_first front v (items_at r (skip rest))) ∙ so_far

-- an item was read, and behind it and the white space there is nothing
pub items_end : {V : Type 0} (r : Reader V) (front : List V) (text : List ℕ) (v : V) (rest : List ℕ) (total : Option (List V × List ℕ)) → r text ≡ Some (v, rest) → skip rest ≡ []
    → with_front front (items_at r text) ≡ total → total ≡ Some (front ++ v ∷ [], [])
unfolding items_from
items_end {V} r front text v rest total e none so_far =
    let one : items_at r text ≡ Some (v ∷ [], []) = ap (λ (o : Option (V × List ℕ)). o >>= λ x. if_more (items_from r (length text)) x.0 (skip x.1)) e ∙ ap (if_more (items_from r (length text)) v) none in
    sym so_far ∙ ap (with_front front) one

-- no item was read
pub items_fail : {V : Type 0} (r : Reader V) (front : List V) (text : List ℕ) (total : Option (List V × List ℕ)) → r text ≡ None → with_front front (items_at r text) ≡ total → total ≡ None
unfolding items_from
items_fail r front text total e so_far = grind arith
