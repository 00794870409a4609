-- What happened, piece after piece.
use Rattle.std.proofs.Common.{List, [], ◌++◌, Option, Some, None, ap, subst, sym, ◌∙◌, append_assoc}
use Rattle.std.proofs.lemmas.List.{append-nil}
use Rattle.gw_front.specs.Events.{Event, Happens}

pub Happens-trans : (a b c : Option (List Event)) (xs ys : List Event) → Happens a b xs → Happens b c ys → Happens a c (xs ++ ys)
Happens-trans None b c xs ys p q = tt
Happens-trans (Some x) None c xs ys p q = absurd p
Happens-trans (Some x) (Some y) None xs ys p q = absurd q
Happens-trans (Some x) (Some y) (Some z) xs ys p q = q ∙ ap (λ (l : List Event). l ++ ys) p ∙ append_assoc x xs ys

pub Happens-refl : (a : Option (List Event)) → Happens a a []
Happens-refl None = tt
Happens-refl (Some x) = sym (append-nil x)

-- nothing more happened
pub Happens-nothing : (a b c : Option (List Event)) (xs : List Event) → Happens a b xs → Happens b c [] → Happens a c xs
Happens-nothing a b c xs p q = subst (λ (l : List Event). Happens a c l) (append-nil xs) (Happens-trans a b c xs [] p q)
