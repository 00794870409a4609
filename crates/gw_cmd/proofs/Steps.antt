-- What some writes in a row come to.
use Rattle.std.proofs.Common.{◌≡◌, ℕ, Bool, true, false, cond, List, Option, bytes_eq, refl, sym, ap, ◌∙◌}
use Rattle.gw_term.specs.declared.record.Termination.{Termination}
use Rattle.gw_table.specs.Maps.{Maps, term, put_term}
use Rattle.gw_table.proofs.Lookups.{term-put_term, ctx-put_term, same_maps}

twice : {A : Type 0} (b : Bool) (x y z : A) → cond b x (cond b y z) ≡ cond b x z
twice true x y z = refl
twice false x y z = refl

-- the later of two writes under one name holds
pub put_term-put_term : (m : Maps) (t : List ℕ) (o p : Option Termination) → put_term (put_term m t o) t p ≡ put_term m t p
put_term-put_term m t o p = same_maps (put_term (put_term m t o) t p) (put_term m t p)
    (λ q. term-put_term (put_term m t o) t p q ∙ ap (cond (bytes_eq q t) p) (term-put_term m t o q) ∙ twice (bytes_eq q t) p o (term m q) ∙ sym (term-put_term m t p q))
    (λ q. ctx-put_term (put_term m t o) t p q ∙ ctx-put_term m t o q ∙ sym (ctx-put_term m t p q))
