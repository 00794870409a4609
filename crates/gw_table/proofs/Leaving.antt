-- What is written twice, and what is written as it is.
use Rattle.std.proofs.Common.{nat_eq, ◌≡◌, ℕ, Bool, true, false, cond, List, bytes_eq, Option, None, refl, sym, ap, ◌∙◌}
use Rattle.gw_base.specs.declared.ids.CtxNum.{CtxNum}
use Rattle.gw_base.proofs.NameTests.{same_name, same_number}
use Rattle.gw_ctx.specs.Contexts.{ContextRecord}
use Rattle.gw_term.specs.declared.record.Termination.{Termination}
use Rattle.gw_table.specs.Maps.{Maps, term, ctx, put_ctx, put_term}
use Rattle.gw_table.proofs.Lookups.{term-put_term, ctx-put_term, term-put_ctx, ctx-put_ctx, put_ctx-put_ctx, same_maps}

twice : {A : Type 0} (b : Bool) (x y z : A) → cond b x (cond b y z) ≡ cond b x z
twice true x y z = refl
twice false x y z = refl

-- the later of two writes at one name holds
pub put_term-put_term : (m : Maps) (t : List ℕ) (o p : Option Termination) → put_term (put_term m t o) t p ≡ put_term m t p
put_term-put_term m t o p = same_maps (put_term (put_term m t o) t p) (put_term m t p)
    (λ q. term-put_term (put_term m t o) t p q ∙ ap (cond (bytes_eq q t) p) (term-put_term m t o q) ∙ twice (bytes_eq q t) p o (term m q) ∙ sym (term-put_term m t p q))
    (λ q. ctx-put_term (put_term m t o) t p q ∙ ctx-put_term m t o q ∙ sym (ctx-put_term m t p q))

-- a write of what is there changes nothing
pub put_term-same : (m : Maps) (t : List ℕ) (o : Option Termination) → o ≡ term m t → put_term m t o ≡ m
put_term-same m t o e = same_maps (put_term m t o) m (λ q. term-put_term m t o q ∙ at q (bytes_eq q t) refl) (λ q. ctx-put_term m t o q)
  where
    at : (q : List ℕ) (b : Bool) → bytes_eq q t ≡ b → cond b o (term m q) ≡ term m q
    at q true h = e ∙ ap (term m) (sym (same_name q t h))
    at q false h = refl

pub put_ctx-same : (m : Maps) (n : CtxNum) (o : Option ContextRecord) → o ≡ ctx m n → put_ctx m n o ≡ m
put_ctx-same m n o e = same_maps (put_ctx m n o) m (λ q. term-put_ctx m n o q) (λ q. ctx-put_ctx m n o q ∙ at q (nat_eq q.0 n.0) refl)
  where
    at : (q : CtxNum) (b : Bool) → nat_eq q.0 n.0 ≡ b → cond b o (ctx m q) ≡ ctx m q
    at q true h = e ∙ ap (ctx m) (sym (same_number q n h))
    at q false h = refl

-- an entry that was taken out and is set again
pub set_again : (m out new : Maps) (n : CtxNum) (o : Option ContextRecord) → out ≡ put_ctx m n None → new ≡ put_ctx out n o → new ≡ put_ctx m n o
set_again m out new n o taken set = set ∙ ap (λ (x : Maps). put_ctx x n o) taken ∙ put_ctx-put_ctx m n None o
