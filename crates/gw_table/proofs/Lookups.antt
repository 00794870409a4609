-- What is read after a write.
use Rattle.std.proofs.Common.{nat_eq, ◌≡◌, ℕ, Bool, true, false, cond, List, bytes_eq, Option, None, Some, refl, sym, ap, ◌∙◌}
use Rattle.std.specs.Cmp.{nat_cmp_total}
use Rattle.std.specs.Cmp.Lexicographic.{nat_list_cmp_total}
use Rattle.std.specs.FinMap.{get-insert, get-remove, same_map, nat_cmp-IsAntisymmetric}
use Rattle.gw_base.specs.declared.ids.CtxNum.{CtxNum}
use Rattle.gw_term.specs.declared.record.Termination.{Termination}
use Rattle.gw_ctx.specs.Contexts.{ContextRecord}
use Rattle.gw_table.specs.Maps.{Maps, term, ctx, put_term, put_ctx}
use Rattle.gw_base.proofs.NameTests.{name_test, number_test, names_same}

pub term-put_term : (m : Maps) (t : List ℕ) (o : Option Termination) (q : List ℕ) → term (put_term m t o) q ≡ cond (bytes_eq q t) o (term m q)
term-put_term m t None q = get-remove nat_list_cmp_total m.terms t q ∙ ap (λ b. cond b None (term m q)) (name_test q t)
term-put_term m t (Some r) q = get-insert nat_list_cmp_total m.terms t r q ∙ ap (λ b. cond b (Some r) (term m q)) (name_test q t)

pub ctx-put_term : (m : Maps) (t : List ℕ) (o : Option Termination) (q : CtxNum) → ctx (put_term m t o) q ≡ ctx m q
ctx-put_term m t None q = refl
ctx-put_term m t (Some r) q = refl

pub ctx-put_ctx : (m : Maps) (n : CtxNum) (o : Option ContextRecord) (q : CtxNum) → ctx (put_ctx m n o) q ≡ cond (nat_eq q.0 n.0) o (ctx m q)
ctx-put_ctx m n None q = get-remove nat_cmp_total m.contexts n.0 q.0 ∙ ap (λ b. cond b None (ctx m q)) (number_test q.0 n.0)
ctx-put_ctx m n (Some r) q = get-insert nat_cmp_total m.contexts n.0 r q.0 ∙ ap (λ b. cond b (Some r) (ctx m q)) (number_test q.0 n.0)

pub term-put_ctx : (m : Maps) (n : CtxNum) (o : Option ContextRecord) (q : List ℕ) → term (put_ctx m n o) q ≡ term m q
term-put_ctx m n None q = refl
term-put_ctx m n (Some r) q = refl

-- maps that answer alike are one
pub same_maps : (m n : Maps) → ((q : List ℕ) → term m q ≡ term n q) → ((q : CtxNum) → ctx m q ≡ ctx n q) → m ≡ n
same_maps m n t c =
    let a : m.terms ≡ n.terms = same_map nat_list_cmp_total names_same m.terms n.terms t in
    let b : m.contexts ≡ n.contexts = same_map nat_cmp_total nat_cmp-IsAntisymmetric m.contexts n.contexts (λ q. c (record { 0 = q })) in
    λ i. record { terms = a i; contexts = b i }

twice : {A : Type 0} (b : Bool) (x y z : A) → cond b x (cond b y z) ≡ cond b x z
twice true x y z = refl
twice false x y z = refl

-- the later of two writes at one key holds
pub put_ctx-put_ctx : (m : Maps) (n : CtxNum) (o p : Option ContextRecord) → put_ctx (put_ctx m n o) n p ≡ put_ctx m n p
put_ctx-put_ctx m n o p = same_maps (put_ctx (put_ctx m n o) n p) (put_ctx m n p)
    (λ q. term-put_ctx (put_ctx m n o) n p q ∙ term-put_ctx m n o q ∙ sym (term-put_ctx m n p q))
    (λ q. ctx-put_ctx (put_ctx m n o) n p q ∙ ap (cond (nat_eq q.0 n.0) p) (ctx-put_ctx m n o q) ∙ twice (nat_eq q.0 n.0) p o (ctx m q) ∙ sym (ctx-put_ctx m n p q))
