-- Changes of a termination, with the write of its record last.
use Rattle.std.proofs.Common.{nat_eq, ◌≡◌, ℕ, cond, List, Option, Some, bytes_eq, sym, ap, ◌∙◌}
use Rattle.gw_base.specs.declared.ids.CtxNum.{CtxNum}
use Rattle.gw_ctx.specs.Contexts.{ContextRecord, joined, left}
use Rattle.gw_term.specs.declared.record.Termination.{Termination}
use Rattle.gw_table.specs.Maps.{Maps, ctx, put_term, context_of}
use Rattle.gw_table.proofs.Lookups.{term-put_term, ctx-put_term, same_maps}
use Rattle.gw_table.specs.Members.{with_member, without_member, unless_empty}
use Rattle.gw_cmd.proofs.Sound.{ctx-with_member, ctx-without_member, term-with_member, term-without_member}

-- a write of a record and a change of a context, in either order
pub with_last : (n : CtxNum) (t q : List ℕ) (o : Option Termination) (m : Maps) → with_member n t (put_term m q o) ≡ put_term (with_member n t m) q o
with_last n t q o m = same_maps (with_member n t (put_term m q o)) (put_term (with_member n t m) q o)
    (λ x. term-with_member n t (put_term m q o) x ∙ term-put_term m q o x ∙ ap (cond (bytes_eq x q) o) (sym (term-with_member n t m x)) ∙ sym (term-put_term (with_member n t m) q o x))
    (λ c. ctx-with_member n t (put_term m q o) c
    ∙ ap (λ (a : Option ContextRecord). cond (nat_eq c.0 n.0) (Some (joined t (context_of a))) (ctx (put_term m q o) c)) (ctx-put_term m q o n)
    ∙ ap (cond (nat_eq c.0 n.0) (Some (joined t (context_of (ctx m n))))) (ctx-put_term m q o c)
    ∙ sym (ctx-with_member n t m c) ∙ sym (ctx-put_term (with_member n t m) q o c))

pub without_last : (n : CtxNum) (t q : List ℕ) (o : Option Termination) (m : Maps) → without_member n t (put_term m q o) ≡ put_term (without_member n t m) q o
without_last n t q o m = same_maps (without_member n t (put_term m q o)) (put_term (without_member n t m) q o)
    (λ x. term-without_member n t (put_term m q o) x ∙ term-put_term m q o x ∙ ap (cond (bytes_eq x q) o) (sym (term-without_member n t m x)) ∙ sym (term-put_term (without_member n t m) q o x))
    (λ c. ctx-without_member n t (put_term m q o) c
    ∙ ap (λ (a : Option ContextRecord). cond (nat_eq c.0 n.0) (unless_empty (left t (context_of a))) (ctx (put_term m q o) c)) (ctx-put_term m q o n)
    ∙ ap (cond (nat_eq c.0 n.0) (unless_empty (left t (context_of (ctx m n))))) (ctx-put_term m q o c)
    ∙ sym (ctx-without_member n t m c) ∙ sym (ctx-put_term (without_member n t m) q o c))

pub crossed_last : (p n : CtxNum) (t : List ℕ) (o : Option Termination) (m : Maps) → with_member n t (without_member p t (put_term m t o)) ≡ put_term (with_member n t (without_member p t m)) t o
crossed_last p n t o m = ap (with_member n t) (without_last p t t o m) ∙ with_last n t t o (without_member p t m)
