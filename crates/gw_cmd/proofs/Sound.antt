-- What terminations that join and leave keep: a member is recorded in its context, and stands there once.
use Rattle.std.proofs.Common.{nat_eq, ◌≡◌, ℕ, Bool, true, false, cond, List, [], ◌∷◌, Option, None, Some, bytes_eq, refl, sym, ap, subst, ◌∙◌}
use Rattle.gw_base.specs.declared.ids.CtxNum.{CtxNum}
use Rattle.gw_base.specs.declared.key.Key.TheVariants.{Term}
use Rattle.gw_base.specs.NameLists.{is_in, NoDoubles}
use Rattle.gw_base.proofs.Booleans.{refuted}
use Rattle.gw_base.proofs.NameTests.{same_name, same_number, number_itself}
use Rattle.gw_base.proofs.NamesInLists.{either, in_pushed, in_without, pushed, dropped, gone}
use Rattle.gw_term.specs.declared.record.Termination.{Termination}
use Rattle.gw_ctx.specs.Contexts.{ContextRecord, joined, left}
use Rattle.gw_table.specs.Maps.{Maps, term, ctx, put_term, place_of, context_of, members_of}
use Rattle.gw_table.specs.Parts.{PartKeys, holds}
use Rattle.gw_table.specs.WellFormed.{IsSound}
use Rattle.gw_table.proofs.Lookups.{term-put_term, ctx-put_term, term-put_ctx, ctx-put_ctx}
use Rattle.gw_table.specs.Members.{with_member, without_member, unless_none, unless_empty}

pub members-unless_empty : (c : ContextRecord) → members_of (unless_empty c) ≡ c.members
members-unless_empty c = by c.members c refl
  where
    by : (l : List (List ℕ)) (c : ContextRecord) → l ≡ c.members → members_of (unless_none l c) ≡ c.members
    by [] c e = e
    by (t ∷ ts) c e = refl

-- the name is in no list
abbrev pub IsFree : List ℕ → Maps → Type 0
IsFree t m = (n : CtxNum) → is_in t (members_of (ctx m n)) ≡ false

-- ---- what is read after someone joined or left

pub ctx-with_member : (n : CtxNum) (t : List ℕ) (m : Maps) (c : CtxNum) → ctx (with_member n t m) c ≡ cond (nat_eq c.0 n.0) (Some (joined t (context_of (ctx m n)))) (ctx m c)
ctx-with_member n t m c = ctx-put_ctx m n (Some (joined t (context_of (ctx m n)))) c

pub ctx-without_member : (n : CtxNum) (t : List ℕ) (m : Maps) (c : CtxNum) → ctx (without_member n t m) c ≡ cond (nat_eq c.0 n.0) (unless_empty (left t (context_of (ctx m n)))) (ctx m c)
ctx-without_member n t m c = ctx-put_ctx m n (unless_empty (left t (context_of (ctx m n)))) c

pub term-with_member : (n : CtxNum) (t : List ℕ) (m : Maps) (q : List ℕ) → term (with_member n t m) q ≡ term m q
term-with_member n t m q = term-put_ctx m n (Some (joined t (context_of (ctx m n)))) q

pub term-without_member : (n : CtxNum) (t : List ℕ) (m : Maps) (q : List ℕ) → term (without_member n t m) q ≡ term m q
term-without_member n t m q = term-put_ctx m n (unless_empty (left t (context_of (ctx m n)))) q

module _ (keys : PartKeys) where
  -- who is recorded nowhere is in no list
  pub free_at_none : (t : List ℕ) (m : Maps) → IsSound keys m → holds keys (Term t) ≡ true → place_of (term m t) ≡ None → IsFree t m
  free_at_none t m s k e n = refuted (is_in t (members_of (ctx m n))) (λ h. let r : place_of (term m t) ≡ Some n = s.recorded t n k h in let clash : None ≡ Some n = sym e ∙ r in cc)

  -- nor is who has just left
  pub free_left : (p : CtxNum) (t : List ℕ) (m : Maps) → IsSound keys m → holds keys (Term t) ≡ true → place_of (term m t) ≡ Some p → IsFree t (without_member p t m)
  free_left p t m s k e n = ap (λ o. is_in t (members_of o)) (ctx-without_member p t m n) ∙ at (nat_eq n.0 p.0) refl
    where
      rest : ContextRecord
      rest = left t (context_of (ctx m p))

      at : (d : Bool) → nat_eq n.0 p.0 ≡ d → is_in t (members_of (cond d (unless_empty rest) (ctx m n))) ≡ false
      at true a = ap (is_in t) (members-unless_empty rest) ∙ gone t (members_of (ctx m p)) (s.once p)
      at false a = refuted (is_in t (members_of (ctx m n))) (λ h.
          let f : Some p ≡ Some n = sym e ∙ s.recorded t n k h in
          let j : p ≡ n = cc in
          let y : nat_eq n.0 p.0 ≡ true = number_itself n p (sym j) in
          let clash : true ≡ false = sym y ∙ a in
          cc)

  -- a free termination joins a context, and its record says so
  pub sound_joined : (n : CtxNum) (t : List ℕ) (o : Option Termination) (m : Maps) → IsSound keys m → IsFree t m → place_of o ≡ Some n → IsSound keys (put_term (with_member n t m) t o)
  sound_joined n t o m s free there = record {
    recorded = λ q c k h. ap (λ x. place_of x) (at_term q) ∙ rec q c k (bytes_eq q t) (nat_eq c.0 n.0) refl refl (ap (λ x. is_in q (members_of x)) (sym (at_ctx c)) ∙ h);
    once = λ c. subst (λ x. NoDoubles (members_of x)) (sym (at_ctx c)) (both c (nat_eq c.0 n.0));
  }
    where
      list : Option ContextRecord
      list = Some (joined t (context_of (ctx m n)))

      at_term : (q : List ℕ) → term (put_term (with_member n t m) t o) q ≡ cond (bytes_eq q t) o (term m q)
      at_term q = term-put_term (with_member n t m) t o q ∙ ap (cond (bytes_eq q t) o) (term-with_member n t m q)

      at_ctx : (c : CtxNum) → ctx (put_term (with_member n t m) t o) c ≡ cond (nat_eq c.0 n.0) list (ctx m c)
      at_ctx c = ctx-put_term (with_member n t m) t o c ∙ ctx-with_member n t m c

      rec : (q : List ℕ) (c : CtxNum) → holds keys (Term q) ≡ true → (b d : Bool) → bytes_eq q t ≡ b → nat_eq c.0 n.0 ≡ d → is_in q (members_of (cond d list (ctx m c))) ≡ true → place_of (cond b o (term m q)) ≡ Some c
      rec q c k true true a b h = there ∙ ap (λ y. Some y) (sym (same_number c n b))
      rec q c k true false a b h =
          let off : is_in q (members_of (ctx m c)) ≡ false = ap (λ (y : List ℕ). is_in y (members_of (ctx m c))) (same_name q t a) ∙ free c in
          absurd (let clash : true ≡ false = sym h ∙ off in cc)
      rec q c k false true a b h =
          either (in_pushed q t (members_of (ctx m n)) h)
          (λ i. s.recorded q n k i ∙ ap (λ y. Some y) (sym (same_number c n b)))
          (λ i. absurd (let clash : true ≡ false = sym i ∙ a in cc))
      rec q c k false false a b h = s.recorded q c k h

      both : (c : CtxNum) (d : Bool) → NoDoubles (members_of (cond d list (ctx m c)))
      both c true = pushed t (members_of (ctx m n)) (s.once n) (free n)
      both c false = s.once c

  pub sound_left : (n : CtxNum) (t : List ℕ) (m : Maps) → IsSound keys m → IsSound keys (without_member n t m)
  sound_left n t m s = record {
    recorded = λ q c k h. ap (λ o. place_of o) (term-without_member n t m q) ∙ rec q c k (nat_eq c.0 n.0) refl (ap (λ o. is_in q (members_of o)) (sym (ctx-without_member n t m c)) ∙ h);
    once = λ c. subst (λ o. NoDoubles (members_of o)) (sym (ctx-without_member n t m c)) (both c (nat_eq c.0 n.0));
  }
    where
      rest : ContextRecord
      rest = left t (context_of (ctx m n))

      rec : (q : List ℕ) (c : CtxNum) → holds keys (Term q) ≡ true → (d : Bool) → nat_eq c.0 n.0 ≡ d → is_in q (members_of (cond d (unless_empty rest) (ctx m c))) ≡ true → place_of (term m q) ≡ Some c
      rec q c k true a h = s.recorded q n k (in_without t q (members_of (ctx m n)) (ap (is_in q) (sym (members-unless_empty rest)) ∙ h)) ∙ ap (λ y. Some y) (sym (same_number c n a))
      rec q c k false a h = s.recorded q c k h

      both : (c : CtxNum) (d : Bool) → NoDoubles (members_of (cond d (unless_empty rest) (ctx m c)))
      both c true = subst NoDoubles (sym (members-unless_empty rest)) (dropped t (members_of (ctx m n)) (s.once n))
      both c false = s.once c

  -- the record of a free termination changes, comes or goes
  pub sound_put_term : (t : List ℕ) (o : Option Termination) (m : Maps) → IsSound keys m → IsFree t m → IsSound keys (put_term m t o)
  sound_put_term t o m s free = record {
    recorded = λ q c k h. ap (λ x. place_of x) (term-put_term m t o q) ∙ rec q c k (bytes_eq q t) refl (ap (λ x. is_in q (members_of x)) (sym (ctx-put_term m t o c)) ∙ h);
    once = λ c. subst (λ x. NoDoubles (members_of x)) (sym (ctx-put_term m t o c)) (s.once c);
  }
    where
      rec : (q : List ℕ) (c : CtxNum) → holds keys (Term q) ≡ true → (b : Bool) → bytes_eq q t ≡ b → is_in q (members_of (ctx m c)) ≡ true → place_of (cond b o (term m q)) ≡ Some c
      rec q c k true a h =
          let off : is_in q (members_of (ctx m c)) ≡ false = ap (λ (y : List ℕ). is_in y (members_of (ctx m c))) (same_name q t a) ∙ free c in
          absurd (let clash : true ≡ false = sym h ∙ off in cc)
      rec q c k false a h = s.recorded q c k h

  -- a termination leaves its context, and its record says so
  pub sound_departed : (n : CtxNum) (t : List ℕ) (o : Option Termination) (m : Maps) → IsSound keys m → holds keys (Term t) ≡ true → place_of (term m t) ≡ Some n → IsSound keys (put_term (without_member n t m) t o)
  sound_departed n t o m s k e = sound_put_term t o (without_member n t m) (sound_left n t m s) (free_left n t m s k e)
