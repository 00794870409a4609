-- Marks of entries, kept through each change of a place.
use Rattle.std.proofs.Common.{◌≡◌, ℕ, ◌<◌, Bool, true, false, cond, List, Option, Some, is_some, bytes_eq, nat_eq, eq-eqb, eqb-true, refl, sym, ap, subst, ◌∙◌}
use Rattle.gw_base.specs.declared.ids.CtxNum.{CtxNum}
use Rattle.gw_base.proofs.NameTests.{same_name, same_number, name_itself}
use Rattle.gw_ctx.specs.Contexts.{ContextRecord}
use Rattle.gw_bits.specs.BitSets.{has_bit}
use Rattle.gw_term.specs.declared.record.Termination.{Termination}
use Rattle.gw_table.specs.declared.place.Place.{Place}
use Rattle.gw_table.specs.Maps.{Maps, term, ctx, number, put_term, put_ctx}
use Rattle.gw_table.specs.Marking.{AreSet, IsNumberSet, IsSlotSet}
use Rattle.gw_table.specs.Reserved.{slot_name}
use Rattle.gw_table.specs.Stored.{Stored, visible, maps_of, put_term_place, put_ctx_place}
use Rattle.gw_table.proofs.Lookups.{term-put_term, ctx-put_term, term-put_ctx, ctx-put_ctx}
use Rattle.gw_table.proofs.Places.{maps-put_term_place, maps-put_ctx_place}

-- the maps are the same
pub marked_still : (numbers slots : List ℕ) (m n : Maps) → n ≡ m → AreSet numbers slots m → AreSet numbers slots n
marked_still numbers slots m n e h = subst (λ (x : Maps). AreSet numbers slots x) (sym e) h

-- ---- one entry, whose bit was set or cleared

module _ (numbers slots new : List ℕ) (m : Maps) (in_use : AreSet numbers slots m) where
  number_stands : (n : CtxNum) (o : Option ContextRecord) → IsNumberSet n.0 (is_some o) numbers new → (k : ℕ) → has_bit new k ≡ true → (b : Bool) → nat_eq k n.0 ≡ b → is_some (cond b o (ctx m (number k))) ≡ true
  number_stands n o set k h true e = set.own (ap (λ x. has_bit new x) (sym (eqb-true k n.0 e)) ∙ h)
  number_stands n o set k h false e =
      in_use.contexts k (sym (set.others k (λ same. let clash : true ≡ false = sym (eq-eqb k n.0 same) ∙ e in cc)) ∙ h)

  pub in_use-put_ctx : (n : CtxNum) (o : Option ContextRecord) → IsNumberSet n.0 (is_some o) numbers new → AreSet new slots (put_ctx m n o)
  in_use-put_ctx n o set = record {
    contexts = λ k h. ap (λ x. is_some x) (ctx-put_ctx m n o (number k)) ∙ number_stands n o set k h (nat_eq k n.0) refl;
    terms = λ s l h. ap (λ x. is_some x) (term-put_ctx m n o (slot_name s)) ∙ in_use.terms s l h;
  }

  slot_stands : (t : List ℕ) (o : Option Termination) → IsSlotSet t (is_some o) slots new → (s : ℕ) → s < 4096 → has_bit new s ≡ true → (b : Bool) → bytes_eq (slot_name s) t ≡ b → is_some (cond b o (term m (slot_name s))) ≡ true
  slot_stands t o set s l h true e = set.own s l (same_name (slot_name s) t e) h
  slot_stands t o set s l h false e =
      in_use.terms s l (sym (set.others s l (λ same. let clash : true ≡ false = sym (name_itself (slot_name s) t same) ∙ e in cc)) ∙ h)

  pub in_use-put_term : (t : List ℕ) (o : Option Termination) → IsSlotSet t (is_some o) slots new → AreSet numbers new (put_term m t o)
  in_use-put_term t o set = record {
    contexts = λ k h. ap (λ x. is_some x) (ctx-put_term m t o (number k)) ∙ in_use.contexts k h;
    terms = λ s l h. ap (λ x. is_some x) (term-put_term m t o (slot_name s)) ∙ slot_stands t o set s l h (bytes_eq (slot_name s) t) refl;
  }

-- an entry that comes to stand, or stands as before, keeps its mark
pub in_use-put_still : (numbers slots : List ℕ) (m : Maps) (t : List ℕ) (o : Option Termination) → (is_some (term m t) ≡ true → is_some o ≡ true) → AreSet numbers slots m → AreSet numbers slots (put_term m t o)
in_use-put_still numbers slots m t o still in_use = record {
  contexts = λ k h. ap (λ x. is_some x) (ctx-put_term m t o (number k)) ∙ in_use.contexts k h;
  terms = λ s l h. ap (λ x. is_some x) (term-put_term m t o (slot_name s)) ∙ either s (bytes_eq (slot_name s) t) refl (in_use.terms s l h);
}
  where
    either : (s : ℕ) (b : Bool) → bytes_eq (slot_name s) t ≡ b → is_some (term m (slot_name s)) ≡ true → is_some (cond b o (term m (slot_name s))) ≡ true
    either s true e h = still (ap (λ (x : List ℕ). is_some (term m x)) (sym (same_name (slot_name s) t e)) ∙ h)
    either s false e h = h

pub in_use-put_ctx_still : (numbers slots : List ℕ) (m : Maps) (n : CtxNum) (o : Option ContextRecord) → (is_some (ctx m n) ≡ true → is_some o ≡ true) → AreSet numbers slots m → AreSet numbers slots (put_ctx m n o)
in_use-put_ctx_still numbers slots m n o still in_use = record {
  contexts = λ k h. ap (λ x. is_some x) (ctx-put_ctx m n o (number k)) ∙ either k (nat_eq k n.0) refl (in_use.contexts k h);
  terms = λ s l h. ap (λ x. is_some x) (term-put_ctx m n o (slot_name s)) ∙ in_use.terms s l h;
}
  where
    either : (k : ℕ) (b : Bool) → nat_eq k n.0 ≡ b → is_some (ctx m (number k)) ≡ true → is_some (cond b o (ctx m (number k))) ≡ true
    either k true e h = still (ap (λ (x : CtxNum). is_some (ctx m x)) (sym (same_number (number k) n e)) ∙ h)
    either k false e h = h

-- ---- one place

module _ (numbers slots new : List ℕ) (s after : Stored) (in_use : AreSet numbers slots (maps_of s)) where
  pub in_use-put_ctx_place : (n : CtxNum) (p : Place ContextRecord) (b : Bool) → IsNumberSet n.0 b numbers new → b ≡ is_some (visible (Some p)) → after ≡ put_ctx_place s n p → AreSet new slots (maps_of after)
  in_use-put_ctx_place n p b set here e =
      marked_still new slots (put_ctx (maps_of s) n (visible (Some p))) (maps_of after) (ap (λ x. maps_of x) e ∙ maps-put_ctx_place s n p)
      (in_use-put_ctx numbers slots new (maps_of s) in_use n (visible (Some p)) (subst (λ (x : Bool). IsNumberSet n.0 x numbers new) here set))

  pub in_use-put_term_place : (t : List ℕ) (p : Place Termination) (b : Bool) → IsSlotSet t b slots new → b ≡ is_some (visible (Some p)) → after ≡ put_term_place s t p → AreSet numbers new (maps_of after)
  in_use-put_term_place t p b set here e =
      marked_still numbers new (put_term (maps_of s) t (visible (Some p))) (maps_of after) (ap (λ x. maps_of x) e ∙ maps-put_term_place s t p)
      (in_use-put_term numbers slots new (maps_of s) in_use t (visible (Some p)) (subst (λ (x : Bool). IsSlotSet t x slots new) here set))
