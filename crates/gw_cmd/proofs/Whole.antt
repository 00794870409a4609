-- Terminations that join and leave keep whole tables well-formed.
use Rattle.std.proofs.lemmas.Grind.{common_steps}
use Rattle.std.proofs.Common.{nat_eq, ◌≡◌, ℕ, ◌≤◌, ◌<◌, Bool, true, false, cond, List, [], ◌∷◌, ◌++◌, length, Option, None, Some, bytes_eq, refl, sym, ap, subst, ◌∙◌, arith, length-append}
use Rattle.std.specs.Prelude.{◌≢◌}
use Rattle.gw_base.specs.declared.ids.CtxNum.{CtxNum}
use Rattle.gw_base.specs.NameLists.{is_in, NoDoubles}
use Rattle.gw_base.proofs.NameTests.{same_name, same_number, number_itself}
use Rattle.gw_base.proofs.NamesInLists.{last_in_pushed, stays_in_pushed, stays_without, length_without}
use Rattle.gw_term.specs.declared.record.Termination.{Termination}
use Rattle.gw_ctx.specs.Contexts.{ContextRecord, joined, left}
use Rattle.gw_ctx.specs.Fitting.{IsFit}
use Rattle.gw_ctx.proofs.Fits.{fit_joined, fit_left}
use Rattle.gw_table.specs.Maps.{Maps, term, ctx, put_term, place_of, context_of, members_of}
use Rattle.gw_table.specs.Parts.{Every}
use Rattle.gw_table.specs.WellFormed.{IsSound, AreWellFormed, Fits}
use Rattle.gw_term.specs.Limits.{HasFew}
use Rattle.gw_table.proofs.Lookups.{term-put_term, ctx-put_term}
use Rattle.gw_table.proofs.PartLookups.{sound_whole}
use Rattle.gw_table.specs.Members.{with_member, without_member, unless_empty}
use Rattle.gw_cmd.proofs.Sound.{members-unless_empty, ctx-with_member, ctx-without_member, term-with_member, term-without_member, free_at_none, sound_joined, sound_departed}

-- a record fits its name, and has few properties
abbrev pub IsGood : List ℕ → Option Termination → Type 0
IsGood t o = (r : Termination) → o ≡ Some r → Fits t r.slot × HasFew r

-- what is read after a good record was written is good
good_after : (limit : ℕ) (t q : List ℕ) (o : Option Termination) (m : Maps) → AreWellFormed limit m → IsGood t o → (b : Bool) → bytes_eq q t ≡ b → (r : Termination) → cond b o (term m q) ≡ Some r → Fits q r.slot × HasFew r
good_after limit t q o m w good true e r is = let g = good r is in (subst (λ (k : List ℕ). Fits k r.slot) (sym (same_name q t e)) g.0, g.1)
good_after limit t q o m w good false e r is = (w.named q r is, w.modest q r is)

pushed_some : (t : List ℕ) (l : List (List ℕ)) → l ++ t ∷ [] ≢ []
pushed_some t l e = grind (arith, common_steps)

unless_some : (c x : ContextRecord) → unless_empty c ≡ Some x → x.members ≢ []
unless_some c x = grind arith

fit_unless : (c : ContextRecord) → IsFit c → IsFit (context_of (unless_empty c))
fit_unless c = grind arith

pub whole_joined : (limit : ℕ) (n : CtxNum) (t : List ℕ) (o : Option Termination) (m : Maps) → AreWellFormed limit m → place_of (term m t) ≡ None → place_of o ≡ Some n → IsGood t o → length (members_of (ctx m n)) < limit → AreWellFormed limit (put_term (with_member n t m) t o)
whole_joined limit n t o m w nowhere there good room = record {
  recorded = λ q c h. sound.recorded q c refl h;
  listed = λ q c e. ap (λ x. is_in q (members_of x)) (at_ctx c) ∙ listed q c (bytes_eq q t) (nat_eq c.0 n.0) refl refl (ap (λ x. place_of x) (sym (at_term q)) ∙ e);
  once = sound.once;
  some = λ c x e. some c x (nat_eq c.0 n.0) (sym (at_ctx c) ∙ e);
  few = λ c. subst (λ x. length (members_of x) ≤ limit) (sym (at_ctx c)) (few c (nat_eq c.0 n.0));
  fit = λ c. subst (λ x. IsFit (context_of x)) (sym (at_ctx c)) (fit c (nat_eq c.0 n.0));
  named = λ q r e. (good_after limit t q o m w good (bytes_eq q t) refl r (sym (at_term q) ∙ e)).0;
  modest = λ q r e. (good_after limit t q o m w good (bytes_eq q t) refl r (sym (at_term q) ∙ e)).1;
}
  where
    sound : IsSound Every (put_term (with_member n t m) t o)
    sound = sound_joined Every n t o m (sound_whole limit m w) (free_at_none Every t m (sound_whole limit m w) refl nowhere) there

    list : Option ContextRecord
    list = Some (joined t (context_of (ctx m n)))

    at_term : (q : List ℕ) → term (put_term (with_member n t m) t o) q ≡ cond (bytes_eq q t) o (term m q)
    at_term q = term-put_term (with_member n t m) t o q ∙ ap (cond (bytes_eq q t) o) (term-with_member n t m q)

    at_ctx : (c : CtxNum) → ctx (put_term (with_member n t m) t o) c ≡ cond (nat_eq c.0 n.0) list (ctx m c)
    at_ctx c = ctx-put_term (with_member n t m) t o c ∙ ctx-with_member n t m c

    listed : (q : List ℕ) (c : CtxNum) (b d : Bool) → bytes_eq q t ≡ b → nat_eq c.0 n.0 ≡ d → place_of (cond b o (term m q)) ≡ Some c → is_in q (members_of (cond d list (ctx m c))) ≡ true
    listed q c true true a b e = last_in_pushed q t (members_of (ctx m n)) a
    listed q c true false a b e =
        let f : Some n ≡ Some c = sym there ∙ e in
        let j : n ≡ c = cc in
        let y : nat_eq c.0 n.0 ≡ true = number_itself c n (sym j) in
        absurd (let clash : true ≡ false = sym y ∙ b in cc)
    listed q c false true a b e = stays_in_pushed q t (members_of (ctx m n)) (ap (λ (k : CtxNum). is_in q (members_of (ctx m k))) (sym (same_number c n b)) ∙ w.listed q c e)
    listed q c false false a b e = w.listed q c e

    some : (c : CtxNum) (x : ContextRecord) (d : Bool) → cond d list (ctx m c) ≡ Some x → x.members ≢ []
    some c x true e f = pushed_some t (members_of (ctx m n)) (ap (λ (o : Option ContextRecord). members_of o) e ∙ f)
    some c x false e f = w.some c x e f

    fit : (c : CtxNum) (d : Bool) → IsFit (context_of (cond d list (ctx m c)))
    fit c true = fit_joined t (context_of (ctx m n)) (w.fit n)
    fit c false = w.fit c

    few : (c : CtxNum) (d : Bool) → length (members_of (cond d list (ctx m c))) ≤ limit
    few c true = omega (arith, length-append (members_of (ctx m n)) (t ∷ []))
    few c false = w.few c

pub whole_departed : (limit : ℕ) (n : CtxNum) (t : List ℕ) (o : Option Termination) (m : Maps) → AreWellFormed limit m → place_of (term m t) ≡ Some n → place_of o ≡ None → IsGood t o → AreWellFormed limit (put_term (without_member n t m) t o)
whole_departed limit n t o m w there nowhere good = record {
  recorded = λ q c h. sound.recorded q c refl h;
  listed = λ q c e. ap (λ x. is_in q (members_of x)) (at_ctx c) ∙ listed q c (bytes_eq q t) (nat_eq c.0 n.0) refl refl (ap (λ x. place_of x) (sym (at_term q)) ∙ e);
  once = sound.once;
  some = λ c x e. some c x (nat_eq c.0 n.0) (sym (at_ctx c) ∙ e);
  few = λ c. subst (λ x. length (members_of x) ≤ limit) (sym (at_ctx c)) (few c (nat_eq c.0 n.0));
  fit = λ c. subst (λ x. IsFit (context_of x)) (sym (at_ctx c)) (fit c (nat_eq c.0 n.0));
  named = λ q r e. (good_after limit t q o m w good (bytes_eq q t) refl r (sym (at_term q) ∙ e)).0;
  modest = λ q r e. (good_after limit t q o m w good (bytes_eq q t) refl r (sym (at_term q) ∙ e)).1;
}
  where
    sound : IsSound Every (put_term (without_member n t m) t o)
    sound = sound_departed Every n t o m (sound_whole limit m w) refl there

    rest : ContextRecord
    rest = left t (context_of (ctx m n))

    at_term : (q : List ℕ) → term (put_term (without_member n t m) t o) q ≡ cond (bytes_eq q t) o (term m q)
    at_term q = term-put_term (without_member n t m) t o q ∙ ap (cond (bytes_eq q t) o) (term-without_member n t m q)

    at_ctx : (c : CtxNum) → ctx (put_term (without_member n t m) t o) c ≡ cond (nat_eq c.0 n.0) (unless_empty rest) (ctx m c)
    at_ctx c = ctx-put_term (without_member n t m) t o c ∙ ctx-without_member n t m c

    listed : (q : List ℕ) (c : CtxNum) (b d : Bool) → bytes_eq q t ≡ b → nat_eq c.0 n.0 ≡ d → place_of (cond b o (term m q)) ≡ Some c → is_in q (members_of (cond d (unless_empty rest) (ctx m c))) ≡ true
    listed q c true d a b e = absurd (let clash : None ≡ Some c = sym nowhere ∙ e in cc)
    listed q c false true a b e =
        ap (is_in q) (members-unless_empty rest)
        ∙ stays_without t q (members_of (ctx m n)) a (ap (λ (k : CtxNum). is_in q (members_of (ctx m k))) (sym (same_number c n b)) ∙ w.listed q c e)
    listed q c false false a b e = w.listed q c e

    some : (c : CtxNum) (x : ContextRecord) (d : Bool) → cond d (unless_empty rest) (ctx m c) ≡ Some x → x.members ≢ []
    some c x true e f = unless_some rest x e f
    some c x false e f = w.some c x e f

    fit : (c : CtxNum) (d : Bool) → IsFit (context_of (cond d (unless_empty rest) (ctx m c)))
    fit c true = fit_unless rest (fit_left t (context_of (ctx m n)) (w.fit n))
    fit c false = w.fit c

    few : (c : CtxNum) (d : Bool) → length (members_of (cond d (unless_empty rest) (ctx m c))) ≤ limit
    few c true = omega (arith, ap length (members-unless_empty rest), length_without t (members_of (ctx m n)), w.few n)
    few c false = w.few c

-- a record changes in its place
pub whole_rewritten : (limit : ℕ) (t : List ℕ) (o : Option Termination) (m : Maps) → AreWellFormed limit m → place_of o ≡ place_of (term m t) → IsGood t o → AreWellFormed limit (put_term m t o)
whole_rewritten limit t o m w same good = record {
  recorded = λ q c h. ap (λ x. place_of x) (at_term q) ∙ place q (bytes_eq q t) refl ∙ w.recorded q c (ap (λ x. is_in q (members_of x)) (sym (ctx-put_term m t o c)) ∙ h);
  listed = λ q c e. ap (λ x. is_in q (members_of x)) (ctx-put_term m t o c) ∙ w.listed q c (sym (place q (bytes_eq q t) refl) ∙ ap (λ x. place_of x) (sym (at_term q)) ∙ e);
  once = λ c. subst (λ x. NoDoubles (members_of x)) (sym (ctx-put_term m t o c)) (w.once c);
  some = λ c x e. w.some c x (sym (ctx-put_term m t o c) ∙ e);
  few = λ c. subst (λ x. length (members_of x) ≤ limit) (sym (ctx-put_term m t o c)) (w.few c);
  fit = λ c. subst (λ x. IsFit (context_of x)) (sym (ctx-put_term m t o c)) (w.fit c);
  named = λ q r e. (good_after limit t q o m w good (bytes_eq q t) refl r (sym (at_term q) ∙ e)).0;
  modest = λ q r e. (good_after limit t q o m w good (bytes_eq q t) refl r (sym (at_term q) ∙ e)).1;
}
  where
    at_term : (q : List ℕ) → term (put_term m t o) q ≡ cond (bytes_eq q t) o (term m q)
    at_term q = term-put_term m t o q

    place : (q : List ℕ) (b : Bool) → bytes_eq q t ≡ b → place_of (cond b o (term m q)) ≡ place_of (term m q)
    place q true a = same ∙ ap (λ (y : List ℕ). place_of (term m y)) (sym (same_name q t a))
    place q false a = refl
