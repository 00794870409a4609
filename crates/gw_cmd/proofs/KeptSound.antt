-- Lawful changes keep tables sound, and make no termination but in the slot.
use Rattle.std.proofs.Common.{◌≡◌, ℕ, Bool, true, false, cond, List, Option, None, Some, bytes_eq, refl, sym, ap, subst, ◌∙◌}
use Rattle.std.specs.Prelude.{◌≢◌}
use Rattle.gw_base.specs.declared.ids.CtxNum.{CtxNum}
use Rattle.gw_base.specs.declared.command_words.Rules.{Rules}
use Rattle.gw_base.specs.declared.command_words.Verb.{Verb}
use Rattle.gw_base.specs.declared.key.Key.TheVariants.{Term}
use Rattle.gw_base.specs.NameLists.{is_in, NoDoubles}
use Rattle.gw_base.proofs.NameTests.{same_name}
use Rattle.gw_term.specs.declared.record.Termination.{Termination}
use Rattle.gw_table.specs.Maps.{Maps, term, ctx, put_term, place_of, members_of}
use Rattle.gw_table.specs.Parts.{PartKeys, holds}
use Rattle.gw_table.specs.Reserved.{slot_name}
use Rattle.gw_table.specs.WellFormed.{IsSound}
use Rattle.gw_table.proofs.Lookups.{term-put_term, ctx-put_term}
use Rattle.gw_cmd.specs.declared.change.Change.{Change}
use Rattle.gw_cmd.specs.declared.change.Change.TheVariants.{Stays, Becomes, Joins, Crosses, Leaves}
use Rattle.gw_table.specs.Members.{without_member}
use Rattle.gw_cmd.specs.Changes.{changed}
use Rattle.gw_cmd.specs.Effects.{what_remains}
use Rattle.gw_cmd.proofs.Lawful.{Lawful}
use Rattle.gw_cmd.proofs.Kept.{IsKnown, Found, Made, IsKept}
use Rattle.gw_cmd.proofs.Sound.{free_at_none, free_left, sound_joined, sound_left, sound_departed, term-with_member, term-without_member}
use Rattle.gw_cmd.proofs.Written.{with_last, without_last, crossed_last}

-- it is where its record says
pub known_place : {makes : ℕ → Type 0} (t : List ℕ) (r : Termination) (m : Maps) → IsKnown makes t r m → place_of (term m t) ≡ r.place
known_place t r m (Found e) = ap (λ o. place_of o) e
known_place t r m (Made s i j e a) = ap (λ o. place_of o) e ∙ ap (λ (x : Termination). x.place) (sym j)

remains_nowhere : (r : Termination) → place_of (what_remains r) ≡ None
remains_nowhere r = at r.slot refl
  where
    at : (o : Option ℕ) → r.slot ≡ o → place_of (what_remains r) ≡ None
    at None e = rw e refl
    at (Some s) e = rw e refl

pub nowhere_after : (r : Termination) (o : Option Termination) → o ≡ what_remains r → place_of o ≡ None
nowhere_after r o e = ap (λ x. place_of x) e ∙ remains_nowhere r

-- another record in the same place
sound_rewritten : (keys : PartKeys) (t : List ℕ) (o : Option Termination) (m : Maps) → IsSound keys m → place_of o ≡ place_of (term m t) → IsSound keys (put_term m t o)
sound_rewritten keys t o m s same = record {
  recorded = λ q c k h. ap (λ x. place_of x) (term-put_term m t o q) ∙ rec q c k (bytes_eq q t) refl (ap (λ x. is_in q (members_of x)) (sym (ctx-put_term m t o c)) ∙ h);
  once = λ c. subst (λ x. NoDoubles (members_of x)) (sym (ctx-put_term m t o c)) (s.once c);
}
  where
    rec : (q : List ℕ) (c : CtxNum) → holds keys (Term q) ≡ true → (b : Bool) → bytes_eq q t ≡ b → is_in q (members_of (ctx m c)) ≡ true → place_of (cond b o (term m q)) ≡ Some c
    rec q c k true a h = same ∙ ap (λ (y : List ℕ). place_of (term m y)) (sym (same_name q t a)) ∙ s.recorded q c k h
    rec q c k false a h = s.recorded q c k h

sound_changed : (rules : Rules) (keys : PartKeys) {makes : ℕ → Type 0} (v : Verb) (place : Option CtxNum) (t : List ℕ) (r : Termination) (change : Change) (m : Maps) → IsSound keys m → holds keys (Term t) ≡ true → IsKnown makes t r m → Lawful rules v place r change m → IsSound keys (changed t change m)
sound_changed rules keys v place t r Stays m s k i l = s
sound_changed rules keys v place t r (Becomes new) m s k i l = sound_rewritten keys t (Some new) m s (l.1 ∙ sym l.0 ∙ sym (known_place t r m i))
sound_changed rules keys v place t r (Joins n new) m s k i l =
    subst (IsSound keys) (sym (with_last n t t (Some new) m)) (sound_joined keys n t (Some new) m s (free_at_none keys t m s k (known_place t r m i ∙ l.1)) l.2)
sound_changed rules keys v place t r (Crosses p n new) m s k i l =
    subst (IsSound keys) (sym (crossed_last p n t (Some new) m)) (sound_joined keys n t (Some new) (without_member p t m) (sound_left keys p t m s) (free_left keys p t m s k (known_place t r m i ∙ l.1)) l.3)
sound_changed rules keys v place t r (Leaves n o) m s k i l =
    subst (IsSound keys) (sym (without_last n t t o m)) (sound_departed keys n t o m s k (known_place t r m i ∙ l.1))

pub sound_is_kept : (rules : Rules) (keys : PartKeys) (makes : ℕ → Type 0) → IsKept rules (λ t. holds keys (Term t)) makes (IsSound keys)
sound_is_kept rules keys makes = record { changes = λ v place t r change m s k i l. sound_changed rules keys v place t r change m s k i l }

-- ---- no termination comes but the one of the slot

-- what is written under another name is not read
not_written : (q t : List ℕ) (o : Option Termination) (m : Maps) → (bytes_eq q t ≡ true → ⊥) → term (put_term m t o) q ≡ term m q
not_written q t o m other = term-put_term m t o q ∙ at (bytes_eq q t) refl
  where
    at : (b : Bool) → bytes_eq q t ≡ b → cond b o (term m q) ≡ term m q
    at true e = absurd (other e)
    at false e = refl

term_changed : (q t : List ℕ) (change : Change) (m : Maps) → (bytes_eq q t ≡ true → ⊥) → term (changed t change m) q ≡ term m q
term_changed q t Stays m other = refl
term_changed q t (Becomes r) m other = not_written q t (Some r) m other
term_changed q t (Joins n r) m other = term-with_member n t (put_term m t (Some r)) q ∙ not_written q t (Some r) m other
term_changed q t (Crosses p n r) m other = term-with_member n t (without_member p t (put_term m t (Some r))) q ∙ term-without_member p t (put_term m t (Some r)) q ∙ not_written q t (Some r) m other
term_changed q t (Leaves n o) m other = term-without_member n t (put_term m t o) q ∙ not_written q t o m other

absent_changed : (q t : List ℕ) (r : Termination) (change : Change) (m : Maps) → term m q ≡ None → IsKnown (λ s. slot_name s ≢ q) t r m → term (changed t change m) q ≡ None
absent_changed q t r change m none (Found e) = term_changed q t change m (λ h. let same : None ≡ Some r = sym none ∙ ap (λ (y : List ℕ). term m y) (same_name q t h) ∙ e in cc) ∙ none
absent_changed q t r change m none (Made s i j e other) = term_changed q t change m (λ h. other (sym i ∙ sym (same_name q t h))) ∙ none

pub absent_is_kept : (rules : Rules) (q : List ℕ) → IsKept rules (λ _. true) (λ s. slot_name s ≢ q) (λ m. term m q ≡ None)
absent_is_kept rules q = record { changes = λ v place t r change m p k i l. absent_changed q t r change m p i }
