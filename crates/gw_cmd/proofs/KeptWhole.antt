-- Lawful changes keep whole tables well-formed.
use Rattle.std.proofs.Common.{nat_eq, ◌≡◌, ℕ, ◌<◌, Bool, true, false, cond, List, length, Option, None, Some, refl, sym, ap, subst, ◌∙◌, arith}
use Rattle.gw_base.specs.declared.ids.CtxNum.{CtxNum}
use Rattle.gw_base.specs.declared.command_words.Rules.{Rules}
use Rattle.gw_base.specs.declared.command_words.Verb.{Verb}
use Rattle.gw_term.specs.declared.record.Termination.{Termination}
use Rattle.gw_term.specs.Limits.{HasFew}
use Rattle.gw_table.specs.Maps.{Maps, term, ctx, put_term, place_of, members_of}
use Rattle.gw_table.specs.WellFormed.{AreWellFormed, Fits}
use Rattle.gw_ctx.specs.Contexts.{ContextRecord, left}
use Rattle.gw_table.specs.Maps.{context_of}
use Rattle.gw_table.proofs.Lookups.{term-put_term, ctx-put_term}
use Rattle.gw_cmd.specs.declared.change.Change.{Change}
use Rattle.gw_cmd.specs.declared.change.Change.TheVariants.{Stays, Becomes, Joins, Crosses, Leaves}
use Rattle.gw_cmd.specs.Effects.{what_remains}
use Rattle.gw_table.specs.Members.{with_member, without_member, unless_empty}
use Rattle.gw_cmd.specs.Changes.{changed}
use Rattle.gw_cmd.proofs.Kept.{IsKnown, Found, Made, IsKept}
use Rattle.gw_cmd.proofs.KeptSound.{known_place, nowhere_after}
use Rattle.gw_cmd.proofs.Lawful.{IsRewritten, Lawful}
use Rattle.gw_cmd.proofs.Sound.{ctx-without_member}
use Rattle.gw_cmd.proofs.Steps.{put_term-put_term}
use Rattle.gw_cmd.proofs.Suited.{apart_turned, room_of}
use Rattle.gw_cmd.proofs.Whole.{IsGood, whole_joined, whole_departed, whole_rewritten}
use Rattle.gw_cmd.proofs.Written.{with_last, without_last, crossed_last}
use Rattle.gw_base.proofs.NamesInLists.{itself}

-- a termination that is there fits its name, and so does one that is made in a slot
known_good : (limit : ℕ) {makes : ℕ → Type 0} (t : List ℕ) (r : Termination) (m : Maps) → AreWellFormed limit m → IsKnown makes t r m → Fits t r.slot × HasFew r
known_good limit t r m w (Found e) = (w.named t r e, w.modest t r e)
known_good limit t r m w (Made s i j e a) = grind arith

rewritten_good : (t : List ℕ) (old new : Termination) → Fits t old.slot × HasFew old → IsRewritten old new → IsGood t (Some new)
rewritten_good t old new g i r e = grind arith

remains_good : (t : List ℕ) (old : Termination) (o : Option Termination) → Fits t old.slot × HasFew old → o ≡ what_remains old → IsGood t o
remains_good t old o g e r is = grind arith

gone_good : (t : List ℕ) → IsGood t None
gone_good t r e = absurd cc

-- it leaves one context and joins another: it goes, and comes back
crossed : (limit : ℕ) (p n : CtxNum) (t : List ℕ) (new : Termination) (m : Maps) → AreWellFormed limit m → place_of (term m t) ≡ Some p → nat_eq p.0 n.0 ≡ false → new.place ≡ Some n → IsGood t (Some new) → length (members_of (ctx m n)) < limit
    → AreWellFormed limit (put_term (with_member n t (without_member p t m)) t (Some new))
crossed limit p n t new m w here apart there good room =
    let away : Maps = put_term (without_member p t m) t None in
    let same_ctx : ctx away n ≡ ctx m n = ctx-put_term (without_member p t m) t None n ∙ ctx-without_member p t m n ∙ ap (λ (b : Bool). cond b (unless_empty (left t (context_of (ctx m p)))) (ctx m n)) (apart_turned p n apart) in
    let none : place_of (term away t) ≡ None = ap (λ o. place_of o) (term-put_term (without_member p t m) t None t ∙ ap (λ (b : Bool). cond b None (term (without_member p t m) t)) (itself t)) in
    let back : AreWellFormed limit (put_term (with_member n t away) t (Some new)) =
    whole_joined limit n t (Some new) away (whole_departed limit p t None m w here refl (gone_good t)) none there good (subst (λ (o : Option ContextRecord). length (members_of o) < limit) (sym same_ctx) room) in
    subst (AreWellFormed limit)
    (ap (λ x. put_term x t (Some new)) (with_last n t t None (without_member p t m)) ∙ put_term-put_term (with_member n t (without_member p t m)) t None (Some new))
    back

whole_changed : (rules : Rules) {makes : ℕ → Type 0} (v : Verb) (place : Option CtxNum) (t : List ℕ) (r : Termination) (change : Change) (m : Maps) → AreWellFormed rules.members m → IsKnown makes t r m → Lawful rules v place r change m → AreWellFormed rules.members (changed t change m)
whole_changed rules v place t r Stays m w i l = w
whole_changed rules v place t r (Becomes new) m w i l =
    whole_rewritten rules.members t (Some new) m w (l.1 ∙ sym l.0 ∙ sym (known_place t r m i)) (rewritten_good t r new (known_good rules.members t r m w i) l.2)
whole_changed rules v place t r (Joins n new) m w i l =
    subst (AreWellFormed rules.members) (sym (with_last n t t (Some new) m))
    (whole_joined rules.members n t (Some new) m w (known_place t r m i ∙ l.1) l.2 (rewritten_good t r new (known_good rules.members t r m w i) l.3) (room_of rules n m l.4))
whole_changed rules v place t r (Crosses p n new) m w i l =
    subst (AreWellFormed rules.members) (sym (crossed_last p n t (Some new) m))
    (crossed rules.members p n t new m w (known_place t r m i ∙ l.1) l.2 l.3 (rewritten_good t r new (known_good rules.members t r m w i) l.4) (room_of rules n m l.5))
whole_changed rules v place t r (Leaves n o) m w i l =
    subst (AreWellFormed rules.members) (sym (without_last n t t o m))
    (whole_departed rules.members n t o m w (known_place t r m i ∙ l.1) (nowhere_after r o l.2) (remains_good t r o (known_good rules.members t r m w i) l.2))

pub whole_is_kept : (rules : Rules) (makes : ℕ → Type 0) → IsKept rules (λ _. true) makes (AreWellFormed rules.members)
whole_is_kept rules makes = record { changes = λ v place t r change m w k i l. whole_changed rules v place t r change m w i l }
