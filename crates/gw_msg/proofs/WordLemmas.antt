-- What a word stands for as a TerminationID or as an mId is what gw_base reads it as, and what the grammar says of it.
use Rattle.std.proofs.Common.{◌≡◌, ℕ, Bool, cond, List, Some, None, Ok, Err, ap, sym, subst, ◌∙◌, arith}
use Rattle.std.specs.Bool.{Decides}
use Rattle.gw_base.specs.Mids.{IsMid, longest_mid}
use Rattle.gw_base.specs.Reads.{ReadsAs}
use Rattle.gw_base.specs.TermRefs.{ReadsTerm}
use Rattle.gw_base.specs.declared.fault.NameFault.{NameFault}
use Rattle.gw_base.specs.declared.term_ref.TermRef.{TermRef}
use Rattle.gw_base.proofs.NameForms.{mid_refused, term_refused}
use Rattle.gw_base.proofs.TermClasses.{one_class}
use Rattle.gw_msg.specs.Grammar.{SpellsTerm, SpellsMid}
use Rattle.gw_msg.specs.NameWords.{is_term_text, term_class, term_of, is_mid, mid_of}
use Rattle.gw_msg.proofs.NameTests.{decides_term_text, class_fits, decides_mid}

-- ---- the value where a test holds

chosen : {V P : Type 0} (t : Bool) → Decides t P → (v w : V) → cond t (Some v) None ≡ Some w → P × (v ≡ w)
chosen t d v w e = grind arith

chosen_none : {V P : Type 0} (t : Bool) → Decides t P → (v : V) → ¬ P → cond t (Some v) None ≡ None
chosen_none t d v n = grind arith

-- ---- TerminationIDs

pub term_is : (t : TermRef) (w : List ℕ) → term_of w ≡ Some t → SpellsTerm t w
term_is t w e = let c = chosen (is_term_text w) (decides_term_text w) (term_class w) t e in subst (λ (u : TermRef). SpellsTerm u w) c.1 (c.0, class_fits w)

pub term_again : (t : TermRef) (w : List ℕ) → SpellsTerm t w → term_of w ≡ Some t
term_again t w h =
    ap (λ (b : Bool). cond b (Some (term_class w)) None) ((decides_term_text w).1 h.0) ∙ ap (λ (u : TermRef). Some u) (one_class (term_class w) t w (class_fits w) h.1)

pub term_read : (w : List ℕ) (t : TermRef) → ReadsTerm w (Ok t) → term_of w ≡ Some t
term_read w t h = term_again t w h

pub term_not_read : (w : List ℕ) (e : NameFault) → ReadsTerm w (Err e) → term_of w ≡ None
term_not_read w e h = chosen_none (is_term_text w) (decides_term_text w) (term_class w) (term_refused w e h)

-- ---- mIds

pub mid_is : (mid w : List ℕ) → mid_of w ≡ Some mid → SpellsMid mid w
mid_is mid w e = let c = chosen (is_mid w) (decides_mid w) w mid e in (sym c.1, c.0)

pub mid_again : (mid w : List ℕ) → SpellsMid mid w → mid_of w ≡ Some mid
mid_again mid w h = grind (arith, decides_mid)

pub mid_read : (w mid : List ℕ) → ReadsAs IsMid (longest_mid w) w (Ok mid) → mid_of w ≡ Some mid
mid_read w mid h = mid_again mid w h

pub mid_not_read : (w : List ℕ) (e : NameFault) → ReadsAs IsMid (longest_mid w) w (Err e) → mid_of w ≡ None
mid_not_read w e h = chosen_none (is_mid w) (decides_mid w) w (mid_refused w e h)
