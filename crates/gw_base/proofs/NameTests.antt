-- One test of keys: the finite maps' test, by the order, is equality.
use Rattle.std.proofs.Common.{nat_eq, ◌≡◌, ℕ, Bool, true, false, List, bytes_eq, refl, sym, ap, subst, ◌∙◌, eqb-true, eq-eqb}
use Rattle.std.specs.Ordering.{nat_cmp, eq_by_cmp, is_eq}
use Rattle.std.specs.Cmp.{IsTotalOrder, nat_cmp_total, tied_itself}
use Rattle.std.specs.Cmp.Lexicographic.{nat_list_cmp_total}
use Rattle.std.specs.FinMap.{IsAntisymmetric, nat_cmp-IsAntisymmetric, slice_cmp-IsAntisymmetric}
use Rattle.std.specs.declared.cmp.Ordering.{Ordering}
use Rattle.std.specs.declared.cmp.Ordering.TheVariants.{Less, Equal, Greater}
use Rattle.std.proofs.lemmas.Slice.Eq.{bytes_eq-Decides}
use Rattle.gw_base.specs.declared.ids.CtxNum.{CtxNum}
use Rattle.gw_base.specs.NameLists.{name_cmp}
use Rattle.gw_base.proofs.Booleans.{refuted}

ties : (r : Ordering) → is_eq r ≡ true → r ≡ Equal
ties Less h = cc
ties Equal h = refl
ties Greater h = cc

-- two tests that tell the same equality are one
same_test : {K : Type 0} {R : K → K → Ordering} (eq : K → K → Bool) → IsTotalOrder R → IsAntisymmetric R → ((a b : K) → eq a b ≡ true → a ≡ b) → ((a b : K) → a ≡ b → eq a b ≡ true) → (q t : K) → eq_by_cmp R q t ≡ eq q t
same_test {K} {R} eq total same to from q t =
    elim (eq q t) as (λ b. eq q t ≡ b → eq_by_cmp R q t ≡ b) [
      | true ↦ λ e. subst (λ (y : K). eq_by_cmp R q y ≡ true) (to q t e) (ap is_eq (tied_itself total q))
      | false ↦ λ e. refuted (eq_by_cmp R q t) (λ h. let s : eq q t ≡ true = from q t (same q t (ties (R q t) h)) in let clash : true ≡ false = sym s ∙ e in cc)
    ] refl

pub names_same : IsAntisymmetric name_cmp
names_same = slice_cmp-IsAntisymmetric nat_cmp-IsAntisymmetric

pub same_name : (a b : List ℕ) → bytes_eq a b ≡ true → a ≡ b
same_name a b e = (bytes_eq-Decides a b).0 e

pub name_itself : (a b : List ℕ) → a ≡ b → bytes_eq a b ≡ true
name_itself a b e = (bytes_eq-Decides a b).1 e

pub name_test : (q t : List ℕ) → eq_by_cmp name_cmp q t ≡ bytes_eq q t
name_test = same_test bytes_eq nat_list_cmp_total names_same same_name name_itself

pub number_test : (q t : ℕ) → eq_by_cmp nat_cmp q t ≡ nat_eq q t
number_test = same_test nat_eq nat_cmp_total nat_cmp-IsAntisymmetric eqb-true eq-eqb

-- a context number is its number
pub same_number : (a b : CtxNum) → nat_eq a.0 b.0 ≡ true → a ≡ b
same_number a b e = ap (λ (k : ℕ). let n : CtxNum = record { 0 = k } in n) (eqb-true a.0 b.0 e)

pub number_itself : (a b : CtxNum) → a ≡ b → nat_eq a.0 b.0 ≡ true
number_itself a b e = eq-eqb a.0 b.0 (ap (λ (n : CtxNum). n.0) e)
