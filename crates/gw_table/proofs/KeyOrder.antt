-- The order of keys is total, and tells keys apart as their test does.
use Rattle.std.proofs.Common.{◌≡◌, ℕ, nat_eq, bytes_eq, Bool, true, false, List, [], refl, sym, ap, subst, ◌∙◌}
use Rattle.std.specs.Cmp.{IsTotalOrder, nat_cmp_total, on_total, then_total}
use Rattle.std.specs.Cmp.Lexicographic.{nat_list_cmp_total}
use Rattle.std.specs.Ordering.{nat_cmp, eq_by_cmp, is_eq, on, then_cmp, ordering_then}
use Rattle.std.specs.declared.cmp.Ordering.{Ordering}
use Rattle.std.specs.declared.cmp.Ordering.TheVariants.{Less, Equal, Greater}
use Rattle.gw_base.specs.declared.ids.CtxNum.{CtxNum}
use Rattle.gw_base.specs.declared.key.Key.{Key}
use Rattle.gw_base.specs.declared.key.Key.TheVariants.{Term, Ctx, Whole}
use Rattle.gw_base.specs.Keys.{same_key}
use Rattle.gw_base.specs.NameLists.{name_cmp}
use Rattle.gw_base.proofs.NameTests.{name_test, number_test, same_name, same_number}
use Rattle.gw_table.specs.KeyLists.{key_cmp}

-- ---- the same order by kind, then by name, then by number

abbrev kind : Key → ℕ
kind (Term t) = 0
kind (Ctx n) = 1
kind Whole = 2

abbrev name_in : Key → List ℕ
name_in (Term t) = t
name_in (Ctx n) = []
name_in Whole = []

abbrev number_in : Key → ℕ
number_in (Term t) = 0
number_in (Ctx n) = n.0
number_in Whole = 0

abbrev by_parts : Key → Key → Ordering
by_parts = then_cmp (on kind nat_cmp) (then_cmp (on name_in name_cmp) (on number_in nat_cmp))

then_equal : (r : Ordering) → ordering_then r Equal ≡ r
then_equal Less = refl
then_equal Equal = refl
then_equal Greater = refl

same_order : (a b : Key) → by_parts a b ≡ key_cmp a b
same_order (Term a) (Term b) = then_equal (name_cmp a b)
same_order (Term a) (Ctx b) = refl
same_order (Term a) Whole = refl
same_order (Ctx a) (Term b) = refl
same_order (Ctx a) (Ctx b) = refl
same_order (Ctx a) Whole = refl
same_order Whole (Term b) = refl
same_order Whole (Ctx b) = refl
same_order Whole Whole = refl

pub key_total : IsTotalOrder key_cmp
key_total = subst IsTotalOrder (λ i a b. same_order a b i) (then_total (on_total kind nat_cmp_total) (then_total (on_total name_in nat_list_cmp_total) (on_total number_in nat_cmp_total)))

-- ---- keys of which neither comes first are one

pub key_test : (a b : Key) → eq_by_cmp key_cmp a b ≡ same_key a b
key_test (Term a) (Term b) = name_test a b
key_test (Term a) (Ctx b) = refl
key_test (Term a) Whole = refl
key_test (Ctx a) (Term b) = refl
key_test (Ctx a) (Ctx b) = number_test a.0 b.0
key_test (Ctx a) Whole = refl
key_test Whole (Term b) = refl
key_test Whole (Ctx b) = refl
key_test Whole Whole = refl

pub same_key_is : (a b : Key) → same_key a b ≡ true → a ≡ b
same_key_is (Term a) (Term b) e = ap Term (same_name a b e)
same_key_is (Term a) (Ctx b) e = cc
same_key_is (Term a) Whole e = cc
same_key_is (Ctx a) (Term b) e = cc
same_key_is (Ctx a) (Ctx b) e = ap Ctx (same_number a b e)
same_key_is (Ctx a) Whole e = cc
same_key_is Whole (Term b) e = cc
same_key_is Whole (Ctx b) e = cc
same_key_is Whole Whole e = refl

-- a test of keys that is theirs case by case is theirs
pub test_by_cases : (test : Key → Key → Bool)
    → ((a b : List ℕ) → test (Term a) (Term b) ≡ bytes_eq a b) → ((a : List ℕ) (b : CtxNum) → test (Term a) (Ctx b) ≡ false) → ((a : List ℕ) → test (Term a) Whole ≡ false)
    → ((a : CtxNum) (b : List ℕ) → test (Ctx a) (Term b) ≡ false) → ((a b : CtxNum) → test (Ctx a) (Ctx b) ≡ nat_eq a.0 b.0) → ((a : CtxNum) → test (Ctx a) Whole ≡ false)
    → ((b : List ℕ) → test Whole (Term b) ≡ false) → ((b : CtxNum) → test Whole (Ctx b) ≡ false) → test Whole Whole ≡ true
    → (a b : Key) → test a b ≡ same_key a b
test_by_cases test names name_number name_whole number_name numbers number_whole whole_name whole_number whole (Term a) (Term b) = names a b
test_by_cases test names name_number name_whole number_name numbers number_whole whole_name whole_number whole (Term a) (Ctx b) = name_number a b
test_by_cases test names name_number name_whole number_name numbers number_whole whole_name whole_number whole (Term a) Whole = name_whole a
test_by_cases test names name_number name_whole number_name numbers number_whole whole_name whole_number whole (Ctx a) (Term b) = number_name a b
test_by_cases test names name_number name_whole number_name numbers number_whole whole_name whole_number whole (Ctx a) (Ctx b) = numbers a b
test_by_cases test names name_number name_whole number_name numbers number_whole whole_name whole_number whole (Ctx a) Whole = number_whole a
test_by_cases test names name_number name_whole number_name numbers number_whole whole_name whole_number whole Whole (Term b) = whole_name b
test_by_cases test names name_number name_whole number_name numbers number_whole whole_name whole_number whole Whole (Ctx b) = whole_number b
test_by_cases test names name_number name_whole number_name numbers number_whole whole_name whole_number whole Whole Whole = whole

-- only equal keys tie
pub keys_tie : (a b : Key) → key_cmp a b ≡ Equal → a ≡ b
keys_tie a b e = same_key_is a b (sym (key_test a b) ∙ ap is_eq e)
