-- The cyclic order: each index stands once in it.
use Rattle.std.proofs.Common.{◌≡◌, ℕ, ◌+◌, ◌-◌, ◌<◌, ◌≤◌, map, length, get_or, ⊎_elim, sym, ap, ◌∙◌, arith, length-append}
use Rattle.std.specs.Prelude.{◌≢◌, AllPairs, All}
use Rattle.std.proofs.lemmas.Bool.{cases_lt}
use Rattle.std.proofs.Math.ListN.{get_or-append}
use Rattle.std.proofs.lemmas.List.{get_or-append_right, get_or-map, length-map}
use Rattle.std.proofs.lemmas.List.FromFn.{length-range_with_len, get_or-range_with_len}
use Rattle.gw_base.specs.declared.ids.CtxNum.{CtxNum}
use Rattle.gw_reserve.specs.Owners.{cyclic, number_of_index}

pub length-cyclic : (d n : ℕ) → d ≤ n → length (cyclic d n) ≡ n
length-cyclic d n h = grind (arith, length-append, length-range_with_len)

pub cyclic_low : (d n p x : ℕ) → p < n - d → get_or (cyclic d n) p x ≡ d + p
cyclic_low d n p x h = grind (arith, length-range_with_len, get_or-append, get_or-range_with_len)

pub cyclic_high : (d n p x : ℕ) → d ≤ n → n - d ≤ p → p < n → get_or (cyclic d n) p x ≡ p - (n - d)
cyclic_high d n p x a h b = grind (arith, get_or-append_right, length-range_with_len, get_or-range_with_len)

-- what stands at a rank
pub record Stands (d n p y : ℕ) : Type 0 where
  pub low : p < n - d → y ≡ d + p
  pub high : n - d ≤ p → y ≡ p - (n - d)

stands : (d n p x : ℕ) → d ≤ n → p < n → Stands d n p (get_or (cyclic d n) p x)
stands d n p x a b = record { low = cyclic_low d n p x; high = λ h. cyclic_high d n p x a h b }

below : (d n p y : ℕ) → d ≤ n → p < n → Stands d n p y → y < n
below d n p y a b s = ⊎_elim (λ l. omega (arith, s.low l)) (λ h. omega (arith, s.high h)) (cases_lt p (n - d))

apart : (d n i j x y : ℕ) → d ≤ n → i < j → j < n → Stands d n i x → Stands d n j y → x ≢ y
apart d n i j x y a b c s t e = grind arith

pub indices_below : (d n : ℕ) → d ≤ n → All (λ i. i < n) (cyclic d n)
indices_below d n a k x h = below d n k (get_or (cyclic d n) k x) a (omega (arith, length-cyclic d n a)) (stands d n k x a (omega (arith, length-cyclic d n a)))

pub indices_apart : (d n : ℕ) → d ≤ n → AllPairs (λ x y. x ≢ y) (cyclic d n)
indices_apart d n a i j x b c e =
    let e' : j < n = omega (arith, length-cyclic d n a) in
    apart d n i j (get_or (cyclic d n) i x) (get_or (cyclic d n) j x) a b e' (stands d n i x a (omega arith)) (stands d n j x a e') e

pub numbers_within : (d n : ℕ) → d ≤ n → All (λ k. (0 < k.0) × (k.0 ≤ n)) (map number_of_index (cyclic d n))
numbers_within d n a k x h =
    let l : k < length (cyclic d n) = omega (arith, length-map (cyclic d n) number_of_index) in
    let e : (get_or (map number_of_index (cyclic d n)) k x).0 ≡ get_or (cyclic d n) k 0 + 1 = ap (λ (y : CtxNum). y.0) (get_or-map number_of_index (cyclic d n) k 0 x l) in
    (omega (arith, e), omega (arith, e, indices_below d n a k 0 l))

pub numbers_apart : (d n : ℕ) → d ≤ n → AllPairs (λ x y. x ≢ y) (map number_of_index (cyclic d n))
numbers_apart d n a i j x b c e =
    let m : j < length (cyclic d n) = omega (arith, length-map (cyclic d n) number_of_index) in
    let l : i < length (cyclic d n) = omega arith in
    let f : get_or (cyclic d n) i 0 + 1 ≡ get_or (cyclic d n) j 0 + 1 = ap (λ (y : CtxNum). y.0) (sym (get_or-map number_of_index (cyclic d n) i 0 x l) ∙ e ∙ get_or-map number_of_index (cyclic d n) j 0 x m) in
    indices_apart d n a i j 0 b m (omega arith)
