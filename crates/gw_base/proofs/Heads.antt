-- Of two texts the one whose head is the smaller number comes first.
use Rattle.std.proofs.Common.{◌≡◌, ℕ, zero, suc, ◌*◌, ◌<◌, ◌≤◌, true, List, [], ◌∷◌, length, get_or, bytes_eq, refl, sym, ap, ◌∙◌, Less, Equal, Greater, arith}
use Rattle.std.specs.Ordering.{is_eq, nat_cmp}
use Rattle.std.specs.Cmp.Lexicographic.{slice_cmp}
use Rattle.std.proofs.lemmas.Cmp.{by_ranked, ranked}
use Rattle.std.proofs.lemmas.Map.Text.{is_eq-slice_cmp}
use Rattle.std.proofs.lemmas.Nat.{mul-add-lt}
use Rattle.gw_base.specs.Heads.{worth, head_of}

abbrev pub AreBytes : List ℕ → Type 0
AreBytes xs = (i : ℕ) → get_or xs i 0 < 256

rest_bytes : (x : ℕ) (xs : List ℕ) → AreBytes (x ∷ xs) → AreBytes xs
rest_bytes x xs b i = b (suc i)

-- a head is worth less than one byte in front of it
pub head_below : (k : ℕ) (xs : List ℕ) → AreBytes xs → head_of k xs < worth k
head_below zero xs b = omega arith
head_below (suc k) [] b = omega (arith, head_below k [] b)
head_below (suc k) (x ∷ xs) b = omega (arith, mul-add-lt x (worth k) (head_of k xs) 256 (b 0) (head_below k xs (rest_bytes x xs b)))

-- a first byte that is the greater makes the head the greater
first_rules : (k x y : ℕ) (xs ys : List ℕ) → AreBytes ys → y < x → head_of (suc k) (y ∷ ys) < head_of (suc k) (x ∷ xs)
first_rules k x y xs ys b h = omega (arith, mul-add-lt y (worth k) (head_of k ys) x h (head_below k ys b))

-- the smaller head is that of the text that comes first
pub head_less : (k : ℕ) (xs ys : List ℕ) → AreBytes xs → AreBytes ys → head_of k xs < head_of k ys → slice_cmp nat_cmp xs ys ≡ Less
head_less zero xs ys a b h = absurd (omega (arith, h))
head_less (suc k) xs [] a b h = absurd (omega (arith, h))
head_less (suc k) [] (y ∷ ys) a b h = refl
head_less (suc k) (x ∷ xs) (y ∷ ys) a b h =
    by_ranked (x < y) (x ≡ y) (y < x) (nat_cmp x y) (ranked x y (nat_cmp x y) refl)
    (λ o less. rw o refl)
    (λ o same. rw o (head_less k xs ys (rest_bytes x xs a) (rest_bytes y ys b) (omega (arith, h, ap (λ (n : ℕ). n * worth k) same))))
    (λ o more. absurd (omega (arith, h, first_rules k x y xs ys (rest_bytes y ys b) more)))

pub head_more : (k : ℕ) (xs ys : List ℕ) → AreBytes xs → AreBytes ys → head_of k ys < head_of k xs → slice_cmp nat_cmp xs ys ≡ Greater
head_more zero xs ys a b h = absurd (omega (arith, h))
head_more (suc k) [] ys a b h = absurd (omega (arith, h))
head_more (suc k) (x ∷ xs) [] a b h = refl
head_more (suc k) (x ∷ xs) (y ∷ ys) a b h =
    by_ranked (x < y) (x ≡ y) (y < x) (nat_cmp x y) (ranked x y (nat_cmp x y) refl)
    (λ o less. absurd (omega (arith, h, first_rules k y x ys xs (rest_bytes x xs a) less)))
    (λ o same. rw o (head_more k xs ys (rest_bytes x xs a) (rest_bytes y ys b) (omega (arith, h, ap (λ (n : ℕ). n * worth k) same))))
    (λ o more. rw o refl)

cmp_less : (m n : ℕ) → m < n → nat_cmp m n ≡ Less
cmp_less m n h = by_ranked (m < n) (m ≡ n) (n < m) (nat_cmp m n) (ranked m n (nat_cmp m n) refl) (λ o less. o) (λ o same. absurd (omega (arith, h, same))) (λ o more. absurd (omega (arith, h, more)))

cmp_more : (m n : ℕ) → n < m → nat_cmp m n ≡ Greater
cmp_more m n h = by_ranked (m < n) (m ≡ n) (n < m) (nat_cmp m n) (ranked m n (nat_cmp m n) refl) (λ o less. absurd (omega (arith, h, less))) (λ o same. absurd (omega (arith, h, same))) (λ o more. o)

cmp_same : (m n : ℕ) → m ≡ n → nat_cmp m n ≡ Equal
cmp_same m n h = by_ranked (m < n) (m ≡ n) (n < m) (nat_cmp m n) (ranked m n (nat_cmp m n) refl) (λ o less. absurd (omega (arith, h, less))) (λ o same. o) (λ o more. absurd (omega (arith, h, more)))

cmp_suc : (m n : ℕ) → nat_cmp m n ≡ nat_cmp (suc m) (suc n)
cmp_suc m n = grind arith

-- of texts that have no more bytes than their heads tell of, and the same head, the shorter comes first
pub same_head : (k : ℕ) (xs ys : List ℕ) → AreBytes xs → AreBytes ys → length xs ≤ k → length ys ≤ k → head_of k xs ≡ head_of k ys → slice_cmp nat_cmp xs ys ≡ nat_cmp (length xs) (length ys)
same_head k [] [] a b m n h = sym (cmp_same 0 0 refl)
same_head k [] (y ∷ ys) a b m n h = sym (cmp_less 0 (suc (length ys)) (omega arith))
same_head k (x ∷ xs) [] a b m n h = sym (cmp_more (suc (length xs)) 0 (omega arith))
same_head zero (x ∷ xs) (y ∷ ys) a b m n h = absurd (omega (arith, m))
same_head (suc k) (x ∷ xs) (y ∷ ys) a b m n h =
    by_ranked (x < y) (x ≡ y) (y < x) (nat_cmp x y) (ranked x y (nat_cmp x y) refl)
    (λ o less. absurd (omega (arith, h, first_rules k y x ys xs (rest_bytes x xs a) less)))
    (λ o same. rw o (same_head k xs ys (rest_bytes x xs a) (rest_bytes y ys b) (omega (arith, m)) (omega (arith, n)) (omega (arith, h, ap (λ (n : ℕ). n * worth k) same)) ∙ cmp_suc (length xs) (length ys)))
    (λ o more. absurd (omega (arith, h, first_rules k x y xs ys (rest_bytes y ys b) more)))

-- texts of one length that have no more bytes than their heads tell of are the same where their heads are
pub same_short : (k : ℕ) (xs ys : List ℕ) → AreBytes xs → AreBytes ys → length xs ≤ k → length xs ≡ length ys → head_of k xs ≡ head_of k ys → bytes_eq xs ys ≡ true
same_short k xs ys a b m n h =
    sym (is_eq-slice_cmp xs ys)
    ∙ ap is_eq (same_head k xs ys a b m (omega (arith, m, n)) h ∙ cmp_same (length xs) (length ys) n)
