-- The keys of places that wait, as they are kept: one place more, and keys that are listed otherwise.
use Rattle.std.proofs.Common.{nat_eq, ◌≡◌, ℕ, ◌+◌, ◌<◌, Bool, true, false, cond, ◌&&◌, bytes_eq, List, [], ◌∷◌, length, take, refl, sym, ap, subst, ◌∙◌, add-one, eqb-true, eq-eqb, slice_index_or}
use Rattle.std.specs.Prelude.{◌||◌}
use Rattle.std.specs.List.{list_any}
use Rattle.std.proofs.lemmas.Option.{slice_get_read}
use Rattle.indexmap.specs.IndexSet.{contains}
use Rattle.gw_base.specs.declared.ids.CtxNum.{CtxNum}
use Rattle.gw_base.specs.declared.key.Key.{Key}
use Rattle.gw_base.specs.declared.key.Key.TheVariants.{Term, Ctx, Whole}
use Rattle.gw_base.specs.Keys.{has, same_key, Among}
use Rattle.gw_base.proofs.NameTests.{same_name, name_itself}
use Rattle.gw_base.proofs.KeyTests.{has-head, has-tail}
use Rattle.gw_base.proofs.NamesInLists.{or_left, or_right, or_cases, either}
use Rattle.gw_foot.specs.Meets.{meets}
use Rattle.gw_table.specs.KeyLists.{IsInOrder}
use Rattle.gw_table.proofs.KeyOrder.{same_key_is}
use Rattle.gw_table.proofs.Prepared.{not_before}
use Rattle.gw_board.specs.Waiting.{is_waiting, meet_waiting}
use Rattle.gw_board.specs.declared.waiting.Waiting.{Waiting}
use Rattle.gw_board.proofs.Outs.{SameKeys}
use Rattle.gw_board.proofs.Planning.{any-take_more}

-- ---- a test of some key

module _ (f : Key → Bool) where
  any_found : (keys : List Key) (k : Key) → has keys k ≡ true → f k ≡ true → list_any f keys ≡ true
  any_found [] k h e = absurd cc
  any_found (x ∷ xs) k h e =
      either (or_cases (same_key k x) (has xs k) h)
      (λ i. or_left (f x) (list_any f xs) (subst (λ (y : Key). f y ≡ true) (same_key_is k x i) e))
      (λ i. or_right (f x) (list_any f xs) (any_found xs k i e))

  any_among : (a b : List Key) → Among a b → list_any f a ≡ true → list_any f b ≡ true
  any_among [] b h e = absurd cc
  any_among (x ∷ xs) b h e =
      either (or_cases (f x) (list_any f xs) e)
      (λ i. any_found b x (h x (has-head x xs)) i)
      (λ i. any_among xs b (λ k j. h k (has-tail x k xs j)) i)

both_true : (p q : Bool) → (p ≡ true → q ≡ true) → (q ≡ true → p ≡ true) → p ≡ q
both_true true q f g = sym (f refl)
both_true false true f g = g refl
both_true false false f g = refl

any_same : (f : Key → Bool) (a b : List Key) → SameKeys a b → list_any f a ≡ list_any f b
any_same f a b s = both_true (list_any f a) (list_any f b) (any_among f a b (λ k h. sym (s k) ∙ h)) (any_among f b a (λ k h. s k ∙ h))

pub waiting_alike : (w : Waiting) (a b : List Key) → SameKeys a b → meet_waiting w a ≡ meet_waiting w b
waiting_alike w a b s = λ i. w.is_whole || (w.is_any && s Whole i) || any_same (is_waiting w) a b s i

-- ---- no place

pub none_waits : (w : Waiting) → w.terms.keys ≡ [] → w.contexts.keys ≡ [] → w.is_any ≡ false → w.is_whole ≡ false → (keys : List Key) → meet_waiting w keys ≡ false
none_waits w e f any whole keys = (λ i. whole i || (any i && has keys Whole) || none keys i)
  where
    one : (k : Key) → is_waiting w k ≡ false
    one (Term t) = ap (λ (l : List (List ℕ)). list_any (bytes_eq t) l) e
    one (Ctx n) = ap (λ (l : List ℕ). list_any (nat_eq n.0) l) f
    one Whole = whole

    none : (ks : List Key) → list_any (is_waiting w) ks ≡ false
    none [] = refl
    none (k ∷ ks) = (λ i. one k i || none ks i)

-- ---- one key more

or_cond : (b c : Bool) → cond b true c ≡ (b || c)
or_cond true c = refl
or_cond false c = refl

turned : (a b : List ℕ) → bytes_eq a b ≡ bytes_eq b a
turned a b = both_true (bytes_eq a b) (bytes_eq b a) (λ h. name_itself b a (sym (same_name a b h))) (λ h. name_itself a b (sym (same_name b a h)))

turned_number : (a b : ℕ) → nat_eq a b ≡ nat_eq b a
turned_number a b = both_true (nat_eq a b) (nat_eq b a) (λ h. eq-eqb b a (sym (eqb-true a b h))) (λ h. eq-eqb a b (sym (eqb-true b a h)))

module _ (old new : Waiting) (whole : new.is_whole ≡ old.is_whole) where
  pub name_more : (t : List ℕ) → new.contexts ≡ old.contexts → ((q : List ℕ) → contains bytes_eq new.terms q ≡ cond (bytes_eq t q) true (contains bytes_eq old.terms q))
      → (k : Key) → is_waiting new k ≡ (same_key k (Term t) || is_waiting old k)
  name_more t e h (Term q) = h q ∙ or_cond (bytes_eq t q) (contains bytes_eq old.terms q) ∙ ap (λ b. b || contains bytes_eq old.terms q) (turned t q)
  name_more t e h (Ctx n) = ap (λ s. contains nat_eq s n.0) e
  name_more t e h Whole = whole

  pub number_more : (c : CtxNum) → new.terms ≡ old.terms → ((q : ℕ) → contains nat_eq new.contexts q ≡ cond (nat_eq c.0 q) true (contains nat_eq old.contexts q))
      → (k : Key) → is_waiting new k ≡ (same_key k (Ctx c) || is_waiting old k)
  number_more c e h (Term q) = ap (λ s. contains bytes_eq s q) e
  number_more c e h (Ctx n) = h n.0 ∙ or_cond (nat_eq c.0 n.0) (contains nat_eq old.contexts n.0) ∙ ap (λ b. b || contains nat_eq old.contexts n.0) (turned_number c.0 n.0)
  number_more c e h Whole = whole

-- ---- keys in order, one more

-- where none of those before it is the same, it is found where it was before them
pub had_more : (w now : Waiting) (keys : List Key) (i : ℕ) (k : Key) (had : Bool) → IsInOrder keys → i < length keys → k ≡ slice_index_or keys i k
    → ((q : Key) → is_waiting now q ≡ (has (take i keys) q || is_waiting w q)) → is_waiting now k ≡ had
    → list_any (is_waiting w) (take (i + 1) keys) ≡ (list_any (is_waiting w) (take i keys) || had)
had_more w now keys i k had order l e so_far is =
    ap (λ n. list_any (is_waiting w) (take n keys)) (add-one i)
    ∙ any-take_more (is_waiting w) keys i k (slice_get_read keys (length keys) i k refl l e)
    ∙ ap (λ b. list_any (is_waiting w) (take i keys) || b)
    (sym (ap (λ b. b || is_waiting w k) (ap (has (take i keys)) e ∙ not_before keys i k l order)) ∙ sym (so_far k) ∙ is)

-- and it is one of them from then on
pub has_more : (w now : Waiting) (keys : List Key) (i : ℕ) (k : Key) → i < length keys → k ≡ slice_index_or keys i k
    → ((q : Key) → is_waiting now q ≡ (has (take i keys) q || is_waiting w q))
    → (q : Key) → (same_key q k || is_waiting now q) ≡ (has (take (i + 1) keys) q || is_waiting w q)
has_more w now keys i k l e so_far q =
    ap (λ b. same_key q k || b) (so_far q)
    ∙ by (same_key q k) (has (take i keys) q) (is_waiting w q)
    ∙ ap (λ b. b || is_waiting w q) (sym (ap (λ n. has (take n keys) q) (add-one i) ∙ any-take_more (same_key q) keys i k (slice_get_read keys (length keys) i k refl l e)))
  where
    by : (a b c : Bool) → (a || (b || c)) ≡ ((b || a) || c)
    by true true c = refl
    by true false c = refl
    by false true c = refl
    by false false c = refl

-- that some place waits is none of its keys
pub any_aside : (w : Waiting) (any : Bool) (k : Key) → is_waiting (record { terms = w.terms; contexts = w.contexts; is_any = any; is_whole = w.is_whole }) k ≡ is_waiting w k
any_aside w any (Term q) = refl
any_aside w any (Ctx n) = refl
any_aside w any Whole = refl

-- ---- one place more

any_either : (f g h : Key → Bool) → ((k : Key) → f k ≡ (g k || h k)) → (keys : List Key) → list_any f keys ≡ (list_any g keys || list_any h keys)
any_either f g h e [] = refl
any_either f g h e (k ∷ ks) = (λ i. e k i || any_either f g h e ks i) ∙ by (g k) (h k) (list_any g ks) (list_any h ks)
  where
    by : (a b c d : Bool) → ((a || b) || (c || d)) ≡ ((a || c) || (b || d))
    by true b c d = refl
    by false true true d = refl
    by false true false d = refl
    by false false c d = refl

module _ (old new : Waiting) (keys : List Key) (e : (q : Key) → is_waiting new q ≡ (has keys q || is_waiting old q)) where
  pub keys_more : new.is_any ≡ true → (k : List Key) → meet_waiting new k ≡ (meet_waiting old k || meets keys k)
  keys_more any k =
      (λ i. e Whole i || (any i && has k Whole) || any_either (is_waiting new) (has keys) (is_waiting old) e k i)
      ∙ by (has keys Whole) old.is_whole old.is_any (has k Whole) (list_any (is_waiting old) k) (list_any (has keys) k)
    where
      by : (h w a s f g : Bool) → (((h || w) || (true && s)) || (g || f)) ≡ (((w || (a && s)) || f) || ((h || s) || g))
      by true w a s f g = sym (or_right ((w || (a && s)) || f) true refl)
      by false true a s f g = refl
      by false false true true f g = refl
      by false false false true true g = refl
      by false false false true false g = refl
      by false false true false true true = refl
      by false false true false true false = refl
      by false false false false true true = refl
      by false false false false true false = refl
      by false false true false false true = refl
      by false false true false false false = refl
      by false false false false false true = refl
      by false false false false false false = refl

  -- whether the keys met theirs
  pub keys_met : (had : Bool) → had ≡ list_any (is_waiting old) keys → ((had || old.is_whole) || (old.is_any && new.is_whole)) ≡ meet_waiting old keys
  keys_met had f = (λ i. (f i || old.is_whole) || (old.is_any && e Whole i)) ∙ by (list_any (is_waiting old) keys) old.is_whole old.is_any (has keys Whole)
    where
      by : (h w a s : Bool) → ((h || w) || (a && (s || w))) ≡ ((w || (a && s)) || h)
      by true true a s = refl
      by true false true true = refl
      by true false true false = refl
      by true false false s = refl
      by false true a s = refl
      by false false true true = refl
      by false false true false = refl
      by false false false s = refl
