-- The parts that chains leave, laid over the maps, give what executing all requests one after another does, and the
-- texts of each chain are those at its places.
use Rattle.std.proofs.Common.{◌≡◌, ℕ, zero, suc, ◌+◌, ◌<◌, ◌≤◌, nat_eq, Bool, true, false, cond, List, [], ◌∷◌, map, length, Option, None, Ok, Err, refl, sym, ap, subst, ◌∙◌, ne_eqb, arith}
use Rattle.std.specs.Prelude.{◌||◌, is_ok, All}
use Rattle.std.specs.List.{list_all, list_any, AllZip}
use Rattle.std.proofs.lemmas.Bool.{cond_both}
use Rattle.std.proofs.lemmas.List.Elements.{All-head, All-tail, All-weaker}
use Rattle.gw_board.specs.declared.profile.Profile.{Profile}
use Rattle.gw_base.specs.declared.key.Key.{Key}
use Rattle.gw_base.specs.declared.key.Key.TheVariants.{Term, Ctx}
use Rattle.gw_base.specs.Keys.{has}
use Rattle.gw_base.proofs.Booleans.{neither}
use Rattle.gw_table.specs.Maps.{Maps, term, ctx}
use Rattle.gw_table.specs.Parts.{Only, Parted, list_of, restricted, overlaid}
use Rattle.gw_table.proofs.Lookups.{same_maps}
use Rattle.gw_table.proofs.PartLookups.{term-restricted, ctx-restricted, term-overlaid, ctx-overlaid}
use Rattle.gw_board.specs.Carried.{carried}
use Rattle.gw_board.specs.Chained.{ChainOf, chains_in, item_of, IsChainResult, ChainAnswer, IsChainAnswer, all_overlaid, texts_in, AreTexts}
use Rattle.gw_board.specs.Chains.{Chained, requests_of, chain_of, answers_in, GoesByChains}
use Rattle.gw_board.specs.Core.{Place}
use Rattle.gw_board.specs.Stretches.{chained, keys_at}
use Rattle.gw_board.specs.Texts.{Text}
use Rattle.gw_board.specs.Waves.{is_pending}

-- the key of an entry is in none of the lists
in_none : (lists : List (List Key)) (k : Key) → list_any (λ l. has l k) lists ≡ false → (g : ℕ) → has (item_of lists g) k ≡ false
in_none [] k e g = refl
in_none (l ∷ ls) k e zero = (neither (has l k) (list_any (λ x. has x k) ls) e).0
in_none (l ∷ ls) k e (suc g) = in_none ls k (neither (has l k) (list_any (λ x. has x k) ls) e).1 g

-- what is read after a part of the whole was laid over the rest, and after it others
one_laid : {A : Type 0} (h j : Bool) (x y n : A) → cond j x (cond h (cond h x n) y) ≡ cond (h || j) x y
one_laid true true x y n = refl
one_laid true false x y n = refl
one_laid false true x y n = refl
one_laid false false x y n = refl

-- of a chain that nothing is in there is no answer
none_in : (g : ℕ) (numbers : List ℕ) (places : List Place) (answers : List Text) → All (λ h. h < g) numbers → answers_in g (chained numbers places) answers ≡ []
none_in g [] places answers h = refl
none_in g (n ∷ numbers) [] answers h = refl
none_in g (n ∷ numbers) (p ∷ places) answers h = by (is_pending p.standing) answers (none_in g numbers places)
  where
    later : All (λ h. h < g) numbers
    later = All-tail (λ h. h < g) n numbers h

    other : nat_eq g n ≡ false
    other = let below : n < g = All-head (λ h. h < g) n numbers h in ne_eqb g n (omega (arith, below))

    by : (b : Bool) (answers : List Text) → ((ts : List Text) → All (λ h. h < g) numbers → answers_in g (chained numbers places) ts ≡ [])
        → answers_in g (cond b (record { chain = n; requested = p.requested } ∷ chained numbers places) (chained numbers places)) answers ≡ []
    by true [] f = refl
    by true (t ∷ ts) f = ap (λ b. cond b (t ∷ answers_in g (chained numbers places) ts) (answers_in g (chained numbers places) ts)) other ∙ f ts later
    by false ts f = f ts later

-- the lists from the number n on
abbrev AreFrom : (ℕ → List Key) → ℕ → List (List Key) → Type 0
AreFrom keys n lists = (i : ℕ) → item_of lists i ≡ keys (n + i)

module _ (profile : Profile) (keys : ℕ → List Key) (m : Maps) (xs : List Chained) (goes : GoesByChains profile keys m xs) where
  abbrev end : Maps
  end = (carried profile (requests_of xs) m).maps

  -- of each chain the texts at its places
  abbrev texts_of : ℕ → List Text
  texts_of g = answers_in g xs (carried profile (requests_of xs) m).answer

  abbrev chain : List Key → ℕ → ChainOf
  chain l n = record { profile = profile; keys = l; maps = m; requested = chain_of n xs }

  here : (l : List Key) (ls : List (List Key)) (n : ℕ) → AreFrom keys n (l ∷ ls) → l ≡ keys n
  here l ls n from = let e : n + 0 ≡ n = omega arith in from 0 ∙ ap keys e

  later : (l : List Key) (ls : List (List Key)) (n : ℕ) → AreFrom keys n (l ∷ ls) → AreFrom keys (suc n) ls
  later l ls n from i = let e : n + suc i ≡ suc n + i = omega arith in from (suc i) ∙ ap keys e

  -- a chain's part is that of the maps in the end
  part_is : (l : List Key) (n : ℕ) (part : Parted) (texts : List Text) → l ≡ keys n → IsChainResult (chain l n) part texts → part ≡ record { keys = Only l; maps = restricted l end }
  part_is l n part texts e r =
      r.part ∙ ap (λ (x : Maps). record { keys = Only l; maps = x }) (subst (λ (k : List Key). (carried profile (chain_of n xs) (restricted k m)).maps ≡ restricted k end) (sym e) (sym (goes.parts n)))

  texts_here : (l : List Key) (n : ℕ) (part : Parted) (texts : List Text) → l ≡ keys n → IsChainResult (chain l n) part texts → texts ≡ texts_of n
  texts_here l n part texts e r = r.texts ∙ ap (λ (k : List Key). (carried profile (chain_of n xs) (restricted k m)).answer) e ∙ sym (goes.answers n)

  -- ---- the maps

  module _ {A : Type 0} (read : Maps → Option A) (k : Key) (laid : (l : List Key) (part n : Maps) → read (overlaid l part n) ≡ cond (has l k) (read part) (read n)) (kept : (l : List Key) (n : Maps) → read (restricted l n) ≡ cond (has l k) (read n) None) where
    -- an entry of one of the chains is that in the end, and any other stays
    read_laid : (lists : List (List Key)) (n : ℕ) (answers : List ChainAnswer) (old : Maps) → AreFrom keys n lists → AllZip IsChainAnswer (chains_in profile m xs n lists) answers → list_all is_ok answers ≡ true
        → read (all_overlaid answers old) ≡ cond (list_any (λ l. has l k) lists) (read end) (read old)
    read_laid [] n [] old from zip ok = refl
    read_laid [] n (r ∷ rs) old from zip ok = absurd zip
    read_laid (l ∷ ls) n [] old from zip ok = absurd zip
    read_laid (l ∷ ls) n (Err e ∷ rs) old from zip ok = absurd cc
    read_laid (l ∷ ls) n (Ok new ∷ rs) old from zip ok =
        let part : new.0 ≡ record { keys = Only l; maps = restricted l end } = part_is l n new.0 new.1 (here l ls n from) zip.0 in
        let more : Bool = list_any (λ x. has x k) ls in
        read_laid ls (suc n) rs (overlaid (list_of new.0.keys) new.0.maps old) (later l ls n from) zip.1 ok
        ∙ ap (cond more (read end))
        (ap (λ (p : Parted). read (overlaid (list_of p.keys) p.maps old)) part ∙ laid l (restricted l end) old ∙ ap (λ (o : Option A). cond (has l k) o (read old)) (kept l end))
        ∙ one_laid (has l k) more (read end) (read old) None

  -- ---- the texts

  text_at : (lists : List (List Key)) (n : ℕ) (answers : List ChainAnswer) → AreFrom keys n lists → AllZip IsChainAnswer (chains_in profile m xs n lists) answers → list_all is_ok answers ≡ true
      → ((g : ℕ) → n + length lists ≤ g → texts_of g ≡ []) → (i : ℕ) → item_of (map texts_in answers) i ≡ texts_of (n + i)
  text_at [] n [] from zip ok past i = sym (past (n + i) (omega arith))
  text_at [] n (r ∷ rs) from zip ok past i = absurd zip
  text_at (l ∷ ls) n [] from zip ok past i = absurd zip
  text_at (l ∷ ls) n (Err e ∷ rs) from zip ok past i = absurd cc
  text_at (l ∷ ls) n (Ok new ∷ rs) from zip ok past zero = let e : n ≡ n + 0 = omega arith in texts_here l n new.0 new.1 (here l ls n from) zip.0 ∙ ap texts_of e
  text_at (l ∷ ls) n (Ok new ∷ rs) from zip ok past (suc i) =
      let e : suc n + i ≡ n + suc i = omega arith in
      text_at ls (suc n) rs (later l ls n from) zip.1 ok (λ g h. past g (omega (arith, h))) i ∙ ap texts_of e

-- ---- all chains

module _ (profile : Profile) (keys : List (List Key)) (m : Maps) where
  all_from : AreFrom (keys_at keys) 0 keys
  all_from i = let e : i ≡ 0 + i = omega arith in ap (keys_at keys) e

  pub all_overlaid_is : (xs : List Chained) → GoesByChains profile (keys_at keys) m xs → (answers : List ChainAnswer) → AllZip IsChainAnswer (chains_in profile m xs 0 keys) answers → list_all is_ok answers ≡ true
      → all_overlaid answers m ≡ (carried profile (requests_of xs) m).maps
  all_overlaid_is xs goes answers zip ok =
      let end : Maps = (carried profile (requests_of xs) m).maps in
      same_maps (all_overlaid answers m) end
      (λ t.
      read_laid profile (keys_at keys) m xs goes (λ n. term n t) (Term t) (λ l part n. term-overlaid l part n t) (λ l n. term-restricted l n t) keys 0 answers m all_from zip ok
      ∙ or_stays (Term t) (term end t) (term m t) (goes.terms t))
      (λ c.
      read_laid profile (keys_at keys) m xs goes (λ n. ctx n c) (Ctx c) (λ l part n. ctx-overlaid l part n c) (λ l n. ctx-restricted l n c) keys 0 answers m all_from zip ok
      ∙ or_stays (Ctx c) (ctx end c) (ctx m c) (goes.contexts c))
    where
      or_stays : {A : Type 0} (k : Key) (new old : Option A) → (((g : ℕ) → has (keys_at keys g) k ≡ false) → new ≡ old) → cond (list_any (λ l. has l k) keys) new old ≡ new
      or_stays k new old stays = cond_both (list_any (λ l. has l k) keys) new old (λ o. o ≡ new) (λ e. refl) (λ e. sym (stays (in_none keys k e)))

  pub texts_are : (numbers : List ℕ) (places : List Place) → All (λ g. g < length keys) numbers → GoesByChains profile (keys_at keys) m (chained numbers places)
      → (answers : List ChainAnswer) → AllZip IsChainAnswer (chains_in profile m (chained numbers places) 0 keys) answers → list_all is_ok answers ≡ true
      → AreTexts profile (chained numbers places) m (map texts_in answers)
  texts_are numbers places numbered goes answers zip ok g =
      let xs : List Chained = chained numbers places in
      let e : 0 + g ≡ g = omega arith in
      text_at profile (keys_at keys) m xs goes keys 0 answers all_from zip ok
      (λ h past. none_in h numbers places (carried profile (requests_of xs) m).answer (All-weaker (λ n. n < length keys) (λ n. n < h) (λ n b. omega (arith, b, past)) numbers numbered))
      g
      ∙ ap (λ h. answers_in h xs (carried profile (requests_of xs) m).answer) e
