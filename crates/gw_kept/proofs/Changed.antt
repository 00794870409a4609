-- What is kept after several changes: how many pairs, and their keys.
use Rattle.std.proofs.Common.{◌≡◌, ℕ, zero, suc, ◌≤◌, ◌-◌, not, Bool, true, false, cond, List, [], ◌∷◌, ◌++◌, length, drop, Option, Some, None, refl, ap, sym, subst, ◌∙◌, arith, rules}
use Rattle.std.proofs.lemmas.Bool.{cond_both, not-true, not-false}
use Rattle.std.proofs.lemmas.List.Elements.{All-nil, All-cons, All-head, All-tail, All-push, All-drop, All-filter}
use Rattle.std.specs.List.{All, filter}
use Rattle.gw_kept.specs.declared.entry.Entry.{Entry}
use Rattle.gw_kept.specs.declared.entry.RequestKey.{RequestKey}
use Rattle.gw_kept.specs.declared.point.Removal.{Removal}
use Rattle.gw_kept.specs.Pairs.{KeptList, key_of, is_same, bytes_for, AreDistinct}
use Rattle.gw_kept.specs.Forgotten.{is_named}
use Rattle.gw_kept.specs.Changes.{Change, Keep, Remove, changed, kept_after, entries_in, IsNew, AreNew}
use Rattle.gw_kept.proofs.Last.{few_last}
use Rattle.gw_kept.proofs.Filters.{few_left}
use Rattle.gw_kept.proofs.Places.{absent_head, other_key, same_back}

-- ---- one change more

pub one_more_after : (k : KeptList) (cs : List Change) (c : Change) → kept_after k (cs ++ c ∷ []) ≡ changed (kept_after k cs) c
one_more_after k [] c = refl
one_more_after k (x ∷ xs) c = one_more_after (changed k x) xs c

pub entries_more : (cs : List Change) (c : Change) → entries_in (cs ++ c ∷ []) ≡ entries_in cs ++ entries_in (c ∷ [])
entries_more [] c = refl
entries_more (Keep e ∷ cs) c = ap (λ (l : List Entry). e ∷ l) (entries_more cs c)
entries_more (Remove r ∷ cs) c = entries_more cs c

pub new_more : (k : KeptList) (cs : List Change) (c : Change) → AreNew k cs → IsNew (kept_after k cs) c → AreNew k (cs ++ c ∷ [])
new_more k [] c new is = (is, tt)
new_more k (x ∷ xs) c new is = (new.0, new_more (changed k x) xs c new.1 is)

-- ---- how many

most_changed : (k : KeptList) (c : Change) → (changed k c).most ≡ k.most
most_changed k c = grind arith

pub most_after : (k : KeptList) (cs : List Change) → (kept_after k cs).most ≡ k.most
most_after k [] = refl
most_after k (c ∷ cs) = most_after (changed k c) cs ∙ most_changed k c

few_changed : (k : KeptList) (c : Change) → length k.pairs ≤ k.most → length (changed k c).pairs ≤ k.most
few_changed k c h = grind (arith, few_last, few_left)

pub few_after : (k : KeptList) (cs : List Change) → length k.pairs ≤ k.most → length (kept_after k cs).pairs ≤ k.most
few_after k [] h = h
few_after k (c ∷ cs) h =
    let few : length (changed k c).pairs ≤ (changed k c).most = subst (λ (n : ℕ). length (changed k c).pairs ≤ n) (sym (most_changed k c)) (few_changed k c h) in
    subst (λ (n : ℕ). length (kept_after (changed k c) cs).pairs ≤ n) (most_changed k c) (few_after (changed k c) cs few)

-- ---- keys that no pair has

pub others : (key : RequestKey) (es : List Entry) → bytes_for key es ≡ None → All (λ x. is_same key (key_of x) ≡ false) es
others key [] none = All-nil (λ x. is_same key (key_of x) ≡ false)
others key (x ∷ xs) none =
    let h = absent_head (is_same key (key_of x)) x.bytes (bytes_for key xs) none in
    All-cons (λ x. is_same key (key_of x) ≡ false) x xs h.0 (others key xs h.1)

pub absent : (key : RequestKey) (es : List Entry) → All (λ x. is_same key (key_of x) ≡ false) es → bytes_for key es ≡ None
absent key [] all = refl
absent key (x ∷ xs) all =
    let P : Entry → Type 0 = λ x. is_same key (key_of x) ≡ false in
    rw (All-head P x xs all) (absent key xs (All-tail P x xs all))

pub absent_drop : (n : ℕ) (key : RequestKey) (es : List Entry) → bytes_for key es ≡ None → bytes_for key (drop n es) ≡ None
absent_drop n key es none = absent key (drop n es) (All-drop (λ x. is_same key (key_of x) ≡ false) n es (others key es none))

-- ---- keys stay distinct

distinct_more : (xs : List Entry) (e : Entry) → AreDistinct xs → bytes_for (key_of e) xs ≡ None → AreDistinct (xs ++ e ∷ [])
distinct_more [] e d none = (refl, tt)
distinct_more (x ∷ xs) e d none =
    let h = absent_head (is_same (key_of e) (key_of x)) x.bytes (bytes_for (key_of e) xs) none in (
      absent (key_of x) (xs ++ e ∷ []) (All-push (λ y. is_same (key_of x) (key_of y) ≡ false) xs e (others (key_of x) xs d.0) (same_back (key_of x) (key_of e) ∙ h.0)),
      distinct_more xs e d.1 h.1,
    )

distinct_drop : (n : ℕ) (xs : List Entry) → AreDistinct xs → AreDistinct (drop n xs)
distinct_drop zero xs d = d
distinct_drop (suc n) [] d = tt
distinct_drop (suc n) (x ∷ xs) d = distinct_drop n xs d.1

distinct_left : (t : Entry → Bool) (xs : List Entry) → AreDistinct xs → AreDistinct (filter t xs)
distinct_left t [] d = tt
distinct_left t (x ∷ xs) d =
    let left = distinct_left t xs d.1 in
    cond_both (t x) (x ∷ filter t xs) (filter t xs) AreDistinct
    (λ is. (absent (key_of x) (filter t xs) (All-filter t (λ y. is_same (key_of x) (key_of y) ≡ false) xs (others (key_of x) xs d.0)), left)) (λ is. left)

distinct_changed : (k : KeptList) (c : Change) → AreDistinct k.pairs → IsNew k c → AreDistinct (changed k c).pairs
distinct_changed k c d new = grind (arith, distinct_drop, distinct_more, distinct_left)

pub distinct_after : (k : KeptList) (cs : List Change) → AreDistinct k.pairs → AreNew k cs → AreDistinct (kept_after k cs).pairs
distinct_after k [] d new = d
distinct_after k (c ∷ cs) d new = distinct_after (changed k c) cs (distinct_changed k c d new.0) new.1

-- ---- what is acknowledged

abbrev stay : Removal → Entry → Bool
stay r e = not (is_named r.mid r.ranges (key_of e))

-- two keys are not the same where one of them is named
differ : (r : Removal) (key : RequestKey) (x : Entry) (b : Bool) → is_named r.mid r.ranges key ≡ b → is_named r.mid r.ranges (key_of x) ≡ not b → is_same key (key_of x) ≡ false
differ r key x b named other = search (rules, other_key)

pub named_is_gone : (r : Removal) (key : RequestKey) (es : List Entry) → is_named r.mid r.ranges key ≡ true → bytes_for key (filter (stay r) es) ≡ None
named_is_gone r key [] named = refl
named_is_gone r key (x ∷ xs) named =
    let gone = named_is_gone r key xs named in
    cond_both (stay r x) (x ∷ filter (stay r) xs) (filter (stay r) xs) (λ l. bytes_for key l ≡ None) (λ is. rw (differ r key x true named (not-true (is_named r.mid r.ranges (key_of x)) is)) gone) (λ is. gone)

pub other_stays : (r : Removal) (key : RequestKey) (es : List Entry) → is_named r.mid r.ranges key ≡ false → bytes_for key (filter (stay r) es) ≡ bytes_for key es
other_stays r key [] named = refl
other_stays r key (x ∷ xs) named =
    let stays = other_stays r key xs named in
    cond_both (stay r x) (x ∷ filter (stay r) xs) (filter (stay r) xs) (λ l. bytes_for key l ≡ bytes_for key (x ∷ xs)) (λ is. ap (λ (o : Option (List ℕ)). cond (is_same key (key_of x)) (Some x.bytes) o) stays)
    (λ is. rw (differ r key x false named (not-false (is_named r.mid r.ranges (key_of x)) is)) stays)
