-- A list of properties after some were put into it, one after the other.
use Rattle.std.proofs.lemmas.Grind.{common_steps}
use Rattle.std.proofs.Common.{◌≡◌, ◌⊎◌, inl, inr, ℕ, zero, suc, ◌+◌, ◌<◌, ◌≤◌, Bool, true, false, ◌||◌, cond, List, [], ◌∷◌, ◌++◌, length, map, Option, Some, None, bytes_eq, refl, ap, sym, ◌∙◌, subst, append_assoc, append-nil, arith, length-append, one-add, ltb-false}
use Rattle.std.specs.Prelude.{slice_set, nat_lt}
use Rattle.std.specs.List.{list_any, filter, find, last_or, slice_get}
use Rattle.std.proofs.lemmas.List.Folds.{find-append, list_any-append}
use Rattle.std.proofs.lemmas.Bool.{ltb-true}
use Rattle.std.proofs.lemmas.Slice.Eq.{bytes_eq-Decides}
use Rattle.gw_desc.specs.Checks.{names_of}
use Rattle.gw_desc.specs.Twice.{folded, has_same, has_name_twice}
use Rattle.gw_desc.specs.declared.descriptor.Property.{Property}
use Rattle.gw_term.specs.Merge.{and_then, each, most_properties, property_place, put_property}
use Rattle.gw_term.specs.Lookups.{is_of_name, look_up, lower_names, new_names, IsListAfter, IsTooLong}
use Rattle.gw_term.proofs.Made.{first_then}

abbrev pub P : Type 0
P = Property (List ℕ)

-- ---- names in any case

same_name : (a b : List ℕ) → bytes_eq (folded a) (folded b) ≡ true → folded a ≡ folded b
same_name a b = (bytes_eq-Decides (folded a) (folded b)).0

named_same : (a b : List ℕ) → folded a ≡ folded b → bytes_eq (folded a) (folded b) ≡ true
named_same a b = (bytes_eq-Decides (folded a) (folded b)).1

-- ---- where a name stands

pub record Stands (p : P) (list : List P) : Type 0 where
  front : List P
  was : P
  back : List P
  split : list ≡ front ++ was ∷ back
  new : slice_set list (property_place p.name list) p ≡ front ++ p ∷ back
  same : is_of_name p.name was ≡ true
  first : list_any (is_of_name p.name) front ≡ false

stands_here : (p q : P) (qs : List P) → is_of_name p.name q ≡ true → Stands p (q ∷ qs)
stands_here p q qs e = record { front = []; was = q; back = qs; split = refl; new = rw e refl; same = e; first = refl }

stands_later : (p q : P) (qs : List P) → is_of_name p.name q ≡ false → Stands p qs → Stands p (q ∷ qs)
stands_later p q qs other s = record {
  front = q ∷ s.front;
  was = s.was;
  back = s.back;
  split = ap (λ (l : List P). q ∷ l) s.split;
  new = rw (other, one-add) (ap (λ (l : List P). q ∷ l) s.new);
  same = s.same;
  first = let rest = s.first in rw (other, rest) refl;
}

-- it stands nowhere
pub record StandsNot (p : P) (list : List P) : Type 0 where
  none : list_any (is_of_name p.name) list ≡ false
  place : property_place p.name list ≡ length list

where_by : (p q : P) (qs : List P) (t : Bool) → is_of_name p.name q ≡ t → Stands p qs ⊎ StandsNot p qs → Stands p (q ∷ qs) ⊎ StandsNot p (q ∷ qs)
where_by p q qs t e h = grind (arith, stands_here, stands_later)

pub where_stands : (p : P) (list : List P) → Stands p list ⊎ StandsNot p list
where_stands p [] = inr (record { none = refl; place = refl })
where_stands p (q ∷ qs) = where_by p q qs (is_of_name p.name q) refl (where_stands p qs)

-- ---- one is put

-- in the place of the one of its name
pub record IsReplaced (p : P) (list new : List P) : Type 0 where
  front : List P
  was : P
  back : List P
  split : list ≡ front ++ was ∷ back
  is : new ≡ front ++ p ∷ back
  same : folded was.name ≡ folded p.name
  first : list_any (is_of_name p.name) front ≡ false

-- last, since there is none
pub record IsAdded (p : P) (list new : List P) : Type 0 where
  is : new ≡ list ++ p ∷ []
  none : list_any (is_of_name p.name) list ≡ false
  room : length list < most_properties

abbrev pub IsOnePut : P → List P → List P → Type 0
IsOnePut p list new = IsReplaced p list new ⊎ IsAdded p list new

place_within : (p : P) (front back : List P) (was : P) → is_of_name p.name was ≡ true → property_place p.name (front ++ was ∷ back) < length (front ++ was ∷ back)
place_within p [] back was same = rw same (omega arith)
place_within p (q ∷ qs) back was same = grind (arith, place_within p qs back was same)

some_of : (a b : List P) → Some a ≡ Some b → a ≡ b
some_of a b h = cc

put_there : (p : P) (list : List P) (s : Stands p list) → put_property p list ≡ Some (s.front ++ p ∷ s.back)
put_there p list s = grind (arith, place_within)

put_last : (p : P) (list : List P) → StandsNot p list → put_property p list ≡ cond (nat_lt (length list) most_properties) (Some (list ++ p ∷ [])) None
put_last p list s = grind arith

-- nothing is put where the name is new and the list is full
pub record IsFull (p : P) (list : List P) : Type 0 where
  pub none : list_any (is_of_name p.name) list ≡ false
  pub full : most_properties ≤ length list

-- what is put, or that nothing is
abbrev IsPut : P → List P → Option (List P) → Type 0
IsPut p list None = IsFull p list
IsPut p list (Some new) = IsOnePut p list new

is_put : (p : P) (list : List P) → IsPut p list (put_property p list)
is_put p list =
    elim (where_stands p list) [
      | inl s ↦ subst (IsPut p list) (sym (put_there p list s))
          (inl (record { front = s.front; was = s.was; back = s.back; split = s.split; is = refl; same = same_name s.was.name p.name s.same; first = s.first }))
      | inr s ↦ subst (IsPut p list) (sym (put_last p list s)) (last s.none (nat_lt (length list) most_properties) refl)
    ]
  where
    last : list_any (is_of_name p.name) list ≡ false → (t : Bool) → nat_lt (length list) most_properties ≡ t → IsPut p list (cond t (Some (list ++ p ∷ [])) None)
    last none true e = inr (record { is = refl; none = none; room = ltb-true (length list) most_properties e })
    last none false e = record { none = none; full = ltb-false (length list) most_properties e }

one_put : (p : P) (list new : List P) → put_property p list ≡ Some new → IsOnePut p list new
one_put p list new h = subst (IsPut p list) h (is_put p list)

is_full : (p : P) (list : List P) → put_property p list ≡ None → IsFull p list
is_full p list h = subst (IsPut p list) h (is_put p list)

-- ---- what is found then

find_none : (test : P → Bool) (list : List P) → list_any test list ≡ false → find test list ≡ None
find_none test [] h = refl
find_none test (q ∷ qs) h = grind (arith, find_none test qs)

found_replaced : (p : P) (list new : List P) (name : List ℕ) → IsReplaced p list new → (t : Bool) → is_of_name name p ≡ t → look_up name new ≡ cond t (Some p) (look_up name list)
found_replaced p list new name s t e = grind (arith, find_none, same_name, find-append)

found_added : (p : P) (list new : List P) (name : List ℕ) → IsAdded p list new → (t : Bool) → is_of_name name p ≡ t → look_up name new ≡ cond t (Some p) (look_up name list)
found_added p list new name s t e = grind (arith, find_none, same_name, find-append)

one_found : (p : P) (list new : List P) (name : List ℕ) → IsOnePut p list new → (t : Bool) → is_of_name name p ≡ t → look_up name new ≡ cond t (Some p) (look_up name list)
one_found p list new name h = grind (arith, found_replaced, found_added)

-- ---- what stays

get_replaced : (front back : List P) (was p : P) (place : ℕ) (q : P) → folded was.name ≡ folded p.name → is_of_name q.name p ≡ false → slice_get (front ++ was ∷ back) place ≡ Some q → slice_get (front ++ p ∷ back) place ≡ Some q
get_replaced [] back was p zero q same other h = grind (arith, named_same)
get_replaced [] back was p (suc place) q same other h = h
get_replaced (x ∷ xs) back was p zero q same other h = h
get_replaced (x ∷ xs) back was p (suc place) q same other h = get_replaced xs back was p place q same other h

get_front : (list back : List P) (place : ℕ) (q : P) → slice_get list place ≡ Some q → slice_get (list ++ back) place ≡ Some q
get_front [] back place q h = absurd cc
get_front (x ∷ xs) back zero q h = h
get_front (x ∷ xs) back (suc place) q h = get_front xs back place q h

one_stays : (p : P) (list new : List P) → IsOnePut p list new → (place : ℕ) (q : P) → slice_get list place ≡ Some q → is_of_name q.name p ≡ false → slice_get new place ≡ Some q
one_stays p list new h place q e other = grind (arith, get_replaced, get_front)

-- ---- names

names_with : (front back : List P) (a b : P) → folded a.name ≡ folded b.name → lower_names (front ++ a ∷ back) ≡ lower_names (front ++ b ∷ back)
names_with front back a b h = grind (arith, common_steps)

names_both : (xs ys : List P) → lower_names (xs ++ ys) ≡ lower_names xs ++ lower_names ys
names_both xs ys = grind (arith, common_steps)

is_known : (name : List ℕ) (list : List P) → list_any (λ other. bytes_eq other (folded name)) (lower_names list) ≡ list_any (is_of_name name) list
is_known name [] = refl
is_known name (q ∷ qs) = ap (λ (t : Bool). is_of_name name q || t) (is_known name qs)

any_there : (test : P → Bool) (front back : List P) (was : P) → test was ≡ true → list_any test (front ++ was ∷ back) ≡ true
any_there test front back was h = grind (arith, common_steps)

-- what the names are after it and some more
pub one_names : (p : P) (list mid : List P) (more : List (List ℕ)) → IsOnePut p list mid → lower_names mid ++ new_names (lower_names mid) more ≡ lower_names list ++ new_names (lower_names list) (folded p.name ∷ more)
unfolding new_names
one_names p list mid more (inl s) =
    let same : lower_names mid ≡ lower_names list = ap lower_names s.is ∙ names_with s.front s.back p s.was (sym s.same) ∙ sym (ap lower_names s.split) in
    let known : list_any (λ other. bytes_eq other (folded p.name)) (lower_names list) ≡ true =
    is_known p.name list ∙ ap (list_any (is_of_name p.name)) s.split ∙ any_there (is_of_name p.name) s.front s.back s.was (named_same s.was.name p.name s.same) in
    rw (known, same) refl
one_names p list mid more (inr s) =
    let same : lower_names mid ≡ lower_names list ++ folded p.name ∷ [] = ap lower_names s.is ∙ names_both list (p ∷ []) in
    let fresh : list_any (λ other. bytes_eq other (folded p.name)) (lower_names list) ≡ false = is_known p.name list ∙ s.none in
    rw (fresh, same) (append_assoc (lower_names list) (folded p.name ∷ []) (new_names (lower_names list ++ folded p.name ∷ []) more))

-- ---- how many, and none twice

one_few : (p : P) (list new : List P) → IsOnePut p list new → length list ≤ most_properties → length new ≤ most_properties
one_few p list new h e = grind (arith, length-append)

abbrev some_same : List (List ℕ) → Bool
some_same names = has_same bytes_eq names

any_lower : (name : List ℕ) (names : List (List ℕ)) → list_any (λ other. bytes_eq (folded name) (folded other)) names ≡ list_any (bytes_eq (folded name)) (map folded names)
any_lower name [] = refl
any_lower name (n ∷ ns) = ap (λ (t : Bool). bytes_eq (folded name) (folded n) || t) (any_lower name ns)

twice_lower : (names : List (List ℕ)) → has_name_twice names ≡ some_same (map folded names)
unfolding has_name_twice
twice_lower [] = refl
twice_lower (n ∷ ns) = rw (any_lower n ns, twice_lower ns) refl

neither : (s t : Bool) → s || t ≡ false → (s ≡ false) × (t ≡ false)
neither s t h = grind arith

two_none : (s t : Bool) → s ≡ false → t ≡ false → s || t ≡ false
two_none s t h k = grind arith

once_last : (names : List (List ℕ)) (name : List ℕ) → some_same names ≡ false → list_any (λ other. bytes_eq other name) names ≡ false → some_same (names ++ name ∷ []) ≡ false
once_last [] name h k = refl
once_last (n ∷ ns) name h k =
    let a = neither (list_any (bytes_eq n) ns) (some_same ns) h in
    let b = neither (bytes_eq n name) (list_any (λ other. bytes_eq other name) ns) k in
    two_none (list_any (bytes_eq n) (ns ++ name ∷ [])) (some_same (ns ++ name ∷ []))
    (list_any-append (bytes_eq n) ns (name ∷ []) ∙ two_none (list_any (bytes_eq n) ns) (bytes_eq n name || false) a.0 (two_none (bytes_eq n name) false b.0 refl))
    (once_last ns name a.1 b.1)

one_once : (p : P) (list new : List P) → IsOnePut p list new → has_name_twice (names_of list) ≡ false → has_name_twice (names_of new) ≡ false
one_once p list new (inl s) h =
    let same : lower_names new ≡ lower_names list = ap lower_names s.is ∙ names_with s.front s.back p s.was (sym s.same) ∙ sym (ap lower_names s.split) in
    twice_lower (names_of new) ∙ ap some_same same ∙ sym (twice_lower (names_of list)) ∙ h
one_once p list new (inr s) h =
    let same : lower_names new ≡ lower_names list ++ folded p.name ∷ [] = ap lower_names s.is ∙ names_both list (p ∷ []) in
    twice_lower (names_of new) ∙ ap some_same same ∙ once_last (lower_names list) (folded p.name) (sym (twice_lower (names_of list)) ∙ h) (is_known p.name list ∙ s.none)

-- ---- all of them

last_by : (name : List ℕ) (p : P) (ps list mid : List P) (t : Bool) → is_of_name name p ≡ t → look_up name mid ≡ cond t (Some p) (look_up name list)
    → last_or (look_up name mid) (filter (is_of_name name) ps) ≡ last_or (look_up name list) (filter (is_of_name name) (p ∷ ps))
last_by name p ps list mid t e h = grind arith

pub after_puts : (sent list new : List P) → each put_property sent list ≡ Some new → IsListAfter sent list new
unfolding new_names
after_puts [] list new h =
    let same : list ≡ new = some_of list new h in
    record {
      found = λ name. ap (look_up name) (sym same);
      stays = λ place p is none. sym (ap (λ (l : List P). slice_get l place) same) ∙ is;
      names = ap lower_names (sym same) ∙ sym (append-nil (lower_names list));
      few = λ k. omega (arith, k, ap length same);
      once = λ k. ap (λ (l : List P). has_name_twice (names_of l)) (sym same) ∙ k;
    }
after_puts (p ∷ ps) list new h =
    let step = first_then (put_property p list) (each put_property ps) new h in
    let mid = step.0 in
    let one = one_put p list mid step.1 in
    let later = after_puts ps mid new step.2 in
    record {
      found = λ name. later.found name ∙ last_by name p ps list mid (is_of_name name p) refl (one_found p list mid name one (is_of_name name p) refl);
      stays = λ place q is none.
          let n = neither (is_of_name q.name p) (list_any (is_of_name q.name) ps) none in
          later.stays place q (one_stays p list mid one place q is n.0) n.1;
      names = later.names ∙ one_names p list mid (lower_names ps) one;
      few = λ k. later.few (one_few p list mid one k);
      once = λ k. later.once (one_once p list mid one k);
    }

-- ---- where a list would be too long

length_lower : (list : List P) → length (lower_names list) ≡ length list
length_lower list = grind (arith, common_steps)

fresh_names : (p : P) (list : List P) (more : List (List ℕ)) → list_any (is_of_name p.name) list ≡ false → new_names (lower_names list) (folded p.name ∷ more) ≡ folded p.name ∷ new_names (lower_names list ++ folded p.name ∷ []) more
unfolding new_names
fresh_names p list more none = let fresh : list_any (λ other. bytes_eq other (folded p.name)) (lower_names list) ≡ false = is_known p.name list ∙ none in rw fresh refl

too_long_full : (p : P) (ps list : List P) → IsFull p list → IsTooLong (p ∷ ps) list
too_long_full p ps list h =
    let e = ap length (fresh_names p list (lower_names ps) h.none) in
    omega (arith, e, h.full)

too_long_later : (p : P) (ps list mid : List P) → IsOnePut p list mid → IsTooLong ps mid → IsTooLong (p ∷ ps) list
too_long_later p ps list mid one h =
    let a : length (lower_names mid ++ new_names (lower_names mid) (lower_names ps)) ≡ length (lower_names list ++ new_names (lower_names list) (lower_names (p ∷ ps))) = ap length (one_names p list mid (lower_names ps) one) in
    let b = length-append (lower_names mid) (new_names (lower_names mid) (lower_names ps)) in
    let c = length-append (lower_names list) (new_names (lower_names list) (lower_names (p ∷ ps))) in
    omega (arith, a, b, c, length_lower mid, length_lower list, h)

pub too_long : (sent list : List P) → each put_property sent list ≡ None → IsTooLong sent list
too_long [] list h = absurd cc
too_long (p ∷ ps) list h = by (put_property p list) refl h (too_long ps)
  where
    by : (o : Option (List P)) → put_property p list ≡ o → and_then o (each put_property ps) ≡ None → ((mid : List P) → each put_property ps mid ≡ None → IsTooLong ps mid) → IsTooLong (p ∷ ps) list
    by None e k later = too_long_full p ps list (is_full p list e)
    by (Some mid) e k later = too_long_later p ps list mid (one_put p list mid e) (later mid k)
