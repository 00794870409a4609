-- What the classes mean for the list that is kept meanwhile.
use Rattle.std.proofs.lemmas.Grind.{common_steps}
use Rattle.std.proofs.Common.{◌≡◌, ℕ, zero, suc, ◌+◌, ◌-◌, ◌<◌, ◌≤◌, nat_lt, not, Bool, false, cond, List, [], ◌∷◌, ◌++◌, map, length, get_or, Option, Some, None, refl, ap, sym, subst, ◌∙◌, add-one, append_assoc, length-append, arith, rules}
use Rattle.std.proofs.lemmas.List.{append-nil, length-map, map-append}
use Rattle.std.proofs.lemmas.List.Elements.{All-append, All-cons, All-nil, All-drop, All-filter}
use Rattle.std.specs.List.{All, slice_get}
use Rattle.std.specs.Option.{option_map, is_some}
use Rattle.circular_buffer.proofs.Places.{slice_get-append_left, slice_get-append_right}
use Rattle.gw_kept.specs.declared.entry.Entry.{Entry}
use Rattle.gw_kept.specs.declared.entry.RequestKey.{RequestKey}
use Rattle.gw_kept.specs.declared.class.Class.{Class}
use Rattle.gw_kept.specs.declared.class.Class.TheVariants.{New, Repeat, Over, Nothing}
use Rattle.gw_kept.specs.declared.class.Source.{Source}
use Rattle.gw_kept.specs.declared.class.Source.TheVariants as source
use Rattle.gw_kept.specs.Pairs.{KeptList, key_of, is_same, bytes_for, bytes_at, AreDistinct}
use Rattle.gw_kept.specs.Forgotten.{is_named}
use Rattle.gw_kept.specs.Changes.{Change, Keep, Remove, changed, kept_after, entries_in, IsNew, AreNew}
use Rattle.gw_kept.specs.Classes.{or_here, last_place, class_of, most_new}
use Rattle.gw_kept.specs.Repeats.{class_after, bytes_of}
use Rattle.gw_kept.proofs.Places.{one_more, same_itself}
use Rattle.gw_kept.proofs.Found.{not_kept, found_at, bytes_found, no_place}
use Rattle.gw_kept.proofs.Last.{stays_there, next_there}
use Rattle.gw_kept.proofs.Changed.{others, distinct_after, new_more}

-- ---- each pair that is kept is the last of its key among all that there were

pub record IsLast (all : List Entry) (x : Entry) : Type 0 where
  pub place : ℕ
  pub last : last_place (key_of x) (map key_of all) ≡ Some place
  pub there : slice_get all place ≡ Some x

last_behind : (x y : Entry) (xs : List Entry) → IsLast xs y → IsLast (x ∷ xs) y
last_behind x y xs l = record {
  place = l.place + 1;
  last = ap (λ (o : Option ℕ). or_here 1 o (cond (is_same (key_of x) (key_of y)) (Some 0) None)) l.last;
  there = ap (slice_get (x ∷ xs)) (add-one l.place) ∙ l.there;
}

last_alone : (x : Entry) (xs : List Entry) → bytes_for (key_of x) xs ≡ None → IsLast (x ∷ xs) x
last_alone x xs none = search (rules, no_place)

module _ (all : List Entry) where
  all_last_behind : (x : Entry) (xs : List Entry) → All (IsLast all) xs → All (IsLast (x ∷ all)) xs
  all_last_behind x xs h i d l = last_behind x (get_or xs i d) all (h i d l)

pub all_are_last : (es : List Entry) → AreDistinct es → All (IsLast es) es
all_are_last [] d = All-nil (IsLast [])
all_are_last (x ∷ xs) d = All-cons (IsLast (x ∷ xs)) x xs (last_alone x xs d.0) (all_last_behind xs x xs (all_are_last xs d.1))

last_stays : (all : List Entry) (e x : Entry) → is_same (key_of e) (key_of x) ≡ false → IsLast all x → IsLast (all ++ e ∷ []) x
last_stays all e x other l = grind (arith, map-append, one_more, stays_there)

last_now : (all : List Entry) (e : Entry) → IsLast (all ++ e ∷ []) e
last_now all e = record {
  place = length all;
  last = ap (last_place (key_of e)) (map-append key_of all (e ∷ []))
      ∙ one_more (key_of e) (key_of e) (map key_of all)
      ∙ ap (λ (t : Bool). cond t (Some (length (map key_of all))) (last_place (key_of e) (map key_of all))) (same_itself (key_of e))
      ∙ ap (λ (n : ℕ). Some n) (length-map all key_of);
  there = next_there all [] e;
}

last_changed : (all : List Entry) (k : KeptList) (c : Change) → All (IsLast all) k.pairs → IsNew k c → All (IsLast (all ++ entries_in (c ∷ []))) (changed k c).pairs
last_changed all k (Keep e) h new =
    All-drop (IsLast (all ++ e ∷ [])) (length (k.pairs ++ e ∷ []) - k.most) (k.pairs ++ e ∷ [])
    (All-append (IsLast (all ++ e ∷ [])) k.pairs (e ∷ [])
    (λ i d l. last_stays all e (get_or k.pairs i d) (others (key_of e) k.pairs new i d l) (h i d l))
    (All-cons (IsLast (all ++ e ∷ [])) e [] (last_now all e) (All-nil (IsLast (all ++ e ∷ [])))))
last_changed all k (Remove r) h new =
    subst (λ (l : List Entry). All (IsLast l) (changed k (Remove r)).pairs) (sym (append-nil all))
    (All-filter (λ (e : Entry). not (is_named r.mid r.ranges (key_of e))) (IsLast all) k.pairs h)

entries-cons : (c : Change) (cs : List Change) → entries_in (c ∷ []) ++ entries_in cs ≡ entries_in (c ∷ cs)
entries-cons c cs = grind arith

last_after : (all : List Entry) (k : KeptList) (cs : List Change) → All (IsLast all) k.pairs → AreNew k cs → All (IsLast (all ++ entries_in cs)) (kept_after k cs).pairs
last_after all k [] h new = subst (λ (l : List Entry). All (IsLast l) k.pairs) (sym (append-nil all)) h
last_after all k (c ∷ cs) h new = grind (arith, last_after (all ++ entries_in (c ∷ [])) (changed k c) cs (last_changed all k c h new.0) new.1, append_assoc, entries-cons, last_changed)

-- ---- a key that is kept

-- its pair, by its place among all that there were
pub record IsKept (k : KeptList) (cs : List Change) (key : RequestKey) : Type 0 where
  pub place : ℕ
  pub entry : Entry
  pub last : last_place key (map key_of (k.pairs ++ entries_in cs)) ≡ Some place
  pub there : slice_get (k.pairs ++ entries_in cs) place ≡ Some entry
  pub bytes : bytes_for key (kept_after k cs).pairs ≡ Some entry.bytes

all_at : (P : Entry → Type 0) (es : List Entry) (i : ℕ) (e : Entry) → All P es → slice_get es i ≡ Some e → P e
all_at P [] i e h at = absurd cc
all_at P (x ∷ xs) zero e h at = let is : x ≡ e = cc in subst P is (h 0 x (omega arith))
all_at P (x ∷ xs) (suc i) e h at = all_at P xs i e (λ j d l. h (suc j) d (omega arith)) at

pub is_kept : (k : KeptList) (cs : List Change) (key : RequestKey) (q : ℕ) → AreDistinct k.pairs → AreNew k cs → last_place key (map key_of (kept_after k cs).pairs) ≡ Some q → IsKept k cs key
is_kept k cs key q distinct new at =
    let kept : List Entry = (kept_after k cs).pairs in
    let found = found_at key kept q at in
    let last : IsLast (k.pairs ++ entries_in cs) found.entry = all_at (IsLast (k.pairs ++ entries_in cs)) kept q found.entry (last_after k.pairs k cs (all_are_last k.pairs distinct) new) found.there in
    record {
      place = last.place;
      entry = found.entry;
      last = ap (λ (l : RequestKey). last_place l (map key_of (k.pairs ++ entries_in cs))) (sym found.same) ∙ last.last;
      there = last.there;
      bytes = bytes_found key kept q found (distinct_after k cs distinct new);
    }

-- ---- where a class comes from

-- a class by the place among all, where it is kept
abbrev class_by : KeptList → List Change → (kept all : Option ℕ) → Class
class_by k cs kept all = class_of (length k.pairs) (map key_of (k.pairs ++ entries_in cs)) (cond (is_some kept) all None)

abbrev kept_at_point : KeptList → List Change → RequestKey → Option ℕ
kept_at_point k cs key = last_place key (map key_of (kept_after k cs).pairs)

abbrev among_all : KeptList → List Change → RequestKey → Option ℕ
among_all k cs key = last_place key (map key_of (k.pairs ++ entries_in cs))

-- ---- a repeat

sourced : (t : Bool) (k : KeptList) (es : List Entry) (place : ℕ) (e : Entry) → nat_lt place (length k.pairs) ≡ t → slice_get (k.pairs ++ es) place ≡ Some e → bytes_of (cond t (source.Kept place) (source.Place (place - length k.pairs))) k es ≡ Some e.bytes
sourced t k es place e is at = grind (arith, slice_get-append_left, slice_get-append_right)

abbrev HasReply : KeptList → List Change → RequestKey → Source → Type 0
HasReply k cs key source = (bytes : List ℕ) × (bytes_of source k (entries_in cs) ≡ Some bytes) × (bytes_for key (kept_after k cs).pairs ≡ Some bytes)

replied : (o : Option ℕ) (k : KeptList) (cs : List Change) (key : RequestKey) (source : Source) → AreDistinct k.pairs → AreNew k cs → kept_at_point k cs key ≡ o → class_after k cs key ≡ Repeat source → HasReply k cs key source
replied o k cs key source distinct new at e = grind (arith, is_kept, sourced)

pub has_reply : (k : KeptList) (cs : List Change) (key : RequestKey) (source : Source) → AreDistinct k.pairs → AreNew k cs → class_after k cs key ≡ Repeat source → HasReply k cs key source
has_reply k cs key source distinct new e = replied (kept_at_point k cs key) k cs key source distinct new refl e

-- ---- what is no repeat

came : (k : KeptList) (es : List Entry) → length (map key_of (k.pairs ++ es)) - length k.pairs ≡ length es
came k es = omega (arith, length-map (k.pairs ++ es) key_of, length-append k.pairs es)

-- the key of what is no repeat has no pair
not_repeat : (o : Option ℕ) (c : Class) (k : KeptList) (cs : List Change) (key : RequestKey) → AreDistinct k.pairs → AreNew k cs → kept_at_point k cs key ≡ o → class_after k cs key ≡ c → ((s : Source) → c ≡ Repeat s → ⊥) → kept_at_point k cs key ≡ None
not_repeat o c k cs key distinct new at e other = grind (arith, is_kept)

pub new_is_not_kept : (k : KeptList) (cs : List Change) (key : RequestKey) → AreDistinct k.pairs → AreNew k cs → class_after k cs key ≡ New → (bytes_for key (kept_after k cs).pairs ≡ None) × (length (entries_in cs) < most_new)
new_is_not_kept k cs key distinct new e = grind (arith, not_repeat, not_kept, came)

pub over_is_not_kept : (k : KeptList) (cs : List Change) (key : RequestKey) → AreDistinct k.pairs → AreNew k cs → class_after k cs key ≡ Over → (bytes_for key (kept_after k cs).pairs ≡ None) × (most_new ≤ length (entries_in cs))
over_is_not_kept k cs key distinct new e = grind (arith, not_repeat, not_kept, came)

pub never_nothing : (k : KeptList) (cs : List Change) (key : RequestKey) → class_after k cs key ≡ Nothing → ⊥
never_nothing k cs key e = grind (arith, common_steps)

-- the reply of a new request may be kept next
pub next_is_new : (k : KeptList) (cs : List Change) (e : Entry) → AreDistinct k.pairs → AreNew k cs → class_after k cs (key_of e) ≡ New → AreNew k (cs ++ Keep e ∷ [])
next_is_new k cs e distinct new is = new_more k cs (Keep e) new (new_is_not_kept k cs (key_of e) distinct new is).0

-- ---- what a source names stays, whatever comes behind

bytes_stay : (place : ℕ) (es more : List Entry) (bytes : List ℕ) → bytes_at place es ≡ Some bytes → bytes_at place (es ++ more) ≡ Some bytes
bytes_stay place [] more bytes e = absurd cc
bytes_stay zero (x ∷ xs) more bytes e = e
bytes_stay (suc place) (x ∷ xs) more bytes e = bytes_stay place xs more bytes e

pub source_stays : (source : Source) (k : KeptList) (es more : List Entry) (bytes : List ℕ) → bytes_of source k es ≡ Some bytes → bytes_of source k (es ++ more) ≡ Some bytes
source_stays source k es more bytes e = grind (arith, bytes_stay)

-- the reply of the next new request
pub next_bytes : (es more : List Entry) (e : Entry) → bytes_at (length es) (es ++ e ∷ more) ≡ Some e.bytes
next_bytes es more e = ap (option_map (λ (x : Entry). x.bytes)) (next_there es more e)
