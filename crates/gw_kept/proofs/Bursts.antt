-- The classes of a burst, from one item to the next.
use Rattle.std.proofs.lemmas.Grind.{common_steps}
use Rattle.std.proofs.Common.{◌≡◌, ℕ, ◌+◌, ◌<◌, Bool, true, false, List, [], ◌∷◌, ◌++◌, map, length, drop, get_or, refl, ap, sym, append_assoc, arith}
use Rattle.std.proofs.lemmas.List.{append-nil, map-append}
use Rattle.gw_kept.specs.declared.entry.Entry.{Entry}
use Rattle.gw_kept.specs.declared.entry.RequestKey.{RequestKey}
use Rattle.gw_kept.specs.declared.point.Point.{Point}
use Rattle.gw_kept.specs.declared.point.Point.TheVariants as point
use Rattle.gw_kept.specs.declared.point.Removal.{Removal}
use Rattle.gw_kept.specs.declared.class.Class.{Class}
use Rattle.gw_kept.specs.declared.class.Class.TheVariants.{New, Nothing}
use Rattle.gw_kept.specs.Pairs.{KeptList, key_of}
use Rattle.gw_kept.specs.Changes.{Change, Keep, Remove}
use Rattle.gw_kept.specs.Classes.{Standing, standing_of, class_at, without, behind, classes_behind, classes_of}
use Rattle.gw_kept.specs.Index.{requests_behind, seen}
use Rattle.gw_kept.specs.Repeats.{class_after, classes_after}
use Rattle.gw_kept.proofs.Changed.{one_more_after, entries_more, most_after}
use Rattle.gw_kept.proofs.Last.{keys_last}
use Rattle.gw_kept.proofs.Filters.{filter_map_is}

-- ---- in turn

pub from_start : (k : KeptList) (items : List Point) → classes_of k items ≡ classes_after k [] items
from_start k items = grind (arith, common_steps)

pub then_acknowledged : (k : KeptList) (cs : List Change) (r : Removal) (rest : List Point) → classes_after k cs (point.Ack r ∷ rest) ≡ Nothing ∷ classes_after k (cs ++ Remove r ∷ []) rest
then_acknowledged k cs r rest = grind (arith, filter_map_is, one_more_after, entries_more, append-nil)

pub then_new : (k : KeptList) (cs : List Change) (e : Entry) (rest : List Point) → class_after k cs (key_of e) ≡ New → classes_after k cs (point.Request (key_of e) ∷ rest) ≡ New ∷ classes_after k (cs ++ Keep e ∷ []) rest
then_new k cs e rest new = grind (arith, map-append, append_assoc, entries_more, most_after, keys_last, one_more_after)

pub then_other : (k : KeptList) (cs : List Change) (key : RequestKey) (rest : List Point) → (class_after k cs key ≡ New → ⊥) → classes_after k cs (point.Request key ∷ rest) ≡ class_after k cs key ∷ classes_after k cs rest
then_other k cs key rest h = grind (arith, common_steps)

-- ---- where no request comes behind an acknowledgement

-- no request comes any more
all_nothing : (most old : ℕ) (s t : Standing) (items : List Point) → requests_behind true items ≡ false → classes_behind most old s items ≡ classes_behind most old t (map (seen false) items)
all_nothing most old s t [] none = refl
all_nothing most old s t (point.Request key ∷ rest) none = absurd cc
all_nothing most old s t (point.Ack r ∷ rest) none = ap (λ (l : List Class). Nothing ∷ l) (all_nothing most old (without r s) t rest none)
all_nothing most old s t (point.Nothing ∷ rest) none = ap (λ (l : List Class). Nothing ∷ l) (all_nothing most old s t rest none)

no_say : (most old : ℕ) (s : Standing) (items : List Point) → requests_behind false items ≡ false → classes_behind most old s items ≡ classes_behind most old s (map (seen false) items)
no_say most old s [] none = refl
no_say most old s (point.Request key ∷ rest) none = ap (λ (l : List Class). class_at old (point.Request key) s ∷ l) (no_say most old (behind most old (point.Request key) s) rest none)
no_say most old s (point.Ack r ∷ rest) none = ap (λ (l : List Class). Nothing ∷ l) (all_nothing most old (without r s) s rest none)
no_say most old s (point.Nothing ∷ rest) none = ap (λ (l : List Class). Nothing ∷ l) (no_say most old s rest none)

all_seen : (items : List Point) → map (seen true) items ≡ items
all_seen [] = refl
all_seen (point.Request key ∷ rest) = ap (λ (l : List Point). point.Request key ∷ l) (all_seen rest)
all_seen (point.Ack r ∷ rest) = ap (λ (l : List Point). point.Ack r ∷ l) (all_seen rest)
all_seen (point.Nothing ∷ rest) = ap (λ (l : List Point). point.Nothing ∷ l) (all_seen rest)

-- the classes are those of what is seen
pub as_seen : (b : Bool) (k : KeptList) (items : List Point) → b ≡ requests_behind false items → classes_of k items ≡ classes_of k (map (seen b) items)
as_seen true k items is = ap (classes_of k) (sym (all_seen items))
as_seen false k items is = no_say k.most (length k.pairs) (standing_of k) items (sym is)

-- ---- one item more

pub goes_on : (most before : ℕ) (b : Bool) (requested : List Point) (i : ℕ) (x : Point) (classes : List Class) (c : Class) (s : Standing) (total : List Class) → i < length requested → x ≡ get_or requested i x
    → classes ++ classes_behind most before s (map (seen b) (drop i requested)) ≡ total
    → c ≡ class_at before (seen b x) s
    → (classes ++ c ∷ []) ++ classes_behind most before (behind most before (seen b x) s) (map (seen b) (drop (i + 1) requested)) ≡ total
goes_on most before b requested i x classes c s total h is so_far class = grind (arith, common_steps)
