-- Requests whose numbers rise: the class of each, and that none comes twice.
use Rattle.std.proofs.lemmas.Grind.{common_steps}
use Rattle.std.proofs.Common.{◌≡◌, ℕ, ◌+◌, ◌-◌, ◌<◌, ◌||◌, nat_lt, Bool, true, false, List, [], ◌∷◌, length, drop, get_or, Option, Some, None, refl, ap, arith}
use Rattle.std.proofs.lemmas.Bool.{and_parts, ltb-true}
use Rattle.gw_kept.specs.declared.class.Class.{Class}
use Rattle.gw_kept.specs.declared.class.Class.TheVariants.{New, Nothing}
use Rattle.gw_kept.specs.declared.entry.RequestKey.{RequestKey}
use Rattle.gw_kept.specs.declared.point.Point.{Point}
use Rattle.gw_kept.specs.declared.point.Point.TheVariants as point
use Rattle.gw_kept.specs.Classes.{Standing, standing_of, keys_of, last_place, kept_place, class_of, class_at, behind, with_key, most_new}
use Rattle.gw_kept.specs.Index.{is_requested, kept_at, seen}
use Rattle.gw_kept.specs.Pairs.{KeptList, IsBounded, is_same}
use Rattle.gw_kept.specs.Rises.{do_numbers_rise, IsApart, IsTurn}
use Rattle.gw_kept.proofs.Places.{one_more, same_itself, same_key}
use Rattle.gw_kept.proofs.Indexes.{kept_by_place}

-- ---- a key that no new request has

-- the same, step by step
pub kept_in_steps : (k : KeptList) (key : RequestKey) (s : Standing) (total oldest most : ℕ) (place kept : Option ℕ) → IsApart k key s → total ≡ length s.pairs → kept ≡ kept_at place key oldest None → oldest ≡ total - most → most ≡ k.most → place ≡ last_place key (keys_of k)
    → kept ≡ kept_place key s
kept_in_steps k key s total oldest most place kept h size is old limit at = grind (arith, kept_by_place)

-- ---- none comes twice

-- a later request has a higher number
later_is_above : (last : ℕ) (rest : List Point) (q : RequestKey) → do_numbers_rise (Some last) rest ≡ true → is_requested q rest ≡ true → last < q.id
later_is_above last [] q rise requested = absurd cc
later_is_above last (point.Ack r ∷ rest) q rise requested = later_is_above last rest q rise requested
later_is_above last (point.Nothing ∷ rest) q rise requested = later_is_above last rest q rise requested
later_is_above last (point.Request j ∷ rest) q rise requested =
    let both = and_parts (nat_lt last j.id) (do_numbers_rise (Some j.id) rest) rise in
    let up : last < j.id = ltb-true last j.id both.0 in
    by up (later_is_above j.id rest q both.1) (is_same j q) refl requested
  where
    by : last < j.id → (is_requested q rest ≡ true → j.id < q.id) → (t : Bool) → is_same j q ≡ t → (t || is_requested q rest) ≡ true → last < q.id
    by up later true e a = let same : j.id ≡ q.id = ap (λ (k : RequestKey). k.id) (same_key j q e) in omega (arith, up, same)
    by up later false e a = let more : j.id < q.id = later a in omega (arith, up, more)

-- ---- one item more

-- the key of the next request is apart
pub now_apart : (k : KeptList) (s : Standing) (key : RequestKey) (rest : List Point) (total : ℕ) → IsTurn k s (point.Request key ∷ rest) total → IsApart k key s
now_apart k s key rest total h = grind (arith, same_itself)

-- behind a new request
pub goes_on_new : (k : KeptList) (s : Standing) (key : RequestKey) (rest : List Point) (total next : ℕ) → IsTurn k s (point.Request key ∷ rest) total → length s.pairs - length k.pairs < most_new → next ≡ total + 1 → IsTurn k (with_key k.most key s) rest next
goes_on_new k s key rest total next h less more = grind (arith, common_steps, one_more, later_is_above)

pub passes_old : (k : KeptList) (s : Standing) (p : Point) (key : RequestKey) (rest : List Point) (total : ℕ) (c : Class) → p ≡ point.Request key → (c ≡ New → ⊥) → c ≡ class_of (length k.pairs) s.pairs (kept_place key s) → IsTurn k s (p ∷ rest) total
    → (c ≡ class_at (length k.pairs) (seen false p) s) × IsTurn k (behind k.most (length k.pairs) (seen false p) s) rest total
passes_old k s p key rest total c is not found h = grind (arith, common_steps)

class_new : (before : ℕ) (o : Option ℕ) (all : List RequestKey) → New ≡ class_of before all o → length all - before < most_new
class_new before o all e = grind arith

pub passes_new : (k : KeptList) (s : Standing) (p : Point) (key : RequestKey) (rest : List Point) (total next : ℕ) → p ≡ point.Request key → New ≡ class_of (length k.pairs) s.pairs (kept_place key s) → next ≡ total + 1 → IsTurn k s (p ∷ rest) total
    → (New ≡ class_at (length k.pairs) (seen false p) s) × IsTurn k (behind k.most (length k.pairs) (seen false p) s) rest next
passes_new k s p key rest total next is found more h = grind (arith, class_new, goes_on_new)

-- ---- from the first item on

-- before the first
pub begun : (k : KeptList) (items : List Point) (total : ℕ) → total ≡ length k.pairs → IsBounded k → do_numbers_rise None items ≡ true → IsTurn k (standing_of k) items total
begun k items total size bounded rise = grind (arith, common_steps)

-- at the next item
pub turn_at : (k : KeptList) (s : Standing) (requested : List Point) (i : ℕ) (x : Point) (total : ℕ) → i < length requested → x ≡ get_or requested i x → IsTurn k s (drop i requested) total → IsTurn k s (x ∷ drop (i + 1) requested) total
turn_at k s requested i x total h is turn = grind (arith, common_steps)
