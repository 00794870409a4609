-- What an index holds, and the index with one more pair.
use Rattle.std.proofs.lemmas.Grind.{common_steps}
use Rattle.std.proofs.Common.{◌≡◌, ℕ, ◌+◌, ◌-◌, ◌<◌, ◌≤◌, ◌||◌, not, Bool, true, false, cond, List, [], ◌∷◌, ◌++◌, length, take, get_or, Option, Some, None, refl, ap, sym, subst, ◌∙◌, length-append, arith, rules}
use Rattle.std.proofs.lemmas.List.{take_more}
use Rattle.std.proofs.Math.Bool.{or-false, or-true}
use Rattle.std.proofs.lemmas.List.Elements.{All-filter}
use Rattle.std.proofs.lemmas.List.Recursion.{or_at, or_push}
use Rattle.std.specs.BTreeMap.{get, is_at}
use Rattle.std.specs.List.{filter}
use Rattle.circular_buffer.specs.Buffer.{keep_last}
use Rattle.gw_kept.specs.declared.entry.RequestKey.{RequestKey}
use Rattle.gw_kept.specs.declared.index.Index.{Index}
use Rattle.gw_kept.specs.declared.point.Point.{Point}
use Rattle.gw_kept.specs.declared.point.Point.TheVariants as point
use Rattle.gw_kept.specs.declared.point.Removal.{Removal}
use Rattle.gw_kept.specs.declared.class.Class.TheVariants.{New, Repeat, Over, Nothing}
use Rattle.gw_kept.specs.declared.class.Source.{Source}
use Rattle.gw_kept.specs.Pairs.{KeptList, key_of, is_same}
use Rattle.gw_kept.specs.Rows.{Gapped, present, kept_in}
use Rattle.gw_kept.specs.Forgotten.{is_named, forgotten}
use Rattle.gw_kept.specs.Classes.{Standing, keys_of, source_at, last_place, has_pair, kept_place, class_of, class_at, behind, with_key, without, most_new}
use Rattle.gw_kept.specs.Index.{is_requested, kept_at, seen, IsRequested, AreLeft, IsIndex}
use Rattle.gw_kept.specs.Order.{key_cmp}
use Rattle.gw_kept.proofs.Filters.{filter_map_is}
use Rattle.gw_kept.proofs.Places.{among_last, none_of, others_of, one_more, key_test, same_key, same_itself}

-- ---- which keys are requested

-- a request of this key
abbrev pub has_key : RequestKey → Point → Bool
has_key q (point.Request k) = is_same k q
has_key q (point.Ack r) = false
has_key q point.Nothing = false

requested_step : (q : RequestKey) (x : Point) (xs : List Point) → is_requested q (x ∷ xs) ≡ (has_key q x || is_requested q xs)
requested_step q x xs = grind arith

pub requested_more : (q : RequestKey) (xs : List Point) (i : ℕ) (x : Point) → i < length xs → x ≡ get_or xs i x → is_requested q (take (i + 1) xs) ≡ (is_requested q (take i xs) || has_key q x)
requested_more q xs i x h is =
    ap (is_requested q) (take_more xs i x h) ∙ or_push (is_requested q) (has_key q) refl (requested_step q) (take i xs) (get_or xs i x) ∙ ap (λ (y : Point). is_requested q (take i xs) || has_key q y) (sym is)

pub no_request : (q : RequestKey) (x : Point) → ((k : RequestKey) → x ≡ point.Request k → ⊥) → has_key q x ≡ false
no_request q x f = grind arith

pub requested_here : (xs : List Point) (i : ℕ) (x : Point) → i < length xs → x ≡ get_or xs i x → IsRequested x xs
requested_here xs i (point.Request k) h is = or_at (is_requested k) (has_key k) refl (requested_step k) xs i (point.Request k) h (ap (has_key k) (sym is) ∙ same_itself k)
requested_here xs i (point.Ack r) h is = tt
requested_here xs i point.Nothing h is = tt

-- ---- the kept place

-- where nothing was removed, a key's last pair is kept if it is one of the last so many
pub kept_by_place : (most : ℕ) (s : Standing) (key : RequestKey) (o : Option ℕ) → s.kept ≡ keep_last most s.pairs → last_place key s.pairs ≡ o → kept_at o key (length s.pairs - most) None ≡ cond (has_pair key s.kept) o None
kept_by_place most s key o kept at = grind (arith, among_last)

-- ---- a place for each key that is requested

abbrev pub Places : List Point → List RequestKey → (RequestKey → Option (Option ℕ)) → Type 0
Places requested pairs places = (q : RequestKey) → places q ≡ cond (is_requested q requested) (Some (last_place q pairs)) None

other_pair : (requested : List Point) (pairs : List RequestKey) (key q : RequestKey) → is_same key q ≡ false → cond (is_requested q requested) (Some (last_place q pairs)) None ≡ cond (is_requested q requested) (Some (last_place q (pairs ++ key ∷ []))) None
other_pair requested pairs key q e = grind (arith, one_more)

put_at : (t : Bool) (requested : List Point) (old : Option (Option ℕ)) (pairs : List RequestKey) (key q : RequestKey) → is_same key q ≡ t → is_requested key requested ≡ true → old ≡ cond (is_requested q requested) (Some (last_place q pairs)) None
    → cond t (Some (Some (length pairs))) old ≡ cond (is_requested q requested) (Some (last_place q (pairs ++ key ∷ []))) None
put_at true requested old pairs key q is known h =
    let same : last_place q (pairs ++ key ∷ []) ≡ Some (length pairs) = one_more q key pairs ∙ ap (λ (t : Bool). cond t (Some (length pairs)) (last_place q pairs)) is in
    let also : is_requested q requested ≡ true = ap (λ (k : RequestKey). is_requested k requested) (sym (same_key key q is)) ∙ known in
    sym (ap (λ (l : Option ℕ). cond (is_requested q requested) (Some l) None) same ∙ ap (λ (t : Bool). cond t (Some (Some (length pairs))) None) also)
put_at false requested old pairs key q is known h = h ∙ other_pair requested pairs key q is

-- one more pair of a key that is requested
pub put : (requested : List Point) (old new : RequestKey → Option (Option ℕ)) (pairs : List RequestKey) (key : RequestKey) (place : ℕ) → is_requested key requested ≡ true → place ≡ length pairs → Places requested pairs old
    → ((q : RequestKey) → new q ≡ cond (is_at (key_cmp key) q) (Some (Some place)) (old q)) → Places requested (pairs ++ key ∷ []) new
put requested old new pairs key place known size h u q = grind (arith, key_test, put_at)

-- ---- the keys that are requested

-- a key, and the place of its pair
abbrev pub placed : (q : RequestKey) → (pairs : List RequestKey) → Bool → Option (Option ℕ)
placed q pairs t = cond t (Some (last_place q pairs)) None

put_key : (s t : Bool) (key q : RequestKey) (pairs : List RequestKey) → is_same key q ≡ s → cond s (Some (last_place key pairs)) (placed q pairs t) ≡ placed q pairs (t || s)
put_key true t key q pairs is = ap (λ (k : RequestKey). Some (last_place k pairs)) (same_key key q is) ∙ ap (placed q pairs) (sym (or-true t))
put_key false t key q pairs is = ap (placed q pairs) (sym (or-false t))

pub key_more : (old new : RequestKey → Option (Option ℕ)) (pairs : List RequestKey) (xs : List Point) (i : ℕ) (x : Point) (key : RequestKey) (place : Option ℕ) → i < length xs → x ≡ get_or xs i x → x ≡ point.Request key → place ≡ last_place key pairs
    → ((q : RequestKey) → old q ≡ placed q pairs (is_requested q (take i xs))) → ((q : RequestKey) → new q ≡ cond (is_at (key_cmp key) q) (Some place) (old q)) → (q : RequestKey) → new q ≡ placed q pairs (is_requested q (take (i + 1) xs))
key_more old new pairs xs i x key place h is some there f u q =
    u q
    ∙ ap (λ (t : Bool). cond t (Some place) (old q)) (key_test key q)
    ∙ ap (λ (p : Option ℕ). cond (is_same key q) (Some p) (old q)) there
    ∙ ap (cond (is_same key q) (Some (last_place key pairs))) (f q)
    ∙ put_key (is_same key q) (is_requested q (take i xs)) key q pairs refl
    ∙ ap (placed q pairs) (ap (λ (y : Point). is_requested q (take i xs) || has_key q y) (sym some) ∙ sym (requested_more q xs i x h is))

pub no_key_more : (old : RequestKey → Option (Option ℕ)) (pairs : List RequestKey) (xs : List Point) (i : ℕ) (x : Point) → i < length xs → x ≡ get_or xs i x → ((k : RequestKey) → x ≡ point.Request k → ⊥)
    → ((q : RequestKey) → old q ≡ placed q pairs (is_requested q (take i xs))) → (q : RequestKey) → old q ≡ placed q pairs (is_requested q (take (i + 1) xs))
no_key_more old pairs xs i x h is none f q =
    f q
    ∙ ap (placed q pairs) (sym (requested_more q xs i x h is ∙ ap (λ (t : Bool). is_requested q (take i xs) || t) (no_request q x none) ∙ or-false (is_requested q (take i xs))))

-- ---- what the index says of a key

kept_by : (left : Option Gapped) (most : ℕ) (s : Standing) (key : RequestKey) (o : Option ℕ) → AreLeft most left s → last_place key s.pairs ≡ o → kept_at o key (length s.pairs - most) left ≡ cond (has_pair key s.kept) o None
kept_by left most s key o h at = grind (arith, kept_by_place)

-- what is found by the index is the kept place
pub kept_known : (requested : List Point) (index : Index) (s : Standing) (key : RequestKey) (place kept : Option ℕ) → IsIndex requested index s → is_requested key requested ≡ true → Some place ≡ get key_cmp index.places key
    → kept ≡ kept_at place key (index.total - index.most) index.left → kept ≡ kept_place key s
kept_known requested index s key place kept h known at found = grind (arith, common_steps, kept_by)

pub index_same : (requested : List Point) (index next : Index) (s : Standing) (key : RequestKey) (place : Option ℕ) → IsIndex requested index s → Some place ≡ get key_cmp index.places key
    → ((q : RequestKey) → get key_cmp next.places q ≡ cond (is_at (key_cmp key) q) (Some place) (get key_cmp index.places q))
    → next.most ≡ index.most → next.before ≡ index.before → next.total ≡ index.total → next.left ≡ index.left → IsIndex requested next s
index_same requested index next s key place h at u most before total left = search (rules, key_test)

-- ---- a request of another class

pub is_repeat : (before : ℕ) (pairs : List RequestKey) (place : ℕ) (from : Source) (kept o : Option ℕ) → from ≡ source_at before place → kept ≡ Some place → kept ≡ o → Repeat from ≡ class_of before pairs o
is_repeat before pairs place from kept o is some same = ap (λ (f : Source). Repeat f) is ∙ ap (class_of before pairs) (sym some ∙ same)

pub is_over : (before : ℕ) (pairs : List RequestKey) (o : Option ℕ) → o ≡ None → most_new ≤ length pairs - before → Over ≡ class_of before pairs o
is_over before pairs o e more = grind (arith, common_steps)

-- ---- a new request

pub is_new : (before : ℕ) (pairs : List RequestKey) (o : Option ℕ) → o ≡ None → length pairs - before < most_new → New ≡ class_of before pairs o
is_new before pairs o e less = grind (arith, common_steps)

among_more : (most : ℕ) (key q : RequestKey) (s : Standing) → (last_place q s.pairs ≡ None → last_place q s.kept ≡ None) → last_place q (s.pairs ++ key ∷ []) ≡ None → last_place q (keep_last most (s.kept ++ key ∷ [])) ≡ None
among_more most key q s h none = grind (arith, common_steps, one_more, none_of, others_of)

pub one_more_index : (requested : List Point) (index next : Index) (s : Standing) (key : RequestKey) → IsIndex requested index s → is_requested key requested ≡ true
    → ((q : RequestKey) → get key_cmp next.places q ≡ cond (is_at (key_cmp key) q) (Some (Some index.total)) (get key_cmp index.places q))
    → next.before ≡ index.before → next.total ≡ index.total + 1 → length s.pairs - index.before < most_new → AreLeft next.most next.left (with_key index.most key s) → IsIndex requested next (with_key index.most key s)
one_more_index requested index next s key h known u same more less left =
    let size : length (s.pairs ++ key ∷ []) ≡ length s.pairs + 1 = omega (arith, length-append s.pairs (key ∷ [])) in
    record {
      places = put requested (λ q. get key_cmp index.places q) (λ q. get key_cmp next.places q) s.pairs key index.total known h.total h.places u;
      total = more ∙ omega (arith, size, h.total);
      before = omega (arith, size, same, h.before);
      few = omega (arith, size, same, h.before, less);
      small = omega (arith, same, h.small);
      left = left;
      among = λ q. among_more index.most key q s (h.among q);
    }

-- ---- what is left

pub left_by_place : (requested : List Point) (index : Index) (s : Standing) (key : RequestKey) → IsIndex requested index s → index.left ≡ None → AreLeft index.most index.left (with_key index.most key s)
left_by_place requested index s key h none = grind (arith, common_steps)

pub left_by_list : (requested : List Point) (index : Index) (s : Standing) (key : RequestKey) (old new : Gapped) → IsIndex requested index s → index.left ≡ Some old → kept_place key s ≡ None
    → (last_place key (keys_of (kept_in old)) ≡ None → keys_of (kept_in new) ≡ keep_last old.most (keys_of (kept_in old) ++ key ∷ [])) → new.most ≡ old.most → AreLeft index.most (Some new) (with_key index.most key s)
left_by_list requested index s key old new h some none keys most = grind (arith, common_steps)

pub acknowledged : (requested : List Point) (index next : Index) (s : Standing) (r : Removal) (old new : Gapped) → IsIndex requested index s → index.left ≡ Some old → kept_in new ≡ forgotten (kept_in old) r.mid r.ranges
    → next ≡ record { places = index.places; most = index.most; before = index.before; total = index.total; left = Some new } → IsIndex requested next (without r s)
acknowledged requested index next s r old new h some is same =
    let left : AreLeft index.most (Some old) s = subst (λ (o : Option Gapped). AreLeft index.most o s) some h.left in
    let t : RequestKey → Bool = λ k. not (is_named r.mid r.ranges k) in
    subst (λ (i : Index). IsIndex requested i (without r s)) (sym same) (record {
      places = h.places;
      total = h.total;
      before = h.before;
      few = h.few;
      small = h.small;
      left = (ap keys_of is ∙ sym (filter_map_is t key_of (present old.row)) ∙ ap (filter t) left.0, ap (λ (k : KeptList). k.most) is ∙ left.1);
      among = λ q none. none_of q (filter t s.kept) (All-filter t (λ k. is_same k q ≡ false) s.kept (others_of q s.kept (h.among q none)));
    })

-- ---- the class of an item

pub ack_at : (b : Bool) (most before : ℕ) (requested : List Point) (new : Index) (s : Standing) (p : Point) (r : Removal) → p ≡ point.Ack r → (b ≡ true → IsIndex requested new (without r s)) → (b ≡ false → IsIndex requested new s)
    → (Nothing ≡ class_at before (seen b p) s) × IsIndex requested new (behind most before (seen b p) s)
ack_at b most before requested new s p r is f g = grind (arith, common_steps)
