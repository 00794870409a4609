-- Where in the order of the keys stands what a range names.
use Rattle.std.proofs.Common.{◌≡◌, ℕ, ◌+◌, ◌<◌, ◌&&◌, nat_le, nat_lt, not, Bool, List, length, get_or, Option, Ok, ap, sym, ◌∙◌, arith}
use Rattle.std.proofs.lemmas.Map.Text.{is_eq-slice_cmp}
use Rattle.std.specs.Ordering.{ordering_then, ordering_reverse, is_eq, is_gt, is_lt}
use Rattle.std.specs.declared.cmp.Ordering.{Ordering}
use Rattle.std.specs.declared.cmp.Ordering.TheVariants.{Less, Equal, Greater}
use Rattle.gw_msg.specs.declared.message.AckRange.{AckRange}
use Rattle.gw_kept.specs.declared.entry.RequestKey.{RequestKey}
use Rattle.gw_kept.specs.Order.{key_total, key_cmp, key_there, IsSorted, IsSpan, IsStand}
use Rattle.gw_kept.proofs.Orders.{ties_itself}
use Rattle.gw_kept.proofs.Rows.{key_default}

-- ---- before, at and behind the place of a key

-- the key that was found, and those around it
same_there : (keys : List (Option RequestKey)) (places : List ℕ) (key : RequestKey) (i : ℕ) (d : RequestKey) → IsSorted keys places → IsStand keys places key (Ok i) → key_there keys places i d ≡ key
same_there keys places key i d sorted stand = key_default keys (get_or places i 0) d key (sorted.within i 0 stand.0) ∙ stand.1

less_there : (keys : List (Option RequestKey)) (places : List ℕ) (key : RequestKey) (i at : ℕ) (d : RequestKey) → IsSorted keys places → IsStand keys places key (Ok i) → at < i → key_cmp (key_there keys places at d) key ≡ Less
less_there keys places key i at d sorted stand l = sym (ap (key_cmp (key_there keys places at d)) (same_there keys places key i d sorted stand)) ∙ sorted.rises at i 0 l stand.0 d

turned : (r s : Ordering) → r ≡ ordering_reverse s → s ≡ Less → r ≡ Greater
turned r s e h = e ∙ ap ordering_reverse h

more_there : (keys : List (Option RequestKey)) (places : List ℕ) (key : RequestKey) (i at : ℕ) (d : RequestKey) → IsSorted keys places → IsStand keys places key (Ok i) → i < at → at < length places → key_cmp (key_there keys places at d) key ≡ Greater
more_there keys places key i at d sorted stand l within =
    turned (key_cmp (key_there keys places at d) key) (key_cmp key (key_there keys places at d)) (key_total.antisymm (key_there keys places at d) key)
    (sym (ap (λ (k : RequestKey). key_cmp k (key_there keys places at d)) (same_there keys places key i d sorted stand)) ∙ sorted.rises i at 0 l within d)

equal_there : (keys : List (Option RequestKey)) (places : List ℕ) (key : RequestKey) (i at : ℕ) (d : RequestKey) → IsSorted keys places → IsStand keys places key (Ok i) → at ≡ i → key_cmp (key_there keys places at d) key ≡ Equal
equal_there keys places key i at d sorted stand e = grind (arith, ties_itself, same_there)

-- no key comes before this one from its place on
pub start_found : (keys : List (Option RequestKey)) (places : List ℕ) (key : RequestKey) (i at : ℕ) (d : RequestKey) → IsSorted keys places → IsStand keys places key (Ok i) → at < length places → nat_le i at ≡ not (is_lt (key_cmp (key_there keys places at d) key))
start_found keys places key i at d sorted stand within = grind (arith, less_there, equal_there, more_there)

-- no key comes behind it up to behind its place
pub end_found : (keys : List (Option RequestKey)) (places : List ℕ) (key : RequestKey) (i at : ℕ) (d : RequestKey) → IsSorted keys places → IsStand keys places key (Ok i) → at < length places → nat_lt at (i + 1) ≡ not (is_gt (key_cmp (key_there keys places at d) key))
end_found keys places key i at d sorted stand within = grind (arith, less_there, equal_there, more_there)

-- ---- between the first key of a range and its last

between : (r s t : Ordering) (e : Bool) → is_eq r ≡ e → (not (is_lt (ordering_then r s)) && not (is_gt (ordering_then r t))) ≡ (e && (not (is_lt s) && not (is_gt t)))
between r s t e h = grind arith

pub is_span : (keys : List (Option RequestKey)) (places : List ℕ) (mid : List ℕ) (range : AckRange) (start end : ℕ)
    → ((at : ℕ) (d : RequestKey) → at < length places → nat_le start at ≡ not (is_lt (key_cmp (key_there keys places at d) (record { mid = mid; id = range.first }))))
    → ((at : ℕ) (d : RequestKey) → at < length places → nat_lt at end ≡ not (is_gt (key_cmp (key_there keys places at d) (record { mid = mid; id = range.last }))))
    → IsSpan keys places mid range (start, end)
is_span keys places mid range start end f g at d within = grind (arith, between, is_eq-slice_cmp)
