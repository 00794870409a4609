-- What ranges name, range by range, and what is left of a row without it.
use Rattle.std.proofs.lemmas.Grind.{common_steps}
use Rattle.std.proofs.Common.{◌≡◌, ℕ, suc, ◌+◌, ◌<◌, ◌≤◌, ◌&&◌, ◌||◌, not, Bool, false, cond, bytes_eq, List, [], ◌∷◌, ◌++◌, map, length, take, get_or, Option, Some, None, refl, ap, sym, ◌∙◌, arith}
use Rattle.std.proofs.lemmas.List.{take_more}
use Rattle.std.specs.List.{filter}
use Rattle.std.specs.Option.{option_map}
use Rattle.gw_msg.specs.declared.message.AckRange.{AckRange}
use Rattle.gw_kept.specs.declared.entry.Entry.{Entry}
use Rattle.gw_kept.specs.declared.entry.RequestKey.{RequestKey}
use Rattle.gw_kept.specs.Pairs.{key_of}
use Rattle.gw_kept.specs.Forgotten.{is_acknowledged, is_named}
use Rattle.gw_kept.specs.Rows.{present, keys_in, left_of}
use Rattle.gw_kept.proofs.Filters.{few_left}

-- ---- one range more

or_assoc : (a b c : Bool) → (a || (b || c)) ≡ ((a || b) || c)
or_assoc a b c = grind arith

acknowledged_more : (id : ℕ) (ranges : List AckRange) (range : AckRange) → is_acknowledged id (ranges ++ range ∷ []) ≡ (is_acknowledged id ranges || is_acknowledged id (range ∷ []))
acknowledged_more id [] range = refl
acknowledged_more id (r ∷ rs) range = grind (arith, acknowledged_more id rs range, or_assoc)

named_more : (mid : List ℕ) (ranges : List AckRange) (range : AckRange) (key : RequestKey) → is_named mid (ranges ++ range ∷ []) key ≡ (is_named mid ranges key || is_named mid (range ∷ []) key)
named_more mid ranges range key = grind (arith, acknowledged_more)

pub named_next : (mid : List ℕ) (ranges : List AckRange) (i : ℕ) (range : AckRange) (key : RequestKey) → i < length ranges → range ≡ get_or ranges i range → is_named mid (take (i + 1) ranges) key ≡ (is_named mid (take i ranges) key || is_named mid (range ∷ []) key)
named_next mid ranges i range key l read = grind (arith, take_more, named_more)

and_false : (a : Bool) → (a && false) ≡ false
and_false a = grind arith

pub named_by_none : (mid : List ℕ) (key : RequestKey) → is_named mid [] key ≡ false
named_by_none mid key = and_false (bytes_eq key.mid mid)

-- ---- what is left, place by place

left_step : (a : Bool) (mid : List ℕ) (range : AckRange) (e : Entry) → left_of mid (range ∷ []) (cond a None (Some e)) ≡ cond (a || is_named mid (range ∷ []) (key_of e)) None (Some e)
left_step a mid range e = grind arith

left_two : (mid : List ℕ) (ranges : List AckRange) (i : ℕ) (range : AckRange) (o : Option Entry) → i < length ranges → range ≡ get_or ranges i range → left_of mid (range ∷ []) (left_of mid (take i ranges) o) ≡ left_of mid (take (i + 1) ranges) o
left_two mid ranges i range None l read = refl
left_two mid ranges i range (Some e) l read =
    left_step (is_named mid (take i ranges) (key_of e)) mid range e ∙ ap (λ (b : Bool). cond b None (Some e)) (sym (named_next mid ranges i range (key_of e) l read))

pub left_more : (mid : List ℕ) (ranges : List AckRange) (i : ℕ) (range : AckRange) (row : List (Option Entry)) → i < length ranges → range ≡ get_or ranges i range
    → map (left_of mid (range ∷ [])) (map (left_of mid (take i ranges)) row) ≡ map (left_of mid (take (i + 1) ranges)) row
left_more mid ranges i range [] l read = refl
left_more mid ranges i range (o ∷ os) l read = grind (arith, left_more mid ranges i range os l read, left_two)

pub left_same : (mid : List ℕ) (ranges : List AckRange) (row : List (Option Entry)) → ((p : ℕ) (e : Entry) → get_or row p None ≡ Some e → is_named mid ranges (key_of e) ≡ false) → map (left_of mid ranges) row ≡ row
left_same mid ranges [] h = refl
left_same mid ranges (None ∷ os) h = ap (λ (r : List (Option Entry)). None ∷ r) (left_same mid ranges os (λ p. h (suc p)))
left_same mid ranges (Some e ∷ os) h =
    ap (λ (b : Bool). cond b None (Some e) ∷ map (left_of mid ranges) os) (h 0 e refl) ∙ ap (λ (r : List (Option Entry)). Some e ∷ r) (left_same mid ranges os (λ p. h (suc p)))

pub left_by_none : (mid : List ℕ) (row : List (Option Entry)) → map (left_of mid []) row ≡ row
left_by_none mid row = left_same mid [] row (λ p e at. named_by_none mid (key_of e))

present_step : (b : Bool) (e : Entry) (row : List (Option Entry)) (es : List Entry) → present row ≡ es → present (cond b None (Some e) ∷ row) ≡ cond (not b) (e ∷ es) es
present_step b e row es h = grind arith

pub present_left : (mid : List ℕ) (ranges : List AckRange) (row : List (Option Entry)) → present (map (left_of mid ranges) row) ≡ filter (λ e. not (is_named mid ranges (key_of e))) (present row)
present_left mid ranges [] = refl
present_left mid ranges (None ∷ os) = present_left mid ranges os
present_left mid ranges (Some e ∷ os) = present_step (is_named mid ranges (key_of e)) e (map (left_of mid ranges) os) (filter (λ e. not (is_named mid ranges (key_of e))) (present os)) (present_left mid ranges os)

pub few_left_of : (mid : List ℕ) (ranges : List AckRange) (row : List (Option Entry)) → length (present (map (left_of mid ranges) row)) ≤ length (present row)
few_left_of mid ranges row = omega (arith, ap length (present_left mid ranges row), few_left (λ (e : Entry). not (is_named mid ranges (key_of e))) (present row))

pub keys_get : (row : List (Option Entry)) (p : ℕ) → get_or (keys_in row) p None ≡ option_map key_of (get_or row p None)
keys_get row p = grind (arith, common_steps)
