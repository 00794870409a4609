-- Names of slots: that they are names, the gateway's own to give, and that each slot has its own.
use Rattle.std.proofs.Common.{◌≡◌, ℕ, Bool, zero, suc, ◌<◌, ◌≤◌, ◌^◌, true, false, List, [], ◌∷◌, length, drop, get_or, Option, None, Some, nat_eq, eqb-true, eq-eqb, refl, sym, ap, ◌∙◌, arith, rules, decimal, ◌+◌, ◌*◌, ◌-◌, ◌++◌, take, codes, add-one}
use Rattle.std.specs.Prelude.{◌||◌, ◌&&◌, IfSome}
use Rattle.std.specs.Int.{IsInRange}
use Rattle.std.specs.Char.{is_ascii_digit, digit_value}
use Rattle.std.specs.List.{list_all, starts_with}
use Rattle.std.specs.Str.{all_ascii_digits}
use Rattle.std.specs.Str.Parse.{AllDigits, digits_value, digits_value_after}
use Rattle.std.proofs.Math.Seq.{drop-cons}
use Rattle.std.proofs.lemmas.Fmt.{decimal_is_IsNumeral, length-decimal-le, decimal_injective, decimal-digits_value, decimal_nonempty, first_decimal, digits_decimal, digits_value-decimal}
use Rattle.std.proofs.lemmas.Slice.Eq.{starts_is}
use Rattle.std.proofs.lemmas.Str.Parse.{IsNumeralModel, digit_from_value, numerals_by_value, tells_all_ascii_digits}
use Rattle.std.proofs.lemmas.List.{take_at}
use Rattle.gw_base.proofs.NamesInLists.{or_left, or_right}
use Rattle.gw_base.specs.Bytes.{is_letter, is_digit, is_name_mark, is_name_byte}
use Rattle.gw_base.specs.Names.{IsName}
use Rattle.gw_table.specs.Reserved.{is_reserved, slot_name}

is_digit_in : (c : ℕ) → IsInRange 48 57 c → is_digit c ≡ true
is_digit_in c h = search rules

digit_in_name : (c : ℕ) → is_digit c ≡ true → is_name_byte c ≡ true
digit_in_name c h = or_left (is_letter c || is_digit c) (is_name_mark c) (or_right (is_letter c) (is_digit c) h)

digits_in_name : (ds : List ℕ) → AllDigits 10 ds → list_all is_name_byte ds ≡ true
digits_in_name [] d = refl
digits_in_name (c ∷ cs) d = ap (λ b. b && list_all is_name_byte cs) (digit_in_name c (is_digit_in c (digit_from_value c d.0))) ∙ digits_in_name cs d.1

pub slot_is_named : (s : ℕ) → s < 2 ^ 16 → IsName (slot_name s)
unfolding slot_name
slot_is_named s h = record {
  some = omega arith;
  short = omega (arith, length-decimal-le 5 s (omega arith) (omega arith) (omega arith));
  first = refl;
  each = digits_in_name (decimal s) (decimal_is_IsNumeral s (omega arith)).0.1;
}

pub slot_is_reserved : (s : ℕ) → is_reserved (slot_name s) ≡ true
unfolding slot_name
slot_is_reserved s = refl

pub slots_apart : (s t : ℕ) → s < 2 ^ 16 → t < 2 ^ 16 → slot_name s ≡ slot_name t → s ≡ t
unfolding slot_name
slots_apart s t a b e = decimal_injective s t (omega arith) (omega arith) (ap (drop 4) e)

-- RTP/ and the digits, with what stands behind them cut off
pub cut_behind : (digits put after : List ℕ) (s : ℕ) → put ≡ digits → digits ≡ decimal s → take (4 + length digits) (82 ∷ 84 ∷ 80 ∷ 47 ∷ (put ++ after)) ≡ slot_name s
unfolding slot_name
cut_behind digits put after s e f =
    let whole : List ℕ = 82 ∷ 84 ∷ 80 ∷ 47 ∷ put in
    take_at whole after (4 + length digits) (omega (arith, ap length e)) ∙ ap (λ (l : List ℕ). 82 ∷ 84 ∷ 80 ∷ 47 ∷ l) (e ∙ f)

-- ---- a slot by its name

own : IsNumeralModel (λ ds. all_ascii_digits ds ≡ true) (digits_value 10)
own = numerals_by_value (λ ds. all_ascii_digits ds ≡ true) tells_all_ascii_digits

starts_so : (name : List ℕ) → starts_with nat_eq name (codes "RTP/") ≡ true → name ≡ codes "RTP/" ++ drop 4 name
starts_so name h = (starts_is (λ a b. (eqb-true a b, eq-eqb a b)) name (codes "RTP/") (starts_with nat_eq name (codes "RTP/")) refl).0 h

-- digits without leading zeros behind RTP/ are the slot's
pub name_of_digits : (name digits : List ℕ) (n : ℕ) → starts_with nat_eq name (codes "RTP/") ≡ true → digits ≡ drop 4 name → all_ascii_digits digits ≡ true → 0 < length digits → (get_or digits 0 0 ≡ 48 → length digits ≡ 1) → n ≡ digits_value 10 digits → n < 4096 → slot_name n ≡ name
unfolding slot_name
name_of_digits name digits n start are all some one value small =
    let same : decimal n ≡ digits = ap (λ k. decimal k) value ∙ decimal-digits_value own digits all some one (omega (arith, value)) in
    ap (λ (l : List ℕ). codes "RTP/" ++ l) (same ∙ are) ∙ sym (starts_so name start)

-- another name is of no slot
pub starts_otherwise : (name : List ℕ) (s : ℕ) → starts_with nat_eq name (codes "RTP/") ≡ false → slot_name s ≡ name → ⊥
unfolding slot_name
starts_otherwise name s h e =
    let yes : starts_with nat_eq name (codes "RTP/") ≡ true = ap (λ (l : List ℕ). starts_with nat_eq l (codes "RTP/")) (sym e) in
    let clash : true ≡ false = sym yes ∙ h in cc

slot_digits : (name digits : List ℕ) (s : ℕ) → digits ≡ drop 4 name → slot_name s ≡ name → digits ≡ decimal s
unfolding slot_name
slot_digits name digits s are e = are ∙ ap (λ (l : List ℕ). drop 4 l) (sym e)

pub no_digits : (name digits : List ℕ) (s : ℕ) → digits ≡ drop 4 name → s < 4096 → length digits ≡ 0 → slot_name s ≡ name → ⊥
no_digits name digits s are small none e =
    let d : digits ≡ decimal s = slot_digits name digits s are e in
    omega (arith, none, ap (λ (l : List ℕ). length l) d, decimal_nonempty s (omega arith))

pub leading_zero : (name digits : List ℕ) (s : ℕ) → digits ≡ drop 4 name → s < 4096 → get_or digits 0 0 ≡ 48 → 1 < length digits → slot_name s ≡ name → ⊥
leading_zero name digits zero are small first long e =
    let d : digits ≡ decimal 0 = slot_digits name digits 0 are e in
    omega (arith, ap (λ (l : List ℕ). length l) d, length-decimal-le 1 0 (omega arith) (omega arith) (omega arith))
leading_zero name digits (suc s) are small first long e =
    let d : digits ≡ decimal (suc s) = slot_digits name digits (suc s) are e in
    omega (arith, ap (λ (l : List ℕ). get_or l 0 0) d, first_decimal (suc s) (omega arith) (omega arith))

pub no_number : (name digits : List ℕ) (s : ℕ) → digits ≡ drop 4 name → s < 4096 → (all_ascii_digits digits ≡ true → 4096 ≤ digits_value 10 digits) → slot_name s ≡ name → ⊥
no_number name digits s are small large e =
    let d : digits ≡ decimal s = slot_digits name digits s are e in
    let all : all_ascii_digits digits ≡ true = ap (λ (l : List ℕ). all_ascii_digits l) d ∙ digits_decimal own s (omega arith) in
    omega (arith, large all, ap (λ (l : List ℕ). digits_value 10 l) d, digits_value-decimal own s (omega arith))

-- ---- the number of some digits

next_at : (text : List ℕ) (i : ℕ) → i < length text → drop i text ≡ get_or text i 0 ∷ drop (i + 1) text
next_at text i h = drop-cons text i 0 h ∙ ap (λ (k : ℕ). get_or text i 0 ∷ drop k text) (sym (add-one i))

pub others_digits : (text : List ℕ) (i : ℕ) (b : Bool) → i < length text → is_ascii_digit (get_or text i 0) ≡ b → all_ascii_digits (drop i text) ≡ b && all_ascii_digits (drop (i + 1) text)
others_digits text i b h is = ap (λ (l : List ℕ). all_ascii_digits l) (next_at text i h) ∙ ap (λ (x : Bool). x && all_ascii_digits (drop (i + 1) text)) is

pub digits_grow : (n : ℕ) (digits : List ℕ) → n ≤ digits_value_after 10 n digits
digits_grow n [] = omega arith
digits_grow n (b ∷ bs) = omega (arith, digits_grow (n * 10 + digit_value b) bs)

pub not_digits : (text : List ℕ) (i : ℕ) → i < length text → is_ascii_digit (get_or text i 0) ≡ false → all_ascii_digits (drop i text) ≡ all_ascii_digits text → all_ascii_digits text ≡ false
not_digits text i h is so_far = sym so_far ∙ others_digits text i false h is

pub grown : (text : List ℕ) (i number total : ℕ) → digits_value_after 10 number (drop i text) ≡ total → number ≤ total
grown text i number total e = omega (arith, digits_grow number (drop i text))

pub one_more_digit : (text : List ℕ) (i number total : ℕ) → i < length text → is_ascii_digit (get_or text i 0) ≡ true → digits_value_after 10 number (drop i text) ≡ total → digits_value_after 10 (number * 10 + (get_or text i 0 - 48)) (drop (i + 1) text) ≡ total
one_more_digit text i number total h is so_far = grind (arith, next_at)

pub found_slot : (name digits : List ℕ) (r : Option ℕ) → starts_with nat_eq name (codes "RTP/") ≡ true → digits ≡ drop 4 name → 0 < length digits → (get_or digits 0 0 ≡ 48 → length digits ≡ 1)
    → IfSome r (λ n. n ≡ digits_value 10 digits) → IfSome r (λ n. all_ascii_digits digits ≡ true) → IfSome r (λ n. n < 4096) → IfSome r (λ s. slot_name s ≡ name)
found_slot name digits None start are some one value all small = tt
found_slot name digits (Some n) start are some one value all small = name_of_digits name digits n start are all some one value small

pub without_slot : (name digits : List ℕ) (r : Option ℕ) → digits ≡ drop 4 name → (r ≡ None → all_ascii_digits digits ≡ true → 4096 ≤ digits_value 10 digits) → r ≡ None → (s : ℕ) → s < 4096 → slot_name s ≡ name → ⊥
without_slot name digits r are large none s small = no_number name digits s are small (large none)
