-- The spans that the lengths give are the longest of their form.
use Rattle.std.proofs.Common.{◌≡◌, ℕ, ◌≤◌, Bool, true, false, List, ◌++◌, length, take, drop, refl, ap, arith, ◌==◌, ◌||◌, ◌<◌, cond, Ok, Err}
use Rattle.std.specs.Prelude.{nat_lt}
use Rattle.std.specs.Str.Parse.{digits_value}
use Rattle.std.proofs.lemmas.List.{take-append-drop, length-take}
use Rattle.std.proofs.lemmas.Bool.{eqb-false, eqb-true, ltb-false, ltb-true, or_parts}
use Rattle.gw_base.specs.Bytes.{is_digit}
use Rattle.gw_text.specs.Space.{IsSpace, IsSep}
use Rattle.gw_text.specs.SpaceScan.{space_len}
use Rattle.gw_text.specs.Runs.{run_len, IsRun, begins}
use Rattle.gw_text.specs.Forms.{IsSomeRun, IsNumber, HasNoNumber}
use Rattle.gw_text.specs.declared.fault.ScanFault.{ScanFault}
use Rattle.gw_text.specs.declared.fault.ScanFault.TheVariants.{Unexpected, Overflow}
use Rattle.gw_text.specs.Scans.{some_at, sep_at, number_within, digits_at}
use Rattle.gw_text.specs.Longest.{IsLongest}
use Rattle.gw_text.proofs.RunLemmas.{run_is, run_longest, run_len-le, either}
use Rattle.gw_text.proofs.SpaceLemmas.{space_is, space_longest, space_len-le}
use Rattle.gw_text.proofs.SpacePieces.{space_scans, space_pieces}

-- ---- the longest white space, and the longest run

pub space_scanned : (text span rest : List ℕ) → take (space_len text) text ≡ span → drop (space_len text) text ≡ rest → IsLongest IsSpace text span rest
space_scanned text span rest span-is rest-is = grind (arith, length-take, space_is, space_len-le, space_longest, space_pieces, space_scans, take-append-drop)

run_scanned : (p : ℕ → Bool) (text span rest : List ℕ) → take (run_len p text) text ≡ span → drop (run_len p text) text ≡ rest → IsLongest (IsRun p) text span rest
run_scanned p text span rest span-is rest-is = grind (arith, length-take, run_is, run_len-le, run_longest, take-append-drop)

-- ---- a span of some bytes, or none

-- what some_at took
pub record IsTaken (len : ℕ) (text span rest : List ℕ) : Type 0 where
  pub some : 0 < len
  pub span_is : take len text ≡ span
  pub rest_is : drop len text ≡ rest

pub taken : (len : ℕ) (text span rest : List ℕ) → some_at len text ≡ Ok (span, rest) → IsTaken len text span rest
taken len text span rest e = grind arith

-- ---- white space that must be there

pub sep_found : (text span rest : List ℕ) → sep_at text ≡ Ok (span, rest) → IsLongest IsSep text span rest
unfolding sep_at
sep_found text span rest e =
    let t = taken (space_len text) text span rest e in
    let s = space_scanned text span rest t.span_is t.rest_is in
    let some : 0 < length span = omega (arith, t.some, ap length t.span_is, length-take (space_len text) text, space_len-le text) in
    record { split = s.split; inside = record { space = s.inside; some = some }; longest = λ other left e sep. s.longest other left e sep.space }

-- where there is no white space, none is taken
pub sep_missing : (text : List ℕ) → space_len text ≡ 0 → (before after : List ℕ) → text ≡ before ++ after → ¬ IsSep before
sep_missing text none before after split sep = grind (arith, space_longest, space_scans)

-- ---- runs of some bytes

pub run_taken : (p : ℕ → Bool) (text span rest : List ℕ) → 0 < run_len p text → take (run_len p text) text ≡ span → drop (run_len p text) text ≡ rest → IsLongest (IsSomeRun p) text span rest
run_taken p text span rest some span-is rest-is =
    let s = run_scanned p text span rest span-is rest-is in
    let some-span : 0 < length span = omega (arith, ap length span-is, length-take (run_len p text) text, run_len-le p text) in
    record { split = s.split; inside = record { run = s.inside; some = some-span }; longest = λ other left e run. s.longest other left e run.run }

pub run_found : (p : ℕ → Bool) (text span rest : List ℕ) → some_at (run_len p text) text ≡ Ok (span, rest) → IsLongest (IsSomeRun p) text span rest
run_found p text span rest e = let t = taken (run_len p text) text span rest e in run_taken p text span rest t.some t.span_is t.rest_is

run_none : (p : ℕ → Bool) (text : List ℕ) → run_len p text ≡ 0 → begins p text ≡ false
run_none p text e = grind arith

-- ---- numbers

guard2_ok : {A : Type 0} (b c : Bool) (d f : ScanFault) (x y : A) → cond b (Err d) (cond c (Err f) (Ok x)) ≡ Ok y → (b ≡ false) × (c ≡ false) × (x ≡ y)
guard2_ok b c d f x y e = grind arith

-- what was read as a number: the digits, and what is behind them
pub record IsReadNumber (most max : ℕ) (text : List ℕ) (n : ℕ) (rest : List ℕ) : Type 0 where
  pub digits : IsLongest (IsSomeRun is_digit) text (digits_at text) rest
  pub number : IsNumber most max n (digits_at text)

pub number_takes : (most max : ℕ) (text : List ℕ) (n : ℕ) (rest : List ℕ) → number_within most max text ≡ Ok (n, rest) → IsReadNumber most max text n rest
unfolding number_within
number_takes most max text n rest e =
    let len = run_len is_digit text in
    let span = take len text in
    let a = guard2_ok (len == 0) (nat_lt most len || nat_lt max (digits_value 10 span)) Unexpected Overflow (digits_value 10 span, drop len text) (n, rest) e in
    let o = or_parts (nat_lt most len) (nat_lt max (digits_value 10 span)) a.1 in
    let n-is : digits_value 10 span ≡ n = ap (λ (p : ℕ × List ℕ). p.0) a.2 in
    let rest-is : drop len text ≡ rest = ap (λ (p : ℕ × List ℕ). p.1) a.2 in
    let short : len ≤ most = ltb-false _ _ o.0 in
    let small : digits_value 10 span ≤ max = ltb-false _ _ o.1 in
    let some : 0 < len = omega (arith, eqb-false len 0 a.0) in
    let s = run_taken is_digit text span rest some refl rest-is in
    record {
      digits = s;
      number = record {
        digits = s.inside.run;
        some = s.inside.some;
        short = omega (arith, length-take len text);
        value = n-is;
        small = omega (arith, n-is, small);
      };
    }

fault_cases : (P : ScanFault → Type 0) {A : Type 0} (b c : Bool) (x : A) (f : ScanFault) → cond b (Err Unexpected) (cond c (Err Overflow) (Ok x)) ≡ Err f → (b ≡ true → P Unexpected) → (b ≡ false → c ≡ true → P Overflow) → P f
fault_cases P b c x f e g h = grind arith

pub no_number : (most max : ℕ) (text : List ℕ) (f : ScanFault) → number_within most max text ≡ Err f → HasNoNumber most max f text
unfolding number_within
no_number most max text f e =
    let len = run_len is_digit text in
    let span = take len text in
    fault_cases (λ f. HasNoNumber most max f text) (len == 0) (nat_lt most len || nat_lt max (digits_value 10 span)) (digits_value 10 span, drop len text) f e
    (λ none. run_none is_digit text (eqb-true len 0 none))
    (λ some-is over.
    let some : 0 < len = omega (arith, eqb-false len 0 some-is) in (
      span,
      drop len text,
      run_taken is_digit text span (drop len text) some refl refl,
      λ n h.
          let short = h.short in let small = h.small in let value = h.value in
          either ⊥ (nat_lt most len) (nat_lt max (digits_value 10 span)) over
          (λ t. let lt : most < len = ltb-true _ _ t in omega (arith, lt, short, length-take len text, run_len-le is_digit text))
          (λ t. let lt : max < digits_value 10 span = ltb-true _ _ t in omega (arith, lt, small, value)),
    ))

pub number_found : (most max : ℕ) (text span rest : List ℕ) (n : ℕ) → digits_at text ≡ span → number_within most max text ≡ Ok (n, rest) → IsLongest (IsSomeRun is_digit) text span rest × IsNumber most max n span
number_found most max text span rest n is e = grind (arith, number_takes)
