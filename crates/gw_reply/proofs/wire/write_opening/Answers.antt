use Rattle.std.proofs.Common.{◌≡◌, ℕ, ◌+◌, ◌/◌, ◌%◌, ◌<◌, ◌≤◌, List, [], ◌∷◌, ◌++◌, Result, Ok, Err, OnOk, is_ok, decimal, sym, ap, ◌∙◌, arith}
use Rattle.std.specs.Prelude.{if◌then◌else◌}
use Rattle.gw_reply.proofs.Digits.{one_digit, two_digits, three_digits, four_digits, five_digits}
use Rattle.gw_reply.proofs.wire.write_opening.Goals as goal

-- what is there once the digits and the brace were written
appended : {T E : Type 0} (r : Result T E) (before digits out text : List ℕ) → out ≡ (if is_ok r then before ++ (digits ++ 123 ∷ []) else before) → text ≡ digits → OnOk r (out ≡ before ++ (text ++ 123 ∷ []))
appended (Ok x) before digits out text e same = e ∙ ap (λ (t : List ℕ). before ++ (t ++ 123 ∷ [])) (sym same)
appended (Err x) before digits out text e same = tt

one : (n last : ℕ) → last ≡ 48 + n % 10 → n < 10 → decimal n ≡ last ∷ []
one n last e0 h = let eq : decimal n ≡ (48 + n % 10) ∷ [] = one_digit n h in cc

two : (n tens last : ℕ) → tens ≡ 48 + n / 10 % 10 → last ≡ 48 + n % 10 → 10 ≤ n → n < 100 → decimal n ≡ tens ∷ last ∷ []
two n tens last e0 e1 le h = let eq : decimal n ≡ (48 + n / 10 % 10) ∷ (48 + n % 10) ∷ [] = two_digits n le h in cc

three : (n hundreds tens last : ℕ) → hundreds ≡ 48 + n / 100 % 10 → tens ≡ 48 + n / 10 % 10 → last ≡ 48 + n % 10 → 100 ≤ n → n < 1000 → decimal n ≡ hundreds ∷ tens ∷ last ∷ []
three n hundreds tens last e0 e1 e2 le h = let eq : decimal n ≡ (48 + n / 100 % 10) ∷ (48 + n / 10 % 10) ∷ (48 + n % 10) ∷ [] = three_digits n le h in cc

four : (n thousands hundreds tens last : ℕ) → thousands ≡ 48 + n / 1000 % 10 → hundreds ≡ 48 + n / 100 % 10 → tens ≡ 48 + n / 10 % 10 → last ≡ 48 + n % 10 → 1000 ≤ n → n < 10000 → decimal n ≡ thousands ∷ hundreds ∷ tens ∷ last ∷ []
four n thousands hundreds tens last e0 e1 e2 e3 le h = let eq : decimal n ≡ (48 + n / 1000 % 10) ∷ (48 + n / 100 % 10) ∷ (48 + n / 10 % 10) ∷ (48 + n % 10) ∷ [] = four_digits n le h in cc

five : (n first thousands hundreds tens last : ℕ) → first ≡ 48 + n / 10000 % 10 → thousands ≡ 48 + n / 1000 % 10 → hundreds ≡ 48 + n / 100 % 10 → tens ≡ 48 + n / 10 % 10 → last ≡ 48 + n % 10 → 10000 ≤ n → n < 100000 → decimal n ≡ first ∷ thousands ∷ hundreds ∷ tens ∷ last ∷ []
five n first thousands hundreds tens last e0 e1 e2 e3 e4 le h = let eq : decimal n ≡ (48 + n / 10000 % 10) ∷ (48 + n / 1000 % 10) ∷ (48 + n / 100 % 10) ∷ (48 + n / 10 % 10) ∷ (48 + n % 10) ∷ [] = five_digits n le h in cc

pub returns-in-0-to-9 : goal.returns-in-0-to-9
returns-in-0-to-9 c =
    let n = c.args.number in
    appended c.extend_from_slice.result c.args.out.now.items (c.digit.result ∷ []) c.extend_from_slice.new.self.items (decimal n) c.extend_from_slice.ensures.items
    (one n c.digit.result c.digit.ensures (omega (arith, c.in-0-to-9)))

pub returns-in-10-to-99 : goal.returns-in-10-to-99
returns-in-10-to-99 c =
    let n = c.args.number in
    appended c.extend_from_slice-in-10-to-99.result c.args.out.now.items (c.digit-in-10-to-99.result ∷ c.digit-in-10-to-99-2.result ∷ []) c.extend_from_slice-in-10-to-99.new.self.items (decimal n) c.extend_from_slice-in-10-to-99.ensures.items
    (two n c.digit-in-10-to-99.result c.digit-in-10-to-99-2.result c.digit-in-10-to-99.ensures c.digit-in-10-to-99-2.ensures (omega (arith, c.in-10-to-99)) (omega (arith, c.in-10-to-99)))

pub returns-in-100-to-999 : goal.returns-in-100-to-999
returns-in-100-to-999 c =
    let n = c.args.number in
    appended c.extend_from_slice-in-100-to-999.result c.args.out.now.items (c.digit-first.result ∷ c.digit-in-100-to-999.result ∷ c.digit-in-100-to-999-2.result ∷ []) c.extend_from_slice-in-100-to-999.new.self.items (decimal n) c.extend_from_slice-in-100-to-999.ensures.items
    (three n c.digit-first.result c.digit-in-100-to-999.result c.digit-in-100-to-999-2.result c.digit-first.ensures c.digit-in-100-to-999.ensures c.digit-in-100-to-999-2.ensures (omega (arith, c.in-100-to-999)) (omega (arith, c.in-100-to-999)))

pub returns-in-1000-to-9999 : goal.returns-in-1000-to-9999
returns-in-1000-to-9999 c =
    let n = c.args.number in
    appended c.extend_from_slice-in-1000-to-9999.result c.args.out.now.items (c.digit-first-in-1000-to-9999.result ∷ c.digit-second.result ∷ c.digit-in-1000-to-9999.result ∷ c.digit-in-1000-to-9999-2.result ∷ []) c.extend_from_slice-in-1000-to-9999.new.self.items (decimal n) c.extend_from_slice-in-1000-to-9999.ensures.items
    (four n c.digit-first-in-1000-to-9999.result c.digit-second.result c.digit-in-1000-to-9999.result c.digit-in-1000-to-9999-2.result c.digit-first-in-1000-to-9999.ensures c.digit-second.ensures c.digit-in-1000-to-9999.ensures c.digit-in-1000-to-9999-2.ensures (omega (arith, c.in-1000-to-9999)) (omega (arith, c.in-1000-to-9999)))

pub returns-in-10000-to-99999 : goal.returns-in-10000-to-99999
returns-in-10000-to-99999 c =
    let n = c.args.number in
    appended c.extend_from_slice-in-10000-to-99999.result c.args.out.now.items (c.digit-first-in-10000-to-99999.result ∷ c.digit-second-in-10000-to-99999.result ∷ c.digit-third.result ∷ c.digit-in-10000-to-99999.result ∷ c.digit-in-10000-to-99999-2.result ∷ []) c.extend_from_slice-in-10000-to-99999.new.self.items (decimal n) c.extend_from_slice-in-10000-to-99999.ensures.items
    (five n c.digit-first-in-10000-to-99999.result c.digit-second-in-10000-to-99999.result c.digit-third.result c.digit-in-10000-to-99999.result c.digit-in-10000-to-99999-2.result c.digit-first-in-10000-to-99999.ensures c.digit-second-in-10000-to-99999.ensures c.digit-third.ensures c.digit-in-10000-to-99999.ensures c.digit-in-10000-to-99999-2.ensures (omega (arith, c.in-10000-to-99999)) (omega (arith, c.in-10000-to-99999)))
