use Rattle.std.proofs.Common.{◌≡◌, refl, ℕ, ◌/◌, ◌+◌, ◌-◌, ◌%◌, ◌*◌, List, length, get_or, min, sym, ap, ◌∙◌, arith}
use Rattle.gw_bits.specs.BitSets.{has_bit}
use Rattle.gw_bits.proofs.Words.{first_before, first_found, next_before, next_found}
use Rattle.gw_bits.proofs.bit_set.BitSet.first_unmarked.Goals as goal

pub returns-then-bit-lt-BITS-clause-before : goal.returns-then-bit-lt-BITS-clause-before
returns-then-bit-lt-BITS-clause-before c n low high = first_before c.args.self.now c.args.from c.first_clear-bit.result c.word.result c.word.ensures c.first_clear-bit.ensures.within c.first_clear-bit.ensures.before n low (omega (arith, c.min.ensures))

pub returns-then-bit-lt-BITS-clause-found : goal.returns-then-bit-lt-BITS-clause-found
returns-then-bit-lt-BITS-clause-found c high =
    let here : c.min.result ≡ c.args.from - c.args.from % 64 + c.first_clear-bit.result = omega (arith, c.min.ensures) in
    ap (λ n. has_bit c.args.self.now n) here
    ∙ first_found c.args.self.now c.args.from c.first_clear-bit.result c.word.result c.word.ensures c.first_clear-bit.ensures.within c.first_clear-bit.ensures.behind c.if-bit-lt-BITS.true (c.first_clear-bit.ensures.clear c.if-bit-lt-BITS.true)

same : (c : goal.After-min-2) → c.deref.result.now ≡ c.args.self.now
same c = c.deref.ensures.value ∙ c.self.view_is

first_full : (c : goal.After-min-2) → c.first_clear-bit.result ≡ 64
first_full c = omega (arith, c.if-bit-lt-BITS.false, c.first_clear-bit.ensures.within)

pub returns-clause-before : goal.returns-clause-before
returns-clause-before c n low high =
    next_before c.args.self.now c.args.from c.first_unfilled-next.result c.first_clear.result c.word.result c.word-2.result c.word.ensures c.word-2.ensures c.first_unfilled-next.ensures.behind c.first_clear.ensures.within
    (λ i a b. c.first_clear-bit.ensures.before i a (omega (arith, first_full c)))
    (λ k a b. ap (λ (l : List ℕ). get_or l k 0) (sym (same c)) ∙ c.first_unfilled-next.ensures.before k a b)
    (λ i a b. c.first_clear.ensures.before i a b)
    n low (omega (arith, c.min-2.ensures))

pub returns-clause-found : goal.returns-clause-found
returns-clause-found c high =
    let here : c.min-2.result ≡ c.first_unfilled-next.result * 64 + c.first_clear.result = omega (arith, c.min-2.ensures) in
    ap (λ n. has_bit c.args.self.now n) here
    ∙ next_found c.args.self.now c.args.from c.first_unfilled-next.result c.first_clear.result c.word.result c.word-2.result c.word.ensures c.word-2.ensures c.first_unfilled-next.ensures.behind c.first_clear.ensures.within
    c.args.to c.min-end.result (c.min-end.ensures ∙ ap (λ n. min n (c.args.to / 64 + 1)) (c.len.ensures ∙ c.self.inside.words.ok.0 ∙ ap (λ (l : List ℕ). length l) c.self.view_is))
    (λ h e. c.first_unfilled-next.ensures.unfilled h (ap (λ (l : List ℕ). get_or l c.first_unfilled-next.result 0) (same c) ∙ e))
    c.first_clear.ensures.clear (λ e. c.first_clear.ensures.full refl e) (omega arith)
