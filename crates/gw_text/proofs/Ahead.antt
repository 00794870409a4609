-- Two places further on in a text: where as much is left, the same is left.
use Rattle.std.proofs.Common.{◌≡◌, ◌+◌, ◌∙◌, ℕ, List, ◌++◌, length, take, drop, ap, sym, arith, length-append}
use Rattle.std.proofs.Math.Seq.{drop-append_seam}
use Rattle.std.proofs.lemmas.List.{take-append-drop}
use Rattle.gw_text.specs.Longest.{IsAhead}

pub further_on : (text : List ℕ) (n : ℕ) (there : List ℕ) → there ≡ drop n text → IsAhead text there
further_on text n there e = (take n text, sym (take-append-drop n text) ∙ ap (λ (x : List ℕ). take n text ++ x) (sym e))

pub one_ahead : (here a b : List ℕ) → IsAhead here a → IsAhead here b → length a ≡ length b → a ≡ b
one_ahead here a b to_a to_b as_long =
    let split : to_a.0 ++ a ≡ to_b.0 ++ b = sym to_a.1 ∙ to_b.1 in
    let lengths : length to_a.0 + length a ≡ length to_b.0 + length b = sym (length-append to_a.0 a) ∙ ap length split ∙ length-append to_b.0 b in
    let gone : length to_a.0 ≡ length to_b.0 = omega (arith, lengths, as_long) in
    sym (drop-append_seam to_a.0 a) ∙ ap (λ (n : ℕ). drop n (to_a.0 ++ a)) gone ∙ ap (drop (length to_b.0)) split ∙ drop-append_seam to_b.0 b
