-- A text with zeros behind it lies at the front of the array.
use Rattle.std.proofs.Common.{◌≡◌, ℕ, ◌-◌, List, ◌++◌, length, take, replicate, refl, ap, sym, ◌∙◌}
use Rattle.std.proofs.lemmas.List.{take_at}
use Rattle.gw_base.specs.Padding.{IsPadded}

pub take_padded : (n : ℕ) (cells text : List ℕ) → cells ≡ text ++ replicate (n - length text) 0 → take (length text) cells ≡ text
take_padded n cells text e = ap (take (length text)) e ∙ take_at text (replicate (n - length text) 0) (length text) refl

pub padded_is : (n : ℕ) (cells text : List ℕ) → cells ≡ text ++ replicate (n - length text) 0 → IsPadded n (length text) cells
padded_is n cells text e =
    let t = take_padded n cells text e in
    record { whole = ap length t; zeros = e ∙ ap (λ (x : List ℕ). x ++ replicate (n - length text) 0) (sym t) }
