-- The cells come back from the text that lies in them (own).
use Rattle.std.proofs.Common.{◌≡◌, ℕ, ◌-◌, List, ◌++◌, length, take, replicate, ap, sym, ◌∙◌}
use Rattle.gw_base.specs.Padding.{IsPadded}
use Rattle.gw_base.specs.declared.inline.Inline.TheInside.{Inside}

cells_back : (n len : ℕ) (cells : List ℕ) → IsPadded n len cells → ◌≡◌ {A = ℕ × List ℕ} (length (take len cells), take len cells ++ replicate (n - length (take len cells)) 0) (len, cells)
cells_back n len cells h =
    let f : ℕ → ℕ × List ℕ = λ k. (k, take len cells ++ replicate (n - k) 0) in
    let g : List ℕ → ℕ × List ℕ = λ x. (len, x) in
    ap f h.whole ∙ ap g (sym h.zeros)

abbrev made : (n : ℕ) → ℕ × List ℕ → Inside n
made n p = record { len = p.0; cells = p.1 }

pub padded_back : (n : ℕ) (a : Inside n) → IsPadded n a.len a.cells → made n (length (take a.len a.cells), take a.len a.cells ++ replicate (n - length (take a.len a.cells)) 0) ≡ a
padded_back n a h = ap (made n) (cells_back n a.len a.cells h)
