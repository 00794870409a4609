-- A range of places that is executed in stretches, one after another.
use Rattle.std.proofs.Common.{◌≡◌, ◌≤◌, ℕ, ◌+◌, ◌-◌, List, take, drop, sym, ap, ◌∙◌, arith}
use Rattle.std.proofs.lemmas.List.{drop-drop, take-take}
use Rattle.gw_board.specs.Alone.{AreSameBeside}
use Rattle.gw_board.specs.Core.{Place}

-- what is the same beside a part of a range is so beside the range
pub beside_joined : (start first mid end : ℕ) (a b c : List Place) → start ≤ first → mid ≤ end → AreSameBeside start end a b → AreSameBeside first mid b c → AreSameBeside start end a c
beside_joined start first mid end a b c low high s t =
    let past : mid + (end - mid) ≡ end = omega (arith, high) in
    record {
      front = sym (take-take start first c low) ∙ ap (take start) t.front ∙ take-take start first b low ∙ s.front;
      behind = ap (λ n. drop n c) (sym past) ∙ sym (drop-drop (end - mid) mid c) ∙ ap (drop (end - mid)) t.behind ∙ drop-drop (end - mid) mid b ∙ ap (λ n. drop n b) past ∙ s.behind;
    }
