use Rattle.std.proofs.Common.{◌≡◌, ◌-◌, ◌≤◌, ◌<◌, length, sym, ◌∙◌, arith}
use Rattle.gw_kept.specs.Classes.{kept_place, most_new}
use Rattle.gw_kept.proofs.Indexes.{is_new, is_over}
use Rattle.gw_kept.proofs.Rises.{kept_in_steps}
use Rattle.gw_kept.proofs.kept.Kept.class_among.Goals as goal

pub returns-in-Some : goal.returns-in-Some
returns-in-Some c = grind (arith, kept_in_steps)

pub returns-then-saturating_sub-ge-MOST_NEW : goal.returns-then-saturating_sub-ge-MOST_NEW
returns-then-saturating_sub-ge-MOST_NEW c =
    λ s h size.
    let k = c.args.self.now in
    let key = c.args.key.now in
    let found : c.kept_place.result ≡ kept_place key s = kept_in_steps k key s c.args.total c.saturating_sub-oldest.result c.most.result c.place.result c.kept_place.result h size c.kept_place.ensures c.saturating_sub-oldest.ensures c.most.ensures c.place.ensures.place in
    let more : most_new ≤ length s.pairs - length k.pairs = omega (arith, size, c.len-before.ensures.value, c.saturating_sub.ensures, c.if-saturating_sub-ge-MOST_NEW.true) in
    is_over (length k.pairs) s.pairs (kept_place key s) (sym found ∙ c.in_default.is) more

pub returns : goal.returns
returns c =
    λ s h size.
    let k = c.args.self.now in
    let key = c.args.key.now in
    let found : c.kept_place.result ≡ kept_place key s = kept_in_steps k key s c.args.total c.saturating_sub-oldest.result c.most.result c.place.result c.kept_place.result h size c.kept_place.ensures c.saturating_sub-oldest.ensures c.most.ensures c.place.ensures.place in
    let less : length s.pairs - length k.pairs < most_new = omega (arith, size, c.len-before.ensures.value, c.saturating_sub.ensures, c.if-saturating_sub-ge-MOST_NEW.false) in
    is_new (length k.pairs) s.pairs (kept_place key s) (sym found ∙ c.in_default.is) less
