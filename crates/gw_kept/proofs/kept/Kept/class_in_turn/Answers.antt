use Rattle.std.proofs.Common.{◌≡◌, ◌∷◌, ◌+◌, length, sym, subst, ◌∙◌, arith, rules}
use Rattle.gw_kept.specs.declared.class.Class.TheVariants.{New}
use Rattle.gw_kept.specs.declared.point.Point.{Point}
use Rattle.gw_kept.specs.declared.point.Point.TheVariants as point
use Rattle.gw_kept.specs.Classes.{class_of, kept_place}
use Rattle.gw_kept.specs.Rises.{IsTurn}
use Rattle.gw_kept.proofs.Rises.{now_apart, passes_new, passes_old}
use Rattle.gw_kept.proofs.kept.Kept.class_in_turn.Goals as goal

pub returns-in-New : goal.returns-in-New
returns-in-New c =
    λ s rest h.
    let k = c.args.self.now in
    let key = c.in-Request.key in
    let turn : IsTurn k s (point.Request key ∷ rest) c.args.total = subst (λ (x : Point). IsTurn k s (x ∷ rest) c.args.total) c.in-Request.is h in
    let found : New ≡ class_of (length k.pairs) s.pairs (kept_place key s) = sym c.in-New.is ∙ c.class_among.ensures s (now_apart k s key rest c.args.total turn) h.size in
    let more : c.saturating_add.result ≡ c.args.total + 1 = omega (arith, h.size, h.few, h.bounded.few, h.bounded.limit, c.saturating_add.ensures) in
    passes_new k s c.args.point.now key rest c.args.total c.saturating_add.result c.in-Request.is found more h

pub returns-in_default-class_among : goal.returns-in_default-class_among
returns-in_default-class_among c = search (rules, now_apart, passes_old)
