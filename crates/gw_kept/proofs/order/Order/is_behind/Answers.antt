use Rattle.std.proofs.Common.{◌-◌, ℕ, Err, is_lt, is_some, sym, ap, subst, ◌∙◌, arith}
use Rattle.std.specs.VecDeque.{deque_len}
use Rattle.gw_kept.specs.Pairs.{key_by}
use Rattle.gw_kept.specs.Rows.{keys_in}
use Rattle.gw_kept.specs.Order.{IsStand}
use Rattle.gw_kept.proofs.Orders.{behind_all}
use Rattle.gw_kept.proofs.order.Order.is_behind.Goals as goal

pub returns-in-Some : goal.returns-in-Some
returns-in-Some c =
    λ order less.
    let keys = keys_in c.args.ring.now.items in
    let self = c.args.self.now in
    let key = key_by c.args.mid.now c.args.id in
    let some = c.back.ensures.variant.0 (ap (λ o. is_some o) c.in-Some.is) in
    subst (λ (n : ℕ). IsStand keys order.places key (Err n)) (sym self.numbers.ok.0)
    (behind_all keys self.first self.numbers.items key (deque_len self.numbers - 1) c.in-Some.number.now order (omega (arith, self.numbers.ok.0, some)) c.in-Some.ensures.lookup
    (sym (ap is_lt c.compare.ensures) ∙ sym c.is_lt.ensures ∙ less))
