use Rattle.std.proofs.Common.{◌≡◌, ℕ, ◌+◌, List, take, sym, ◌∙◌}
use Rattle.std.specs.Prelude.{◌||◌}
use Rattle.gw_base.specs.declared.key.Key.{Key}
use Rattle.gw_base.specs.Keys.{has}
use Rattle.gw_board.specs.Waiting.{is_waiting}
use Rattle.gw_board.proofs.Waits.{had_more, has_more}
use Rattle.gw_board.proofs.waiting.Waiting.add_keys.Goals as goal

pub loop-key-preserved : goal.loop-key-preserved
loop-key-preserved c =
    let keys : List Key = c.args.keys.now in
    let i : ℕ = c.loop-key.key-index in
    let key : Key = c.key-item.result in
    let more : (q : Key) → is_waiting c.add_key.new.self q ≡ (has (take (i + 1) keys) q || is_waiting c.args.self.now q) =
    λ q. c.in_ok-had.ensures.keys q ∙ has_more c.args.self.now c.loop-key.self keys i key c.loop-key-test.true c.key-item.is c.loop-key.invariant.keys q in
    record {
      keys = more;
      had = (λ j. c.loop-key.invariant.had j || c.in_ok-had.field-0)
          ∙ sym (had_more c.args.self.now c.loop-key.self keys i key c.in_ok-had.field-0 c.requires c.loop-key-test.true c.key-item.is c.loop-key.invariant.keys (sym c.in_ok-had.ensures.had));
      any = c.in_ok-had.ensures.any ∙ c.loop-key.invariant.any;
    }
