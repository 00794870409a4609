use Rattle.std.proofs.Common.{true, ap, ◌∙◌}
use Rattle.std.specs.Prelude.{◌||◌}
use Rattle.gw_base.specs.Keys.{has}
use Rattle.gw_board.proofs.Waits.{any_aside, keys_more}
use Rattle.gw_board.proofs.waiting.Waiting.add.Goals as goal

pub returns-clause-more : goal.returns-clause-more
returns-clause-more c =
    keys_more c.args.self.now c.add_keys.new.self c.args.keys.now
    (λ q. c.in_ok-had.ensures.keys q ∙ ap (λ b. has c.args.keys.now q || b) (any_aside c.args.self.now true q))
    c.in_ok-had.ensures.any
