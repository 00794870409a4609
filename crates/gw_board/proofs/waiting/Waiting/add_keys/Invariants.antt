use Rattle.std.proofs.Common.{◌≡◌, take}
use Rattle.std.specs.Prelude.{◌||◌}
use Rattle.std.specs.List.{list_any}
use Rattle.gw_base.specs.declared.key.Key.{Key}
use Rattle.gw_base.specs.Keys.{has}
use Rattle.gw_board.specs.Waiting.{is_waiting}
use Rattle.gw_board.proofs.waiting.Waiting.add_keys.Given as goal

-- the keys so far were added, and it is known whether one of them was there
abbrev pub invariant-loop-key : goal.invariant-loop-key
invariant-loop-key l = record {
  keys : (k : Key) → is_waiting l.self k ≡ (has (take l.key-index l.keys) k || is_waiting l.initial.self k);
  had : l.had ≡ list_any (is_waiting l.initial.self) (take l.key-index l.keys);
  any : l.self.is_any ≡ l.initial.self.is_any;
}
