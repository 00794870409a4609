use Rattle.std.proofs.Common.{◌≡◌, drop}
use Rattle.gw_table.specs.Parts.{Only, restricted}
use Rattle.gw_board.proofs.ChainRuns.{IsLeft}
use Rattle.gw_board.proofs.chain.Chain.execute.Given as goal

-- what is left of the chain leads to what all of it comes to
abbrev pub invariant-loop-task : goal.invariant-loop-task
invariant-loop-task l = record {
  keys : l.draft.keys ≡ Only l.self.keys;
  left : IsLeft l.self.profile l.self.keys l.self.requested (restricted l.self.keys l.self.maps) (drop l.task-index l.self.requested) l.draft.maps l.texts.items;
}
