use Rattle.std.proofs.Common.{◌<◌, List, length, get_or, ap, subst, ◌∙◌, arith}
use Rattle.gw_board.specs.declared.requested.BurstRequest.{BurstRequest}
use Rattle.gw_table.specs.Stored.{maps_of}
use Rattle.cases_board.proofs.Only.{first_unused}
use Rattle.cases_board.proofs.bench.write_only.Goals as goal

pub write_tree-requires-clause-unused : goal.write_tree-requires-clause-unused
write_tree-requires-clause-unused c =
    first_unused (maps_of c.args.tables) c.in-Ok-requests_in.requested.items c.one-item.result
    (subst (λ (l : List BurstRequest). 0 < length l) c.as_slice.ensures.value (omega (arith, c.in-len1.len_at_least)))
    (c.one-item.is ∙ ap (λ (l : List BurstRequest). get_or l 0 c.one-item.result) c.as_slice.ensures.value) c.in-Ok-requests_in.ensures
