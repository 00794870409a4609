use Rattle.std.proofs.Common.{ℕ, true, List, [], ◌∷◌, ◌++◌, take, sym, ap, subst, ◌∙◌}
use Rattle.std.proofs.lemmas.List.{take_more}
use Rattle.gw_base.specs.declared.key.Key.{Key}
use Rattle.gw_base.proofs.KeyTests.{same-itself}
use Rattle.gw_table.specs.declared.undo_log.Write.{Write}
use Rattle.gw_table.specs.UndoLog.{key_written, keys_written}
use Rattle.gw_table.specs.Stored.{WereSwept}
use Rattle.gw_table.proofs.Swept.{swept_more}
use Rattle.gw_table.proofs.Undone.{keys_more, one_of_them}
use Rattle.gw_table.proofs.tables.Tables.sweep_writes.Goals as goal

pub sweep_write-requires : goal.sweep_write-requires
sweep_write-requires c =
    let w : Write = c.write-item.result in
    c.loop-write.invariant.out (key_written w)
    ∙ c.requires (key_written w) (one_of_them c.args.writes.now c.loop-write.write-index w (key_written w) true c.loop-write-test.true c.write-item.is (sym (same-itself (key_written w))))

pub loop-write-preserved : goal.loop-write-preserved
loop-write-preserved c =
    let ws : List Write = c.args.writes.now in
    let i : ℕ = c.loop-write.write-index in
    let w : Write = c.write-item.result in
    subst (λ (l : List Key). WereSwept l c.args.self.now c.sweep_write.new.self)
    (sym (ap keys_written (take_more ws i w c.loop-write-test.true ∙ ap (λ (x : Write). take i ws ++ x ∷ []) (sym c.write-item.is)) ∙ keys_more (take i ws) w))
    (swept_more (keys_written (take i ws)) (key_written w) c.args.self.now c.loop-write.self c.sweep_write.new.self c.loop-write.invariant c.sweep_write.ensures)
