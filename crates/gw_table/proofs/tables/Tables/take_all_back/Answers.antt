use Rattle.std.proofs.Common.{◌≡◌, true, List, ap, sym, ◌∙◌}
use Rattle.gw_base.specs.declared.key.Key.{Key}
use Rattle.gw_base.specs.Keys.{has}
use Rattle.gw_table.specs.declared.undo_log.Write.{Write}
use Rattle.gw_table.specs.UndoLog.{key_written, keys_written, undone}
use Rattle.gw_table.specs.Stored.{maps_of}
use Rattle.gw_table.proofs.Undone.{undone_more, last_written, written_before}
use Rattle.gw_table.proofs.tables.Tables.take_all_back.Goals as goal

pub take_back-requires : goal.take_back-requires
take_back-requires c =
    let last : has (keys_written c.loop-write.writes.items) (key_written c.in-Some.write) ≡ true =
    ap (λ (l : List Write). has (keys_written l) (key_written c.in-Some.write)) c.in-Some.ensures.items ∙ last_written c.pop.new.self.items c.in-Some.write in
    record { ready = c.loop-write.invariant.ready (key_written c.in-Some.write) last; here = c.loop-write.invariant.here (key_written c.in-Some.write) last }

pub loop-write-preserved : goal.loop-write-preserved
loop-write-preserved c =
    let before : (k : Key) → has (keys_written c.pop.new.self.items) k ≡ true → has (keys_written c.loop-write.writes.items) k ≡ true =
    λ k h. ap (λ (l : List Write). has (keys_written l) k) c.in-Some.ensures.items ∙ written_before c.pop.new.self.items c.in-Some.write k h in
    record {
      back =
          ap (undone c.pop.new.self.items) c.take_back.ensures.maps ∙ sym (undone_more c.pop.new.self.items c.in-Some.write (maps_of c.loop-write.self))
          ∙ ap (λ (l : List Write). undone l (maps_of c.loop-write.self)) (sym c.in-Some.ensures.items) ∙ c.loop-write.invariant.back;
      ready = λ k h. c.take_back.ensures.ready k ∙ c.loop-write.invariant.ready k (before k h);
      here = λ k h. c.take_back.ensures.out k ∙ c.loop-write.invariant.here k (before k h);
      as_out = λ k. c.take_back.ensures.out k ∙ c.loop-write.invariant.as_out k;
      as_ready = λ k. c.take_back.ensures.ready k ∙ c.loop-write.invariant.as_ready k;
    }
