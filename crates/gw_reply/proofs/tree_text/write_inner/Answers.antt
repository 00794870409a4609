use Rattle.std.proofs.Common.{Result, Ok, Err, OnOk, not, ap}
use Rattle.gw_reply.proofs.Joins.{inner_written}
use Rattle.gw_reply.proofs.tree_text.write_inner.Goals as goal

on_ok : {T E : Type 0} (r : Result T E) (P Q : Type 0) → (P → Q) → OnOk r P → OnOk r Q
on_ok (Ok x) P Q f p = f p
on_ok (Err e) P Q f p = p

pub returns : goal.returns
returns c =
    on_ok c.write_replies.result _ _
    (inner_written c.args.parts.now c.args.outcome.now c.args.out.now.items c.write_parts.new.out.items c.write_replies.new.out.items _ c.in_ok-write_parts.ensures (ap not c.is_empty.ensures))
    c.write_replies.ensures
