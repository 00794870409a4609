use Rattle.gw_front.proofs.Streams.{turn_done}
use Rattle.gw_front.proofs.writing.write_whole.Goals as goal

pub loop-turn-preserved : goal.loop-turn-preserved
loop-turn-preserved g c =
    turn_done (g.W.Write.contents c.args.out.now) (g.W.Write.contents c.loop-turn.out) (g.W.Write.contents c.write_some.new.out) c.loop-turn.written c.in_ok-written.field-0 c.args.text.now
    c.loop-turn.invariant c.in_ok-written.ensures.bound c.in_ok-written.ensures.front
