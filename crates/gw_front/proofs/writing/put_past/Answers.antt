use Rattle.std.proofs.Common.{refl, ◌∙◌}
use Rattle.gw_front.proofs.Moving.{ok_mapped, err_mapped, written_through, front_through}
use Rattle.gw_front.proofs.writing.put_past.Goals as goal

pub returns-clause-whole : goal.returns-clause-whole
returns-clause-whole g c =
    ok_mapped c.write_whole.result (written_through _ _ _ _ _ _ _ refl c.in_ok-write_held.ensures.whole.0 (c.if-hold.ensures ∙ c.in_ok-write_held.ensures.whole.1)) c.write_whole.ensures.whole

pub returns-clause-front : goal.returns-clause-front
returns-clause-front g c =
    err_mapped c.write_whole.result (front_through _ _ _ _ _ _ refl c.in_ok-write_held.ensures.whole.0) c.write_whole.ensures.front
