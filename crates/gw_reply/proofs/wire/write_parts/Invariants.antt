use Rattle.std.proofs.Common.{◌≡◌, ◌++◌, take}
use Rattle.gw_reply.specs.Lists.{parts_text}
use Rattle.gw_reply.proofs.wire.write_parts.Given as goal

-- the parts so far are written
abbrev pub invariant-loop-place : goal.invariant-loop-place
invariant-loop-place g l = l.out.items ≡ l.fn.out.items ++ parts_text g.T.Written.text l.behind (take l.place l.parts)
