use Rattle.std.proofs.Common.{◌≡◌, take}
use Rattle.gw_text.proofs.token.is_next.Given as goal

-- so far the text has the bytes of the form
abbrev pub invariant-loop-i : goal.invariant-loop-i
invariant-loop-i l = take l.i l.text ≡ take l.i l.form
