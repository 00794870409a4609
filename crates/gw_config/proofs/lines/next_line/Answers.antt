use Rattle.std.proofs.Common.{arith, ap, ◌∙◌, ◌∷◌, List, ℕ, sym}
use Rattle.std.specs.Str.Lines.{lines}
use Rattle.gw_config.proofs.FirstLines.{ended_line, last_line}
use Rattle.gw_config.proofs.lines.next_line.Goals as goal

pub returns-in-Some-clause-lines : goal.returns-in-Some-clause-lines
returns-in-Some-clause-lines c =
    ended_line c.args.text.now c.in-Some.raw.now c.in-Some.behind.now c.in-Some.ensures.split c.in-Some.ensures.first
    ∙ ap (λ (x : List ℕ). x ∷ lines c.in-Some.behind.now) (sym c.without_return.ensures)

pub returns-in-None-clause-lines : goal.returns-in-None-clause-lines
returns-in-None-clause-lines c = last_line c.args.text.now (grind arith) c.in-None.ensures.none
