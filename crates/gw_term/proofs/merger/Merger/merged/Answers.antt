use Rattle.std.proofs.Common.{Ok, subst}
use Rattle.gw_term.specs.Applies.{IsMerged}
use Rattle.gw_term.specs.declared.merger.Merger.{Merger}
use Rattle.gw_term.proofs.Gathering.{merged_is}
use Rattle.gw_term.proofs.merger.Merger.merged.Goals.{then-is_none+in_ok-by+in-Some-1, then-is_none+in_ok-by+in-None-1, else-is_none}
use Rattle.gw_term.proofs.merger.Merger.merged.Goals as goal

pub returns-clause-merged : goal.returns-clause-merged
returns-clause-merged c =
    let self = c.if-is_none.self in
    let sent = c.in-Some-gathered.sent in
    let done = merged_is self.rules.now self.descriptors.now c.args.old.now sent (Ok c.in_ok-applied-2.applied) (self.sends sent c.in-Some-gathered.is) c.in_ok-applied-2.ensures in
    elim c.if-is_none.branch [
      | then-is_none+in_ok-by+in-Some-1 w ↦ subst (λ (s : Merger). IsMerged s.rules.now s.descriptors.now c.args.old.now (Ok c.in_ok-applied-2.applied)) w.self-is done
      | then-is_none+in_ok-by+in-None-1 w ↦ subst (λ (s : Merger). IsMerged s.rules.now s.descriptors.now c.args.old.now (Ok c.in_ok-applied-2.applied)) w.self-is done
      | else-is_none w ↦ subst (λ (s : Merger). IsMerged s.rules.now s.descriptors.now c.args.old.now (Ok c.in_ok-applied-2.applied)) w.self-is done
    ]
