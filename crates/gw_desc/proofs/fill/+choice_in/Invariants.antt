use Rattle.gw_desc.proofs.fill.+choice_in.Given as goal

abbrev pub decreases-choice_in : goal.decreases-choice_in
decreases-choice_in l = l.place
