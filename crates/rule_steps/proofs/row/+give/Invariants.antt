use Rattle.rule_steps.proofs.row.+give.Given as goal

abbrev pub decreases-give : goal.decreases-give
decreases-give l = l.count
