use Rattle.rule_steps.proofs.row.+destroy.Given as goal

abbrev pub decreases-destroy : goal.decreases-destroy
decreases-destroy l = l.count
