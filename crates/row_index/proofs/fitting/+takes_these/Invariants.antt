use Rattle.row_index.proofs.fitting.+takes_these.Given as goal

abbrev pub decreases-takes_these : goal.decreases-takes_these
decreases-takes_these l = l.count
