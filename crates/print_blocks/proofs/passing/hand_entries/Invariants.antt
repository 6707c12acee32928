use Rattle.print_blocks.proofs.passing.hand_entries.Given as goal

abbrev pub decreases-back : goal.decreases-back
decreases-back l = l.index
