use Rattle.sequences.proofs.sequence.Sequence.+repeated.Given as goal

abbrev pub decreases-repeated : goal.decreases-repeated
decreases-repeated g l = l.count
