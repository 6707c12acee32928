use Rattle.unfit_line.proofs.Lines.{line_is_told}
use Rattle.unfit_line.proofs.laws.the_line_is_told.Goals as goal

pub returns : goal.returns
returns c = line_is_told
