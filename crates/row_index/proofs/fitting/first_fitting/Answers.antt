use Rattle.std.proofs.Common.{ap, ◌∙◌}
use Rattle.row_index.specs.FirstRow.{rule_of_row}
use Rattle.row_index.proofs.FirstRowLemmas.{found_fits}
use Rattle.row_index.proofs.fitting.first_fitting.Goals as goal

pub returns : goal.returns
returns c = record { first = c.first_fit.ensures; fits = ap rule_of_row c.first_fit.ensures ∙ found_fits c.args.rows.now c.args.op c.args.reps.now c.args.made }
