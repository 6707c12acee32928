use Rattle.branch_merge.proofs.PlacesLemmas.{unmet_found}
use Rattle.branch_merge.proofs.slices.unmet.Goals as goal

pub returns : goal.returns
returns c = unmet_found c.args.left.now c.args.right.now c.in_ok-left_places.left_places c.in_ok-right_places.right_places c.args.context.now.spots c.first_one-here.result c.first_one-there.result c.earlier.result c.var_at.result
    c.in_ok-left_places.ensures c.in_ok-right_places.ensures c.first_one-here.ensures c.first_one-there.ensures c.earlier.ensures c.var_at.ensures
