use Rattle.std.proofs.Common.{nat_eq}
use Rattle.indexmap.specs.IndexSet.{contains}
use Rattle.branch_merge.proofs.PlacesLemmas.{more_places}
use Rattle.branch_merge.proofs.places.Places.new.Goals as goal

pub each-preserved : goal.each-preserved
each-preserved c = more_places c.args.list.now c.each.index-index (contains nat_eq c.each.set) (contains nat_eq c.insert.new.self) c.each-test.true c.each.invariant c.in_ok-insert.ensures.updates.0
