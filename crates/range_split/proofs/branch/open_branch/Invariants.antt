use Rattle.std.proofs.Common.{◌≡◌, ◌++◌, [], drop}
use Rattle.rule_check.specs.Context.{all_lend}
use Rattle.range_split.specs.Places.{Ascending, picked}
use Rattle.range_split.proofs.branch.open_branch.Given as goal

abbrev pub invariant-each : goal.invariant-each
invariant-each l =
    (picked (drop l.place-index l.places) (all_lend l.fn.others l.context.spots) ++ l.branch.spots ≡ picked l.places (all_lend l.fn.others l.context.spots)) × (l.branch.saved ≡ []) × Ascending (drop l.place-index l.places)
