use Rattle.std.proofs.Common.{◌≡◌, take}
use Rattle.nres_rules.specs.Flatten.{shown_reps}
use Rattle.nres_flat.proofs.whole.shown.Given as goal

abbrev pub invariant-each : goal.invariant-each
invariant-each l = l.reps ≡ shown_reps (take l.item-index l.list)
