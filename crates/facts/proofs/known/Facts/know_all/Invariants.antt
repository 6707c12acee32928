use Rattle.std.proofs.Common.{◌≡◌, ◌++◌, length}
use Rattle.facts.specs.Kept.{told_of}
use Rattle.facts.proofs.known.Facts.know_all.Given as goal

abbrev pub invariant-each : goal.invariant-each
invariant-each l = told_of l.left ++ l.self ≡ told_of l.facts ++ l.initial.self

abbrev pub decreases-each : goal.decreases-each
decreases-each l = length l.left
