use Rattle.std.proofs.Common.{◌≡◌, ◌++◌, [], length, nat_eq}
use Rattle.indexmap.specs.IndexSet.{contains}
use Rattle.rule_check.specs.Facts.{learnt}
use Rattle.facts.specs.Kept.{defs_from, told_of}
use Rattle.facts.specs.Stacks.{defs_of, AllCover}
use Rattle.facts.specs.Wants.{told_if}
use Rattle.facts.proofs.learnt.told.Given as goal

abbrev pub invariant-each : goal.invariant-each
invariant-each l = AllCover l.left [] × (told_of l.found.items ++ told_if (defs_from l.fn.place (defs_of l.left [])) (contains nat_eq l.wanted) ≡ learnt (defs_from l.fn.place (defs_of l.fn.kept [])) l.fn.test)

abbrev pub decreases-each : goal.decreases-each
decreases-each l = length l.left
