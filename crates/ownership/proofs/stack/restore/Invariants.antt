use Rattle.std.proofs.Common.{◌≡◌, [], length, drop, take}
use Rattle.context_laws.specs.Stacks.{undone}
use Rattle.ownership.specs.Entries.{onto}
use Rattle.ownership.proofs.stack.restore.Given as goal

abbrev pub invariant-loop-trail : goal.invariant-loop-trail
invariant-loop-trail l = record {
  entries : undone (drop l.count l.initial.trail) (onto l.initial.stack []) ≡ undone (drop l.count l.trail) (onto l.stack []);
  trail : take l.count l.initial.trail ≡ take l.count l.trail;
}

abbrev pub decreases-loop-trail : goal.decreases-loop-trail
decreases-loop-trail l = length l.trail
