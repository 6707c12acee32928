use Rattle.std.proofs.Common.{◌≡◌, [], length}
use Rattle.context_laws.specs.Stacks.{AllDiffer}
use Rattle.ownership.specs.Entries.{onto}
use Rattle.ownership.specs.Tables.{Agrees}
use Rattle.rule_check.specs.Context.{outer}
use Rattle.ownership.proofs.stack.shorten.Given as goal

abbrev pub invariant-loop-stack : goal.invariant-loop-stack
invariant-loop-stack l = record {
  outer : outer l.count (onto l.initial.stack []) ≡ outer l.count (onto l.stack []);
  agrees : Agrees (onto l.stack []) l.table;
  differ : AllDiffer (onto l.stack []);
}

abbrev pub decreases-loop-stack : goal.decreases-loop-stack
decreases-loop-stack l = length l.stack
