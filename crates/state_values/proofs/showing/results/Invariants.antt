use Rattle.std.proofs.Common.{List}
use Rattle.relations.specs.Values.{live}
use Rattle.run_results.proofs.Values.{SoFar}
use Rattle.target_code.specs.declared.tree.Proc.{Proc}
use Rattle.target_meaning.specs.States.{state_of}
use Rattle.state_values.proofs.showing.results.Given as goal

abbrev pub invariant-loop-index : goal.invariant-loop-index
invariant-loop-index l = (procs : List Proc) → SoFar (live (state_of procs l.state).heap) l.outs l.fn.regs l.index l.rest l.values.items
