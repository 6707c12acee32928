use Rattle.std.proofs.Common.{◌≡◌, ◌++◌, drop}
use Rattle.inputs.specs.Inputs as rules
use Rattle.inputs.specs.Kept.{asked}
use Rattle.inputs.proofs.wanted.of_program.Given as goal

-- what was asked for stands in front of what is left
abbrev pub invariant-loop-input : goal.invariant-loop-input
invariant-loop-input l = rules.by_representations l.ins ≡ asked l.wanted.items ++ rules.by_representations (drop l.input-index l.ins)
