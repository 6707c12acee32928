use Rattle.std.proofs.Common.{◌≡◌, drop}
use Rattle.inputs.specs.Inputs as rules
use Rattle.inputs.proofs.fault.first_from.Given as goal

-- none of the numbers so far is it
abbrev pub invariant-loop-number : goal.invariant-loop-number
invariant-loop-number l = rules.first_from l.bound l.numbers ≡ rules.first_from l.bound (drop l.number-index l.numbers)
