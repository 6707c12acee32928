use Rattle.std.proofs.Common.{◌≡◌, [], drop}
use Rattle.inputs.specs.Inputs as rules
use Rattle.inputs.specs.Kept.{seen}
use Rattle.inputs.proofs.lines.taken.Given as goal

-- what is left of the lines goes on from what was given
abbrev pub invariant-loop-line : goal.invariant-loop-line
invariant-loop-line l = rules.taken l.needs [] l.lines ≡ rules.taken l.needs (seen l.given) (drop l.line-index l.lines)
