use Rattle.std.proofs.Common.{◌≡◌, drop}
use Rattle.inputs.specs.Inputs as rules
use Rattle.inputs.specs.Kept.{asked, onto, seen}
use Rattle.inputs.proofs.lines.chosen.Given as goal

-- the values are in front of those of the names that are left
abbrev pub invariant-loop-want : goal.invariant-loop-want
invariant-loop-want l = rules.chosen (seen l.given) (asked l.wanted) ≡ onto l.values.items (rules.chosen (seen l.given) (asked (drop l.want-index l.wanted)))
