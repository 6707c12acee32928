use Rattle.std.proofs.Common.{◌≡◌, ◌++◌, take}
use Rattle.std.specs.List.{flat_map}
use Rattle.rule_lines.specs.RuleLines.{rep_behind}
use Rattle.rule_lines.proofs.line.push_others.Given as goal

abbrev pub invariant-each : goal.invariant-each
invariant-each l = l.line.items ≡ l.initial.line.items ++ flat_map rep_behind (take l.rep-index l.reps)
