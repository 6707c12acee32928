use Rattle.std.proofs.Common.{◌≡◌, ◌++◌, ◌-◌}
use Rattle.target_code.specs.Texts.{indent}
use Rattle.target_code.proofs.text.push_indent.Given as goal

abbrev pub invariant-loop : goal.invariant-loop
invariant-loop l = l.out.items ++ indent (l.level - l.counter) ≡ l.initial.out.items ++ indent l.level
