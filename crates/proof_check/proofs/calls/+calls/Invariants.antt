use Rattle.std.proofs.Common.{◌≡◌, ◌++◌, drop, map}
use Rattle.unfit_line.specs.Tests.{all_names, code_calls, instr_calls}
use Rattle.proof_check.specs.Whole.{seen}
use Rattle.proof_check.proofs.calls.+calls.Given as goal

abbrev pub invariant-in_code-each : goal.invariant-in_code-each
invariant-in_code-each l = seen l.names.items ++ all_names (map instr_calls (drop l.item-index l.item-items)) ≡ seen l.initial.names.items ++ code_calls l.code
