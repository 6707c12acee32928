use Rattle.std.proofs.Common.{◌≡◌, drop, map}
use Rattle.nres_core.specs.Operations.{in_table}
use Rattle.nres_automaton.proofs.lexeme.in_list.Given as goal

abbrev pub invariant-loop-bytes : goal.invariant-loop-bytes
invariant-loop-bytes l = in_table l.word (map (λ x. (x.0.now, x.1)) (drop l.bytes-index l.list)) ≡ in_table l.word (map (λ x. (x.0.now, x.1)) l.list)
