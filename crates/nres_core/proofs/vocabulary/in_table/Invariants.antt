use Rattle.std.proofs.Common.{◌≡◌, drop, map}
use Rattle.nres_core.specs.Operations.{in_table}
use Rattle.nres_core.proofs.vocabulary.in_table.Given as goal

abbrev pub invariant-loop-known : goal.invariant-loop-known
invariant-loop-known l = in_table l.word (map (λ x. (x.0.now, x.1)) (drop l.known-index l.table)) ≡ in_table l.word (map (λ x. (x.0.now, x.1)) l.table)
