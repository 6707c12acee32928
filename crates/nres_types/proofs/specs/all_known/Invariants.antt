use Rattle.std.proofs.Common.{◌≡◌, ◌++◌, drop, map, Some}
use Rattle.nres_types.proofs.specs.all_known.Given as goal

abbrev pub invariant-loop-one : goal.invariant-loop-one
invariant-loop-one g l = l.found ≡ map (λ x. Some x) l.known ++ drop l.one-index l.found
