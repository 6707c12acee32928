use Rattle.std.proofs.Common.{◌≡◌, drop}
use Rattle.nres_rules.specs.Types.{params_fit}
use Rattle.nres_types.specs.Findings.{told_of, noted}
use Rattle.nres_types.proofs.specs.fit_params.Given as goal

abbrev pub invariant-loop-param : goal.invariant-loop-param
invariant-loop-param l = noted (told_of l.fn.findings) (params_fit l.params) ≡ noted (told_of l.findings) (params_fit (drop l.param-index l.params))
