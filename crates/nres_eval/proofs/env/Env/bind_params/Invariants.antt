use Rattle.std.proofs.Common.{◌≡◌, drop}
use Rattle.nres_core.specs.Mirror.{named_params}
use Rattle.nres_meaning.specs.Meaning.{bound}
use Rattle.nres_eval.proofs.env.Env.bind_params.Given as goal

abbrev pub invariant-loop-param : goal.invariant-loop-param
invariant-loop-param l = bound (named_params l.params) l.values l.initial.self ≡ bound (named_params (drop l.param-index l.params)) l.left l.self
