use Rattle.std.proofs.Common.{◌≡◌, drop}
use Rattle.nres_meaning.specs.Meaning.{bound}
use Rattle.nres_eval.proofs.env.Env.bind_all.Given as goal

abbrev pub invariant-loop-named : goal.invariant-loop-named
invariant-loop-named l = bound l.names l.values l.initial.self ≡ bound (drop l.named-index l.names) l.left l.self
