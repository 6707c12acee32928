use Rattle.nres_core.specs.Mirror.{exp_of}
use Rattle.nres_types.specs.Findings.{told_of}
use Rattle.nres_types.proofs.Parts.{value_done}
use Rattle.nres_types.proofs.bodies.value.Goals as goal

pub returns : goal.returns
returns c = value_done (told_of c.args.findings.now) (told_of c.expr.new.findings) (exp_of c.args.tree.now) c.args.scope.now c.in_ok-found.found c.in_ok-vec.field-0.items c.in_ok-found.ensures c.in_ok-vec.ensures.items
