use Rattle.nres_core.specs.Mirror.{exp_of}
use Rattle.nres_types.specs.Findings.{told_of}
use Rattle.nres_types.proofs.Parts.{any_done}
use Rattle.nres_types.proofs.bodies.any.Goals as goal

pub returns : goal.returns
returns c = any_done (told_of c.args.findings.now) (told_of c.operand.new.findings) (told_of c.operand-2.new.findings) (exp_of c.args.low.now) (exp_of c.args.high.now) c.args.scope.now c.in_ok-vec.field-0.items c.in_ok-vec.ensures.items c.in_ok-operand.ensures c.in_ok-operand-2.ensures
