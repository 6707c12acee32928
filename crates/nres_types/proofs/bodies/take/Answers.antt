use Rattle.nres_core.specs.Mirror.{exp_of}
use Rattle.nres_types.specs.Findings.{told_of}
use Rattle.nres_types.proofs.Parts.{take_done}
use Rattle.nres_types.proofs.bodies.take.Goals as goal

pub returns : goal.returns
returns c =
    take_done (told_of c.args.findings.now) (told_of c.add_word.new.self) (told_of c.operand.new.findings) (exp_of c.args.arg.now) c.args.scope.now c.args.word.now c.bytes.result.now c.taken_from-from.result c.taker-op.result c.in_ok-vec.field-0.items
    c.bytes.ensures c.taker-op.ensures c.taken_from-from.ensures c.in_ok-add_word.ensures c.in_ok-operand.ensures c.in_ok-vec.ensures.items
