use Rattle.std.proofs.Common.{take}
use Rattle.op_identify.specs.Fronts.{FunsBegin}
use Rattle.op_identify.proofs.whole.funs.Given as goal

abbrev pub invariant-each : goal.invariant-each
invariant-each l = FunsBegin (take l.item-index l.list) l.initial.ops l.same l.ops
