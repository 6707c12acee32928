use Rattle.std.proofs.Common.{◌≡◌, ◌++◌, drop}
use Rattle.ownership.specs.Entries.{shapes_of}
use Rattle.rule_check.specs.Steps.{call_shapes}
use Rattle.proc_rules.proofs.call.call_shapes.Given as goal

abbrev pub invariant-each : goal.invariant-each
invariant-each l = shapes_of l.shapes ++ call_shapes (drop l.rep-index l.outs) (shapes_of l.left) ≡ call_shapes l.outs (shapes_of l.fn.lists)
