use Rattle.std.proofs.Common.{◌≡◌, ◌++◌, drop}
use Rattle.ownership.specs.Entries.{shapes_of}
use Rattle.fit_steps.specs.Parts as parts
use Rattle.fit_steps.proofs.shapes.out_shapes.Given as goal

abbrev pub invariant-each : goal.invariant-each
invariant-each l = shapes_of l.shapes ++ parts.out_shapes l.context.spots (drop l.out-index l.outs) ≡ parts.out_shapes l.context.spots l.outs
