use Rattle.std.proofs.Common.{◌≡◌, ◌++◌, take}
use Rattle.nres_print.specs.Blocks.{steps_at, step_text}
use Rattle.nres_print.proofs.blocks.+print.Given as goal

abbrev pub invariant-steps-each : goal.invariant-steps-each
invariant-steps-each l = l.out.items ≡ l.initial.out.items ++ steps_at step_text (take l.item-index l.list) l.level
