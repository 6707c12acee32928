use Rattle.std.proofs.Common.{arith}
use Rattle.std.proofs.lemmas.Grind.{common_steps}
use Rattle.nres_print.proofs.Layers.{block_layer, body_layer}
use Rattle.nres_print.proofs.blocks.+print.Goals as goal

pub block-returns : goal.block-returns
block-returns t c = rw (block_layer c.args.block.now c.args.level) (grind (arith, common_steps))

pub give-returns : goal.give-returns
give-returns t c = rw (body_layer c.args.body.now c.args.level) (grind (arith, common_steps))
