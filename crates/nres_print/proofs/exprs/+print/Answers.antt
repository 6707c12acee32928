use Rattle.std.proofs.Common.{arith, sym}
use Rattle.std.proofs.lemmas.Grind.{common_steps}
use Rattle.nres_print.proofs.Layers.{expr_layer}
use Rattle.nres_print.proofs.exprs.+print.Goals as goal

pub expr-returns-then-stands : goal.expr-returns-then-stands
expr-returns-then-stands t c = let e = expr_layer c.args.e.now c.args.level in let s = sym c.if-stands.ensures in rw (e, s) c.plain.ensures

pub expr-returns : goal.expr-returns
expr-returns t c = let e = expr_layer c.args.e.now c.args.level in let s = sym c.if-stands.ensures in rw (e, s) (grind (arith, common_steps))
