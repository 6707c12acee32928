use Rattle.std.proofs.Common.{◌∷◌, refl, ap, ◌∙◌}
use Rattle.nres_flat.proofs.Lookups.{earlier}
use Rattle.nres_flat.proofs.known.procedures.Goals as goal

pub each-preserved : goal.each-preserved
each-preserved c = earlier c.args.funs.now c.each.made _ c.each-test.true refl c.bytes.ensures c.each.invariant (c.in_ok-bind.ensures ∙ ap (λ n. (c.bytes.result.now, n) ∷ c.each.numbers) c.in_ok-number.ensures)
