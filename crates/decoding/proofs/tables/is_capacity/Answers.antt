use Rattle.std.proofs.Common.{◌≡◌, ◌∙◌, sym, ap, arith}
use Rattle.image_laws.specs.Held as held
use Rattle.decoding.proofs.tables.is_capacity.Goals as goal

pub returns : goal.returns
returns c = c.loop-exponent.invariant ∙ ap (held.some (held.is_size c.args.capacity)) (let e : c.loop-exponent.exponent ≡ 61 = omega (arith, c.loop-exponent-test.false, c.loop-exponent.auto.exponent-end) in e)
