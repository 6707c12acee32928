use Rattle.std.proofs.Common.{refl}
use Rattle.nres_flat.proofs.Bodies.{valued}
use Rattle.nres_flat.proofs.Outcomes.{if_ok}
use Rattle.nres_flat.proofs.plain.value.Goals as goal

pub returns : goal.returns
returns c number = if_ok c.from_slice.result (λ us h. valued number c.args.tree.now c.args.pattern.now c.args.scope.now refl c.first.ensures c.in_ok-arg.ensures h) c.from_slice.ensures
