use Rattle.std.proofs.Common.{◌≡◌, length, ap, ◌∙◌, arith}
use Rattle.containers.specs.Sets as sets
use Rattle.image_laws.proofs.Encodes.{items_length}
use Rattle.images.proofs.encoding.set_table.Goals as goal

pub set-requires : goal.set-requires
set-requires c =
    let len : length c.as_slice.result.now ≡ length (sets.items c.args.set.now) = ap (λ ws. length ws) (c.as_slice.ensures.value ∙ c.in_ok-numbers.ensures) in
    omega (arith, len, items_length c.args.set.now, c.requires)
