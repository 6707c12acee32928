use Rattle.std.proofs.Common.{◌≡◌, length, ap, ◌∙◌, arith}
use Rattle.std.specs.FinMap as maps
use Rattle.images.proofs.encoding.map_table.Goals as goal

pub map-requires : goal.map-requires
map-requires c =
    let len : length c.as_slice.result.now ≡ length (maps.entries c.args.map.now) = ap (λ ws. length ws) (c.as_slice.ensures.value ∙ c.in_ok-entries.ensures) in
    omega (arith, len, maps.len-entries c.args.map.now, c.requires)
