use Rattle.std.proofs.Common.{◌≡◌, arith}
use Rattle.target_meaning.specs.Turns.{part_of}
use Rattle.store_parts.proofs.Steps.{parts_spans}
use Rattle.store_parts.proofs.places.are_apart.Goals as goal

pub returns : goal.returns
returns c =
    let z = c.if-one-two.false in
    let e : c.args.one.now.block ≡ c.args.two.now.block = omega arith in
    parts_spans (part_of c.args.one.now) (part_of c.args.two.now) c.spans_apart.result e c.spans_apart.ensures
