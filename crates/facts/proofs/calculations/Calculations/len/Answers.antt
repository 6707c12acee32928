use Rattle.std.proofs.Common.{◌≡◌, ap, length, arith, []}
use Rattle.facts.specs.Stacks.{defs_of}
use Rattle.facts.proofs.StackLemmas.{length_defs}
use Rattle.facts.proofs.calculations.Calculations.len.Goals as goal

pub returns : goal.returns
returns c =
    let k : length (defs_of c.self.inside.list.items []) ≡ length c.args.self.now = ap length c.self.view_is in
    omega (arith, length_defs c.self.inside.list.items [])
