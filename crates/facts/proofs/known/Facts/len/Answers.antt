use Rattle.std.proofs.Common.{◌≡◌, ap, length, arith, []}
use Rattle.facts.specs.Logs.{facts_of}
use Rattle.facts.proofs.KnownLemmas.{length_onto}
use Rattle.facts.proofs.known.Facts.len.Goals as goal

pub returns : goal.returns
returns c =
    let k : length (facts_of c.self.inside.log.items) ≡ length c.args.self.now = ap length c.self.view_is in
    omega (arith, length_onto c.self.inside.log.items [])
