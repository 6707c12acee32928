use Rattle.std.proofs.Common.{◌≡◌, length, arith}
use Rattle.nres_types.specs.Findings.{told_of}
use Rattle.nres_types.proofs.Parts.{results_done}
use Rattle.nres_types.proofs.bodies.fit_results.Goals as goal

pub returns : goal.returns
returns c =
    let m : c.len.result ≡ length c.args.results.now.heads.items = omega (arith, c.args.results.now.heads.ok) in
    results_done (told_of c.args.findings.now) (told_of c.count.new.self) (told_of c.expect_known.new.self) c.args.results.now.place c.args.results.now.heads.items c.as_slice.result.now c.args.types.now c.len.result m c.as_slice.ensures.value c.count.ensures c.expect_known.ensures
