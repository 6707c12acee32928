use Rattle.std.proofs.Common.{None}
use Rattle.nres_core.specs.declared.ty.Ty.TheVariants.{Nat}
use Rattle.nres_types.specs.Findings.{told_of, noted}
use Rattle.nres_rules.specs.Types.{all_want}
use Rattle.nres_types.proofs.Heads.{want_more, want_last}
use Rattle.nres_types.proofs.findings.Findings.expect_all.Goals as goal

pub loop-at-preserved : goal.loop-at-preserved
loop-at-preserved c = want_more (noted (told_of c.args.self.now) (all_want c.args.heads.now c.args.types.now)) (told_of c.loop-at.self) (told_of c.expect.new.self) c.args.heads.now c.args.types.now c.loop-at.at c.min-at-end.result (record { line = 0; column = 0 }, None) Nat c.min-at-end.ensures c.loop-at-test.true c.loop-at.invariant c.expect.ensures

pub returns : goal.returns
returns c = want_last (noted (told_of c.args.self.now) (all_want c.args.heads.now c.args.types.now)) (told_of c.loop-at.self) c.args.heads.now c.args.types.now c.loop-at.at c.min-at-end.result c.min-at-end.ensures c.loop-at-test.false c.loop-at.invariant
