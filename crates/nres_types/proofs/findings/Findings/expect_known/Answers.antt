use Rattle.std.proofs.Common.{None, ap, ◌∙◌}
use Rattle.nres_types.specs.Findings.{told_of, noted}
use Rattle.nres_rules.specs.Types.{all_want_known}
use Rattle.nres_types.proofs.Heads.{known_more, known_last}
use Rattle.nres_types.proofs.findings.Findings.expect_known.Goals as goal

pub loop-at-preserved : goal.loop-at-preserved
loop-at-preserved c = known_more (noted (told_of c.args.self.now) (all_want_known c.args.heads.now c.args.types.now)) (told_of c.loop-at.self) (told_of c.note.new.self) c.args.heads.now c.args.types.now c.loop-at.at c.min-at-end.result (record { line = 0; column = 0 }, None) None c.min-at-end.ensures c.loop-at-test.true c.loop-at.invariant (c.note.ensures ∙ ap (λ z. noted (told_of c.loop-at.self) z) c.wants_known.ensures)

pub returns : goal.returns
returns c = known_last (noted (told_of c.args.self.now) (all_want_known c.args.heads.now c.args.types.now)) (told_of c.loop-at.self) c.args.heads.now c.args.types.now c.loop-at.at c.min-at-end.result c.min-at-end.ensures c.loop-at-test.false c.loop-at.invariant
