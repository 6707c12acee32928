use Rattle.std.proofs.Common.{◌≡◌, Option, Some, IfOk, ap, sym, subst, ◌∙◌}
use Rattle.target_judge.specs.Shape.{guard, and_then}
use Rattle.target_judge.specs.Judging as spec
use Rattle.target_judge.specs.States as states
use Rattle.target_judge.specs.Reads as reads
use Rattle.target_judge.proofs.judging.judge.Goals as goal

pub returns-in-Ok-true : goal.returns-in-Ok-true
unfolding spec.judge
returns-in-Ok-true c =
    let k = reads.judged_of c.test.new.judged in
    let there : Some k ≡ spec.tested c.args.line.phrase (reads.judged_of c.args.judged) = ap (λ b. guard b k) (sym c.in-Ok-true.field-0-test) ∙ c.in-Ok-true.ensures in
    subst (λ (o : Option spec.Judged). IfOk c.put.result (λ next. states.if_there reads.judged_of next ≡ and_then o (spec.put c.args.line))) there c.put.ensures
