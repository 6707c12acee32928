use Rattle.std.proofs.Common.{subst}
use Rattle.proof_check.specs.Verdict.{IsFollowed, StandsWith}
use Rattle.proof_check.proofs.Verdicts.{found_all, found_other, none_stands, not_found}
use Rattle.proof_check.proofs.verdict.verdict.Goals as goal

pub returns-in_default : goal.returns-in_default
returns-in_default c = λ V f T lines s l. none_stands V f T lines (subst (StandsWith f T) c.in_default.is s)

pub returns-in-Unmet : goal.returns-in-Unmet
returns-in-Unmet c = λ V f T lines s l.
    let t = subst (StandsWith f T) c.in-Some.is s in
    let m = subst (IsFollowed V f T lines) c.in-Unmet.is l in
    not_found V f T lines c.in-Some.branches c.in-Unmet.line m.0 t m.1 m.2

pub returns-then-count-branches : goal.returns-then-count-branches
returns-then-count-branches c = λ V f T lines s l.
    let t = subst (StandsWith f T) c.in-Some.is s in
    let m = subst (IsFollowed V f T lines) c.in-Found.is l in
    found_all V f T lines c.in-Some.branches c.in-Found.count m.0 t m.1 m.2 c.if-count-branches.true

pub returns-else-count-branches : goal.returns-else-count-branches
returns-else-count-branches c = λ V f T lines s l.
    let t = subst (StandsWith f T) c.in-Some.is s in
    let m = subst (IsFollowed V f T lines) c.in-Found.is l in
    found_other V f T lines c.in-Some.branches c.in-Found.count m.0 t m.1 m.2 c.if-count-branches.false
