use Rattle.std.proofs.Common.{◌≡◌, ℕ, suc, ◌+◌, ◌-◌, [], List, IfNone, sym, subst, arith}
use Rattle.target_text.specs.Runs.{Took, Stuck}
use Rattle.target_judge.specs.Reads as reads
use Rattle.target_text.proofs.Cuts.{is_nil, not_nil}
use Rattle.target_text.proofs.reader.read_lines.Goals as goal

pub returns-in-Ok-None-clause-line : goal.returns-in-Ok-None-clause-line
returns-in-Ok-None-clause-line c = λ k e.
    let same : c.loop-rest.count + 2 ≡ k = cc in
    let next : suc c.loop-rest.count ≡ k - 1 = omega (arith, same) in
    let some : c.loop-rest.rest.now ≡ [] → ⊥ = not_nil c.loop-rest.rest.now (sym c.loop-rest-test.ensures) in
    let S = Stuck c.args.lends c.args.bytes.now (suc c.loop-rest.count) in
    let stuck : S = subst (λ o. IfNone o S) c.in-Ok-None.field-0-is (c.in-Ok-None.ensures.stays c.args.bytes.now c.loop-rest.count c.loop-rest.invariant.0 some) in
    (subst (λ n. Stuck c.args.lends c.args.bytes.now n) next stuck, omega (arith, same, c.loop-rest.invariant.1))

pub returns-clause-all : goal.returns-clause-all
returns-clause-all c =
    let none : c.loop-rest.rest.now ≡ [] = is_nil c.loop-rest.rest.now (sym c.loop-rest-test.ensures) in
    subst (λ (r : List ℕ). Took c.args.lends c.args.bytes.now c.loop-rest.count (reads.judged_of c.loop-rest.judged) r) none c.loop-rest.invariant.0
