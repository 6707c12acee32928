use Rattle.std.proofs.Common.{◌≡◌, ℕ, suc, drop, ◌-◌, ◌<◌, nat_eq, not, Bool, true, false, get_or, true≢false, refl, ap, sym, ◌∙◌, arith}
use Rattle.std.specs.List.{list_any}
use Rattle.indexmap.specs.IndexSet.{contains}
use Rattle.target_judge.proofs.Distinct.{again}
use Rattle.target_judge.proofs.fits.are_distinct.Goals as goal

was_there : (b d : Bool) → b ≡ not d → b ≡ false → d ≡ true
was_there b true e h = refl
was_there b false e h = absurd (true≢false (sym e ∙ h))

pub returns-then-not-branch : goal.returns-then-not-branch
returns-then-not-branch c =
    let xs = c.args.registers.now in
    let k : ℕ = c.loop-end.end - 1 in
    let x : ℕ = get_or xs k 0 in
    let some : 0 < c.loop-end.end = c.loop-end-test.true in
    let up : suc k ≡ c.loop-end.end = omega (arith, some) in
    let found : contains nat_eq c.loop-end.seen x ≡ true = was_there _ (contains nat_eq c.loop-end.seen x) c.in_ok-insert.ensures.added c.if-not-branch.true in
    let behind : list_any (nat_eq x) (drop (suc k) xs) ≡ true = ap (λ n. list_any (nat_eq x) (drop n xs)) up ∙ sym (c.loop-end.invariant.2 x) ∙ found in
    sym (again k xs (omega (arith, up, c.loop-end.invariant.0)) behind)
