use Rattle.std.proofs.Common.{◌≡◌, ◌∙◌, length, ap, sym, arith}
use Rattle.fit_steps.proofs.ShapesLemmas.{infos_count}
use Rattle.fit_steps.proofs.calc.meets.Goals as goal

pub returns-in_default-clause-meets : goal.returns-in_default-clause-meets
returns-in_default-clause-meets c = λ s x y e is.
    let n : length c.args.infos.now ≡ 2 = sym (infos_count c.args.infos.now) ∙ ap length e in
    absurd (let o : ⊥ = omega (arith, n, c.in_default.len_below) in o)

pub returns-in_default-2-clause-meets : goal.returns-in_default-2-clause-meets
returns-in_default-2-clause-meets c = λ s x y e is.
    let n : length c.args.infos.now ≡ 2 = sym (infos_count c.args.infos.now) ∙ ap length e in
    absurd (let o : ⊥ = omega (arith, n, c.in_default.len_at_least) in o)
