use Rattle.std.proofs.Common.{ℕ, List, [], ◌∷◌, ◌++◌, sym, subst, ◌∙◌}
use Rattle.target_lines.specs.Fits.{AreSmall}
use Rattle.proof_text.proofs.Registers.{IsLeft, goes_on, ends, pushed_small}
use Rattle.proof_text.proofs.reading.some_registers.Goals as goal

pub each-preserved : goal.each-preserved
each-preserved c =
    let x = c.register-item.result in
    record {
      left = λ r rs small e.
          (let went = goes_on c.each.list c.each.rest.now c.in-Some.front.now c.in-Some.behind.now (r ∷ rs) x (c.each.invariant.left r rs small e) c.in-Some.ensures.some.0 c.in-Some.ensures.some.1 c.register-item.ensures.value in
          let moved = subst (λ (z : List ℕ). IsLeft (c.each.list ++ (x ∷ [])) z (r ∷ rs)) (sym c.after_space-rest.ensures) went in
          subst (λ (z : List ℕ). IsLeft z c.after_space-rest.result.now (r ∷ rs)) (sym c.in_ok-push-in-Some.ensures.ok) moved);
      small = subst AreSmall (sym c.in_ok-push-in-Some.ensures.ok) (pushed_small c.each.list x c.each.invariant.small c.register-item.ensures.small);
    }

pub returns-in-None-clause-value : goal.returns-in-None-clause-value
returns-in-None-clause-value c = λ r rs small e.
    c.in_ok-push-in-None.ensures.ok ∙ ends c.each.list c.each.rest.now (r ∷ rs) c.register-last.result (c.each.invariant.left r rs small e) c.in-None.ensures.none c.register-last.ensures.value
