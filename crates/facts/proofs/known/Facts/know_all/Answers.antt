use Rattle.std.proofs.Common.{◌≡◌, ◌∙◌, ◌++◌, ◌∷◌, [], ap, sym}
use Rattle.facts.specs.Kept.{told_of}
use Rattle.facts.proofs.ToldLemmas.{told_before}
use Rattle.facts.proofs.known.Facts.know_all.Goals as goal

pub each-preserved : goal.each-preserved
each-preserved c =
    let e : c.each.left.now ≡ c.in-Some.before.now ++ c.in-Some.fact.now ∷ [] = cc c.in-Some.ensures in
    ap (λ s. told_of c.in-Some.before.now ++ s) c.in_ok-know.ensures.known ∙ sym (told_before c.in-Some.before.now c.in-Some.fact.now c.each.self) ∙ ap (λ s. told_of s ++ c.each.self) (sym e) ∙ c.each.invariant
