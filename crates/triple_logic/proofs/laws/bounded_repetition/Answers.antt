use Rattle.triple_logic.proofs.BoundedRules.{while_bounded}
use Rattle.triple_logic.proofs.laws.bounded_repetition.Goals as goal

pub returns : goal.returns
returns g c before after z T proc a b f line i t k d e s body out m regs p start =
    while_bounded T proc f line t a b k d (λ m. g.I.Post.meets (before m)) (λ m. g.C.Post.meets (after m)) (g.A.Post.meets z) i e s body out m regs p start
