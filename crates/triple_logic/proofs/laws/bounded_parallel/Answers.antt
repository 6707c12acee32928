use Rattle.triple_logic.proofs.BoundedRules.{par_bounded}
use Rattle.triple_logic.proofs.laws.bounded_parallel.Goals as goal

pub returns : goal.returns
returns g c a b d T halt n m k f p s l r w o e fine sl sr after =
    par_bounded T halt (g.C.Post.meets d) (g.A.Post.meets a) (g.B.Post.meets b) n m k f p s l r w o e fine sl sr after
