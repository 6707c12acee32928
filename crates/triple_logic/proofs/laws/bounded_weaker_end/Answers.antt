use Rattle.triple_logic.proofs.BoundedRules.{weaker_bounded}
use Rattle.triple_logic.proofs.laws.bounded_weaker_end.Goals as goal

pub returns : goal.returns
returns g c a b T halt n f t imp w = weaker_bounded T halt (g.A.Post.meets a) (g.B.Post.meets b) imp n f t w
