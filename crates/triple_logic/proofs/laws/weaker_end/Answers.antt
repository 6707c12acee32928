use Rattle.triple_logic.proofs.Par.{weaker}
use Rattle.triple_logic.proofs.laws.weaker_end.Goals as goal

pub returns : goal.returns
returns g c a b T halt n f t imp s = weaker T halt (g.A.Post.meets a) (g.B.Post.meets b) imp n f t s
