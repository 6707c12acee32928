use Rattle.triple_logic.proofs.Rules.{fewer_by}
use Rattle.triple_logic.proofs.laws.fewer_steps.Goals as goal

pub returns : goal.returns
returns g c a T halt n m f t le s = fewer_by T halt (g.A.Post.meets a) n m f t le s
