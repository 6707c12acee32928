use Rattle.triple_logic.proofs.Recursion.{all_safe}
use Rattle.triple_logic.proofs.laws.recursion.Goals as goal

pub returns : goal.returns
returns g c T begins held each n f a = all_safe T _ begins held (λ x. g.A.Post.meets x) each n f a
