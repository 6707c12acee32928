use Rattle.std.proofs.Common.{refl}
use Rattle.target_meaning.specs.Machine.{Leaf}
use Rattle.triple_logic.proofs.Bounded.{framed_bounded}
use Rattle.triple_logic.proofs.laws.bounded_frame.Goals as goal

pub returns : goal.returns
returns g c a T halt n f p q s w = framed_bounded T halt (g.A.Post.meets a) q n f (Leaf p s) q refl w
