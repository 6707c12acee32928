use Rattle.triple_logic.proofs.Rules.{if_safe}
use Rattle.triple_logic.proofs.laws.choice.Goals as goal

pub returns : goal.returns
returns g c a T proc n f line i t x y regs p e sx sy = if_safe T proc (g.A.Post.meets a) n f line i t x y regs p e sx sy
