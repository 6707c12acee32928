use Rattle.triple_logic.proofs.BoundedRules.{if_bounded}
use Rattle.triple_logic.proofs.laws.bounded_choice.Goals as goal

pub returns : goal.returns
returns g c a T proc n f line i t x y regs p e sx sy = if_bounded T proc (g.A.Post.meets a) n f line i t x y regs p e sx sy
