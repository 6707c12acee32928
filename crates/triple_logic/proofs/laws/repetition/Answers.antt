use Rattle.triple_logic.proofs.Rules.{while_safe}
use Rattle.triple_logic.proofs.laws.repetition.Goals as goal

pub returns : goal.returns
returns g c before after a T proc n f line i t k b e s body out regs p start = while_safe T proc f line t k b (g.I.Post.meets before) (g.C.Post.meets after) (g.A.Post.meets a) n i e s body out regs p start
