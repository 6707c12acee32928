use Rattle.triple_logic.proofs.Sequence.{seq_safe, return_safe}
use Rattle.triple_logic.proofs.laws.sequence.Goals as goal

pub returns : goal.returns
returns g c = record {
  code = λ a b T proc n f first second regs p s next. seq_safe second proc T (g.A.Post.meets a) (g.B.Post.meets b) n f p first regs proc s next;
  end = λ a b T proc n f first second regs p s next. return_safe second proc T (g.A.Post.meets a) (g.B.Post.meets b) n f p first regs proc s next;
}
