use Rattle.triple_logic.proofs.BoundedRules.{seq_bounded, return_bounded}
use Rattle.triple_logic.proofs.laws.bounded_sequence.Goals as goal

pub returns : goal.returns
returns g c = record {
  code = λ a b T proc n m f first second regs p s next. seq_bounded second proc T (g.A.Post.meets a) (g.B.Post.meets b) n m f p first regs proc s next;
  end = λ a b T proc n m f first second regs p s next. return_bounded second proc T (g.A.Post.meets a) (g.B.Post.meets b) n m f p first regs proc s next;
}
