use Rattle.triple_logic.proofs.Call.{call_under, code_call_under}
use Rattle.triple_logic.proofs.BoundedRules.{call_bounded}
use Rattle.triple_logic.specs.Safe.{at_end, at_code_end}
use Rattle.triple_logic.proofs.laws.bounded_call.Goals as goal

pub returns : goal.returns
returns g c = record {
  end = λ a b T. call_bounded T at_end (λ d ds. call_under d ds T) (g.A.Post.meets a) (g.B.Post.meets b);
  code = λ a b T. call_bounded T at_code_end (λ d ds. code_call_under d ds T) (g.A.Post.meets a) (g.B.Post.meets b);
}
