use Rattle.triple_logic.proofs.BoundedRules.{go_bounded, read_bounded, write_bounded, make_bounded, cut_bounded, over_bounded, assume_bounded}
use Rattle.triple_logic.proofs.laws.bounded_instructions.Goals as goal

pub returns : goal.returns
returns g c = record {
  registers = λ a T halt. go_bounded T halt (g.A.Post.meets a);
  load = λ a T halt. read_bounded T halt (g.A.Post.meets a);
  store = λ a T halt. write_bounded T halt (g.A.Post.meets a);
  claim = λ a T halt. make_bounded T halt (g.A.Post.meets a);
  release = λ a T halt. cut_bounded T halt (g.A.Post.meets a);
  over = λ a T halt. over_bounded T halt (g.A.Post.meets a);
  heap = λ a T halt. assume_bounded T halt (g.A.Post.meets a);
}
