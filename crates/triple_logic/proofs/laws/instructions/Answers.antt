use Rattle.triple_logic.proofs.Rules.{go_safe, read_safe, write_safe, make_safe, cut_safe, over_safe, assume_heap}
use Rattle.triple_logic.proofs.laws.instructions.Goals as goal

pub returns : goal.returns
returns g c = record {
  registers = λ a T halt. go_safe T halt (g.A.Post.meets a);
  load = λ a T halt. read_safe T halt (g.A.Post.meets a);
  store = λ a T halt. write_safe T halt (g.A.Post.meets a);
  claim = λ a T halt. make_safe T halt (g.A.Post.meets a);
  release = λ a T halt. cut_safe T halt (g.A.Post.meets a);
  over = λ a T halt. over_safe T halt (g.A.Post.meets a);
  heap = λ a T halt. assume_heap T halt (g.A.Post.meets a);
}
