use Rattle.triple_logic.proofs.Teeth.{unheld_store, unowned_root, stuck_root, unowned_tree, unheld_set}
use Rattle.triple_logic.proofs.laws.unowned_is_not_safe.Goals as goal

pub returns : goal.returns
returns g c = record {
  store = λ a T halt f p s h b i v u hs o e ne w. unheld_store T halt (g.A.Post.meets a) f p s h b i v u hs o e ne w;
  unowned = λ a T halt f p s h hs o u w. unowned_root T halt (g.A.Post.meets a) f p s h hs o u w;
  stuck = λ a T halt f p s h hs o u w. stuck_root T halt (g.A.Post.meets a) f p s h hs o u w;
  tree = λ a T f t h hs u w. unowned_tree T (g.A.Post.meets a) f t h hs u w;
  set = λ a T s. unheld_set T (g.A.Post.meets a) s;
}
