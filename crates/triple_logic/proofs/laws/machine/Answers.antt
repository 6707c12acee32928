use Rattle.target_meaning.specs.Piece.{Covers}
use Rattle.target_meaning.specs.Held.{holdings, total}
use Rattle.target_meaning.specs.Machine.{Leaf, nothing}
use Rattle.target_meaning.specs.Runs.{Race, reach}
use Rattle.target_meaning.proofs.Moved.{moved_map, moved_both}
use Rattle.triple_logic.proofs.Runs.{run_safe, run_covers, on_machine, calm_bare}
use Rattle.triple_logic.specs.Reached.{Good, IsReached}
use Rattle.triple_logic.proofs.laws.machine.Goals as goal

pub returns : goal.returns
returns g c = record {
  reached = λ a room sized T es t h hs s w. run_safe room T (g.A.Post.meets a) sized es t h hs s w;
  bare = λ a room sized T es p s h hs sf w. on_machine room T p s h (Good room T (g.A.Post.meets a)) es (run_safe room T (g.A.Post.meets a) sized es (Leaf p s) h hs sf) w;
  calm = λ a room sized T es p s h hs sf w.
      moved_map (reach nothing room T es (Leaf tt s) h) (IsReached (Good room T (g.A.Post.meets a))) (λ u k. Race T k u → ⊥) (λ u k m. calm_bare room T (g.A.Post.meets a) u k m)
      (on_machine room T p s h (Good room T (g.A.Post.meets a)) es (run_safe room T (g.A.Post.meets a) sized es (Leaf p s) h hs sf) w);
  bare_live = λ a room sized T es p s h hs cv sf w.
      on_machine room T p s h (λ t u. Good room T (g.A.Post.meets a) t u × Covers (total t) u) es
      (λ sh. moved_both (reach holdings room T es (Leaf p s) h) (Good room T (g.A.Post.meets a)) (λ t u. Covers (total t) u) (λ t u. Good room T (g.A.Post.meets a) t u × Covers (total t) u) (λ t u x y. (x, y))
      (run_safe room T (g.A.Post.meets a) sized es (Leaf p s) h hs sf sh) (run_covers room T (g.A.Post.meets a) sized es (Leaf p s) h hs sf sh cv)) w;
  live = λ a room sized T es t h hs s w cv. run_covers room T (g.A.Post.meets a) sized es t h hs s w cv;
}
