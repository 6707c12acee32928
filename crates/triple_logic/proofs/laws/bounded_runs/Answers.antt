use Rattle.std.specs.Prelude.{length, ◌≤◌}
use Rattle.target_meaning.specs.Machine.{Leaf, nothing}
use Rattle.target_meaning.specs.Runs.{reach}
use Rattle.target_meaning.proofs.Moved.{moved_map}
use Rattle.triple_logic.specs.Reached.{IsReached}
use Rattle.triple_logic.proofs.Bounded.{ends_safe, more_by}
use Rattle.triple_logic.proofs.Runs.{run_bounded, on_machine}
use Rattle.triple_logic.proofs.laws.bounded_runs.Goals as goal

pub returns : goal.returns
returns g c = record {
  safe = λ a T halt n b f t w. ends_safe T halt (g.A.Post.meets a) n b f t w;
  more = λ a T halt k b f t w. more_by T halt (g.A.Post.meets a) k b f t w;
  ends = λ a room sized T es b t h hs w sh. run_bounded room sized T (g.A.Post.meets a) es b t h hs w sh;
  bare = λ a room sized T es b p s h hs w sh.
      moved_map (reach nothing room T es (Leaf tt s) h) (IsReached (λ u k. length es ≤ b)) (λ u k. length es ≤ b) (λ u k m. m.2)
      (on_machine room T p s h (λ u k. length es ≤ b) es (run_bounded room sized T (g.A.Post.meets a) es b (Leaf p s) h hs w) sh);
}
