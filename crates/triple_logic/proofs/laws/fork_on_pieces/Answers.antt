use Rattle.triple_logic.proofs.Parts.{fork_left, fork_right, fork_kept, fork_fine}
use Rattle.triple_logic.proofs.laws.fork_on_pieces.Goals as goal

pub returns : goal.returns
returns c = record {
  left = λ xs ys r u l k s. fork_left xs ys r u l k s.left s.right s.left_named s.between s.right_named;
  right = λ xs ys r u l k s. fork_right xs ys r u l k s.left s.right s.left_named s.between s.right_named;
  kept = λ xs ys r u l k s. fork_kept xs ys r u l k s.left s.right s.left_named s.between s.right_named;
  fine = λ xs ys r u l k s. fork_fine xs ys r u l k s.left s.right s.left_named s.between s.right_named;
}
