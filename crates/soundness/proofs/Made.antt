-- What has the sides that are taken has the shape.
use Rattle.std.proofs.Common.{◌≡◌, ℕ, Bool, List, [], ◌∷◌, length}
use Rattle.nres_core.specs.FlatTree.{Binds}
use Rattle.target_code.specs.declared.tree.Proc.{Proc}
use Rattle.soundness.specs.Laws.{MadeHasShape}
use Rattle.soundness.specs.Nodes as n
use Rattle.soundness.specs.Nodes.{Nodes, SpecTree}
use Rattle.soundness.specs.Shape.{SameTrees, bodies, names_of}

module _ (may can : List ℕ → Bool → Type 0) (weaker : (to : List ℕ) (left : Bool) → may to left → can to left) where
  tree : (bs : Binds) (ns : Nodes) → SpecTree may bs ns → SpecTree can bs ns
  tree bs ns n.no_bind = n.no_bind
  tree bs ns (n.calc t) = n.calc (tree _ _ t)
  tree bs ns (n.any t) = n.any (tree _ _ t)
  tree bs ns (n.assert t) = n.assert (tree _ _ t)
  tree bs ns (n.size e t) = n.size e (tree _ _ t)
  tree bs ns (n.operation e t) = n.operation e (tree _ _ t)
  tree bs ns (n.choice x y t) = n.choice (tree _ _ x) (tree _ _ y) (tree _ _ t)
  tree bs ns (n.loop x y t) = n.loop (tree _ _ x) (tree _ _ y) (tree _ _ t)
  tree bs ns (n.par x y t) = n.par (tree _ _ x) (tree _ _ y) (tree _ _ t)
  tree bs ns (n.split x y t) = n.split (tree _ _ x) (tree _ _ y) (tree _ _ t)
  tree bs ns (n.left m x t) = n.left (weaker _ _ m) (tree _ _ x) (tree _ _ t)
  tree bs ns (n.right m x t) = n.right (weaker _ _ m) (tree _ _ x) (tree _ _ t)
  tree bs ns (n.call t) = n.call (tree _ _ t)

  trees : (procs : List Proc) (own : ℕ) (xs : List Binds) (qs : List Proc) (names : List (List ℕ)) → SameTrees may procs own xs qs names → SameTrees can procs own xs qs names
  trees procs own [] [] names e = e
  trees procs own (x ∷ xs) (q ∷ qs) names t = (t.0, t.1, t.2, tree x t.0 t.3, t.4, trees procs own xs qs t.2 t.5, t.6)
  trees procs own [] (q ∷ qs) names t = absurd t
  trees procs own (x ∷ xs) [] names t = absurd t

pub made_has_shape : MadeHasShape
made_has_shape side library f T m = record {
  main = m.main;
  own = m.own;
  branches = m.branches;
  called = m.called;
  ins = m.ins;
  outs = m.outs;
  procs = m.procs;
  main_name = m.main_name;
  own_names = m.own_names;
  branch_names = m.branch_names;
  rising = m.rising;
  no_more = m.no_more;
  trees = trees (λ to left. side to ≡ left) (λ to left. Unit {0}) (λ to left e. tt) T.procs (length f.procs) (f.body.binds ∷ bodies f.procs) (m.main ∷ m.own) (names_of m.branches) m.trees;
  known = m.known;
  word_for_word = m.word_for_word;
}
