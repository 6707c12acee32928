-- The steps of leaves on what they hold, with no heap: what a store that keeps the held words runs.
use Rattle.std.specs.Prelude.{ℕ, suc, List, [], ◌∷◌}
use Rattle.target_code.specs.declared.tree.Proc.{Proc}
use Rattle.target_meaning.specs.declared.path.Side.{Side}
use Rattle.target_meaning.specs.declared.path.Side.TheVariants.{Left, Right}
use Rattle.target_meaning.specs.Leaf.{Stack, Run, End, Wait, Act, Go, Read, Write, Make, Cut, Split, Over, Bad, act, joined}
use Rattle.target_meaning.specs.Machine.{Tree, Leaf, Fork}
use Rattle.target_meaning.specs.Piece.{Share, Nil, Some_of, Clash, Piece, plus}
use Rattle.target_meaning.specs.Held.{stored, with_new, without, holdings}

-- the value of a place that is held
abbrev pub value_in : Share → ℕ
value_in Nil = 0
value_in (Some_of v k) = v
value_in Clash = 0

-- the tree after a step of a leaf, whose reads are of what it holds
abbrev pub leaf_next : Piece → Act → Stack → ℕ → Tree Piece
leaf_next p (Go u) s x = Leaf p u
leaf_next p (Read b i k) s x = Leaf p (k (value_in (p b (suc i))))
leaf_next p (Write b i v u) s x = Leaf (stored p b i v) u
leaf_next p (Make n k) s x = Leaf (with_new p x n) (k x)
leaf_next p (Cut b u) s x = Leaf (without p b) u
leaf_next p (Split l r w) s x = Fork (holdings.kept p l r) w (Leaf (holdings.left p l r) l.stack) (Leaf (holdings.right p l r) r.stack)
leaf_next p Over s x = Leaf p s
leaf_next p (Bad r) s x = Leaf p s

-- the tree after a join, where both children have ended
abbrev pub ends_next : Piece → Wait → Piece → Piece → Stack → Stack → Tree Piece
ends_next k w p q (End xs) (End ys) = Leaf (plus k (plus p q)) (joined w xs ys)
ends_next k w p q (End xs) (Run f cs) = Fork k w (Leaf p (End xs)) (Leaf q (Run f cs))
ends_next k w p q (Run f cs) t = Fork k w (Leaf p (Run f cs)) (Leaf q t)

-- the same, of any two children
abbrev pub join_next : Piece → Wait → Tree Piece → Tree Piece → Tree Piece
join_next k w (Leaf p s) (Leaf q t) = ends_next k w p q s t
join_next k w (Leaf p s) (Fork q v x y) = Fork k w (Leaf p s) (Fork q v x y)
join_next k w (Fork p v x y) r = Fork k w (Fork p v x y) r

-- the tree after a step at a path
abbrev pub next : List Proc → Tree Piece → List Side → ℕ → Tree Piece
next T (Leaf p s) [] x = leaf_next p (act T s) s x
next T (Leaf p s) (d ∷ ds) x = Leaf p s
next T (Fork k w l r) [] x = join_next k w l r
next T (Fork k w l r) (Left ∷ ds) x = Fork k w (next T l ds x) r
next T (Fork k w l r) (Right ∷ ds) x = Fork k w l (next T r ds x)
