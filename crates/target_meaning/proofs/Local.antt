-- A step of the machine is the step on what is held, in whatever heap has that.
use Rattle.std.proofs.Common.{◌≡◌, ℕ, suc, List, [], ◌∷◌, length, refl, ap}
use Rattle.std.specs.Prelude.{Some, slice_set, slice_index, nat_lt}
use Rattle.target_code.specs.declared.tree.Proc.{Proc}
use Rattle.target_meaning.specs.declared.path.Side.{Side}
use Rattle.target_meaning.specs.declared.path.Side.TheVariants.{Left, Right}
use Rattle.target_meaning.specs.declared.answer.Reason.TheVariants.{Index}
use Rattle.target_meaning.specs.Leaf.{Stack, Run, End, Wait, Act, Go, Read, Write, Make, Cut, Split, Over, Bad, act}
use Rattle.target_meaning.specs.Machine.{Heap, Cell, Never, Live, Freed, Tree, Leaf, Fork, Moved, Stuck, Full, NameUsed, is_new, with_block, with_cell, Room, read_cell, write_cell, cut_cell, perform, join_ends, join_both, move}
use Rattle.target_meaning.specs.Piece.{Share, Nil, Some_of, Clash, Piece, plus, at_place, Fits, Holds}
use Rattle.target_meaning.specs.Held.{stored, with_new, without, holdings, total, IsHeld, Fine, AllFine}
use Rattle.target_meaning.specs.Runs.{OnMoved}
use Rattle.target_meaning.specs.Local.{value_in, leaf_next, ends_next, join_next, next}
use Rattle.target_meaning.proofs.Shares.{holds_left, holds_right}
use Rattle.target_meaning.proofs.Lists.{get_index}
use Rattle.target_meaning.proofs.Moved.{moved_map, moved_inside, moved_if}

abbrev Same : Tree Piece → Tree Piece → Heap → Type 0
Same u t h = t ≡ u

value_held : (b : Share) (c : Cell) (j : ℕ) → IsHeld b → Fits b (at_place c j) → at_place c j ≡ Some (value_in b)
value_held Nil c j w f = absurd w
value_held (Some_of v k) c j w f = f.0
value_held Clash c j w f = absurd w

module _ (room : Room) (p : Piece) (s : Stack) (h : Heap) (x : ℕ) (hs : Holds p h) where
  read_local : (c : Cell) (b i : ℕ) (k : ℕ → Stack) → at_place c (suc i) ≡ Some (value_in (p b (suc i))) → OnMoved (read_cell holdings c i p k h) (Same (Leaf p (k (value_in (p b (suc i))))))
  read_local Never b i k e = tt
  read_local Freed b i k e = tt
  read_local (Live ws) b i k e =
      moved_if (nat_lt i (length ws)) (Moved (Leaf p (k (slice_index ws i))) h) (Stuck Index) (Same (Leaf p (k (value_in (p b (suc i))))))
      (λ lt. ap (λ y. Leaf p (k y)) (get_index ws i (value_in (p b (suc i))) e)) (λ lt. tt)

  write_local : (c : Cell) (b i v : ℕ) (u : Stack) → OnMoved (write_cell holdings c b i v (stored p b i v) u h) (Same (Leaf (stored p b i v) u))
  write_local Never b i v u = tt
  write_local Freed b i v u = tt
  write_local (Live ws) b i v u =
      moved_if (nat_lt i (length ws)) (Moved (Leaf (stored p b i v) u) (with_cell h b (Live (slice_set ws i v)))) (Stuck Index) (Same (Leaf (stored p b i v) u)) (λ lt. refl) (λ lt. tt)

  cut_local : (c : Cell) (b : ℕ) (u : Stack) → OnMoved (cut_cell holdings c b (without p b) u h) (Same (Leaf (without p b) u))
  cut_local Never b u = tt
  cut_local Freed b u = tt
  cut_local (Live ws) b u = refl

  leaf_local : (f : ℕ) (a : Act) → Fine f a p → OnMoved (perform holdings room p a h x) (Same (leaf_next p a s x))
  leaf_local f (Go u) w = refl
  leaf_local f (Read b i k) w = read_local (h.cells b) b i k (value_held (p b (suc i)) (h.cells b) (suc i) w (hs.places b (suc i)))
  leaf_local f (Write b i v u) w = write_local (h.cells b) b i v u
  leaf_local f (Make n k) w =
      moved_if (room h n) _ Full (Same (Leaf (with_new p x n) (k x)))
      (λ e. moved_if (is_new h x) (Moved (Leaf (with_new p x n) (k x)) (with_block h x n)) NameUsed (Same (Leaf (with_new p x n) (k x))) (λ d. refl) (λ d. tt)) (λ e. tt)
  leaf_local f (Cut b u) w = cut_local (h.cells b) b u
  leaf_local f (Split l r v) w = refl
  leaf_local f Over w = tt
  leaf_local f (Bad r) w = tt

ends_local : (k : Piece) (w : Wait) (p q : Piece) (s t : Stack) (h : Heap) → OnMoved (join_ends holdings k w p q s t h) (Same (ends_next k w p q s t))
ends_local k w p q (End xs) (End ys) h = refl
ends_local k w p q (End xs) (Run f cs) h = tt
ends_local k w p q (Run f cs) t h = tt

join_local : (k : Piece) (w : Wait) (l r : Tree Piece) (h : Heap) → OnMoved (join_both holdings k w l r h) (Same (join_next k w l r))
join_local k w (Leaf p s) (Leaf q t) h = ends_local k w p q s t h
join_local k w (Leaf p s) (Fork q v x y) h = tt
join_local k w (Fork p v x y) r h = tt

-- the tree after a step depends on the tree, the path and the name alone
pub step_local : (room : Room) (T : List Proc) (f : ℕ) (t : Tree Piece) (h : Heap) (path : List Side) (x : ℕ) → AllFine T f t → Holds (total t) h → OnMoved (move holdings room T t h path x) (Same (next T t path x))
step_local room T f (Leaf p s) h [] x fine hs = leaf_local room p s h x hs f (act T s) fine
step_local room T f (Leaf p s) h (d ∷ ds) x fine hs = tt
step_local room T f (Fork k w l r) h [] x fine hs = join_local k w l r h
step_local room T f (Fork k w l r) h (Left ∷ ds) x fine hs =
    moved_inside holdings (move holdings room T l h ds x) (λ u. Fork k w u r) (Same (Fork k w (next T l ds x) r))
    (moved_map (move holdings room T l h ds x) (Same (next T l ds x)) _ (λ u g e. ap (λ y. Fork k w y r) e)
    (step_local room T (suc f) l h ds x fine.0 (holds_left (total l) (total r) h (holds_right k (plus (total l) (total r)) h hs))))
step_local room T f (Fork k w l r) h (Right ∷ ds) x fine hs =
    moved_inside holdings (move holdings room T r h ds x) (λ u. Fork k w l u) (Same (Fork k w l (next T r ds x)))
    (moved_map (move holdings room T r h ds x) (Same (next T r ds x)) _ (λ u g e. ap (λ y. Fork k w l y) e)
    (step_local room T (suc f) r h ds x fine.1 (holds_right (total l) (total r) h (holds_right k (plus (total l) (total r)) h hs))))
