-- What a step of a leaf leads to, by what it does next.
use Rattle.std.proofs.Common.{◌≡◌, ℕ, suc, ◌+◌, ◌≤◌, length, sym, subst}
use Rattle.std.specs.Prelude.{Some, slice_set, nat_lt}
use Rattle.target_meaning.specs.declared.answer.Reason.TheVariants.{Index}
use Rattle.target_meaning.specs.Leaf.{Stack, Act, Read, Write, Make, Cut}
use Rattle.target_meaning.specs.Machine.{Heap, Room, Cell, Never, Live, Freed, Tree, Leaf, Moved, Stuck, Full, NameUsed, with_cell, is_new, with_block, read_cell, write_cell, cut_cell, perform, depth}
use Rattle.target_meaning.specs.Piece.{Nil, Some_of, Piece, at_place, Fits, Holds, IsWhole}
use Rattle.target_meaning.specs.Held.{stored, with_new, without, holdings, IsHeld, AllWhole, Fine}
use Rattle.target_meaning.specs.Runs.{OnMoved}
use Rattle.target_meaning.proofs.Moved.{moved_if}
use Rattle.target_meaning.proofs.Lists.{get_index}
use Rattle.target_meaning.proofs.Keeps.{none_here, new_is}

module _ (P : Tree Piece → Type 0) (f : ℕ) where
  pub read_moved : (p : Piece) (k : ℕ → Stack) (h : Heap) (c : Cell) (i v : ℕ) → at_place c (suc i) ≡ Some v → P (Leaf p (k v)) → OnMoved (read_cell holdings c i p k h) (λ u g. f + depth u ≤ 64 → P u)
  read_moved p k h Never i v e s = tt
  read_moved p k h Freed i v e s = tt
  read_moved p k h (Live ws) i v e s =
      moved_if (nat_lt i (length ws)) _ (Stuck Index) (λ u g. f + depth u ≤ 64 → P u)
      (λ lt d. subst (λ y. P (Leaf p (k y))) (sym (get_index ws i v e)) s) (λ lt. tt)

  pub write_moved : (p : Piece) (u : Stack) (h : Heap) (c : Cell) (b i v : ℕ) → P (Leaf p u) → OnMoved (write_cell holdings c b i v p u h) (λ u g. f + depth u ≤ 64 → P u)
  write_moved p u h Never b i v s = tt
  write_moved p u h Freed b i v s = tt
  write_moved p u h (Live ws) b i v s =
      moved_if (nat_lt i (length ws)) (Moved (Leaf p u) (with_cell h b (Live (slice_set ws i v)))) (Stuck Index) (λ u g. f + depth u ≤ 64 → P u) (λ lt d. s) (λ lt. tt)

  pub cut_moved : (p : Piece) (u : Stack) (h : Heap) (c : Cell) (b : ℕ) → P (Leaf p u) → OnMoved (cut_cell holdings c b p u h) (λ u g. f + depth u ≤ 64 → P u)
  cut_moved p u h Never b s = tt
  cut_moved p u h Freed b s = tt
  cut_moved p u h (Live ws) b s = λ d. s

  -- each step of what a leaf does next leads to what is so
  abbrev pub Moves : Piece → Act → Heap → Type 0
  Moves p a h = (room : Room) (x : ℕ) → OnMoved (perform holdings room p a h x) (λ u g. f + depth u ≤ 64 → P u)

  pub read_moves : (p : Piece) (b i v l : ℕ) (k : ℕ → Stack) (h : Heap) → Holds p h → p b (suc i) ≡ Some_of v l → P (Leaf p (k v)) → Fine f (Read b i k) p × Moves p (Read b i k) h
  read_moves p b i v l k h hs at su = (
    subst IsHeld (sym at) tt,
    λ room x. read_moved p k h (h.cells b) i v (let y : Fits (Some_of v l) (at_place (h.cells b) (suc i)) = subst (λ y. Fits y (at_place (h.cells b) (suc i))) at (hs.places b (suc i)) in y.0) su,
  )

  pub write_moves : (p : Piece) (b i v : ℕ) (u : Stack) (h : Heap) → IsWhole (p b (suc i)) → P (Leaf (stored p b i v) u) → Fine f (Write b i v u) p × Moves p (Write b i v u) h
  write_moves p b i v u h w su = (w, λ room x. write_moved _ u h (h.cells b) b i v su)

  pub make_moves : (p : Piece) (len : ℕ) (k : ℕ → Stack) (h : Heap) → Holds p h → ((x : ℕ) → ((j : ℕ) → p x j ≡ Nil) → P (Leaf (with_new p x len) (k x))) → Moves p (Make len k) h
  make_moves p len k h hs su = λ room x.
      moved_if (room h len) _ Full (λ u g. f + depth u ≤ 64 → P u)
      (λ c. moved_if (is_new h x) (Moved (Leaf (with_new p x len) (k x)) (with_block h x len)) NameUsed (λ u g. f + depth u ≤ 64 → P u)
      (λ d g. su x (λ j. none_here (p x j) (subst (λ y. Fits (p x j) (at_place y j)) (new_is h x d) (hs.places x j)))) (λ d. tt))
      (λ c. tt)

  pub cut_moves : (p : Piece) (b : ℕ) (u : Stack) (h : Heap) → AllWhole (p b 0) (p b) → P (Leaf (without p b) u) → Fine f (Cut b u) p × Moves p (Cut b u) h
  cut_moves p b u h w su = (w, λ room x. cut_moved _ u h (h.cells b) b su)
