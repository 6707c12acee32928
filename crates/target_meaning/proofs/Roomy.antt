-- Runs with the capacity not tested, and left-first runs.
use Rattle.std.proofs.Common.{◌≡◌, ℕ, zero, suc, ◌+◌, ◌≤◌, Bool, true, false, cond, List, [], ◌∷◌, length, refl, ap, ◌∙◌, arith}
use Rattle.std.proofs.lemmas.Bool.{le-leb}
use Rattle.std.specs.Prelude.{slice_index, slice_set, nat_lt}
use Rattle.target_code.specs.declared.tree.Proc.{Proc}
use Rattle.target_meaning.specs.declared.path.Side.{Side}
use Rattle.target_meaning.specs.declared.path.Side.TheVariants.{Left, Right}
use Rattle.target_meaning.specs.declared.answer.Reason.TheVariants.{Index}
use Rattle.target_meaning.specs.Leaf.{Stack, Run, End, Wait, Act, Go, Read, Write, Make, Cut, Split, Over, Bad, act, joined}
use Rattle.target_meaning.specs.Machine.{Heap, Cell, Never, Live, Freed, Tree, Leaf, Fork, Answer, Moved, Stuck, Full, NoSuchLeaf, NameUsed, Notes, has_room, any_room, is_new, with_block, with_cell, read_cell, write_cell, cut_cell, perform, join_ends, join_both, move, inside}
use Rattle.target_meaning.specs.Runs.{Schedule, and_then, OnMoved, reach}
use Rattle.target_meaning.specs.LeftFirst.{left_path, act_at, first_name, names_after, left_first, when_moved, left_schedule}
use Rattle.target_meaning.proofs.Moved.{moved_map}

-- what is known where a heap became another one, and a step with the capacity tested is this
pub record Fitted {A : Type 0} (h : Heap) (tested : Answer A) (u : Tree A) (k : Heap) : Type 0 where
  pub grows : h.claimed ≤ k.claimed
  pub cap : k.cap ≡ h.cap
  pub same : k.claimed ≤ k.cap → tested ≡ Moved u k

module _ {A : Type 0} (N : Notes A) where
  stays : (h : Heap) (u : Tree A) (k : Heap) → k.claimed ≡ h.claimed → k.cap ≡ h.cap → Fitted h (Moved u k) u k
  stays h u k e d = record { grows = omega (arith, e); cap = d; same = λ le. refl }

  read_fits : (c : Cell) (i : ℕ) (a : A) (k : ℕ → Stack) (h : Heap) → OnMoved (read_cell N c i a k h) (Fitted h (read_cell N c i a k h))
  read_fits Never i a k h = tt
  read_fits Freed i a k h = tt
  read_fits (Live ws) i a k h = if_fits (nat_lt i (length ws)) (Leaf a (k (slice_index ws i))) h h refl refl
    where
      if_fits : (b : Bool) (u : Tree A) (h k : Heap) → k.claimed ≡ h.claimed → k.cap ≡ h.cap → OnMoved (cond b (Moved u k) (Stuck Index)) (Fitted h (cond b (Moved u k) (Stuck Index)))
      if_fits true u h k e d = stays h u k e d
      if_fits false u h k e d = tt

  write_fits : (c : Cell) (b i v : ℕ) (a : A) (s : Stack) (h : Heap) → OnMoved (write_cell N c b i v a s h) (Fitted h (write_cell N c b i v a s h))
  write_fits Never b i v a s h = tt
  write_fits Freed b i v a s h = tt
  write_fits (Live ws) b i v a s h = if_fits (nat_lt i (length ws)) (Leaf a s) (with_cell h b (Live (slice_set ws i v))) refl refl
    where
      if_fits : (y : Bool) (u : Tree A) (k : Heap) → k.claimed ≡ h.claimed → k.cap ≡ h.cap → OnMoved (cond y (Moved u k) (Stuck Index)) (Fitted h (cond y (Moved u k) (Stuck Index)))
      if_fits true u k e d = stays h u k e d
      if_fits false u k e d = tt

  cut_fits : (c : Cell) (b : ℕ) (a : A) (s : Stack) (h : Heap) → OnMoved (cut_cell N c b a s h) (Fitted h (cut_cell N c b a s h))
  cut_fits Never b a s h = tt
  cut_fits Freed b a s h = tt
  cut_fits (Live ws) b a s h = stays h (Leaf a s) (with_cell h b Freed) refl refl

  make_fits : (new : Bool) (u : Tree A) (h : Heap) (n x : ℕ) → OnMoved (cond new (Moved u (with_block h x n)) NameUsed) (Fitted h (cond (has_room h n) (cond new (Moved u (with_block h x n)) NameUsed) Full))
  make_fits false u h n x = tt
  make_fits true u h n x = record {
    grows = omega arith;
    cap = refl;
    same = λ le. room (has_room h n) (le-leb (h.claimed + n + 1) h.cap le);
  }
    where
      room : (b : Bool) → b ≡ true → cond b (Moved u (with_block h x n)) Full ≡ Moved u (with_block h x n)
      room true e = refl
      room false e = cc e

  leaf_fits : (a : A) (e : Act) (h : Heap) (x : ℕ) → OnMoved (perform N any_room a e h x) (Fitted h (perform N has_room a e h x))
  leaf_fits a (Go s) h x = stays h (Leaf (N.after a (Go s) x) s) h refl refl
  leaf_fits a (Read b i k) h x = read_fits (h.cells b) i (N.after a (Read b i k) x) k h
  leaf_fits a (Write b i v s) h x = write_fits (h.cells b) b i v (N.after a (Write b i v s) x) s h
  leaf_fits a (Make n k) h x = make_fits (is_new h x) (Leaf (N.after a (Make n k) x) (k x)) h n x
  leaf_fits a (Cut b s) h x = cut_fits (h.cells b) b (N.after a (Cut b s) x) s h
  leaf_fits a (Split l r w) h x = stays h (Fork (N.kept a l r) w (Leaf (N.left a l r) l.stack) (Leaf (N.right a l r) r.stack)) h refl refl
  leaf_fits a Over h x = tt
  leaf_fits a (Bad r) h x = tt

  ends_fit : (a : A) (w : Wait) (p q : A) (s t : Stack) (h : Heap) → OnMoved (join_ends N a w p q s t h) (Fitted h (join_ends N a w p q s t h))
  ends_fit a w p q (End xs) (End ys) h = stays h (Leaf (N.join a p q) (joined w xs ys)) h refl refl
  ends_fit a w p q (End xs) (Run f cs) h = tt
  ends_fit a w p q (Run f cs) t h = tt

  join_fits : (a : A) (w : Wait) (l r : Tree A) (h : Heap) → OnMoved (join_both N a w l r h) (Fitted h (join_both N a w l r h))
  join_fits a w (Leaf p s) (Leaf q t) h = ends_fit a w p q s t h
  join_fits a w (Leaf p s) (Fork q v x y) h = tt
  join_fits a w (Fork p v x y) r h = tt

  inside_fits : (h : Heap) (free tested : Answer A) (g : Tree A → Tree A) → OnMoved free (Fitted h tested) → OnMoved (inside N g free) (Fitted h (inside N g tested))
  inside_fits h (Moved u k) tested g f = record { grows = f.grows; cap = f.cap; same = λ le. ap (inside N g) (f.same le) }
  inside_fits h (Stuck r) tested g f = tt
  inside_fits h Full tested g f = tt
  inside_fits h NoSuchLeaf tested g f = tt
  inside_fits h NameUsed tested g f = tt

  pub move_fits : (T : List Proc) (t : Tree A) (h : Heap) (path : List Side) (x : ℕ) → OnMoved (move N any_room T t h path x) (Fitted h (move N has_room T t h path x))
  move_fits T (Leaf a s) h [] x = leaf_fits a (act T s) h x
  move_fits T (Leaf a s) h (d ∷ ds) x = tt
  move_fits T (Fork a w l r) h [] x = join_fits a w l r h
  move_fits T (Fork a w l r) h (Left ∷ ds) x = inside_fits h (move N any_room T l h ds x) (move N has_room T l h ds x) (λ t. Fork a w t r) (move_fits T l h ds x)
  move_fits T (Fork a w l r) h (Right ∷ ds) x = inside_fits h (move N any_room T r h ds x) (move N has_room T r h ds x) (λ t. Fork a w l t) (move_fits T r h ds x)

  then_fits : (h : Heap) (free tested : Answer A) (k m : Tree A → Heap → Answer A) → OnMoved free (Fitted h tested) → ((u : Tree A) (g : Heap) → OnMoved (k u g) (Fitted g (m u g))) → OnMoved (and_then free k) (Fitted h (and_then tested m))
  then_fits h (Moved u g) tested k m f n =
      moved_map (k u g) (Fitted g (m u g)) (Fitted h (and_then tested m))
      (λ v i w. record {
        grows = omega (arith, f.grows, w.grows);
        cap = w.cap ∙ f.cap;
        same = λ le. ap (λ a. and_then a m) (f.same (omega (arith, le, w.grows, w.cap))) ∙ w.same le;
      })
      (n u g)
  then_fits h (Stuck r) tested k m f n = tt
  then_fits h Full tested k m f n = tt
  then_fits h NoSuchLeaf tested k m f n = tt
  then_fits h NameUsed tested k m f n = tt

  pub reach_fits : (T : List Proc) (es : Schedule) (t : Tree A) (h : Heap) → OnMoved (reach N any_room T es t h) (Fitted h (reach N has_room T es t h))
  reach_fits T [] t h = stays h t h refl refl
  reach_fits T (e ∷ es) t h =
      then_fits h (move N any_room T t h e.0 e.1) (move N has_room T t h e.0 e.1) (λ u g. reach N any_room T es u g) (λ u g. reach N has_room T es u g)
      (move_fits T t h e.0 e.1) (λ u g. reach_fits T es u g)

  -- where the claims of a run fit, the run with the capacity tested is the same
  pub reach_tested : (T : List Proc) (es : Schedule) (t : Tree A) (h : Heap) → OnMoved (reach N any_room T es t h) (λ u k. k.claimed ≤ k.cap → reach N has_room T es t h ≡ Moved u k)
  reach_tested T es t h = moved_map (reach N any_room T es t h) (Fitted h (reach N has_room T es t h)) (λ u k. k.claimed ≤ k.cap → reach N has_room T es t h ≡ Moved u k) (λ u k f. f.same) (reach_fits T es t h)

  then_same : (a : Answer A) (k : Tree A → Heap → Answer A) (s : Tree A → Heap → Schedule) (m : Schedule → Tree A → Heap → Answer A) → ((u : Tree A) (g : Heap) → k u g ≡ m (s u g) u g) → and_then a k ≡ and_then a (λ u g. m (when_moved a s) u g)
  then_same (Moved u g) k s m e = e u g
  then_same (Stuck r) k s m e = refl
  then_same Full k s m e = refl
  then_same NoSuchLeaf k s m e = refl
  then_same NameUsed k s m e = refl

  -- a left-first run is the run of its schedule
  pub left_reach : (T : List Proc) (n : ℕ) (xs : List ℕ) (t : Tree A) (h : Heap) → left_first N T n xs t h ≡ reach N any_room T (left_schedule N T n xs t h) t h
  left_reach T zero xs t h = refl
  left_reach T (suc n) xs t h =
      let rest = names_after (act_at T t (left_path t)) xs in
      then_same (move N any_room T t h (left_path t) (first_name xs)) (λ u g. left_first N T n rest u g) (λ u g. left_schedule N T n rest u g) (λ es u g. reach N any_room T es u g)
      (λ u g. left_reach T n rest u g)
