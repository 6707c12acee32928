-- Steps, runs, races and unowned leaves are the same with either list.
use Rattle.std.specs.Prelude.{◌≡◌, ℕ, suc, ◌<◌, length, ◌⊎◌, Bool, true, false, cond, nat_lt, List, [], ◌∷◌}
use Rattle.std.proofs.Common.{refl, sym, ap, ◌∙◌, subst, inl, inr}
use Rattle.target_code.specs.declared.tree.Proc.{Proc}
use Rattle.target_meaning.specs.declared.path.Side.{Side}
use Rattle.target_meaning.specs.declared.path.Side.TheVariants.{Left, Right}
use Rattle.target_meaning.specs.Leaf.{Stack, Run, End, Wait, Act, Go, Read, Write, Make, Cut, Split, Over, Bad, act}
use Rattle.target_meaning.specs.Machine.{Cell, Never, Live, Freed, Heap, Tree, Leaf, Fork, Answer, Moved, Stuck, Full, NoSuchLeaf, NameUsed, Notes, Room, is_new, read_cell, write_cell, cut_cell, perform, join_ends, join_right, join_both, inside, move}
use Rattle.target_meaning.specs.Piece.{Piece}
use Rattle.target_meaning.specs.Runs.{Schedule, OnMoved, and_then, reach, IsShallow, SomeLeaf, Spoils, Race}
use Rattle.target_meaning.specs.Unowned.{IsUnowned, SomeUnowned}
use Rattle.target_meaning.proofs.Moved.{moved_map, moved_inside, moved_if, moved_both, moved_then}
use Rattle.fewer_procs.specs.Fewer.{AreOf}
use Rattle.fewer_procs.proofs.Codes.{Good_items, Good_callers, Good_stack, Good_wait, Good_tree, Good_act}
use Rattle.fewer_procs.proofs.Acts.{same_act, good_act}

then_same : {A : Type 0} (a : Answer A) (k l : Tree A → Heap → Answer A) → OnMoved a (λ t h. k t h ≡ l t h) → and_then a k ≡ and_then a l
then_same (Moved t h) k l e = e
then_same (Stuck r) k l e = refl
then_same Full k l e = refl
then_same NoSuchLeaf k l e = refl
then_same NameUsed k l e = refl

module _ (few more : List Proc) (k : AreOf more few) {A : Type 0} (N : Notes A) (room : Room) where
  -- a step leads to good code
  abbrev Good_after : Tree A → Heap → Type 0
  Good_after u g = Good_tree few u

  read_good : (c : Cell) (i : ℕ) (a : A) (f : ℕ → Stack) (h : Heap) → ((v : ℕ) → Good_stack few (f v)) → OnMoved (read_cell N c i a f h) Good_after
  read_good Never i a f h g = tt
  read_good Freed i a f h g = tt
  read_good (Live ws) i a f h g = moved_if (nat_lt i (length ws)) _ _ Good_after (λ e. g _) (λ e. tt)

  write_good : (c : Cell) (b i v : ℕ) (a : A) (s : Stack) (h : Heap) → Good_stack few s → OnMoved (write_cell N c b i v a s h) Good_after
  write_good Never b i v a s h g = tt
  write_good Freed b i v a s h g = tt
  write_good (Live ws) b i v a s h g = moved_if (nat_lt i (length ws)) _ _ Good_after (λ e. g) (λ e. tt)

  cut_good : (c : Cell) (b : ℕ) (a : A) (s : Stack) (h : Heap) → Good_stack few s → OnMoved (cut_cell N c b a s h) Good_after
  cut_good Never b a s h g = tt
  cut_good Freed b a s h g = tt
  cut_good (Live ws) b a s h g = g

  perform_good : (a : A) (e : Act) (h : Heap) (x : ℕ) → Good_act few e → OnMoved (perform N room a e h x) Good_after
  perform_good a (Go s) h x g = g
  perform_good a (Read b i f) h x g = read_good (h.cells b) i _ f h g
  perform_good a (Write b i v s) h x g = write_good (h.cells b) b i v _ s h g
  perform_good a (Make n f) h x g = moved_if (room h n) _ _ Good_after (λ e. moved_if (is_new h x) _ _ Good_after (λ d. g x) (λ d. tt)) (λ e. tt)
  perform_good a (Cut b s) h x g = cut_good (h.cells b) b _ s h g
  perform_good a (Split l r w) h x g = (g.2, g.0, g.1)
  perform_good a Over h x g = tt
  perform_good a (Bad r) h x g = tt

  ends_good : (a : A) (w : Wait) (p q : A) (s u : Stack) (h : Heap) → Good_wait few w → OnMoved (join_ends N a w p q s u h) Good_after
  ends_good a w p q (End xs) (End ys) h g = g
  ends_good a w p q (End xs) (Run f cs) h g = tt
  ends_good a w p q (Run f cs) u h g = tt

  right_good : (a : A) (w : Wait) (p : A) (s : Stack) (t : Tree A) (h : Heap) → Good_wait few w → OnMoved (join_right N a w p s t h) Good_after
  right_good a w p s (Leaf q u) h g = ends_good a w p q s u h g
  right_good a w p s (Fork q v l r) h g = tt

  join_good : (a : A) (w : Wait) (l r : Tree A) (h : Heap) → Good_wait few w → OnMoved (join_both N a w l r h) Good_after
  join_good a w (Leaf p s) r h g = right_good a w p s r h g
  join_good a w (Fork p v x y) r h g = tt

  pub move_good : (t : Tree A) (h : Heap) (path : List Side) (x : ℕ) → Good_tree few t → OnMoved (move N room few t h path x) Good_after
  move_good (Leaf a s) h [] x g = perform_good a (act few s) h x (good_act few more k s g)
  move_good (Leaf a s) h (d ∷ ds) x g = tt
  move_good (Fork a w l r) h [] x g = join_good a w l r h g.0
  move_good (Fork a w l r) h (Left ∷ ds) x g =
      moved_inside N (move N room few l h ds x) (λ t. Fork a w t r) Good_after (moved_map (move N room few l h ds x) Good_after (λ t i. Good_tree few (Fork a w t r)) (λ t i m. (g.0, m, g.2)) (move_good l h ds x g.1))
  move_good (Fork a w l r) h (Right ∷ ds) x g =
      moved_inside N (move N room few r h ds x) (λ t. Fork a w l t) Good_after (moved_map (move N room few r h ds x) Good_after (λ t i. Good_tree few (Fork a w l t)) (λ t i m. (g.0, g.1, m)) (move_good r h ds x g.2))

  -- and is the same
  pub move_same : (t : Tree A) (h : Heap) (path : List Side) (x : ℕ) → Good_tree few t → move N room few t h path x ≡ move N room more t h path x
  move_same (Leaf a s) h [] x g = ap (λ e. perform N room a e h x) (same_act few more k s g)
  move_same (Leaf a s) h (d ∷ ds) x g = refl
  move_same (Fork a w l r) h [] x g = refl
  move_same (Fork a w l r) h (Left ∷ ds) x g = ap (inside N (λ t. Fork a w t r)) (move_same l h ds x g.1)
  move_same (Fork a w l r) h (Right ∷ ds) x g = ap (inside N (λ t. Fork a w l t)) (move_same r h ds x g.2)

  -- ---- schedules

  pub reach_good : (es : Schedule) (t : Tree A) (h : Heap) → Good_tree few t → OnMoved (reach N room few es t h) Good_after
  reach_good [] t h g = g
  reach_good (e ∷ es) t h g =
      moved_then (move N room few t h e.0 e.1) (λ u i. reach N room few es u i) Good_after
      (moved_map (move N room few t h e.0 e.1) Good_after (λ u i. OnMoved (reach N room few es u i) Good_after) (λ u i m. reach_good es u i m) (move_good t h e.0 e.1 g))

  pub reach_same : (es : Schedule) (t : Tree A) (h : Heap) → Good_tree few t → reach N room few es t h ≡ reach N room more es t h
  reach_same [] t h g = refl
  reach_same (e ∷ es) t h g =
      then_same (move N room few t h e.0 e.1) (λ u i. reach N room few es u i) (λ u i. reach N room more es u i)
      (moved_map (move N room few t h e.0 e.1) Good_after (λ u i. reach N room few es u i ≡ reach N room more es u i) (λ u i m. reach_same es u i m) (move_good t h e.0 e.1 g))
      ∙ ap (λ y. and_then y (λ u i. reach N room more es u i)) (move_same t h e.0 e.1 g)

  pub shallow_more : (es : Schedule) (t : Tree A) (h : Heap) → Good_tree few t → IsShallow N room few es t h → IsShallow N room more es t h
  shallow_more [] t h g s = s
  shallow_more (e ∷ es) t h g s = (
    s.0,
    subst (λ y. OnMoved y (λ u i. IsShallow N room more es u i)) (move_same t h e.0 e.1 g)
        (moved_both (move N room few t h e.0 e.1) Good_after (λ u i. IsShallow N room few es u i) (λ u i. IsShallow N room more es u i) (λ u i m d. shallow_more es u i m d) (move_good t h e.0 e.1 g) s.1),
  )

  pub shallow_few : (es : Schedule) (t : Tree A) (h : Heap) → Good_tree few t → IsShallow N room more es t h → IsShallow N room few es t h
  shallow_few [] t h g s = s
  shallow_few (e ∷ es) t h g s = (
    s.0,
    moved_both (move N room few t h e.0 e.1) Good_after (λ u i. IsShallow N room more es u i) (λ u i. IsShallow N room few es u i) (λ u i m d. shallow_few es u i m d) (move_good t h e.0 e.1 g)
        (subst (λ y. OnMoved y (λ u i. IsShallow N room more es u i)) (sym (move_same t h e.0 e.1 g)) s.1),
  )

-- ---- what is said of a state

module _ (few more : List Proc) (k : AreOf more few) where
  some_leaf : {A : Type 0} (t : Tree A) (P Q : Stack → Type 0) → Good_tree few t → ((s : Stack) → Good_stack few s → P s → Q s) → SomeLeaf t P → SomeLeaf t Q
  some_leaf (Leaf a s) P Q g f p = f s g p
  some_leaf (Fork a w l r) P Q g f (inl p) = inl (some_leaf l P Q g.1 f p)
  some_leaf (Fork a w l r) P Q g f (inr p) = inr (some_leaf r P Q g.2 f p)

  spoils : (h : Heap) (s u : Stack) → Good_stack few s → Good_stack few u → (Spoils h (act few s) (act few u) ⊎ Spoils h (act few u) (act few s)) → Spoils h (act more s) (act more u) ⊎ Spoils h (act more u) (act more s)
  spoils h s u a b p =
      subst (λ y. Spoils h y (act more u) ⊎ Spoils h (act more u) y) (same_act few more k s a) (subst (λ y. Spoils h (act few s) y ⊎ Spoils h y (act few s)) (same_act few more k u b) p)

  pub race_same : {A : Type 0} (h : Heap) (t : Tree A) → Good_tree few t → Race few h t → Race more h t
  race_same h (Leaf a s) g r = r
  race_same h (Fork a w l r) g (inl p) = inl (some_leaf l _ _ g.1 (λ s b q. some_leaf r _ _ g.2 (λ u c o. spoils h s u b c o) q) p)
  race_same h (Fork a w l r) g (inr (inl p)) = inr (inl (race_same h l g.1 p))
  race_same h (Fork a w l r) g (inr (inr p)) = inr (inr (race_same h r g.2 p))

  pub unowned_same : (f : ℕ) (t : Tree Piece) → Good_tree few t → SomeUnowned few f t → SomeUnowned more f t
  unowned_same f (Leaf p s) g u = subst (λ y. IsUnowned f y p) (same_act few more k s g) u
  unowned_same f (Fork p w l r) g (inl u) = inl (unowned_same (suc f) l g.1 u)
  unowned_same f (Fork p w l r) g (inr u) = inr (unowned_same (suc f) r g.2 u)
