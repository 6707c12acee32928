-- A map of notes takes a run to a run.
use Rattle.std.proofs.Common.{◌≡◌, ℕ, zero, suc, Bool, true, false, cond, List, [], ◌∷◌, length, refl, ap, ◌∙◌}
use Rattle.std.specs.Prelude.{nat_lt}
use Rattle.target_code.specs.declared.tree.Proc.{Proc}
use Rattle.target_meaning.specs.declared.path.Side.{Side}
use Rattle.target_meaning.specs.declared.path.Side.TheVariants.{Left, Right}
use Rattle.target_meaning.specs.Leaf.{Stack, Run, End, Wait, Act, Go, Read, Write, Make, Cut, Split, Over, Bad, act, joined}
use Rattle.target_meaning.specs.Machine.{Heap, Cell, Never, Live, Freed, Tree, Leaf, Fork, Answer, Moved, Stuck, Full, NoSuchLeaf, NameUsed, Notes, Room, any_room, is_new, read_cell, write_cell, cut_cell, perform, join_ends, join_both, move, inside}
use Rattle.target_meaning.specs.Runs.{Schedule, and_then, reach}
use Rattle.target_meaning.specs.LeftFirst.{has_ended, left_path, act_at, first_name, names_after, left_first}
use Rattle.run_notes.specs.Maps.{IsMap, tree_map, answer_map}

if_map : {A B : Type 0} (f : A → B) (b : Bool) (x y : Answer A) (u v : Answer B) → answer_map f x ≡ u → answer_map f y ≡ v → answer_map f (cond b x y) ≡ cond b u v
if_map f true x y u v e g = e
if_map f false x y u v e g = g

module _ {A B : Type 0} (N : Notes A) (M : Notes B) (f : A → B) (is : IsMap N M f) where
  inside_map : (a : Answer A) (g : Tree A → Tree A) (k : Tree B → Tree B) → ((t : Tree A) → tree_map f (g t) ≡ k (tree_map f t)) → answer_map f (inside N g a) ≡ inside M k (answer_map f a)
  inside_map (Moved t h) g k e = ap (λ u. Moved u h) (e t)
  inside_map (Stuck r) g k e = refl
  inside_map Full g k e = refl
  inside_map NoSuchLeaf g k e = refl
  inside_map NameUsed g k e = refl

  leaf_map : (a : A) (b : B) (s : Stack) (h : Heap) → f a ≡ b → answer_map f (Moved (Leaf a s) h) ≡ Moved (Leaf b s) h
  leaf_map a b s h e = ap (λ c. Moved (Leaf c s) h) e

  read_map : (c : Cell) (i : ℕ) (a : A) (b : B) (k : ℕ → Stack) (h : Heap) → f a ≡ b → answer_map f (read_cell N c i a k h) ≡ read_cell M c i b k h
  read_map Never i a b k h e = refl
  read_map Freed i a b k h e = refl
  read_map (Live ws) i a b k h e = if_map f (nat_lt i (length ws)) _ _ _ _ (leaf_map a b _ h e) refl

  write_map : (c : Cell) (n i v : ℕ) (a : A) (b : B) (s : Stack) (h : Heap) → f a ≡ b → answer_map f (write_cell N c n i v a s h) ≡ write_cell M c n i v b s h
  write_map Never n i v a b s h e = refl
  write_map Freed n i v a b s h e = refl
  write_map (Live ws) n i v a b s h e = if_map f (nat_lt i (length ws)) _ _ _ _ (leaf_map a b s _ e) refl

  cut_map : (c : Cell) (n : ℕ) (a : A) (b : B) (s : Stack) (h : Heap) → f a ≡ b → answer_map f (cut_cell N c n a s h) ≡ cut_cell M c n b s h
  cut_map Never n a b s h e = refl
  cut_map Freed n a b s h e = refl
  cut_map (Live ws) n a b s h e = leaf_map a b s _ e

  pub perform_map : (room : Room) (a : A) (e : Act) (h : Heap) (x : ℕ) → answer_map f (perform N room a e h x) ≡ perform M room (f a) e h x
  perform_map room a (Go s) h x = leaf_map _ _ s h (is.after a (Go s) x)
  perform_map room a (Read b i k) h x = read_map (h.cells b) i _ _ k h (is.after a (Read b i k) x)
  perform_map room a (Write b i v s) h x = write_map (h.cells b) b i v _ _ s h (is.after a (Write b i v s) x)
  perform_map room a (Make n k) h x = if_map f (room h n) _ _ _ _ (if_map f (is_new h x) _ _ _ _ (leaf_map _ _ (k x) _ (is.after a (Make n k) x)) refl) refl
  perform_map room a (Cut b s) h x = cut_map (h.cells b) b _ _ s h (is.after a (Cut b s) x)
  perform_map room a (Split l r w) h x =
      ap (λ c. Moved (Fork c w (Leaf (f (N.left a l r)) l.stack) (Leaf (f (N.right a l r)) r.stack)) h) (is.kept a l r)
      ∙ (ap (λ c. Moved (Fork (M.kept (f a) l r) w (Leaf c l.stack) (Leaf (f (N.right a l r)) r.stack)) h) (is.left a l r)
      ∙ ap (λ c. Moved (Fork (M.kept (f a) l r) w (Leaf (M.left (f a) l r) l.stack) (Leaf c r.stack)) h) (is.right a l r))
  perform_map room a Over h x = refl
  perform_map room a (Bad r) h x = refl

  ends_map : (a : A) (w : Wait) (p q : A) (s t : Stack) (h : Heap) → answer_map f (join_ends N a w p q s t h) ≡ join_ends M (f a) w (f p) (f q) s t h
  ends_map a w p q (End xs) (End ys) h = leaf_map _ _ (joined w xs ys) h (is.join a p q)
  ends_map a w p q (End xs) (Run g cs) h = refl
  ends_map a w p q (Run g cs) t h = refl

  join_map : (a : A) (w : Wait) (l r : Tree A) (h : Heap) → answer_map f (join_both N a w l r h) ≡ join_both M (f a) w (tree_map f l) (tree_map f r) h
  join_map a w (Leaf p s) (Leaf q t) h = ends_map a w p q s t h
  join_map a w (Leaf p s) (Fork q v x y) h = refl
  join_map a w (Fork p v x y) r h = refl

  move_map : (room : Room) (T : List Proc) (t : Tree A) (h : Heap) (path : List Side) (x : ℕ) → answer_map f (move N room T t h path x) ≡ move M room T (tree_map f t) h path x
  move_map room T (Leaf a s) h [] x = perform_map room a (act T s) h x
  move_map room T (Leaf a s) h (d ∷ ds) x = refl
  move_map room T (Fork a w l r) h [] x = join_map a w l r h
  move_map room T (Fork a w l r) h (Left ∷ ds) x =
      inside_map (move N room T l h ds x) _ (λ t. Fork (f a) w t (tree_map f r)) (λ t. refl) ∙ ap (inside M (λ t. Fork (f a) w t (tree_map f r))) (move_map room T l h ds x)
  move_map room T (Fork a w l r) h (Right ∷ ds) x =
      inside_map (move N room T r h ds x) _ (λ t. Fork (f a) w (tree_map f l) t) (λ t. refl) ∙ ap (inside M (λ t. Fork (f a) w (tree_map f l) t)) (move_map room T r h ds x)

  ended_map : (t : Tree A) → has_ended (tree_map f t) ≡ has_ended t
  ended_map (Leaf a (End vs)) = refl
  ended_map (Leaf a (Run g cs)) = refl
  ended_map (Fork a w l r) = refl

  path_map : (t : Tree A) → left_path (tree_map f t) ≡ left_path t
  path_map (Leaf a s) = refl
  path_map (Fork a w l r) = rw (ended_map l, ended_map r, path_map l, path_map r) refl

  act_map : (T : List Proc) (t : Tree A) (ds : List Side) → act_at T (tree_map f t) ds ≡ act_at T t ds
  act_map T (Leaf a s) ds = refl
  act_map T (Fork a w l r) [] = refl
  act_map T (Fork a w l r) (Left ∷ ds) = act_map T l ds
  act_map T (Fork a w l r) (Right ∷ ds) = act_map T r ds

  then_map : (a : Answer A) (k : Tree A → Heap → Answer A) (m : Tree B → Heap → Answer B) → ((t : Tree A) (h : Heap) → answer_map f (k t h) ≡ m (tree_map f t) h) → answer_map f (and_then a k) ≡ and_then (answer_map f a) m
  then_map (Moved t h) k m e = e t h
  then_map (Stuck r) k m e = refl
  then_map Full k m e = refl
  then_map NoSuchLeaf k m e = refl
  then_map NameUsed k m e = refl

  pub left_map : (T : List Proc) (n : ℕ) (xs : List ℕ) (t : Tree A) (h : Heap) → answer_map f (left_first N T n xs t h) ≡ left_first M T n xs (tree_map f t) h
  left_map T zero xs t h = refl
  left_map T (suc n) xs t h =
      then_map (move N any_room T t h (left_path t) (first_name xs)) _ (λ u g. left_first M T n (names_after (act_at T t (left_path t)) xs) u g)
      (λ u g. left_map T n (names_after (act_at T t (left_path t)) xs) u g)
      ∙ (ap (λ a. and_then a (λ u g. left_first M T n (names_after (act_at T t (left_path t)) xs) u g)) (move_map any_room T t h (left_path t) (first_name xs))
      ∙ rw (path_map t, act_map T t (left_path t)) refl)

  pub reach_map : (room : Room) (T : List Proc) (es : Schedule) (t : Tree A) (h : Heap) → answer_map f (reach N room T es t h) ≡ reach M room T es (tree_map f t) h
  reach_map room T [] t h = refl
  reach_map room T (e ∷ es) t h =
      then_map (move N room T t h e.0 e.1) _ (λ u g. reach M room T es u g) (λ u g. reach_map room T es u g) ∙
      ap (λ a. and_then a (λ u g. reach M room T es u g)) (move_map room T t h e.0 e.1)
