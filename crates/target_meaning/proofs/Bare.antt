-- The notes of a tree do not matter for the machine.
use Rattle.std.proofs.Common.{◌≡◌, ℕ, zero, suc, ◌≤◌, max, Bool, true, false, cond, List, [], ◌∷◌, length, refl, sym, ap, ◌∙◌, subst, ⊎_elim, inl, inr}
use Rattle.std.specs.Prelude.{nat_lt}
use Rattle.target_code.specs.declared.tree.Proc.{Proc}
use Rattle.target_meaning.specs.declared.path.Side.{Side}
use Rattle.target_meaning.specs.declared.path.Side.TheVariants.{Left, Right}
use Rattle.target_meaning.specs.Leaf.{Stack, Run, End, Wait, Act, Go, Read, Write, Make, Cut, Split, Over, Bad, act}
use Rattle.target_meaning.specs.Machine.{Heap, Cell, Never, Live, Freed, Tree, Leaf, Fork, Answer, Moved, Stuck, Full, NoSuchLeaf, NameUsed, Notes, nothing, Room, any_room, is_new, read_cell, write_cell, cut_cell, perform, join_ends, join_both, move, inside, depth}
use Rattle.target_meaning.specs.Runs.{Schedule, and_then, OnMoved, reach, IsShallow, SomeLeaf, Race, bare, bare_answer}
use Rattle.target_meaning.specs.LeftFirst.{has_ended, left_path, act_at, first_name, names_after, left_first, when_moved, left_schedule}
use Rattle.target_meaning.proofs.Moved.{moved_map}

if_bare : {A : Type 0} (b : Bool) (x y : Answer A) (u v : Answer (Unit {0})) → bare_answer x ≡ u → bare_answer y ≡ v → bare_answer (cond b x y) ≡ cond b u v
if_bare true x y u v e f = e
if_bare false x y u v e f = f

module _ {A : Type 0} (N : Notes A) (room : Room) where
  inside_bare : (a : Answer A) (g : Tree A → Tree A) (k : Tree (Unit {0}) → Tree (Unit {0})) → ((t : Tree A) → bare (g t) ≡ k (bare t)) → bare_answer (inside N g a) ≡ inside nothing k (bare_answer a)
  inside_bare (Moved t h) g k e = ap (λ u. Moved u h) (e t)
  inside_bare (Stuck r) g k e = refl
  inside_bare Full g k e = refl
  inside_bare NoSuchLeaf g k e = refl
  inside_bare NameUsed g k e = refl

  read_bare : (c : Cell) (i : ℕ) (a : A) (k : ℕ → Stack) (h : Heap) → bare_answer (read_cell N c i a k h) ≡ read_cell nothing c i tt k h
  read_bare Never i a k h = refl
  read_bare Freed i a k h = refl
  read_bare (Live ws) i a k h = if_bare (nat_lt i (length ws)) _ _ _ _ refl refl

  write_bare : (c : Cell) (b i v : ℕ) (a : A) (s : Stack) (h : Heap) → bare_answer (write_cell N c b i v a s h) ≡ write_cell nothing c b i v tt s h
  write_bare Never b i v a s h = refl
  write_bare Freed b i v a s h = refl
  write_bare (Live ws) b i v a s h = if_bare (nat_lt i (length ws)) _ _ _ _ refl refl

  cut_bare : (c : Cell) (b : ℕ) (a : A) (s : Stack) (h : Heap) → bare_answer (cut_cell N c b a s h) ≡ cut_cell nothing c b tt s h
  cut_bare Never b a s h = refl
  cut_bare Freed b a s h = refl
  cut_bare (Live ws) b a s h = refl

  perform_bare : (a : A) (e : Act) (h : Heap) (x : ℕ) → bare_answer (perform N room a e h x) ≡ perform nothing room tt e h x
  perform_bare a (Go s) h x = refl
  perform_bare a (Read b i k) h x = read_bare (h.cells b) i _ k h
  perform_bare a (Write b i v s) h x = write_bare (h.cells b) b i v _ s h
  perform_bare a (Make n k) h x = if_bare (room h n) _ _ _ _ (if_bare (is_new h x) _ _ _ _ refl refl) refl
  perform_bare a (Cut b s) h x = cut_bare (h.cells b) b _ s h
  perform_bare a (Split l r w) h x = refl
  perform_bare a Over h x = refl
  perform_bare a (Bad r) h x = refl

  ends_bare : (a : A) (w : Wait) (p q : A) (s t : Stack) (h : Heap) → bare_answer (join_ends N a w p q s t h) ≡ join_ends nothing tt w tt tt s t h
  ends_bare a w p q (End xs) (End ys) h = refl
  ends_bare a w p q (End xs) (Run f cs) h = refl
  ends_bare a w p q (Run f cs) t h = refl

  join_bare : (a : A) (w : Wait) (l r : Tree A) (h : Heap) → bare_answer (join_both N a w l r h) ≡ join_both nothing tt w (bare l) (bare r) h
  join_bare a w (Leaf p s) (Leaf q t) h = ends_bare a w p q s t h
  join_bare a w (Leaf p s) (Fork q v x y) h = refl
  join_bare a w (Fork p v x y) r h = refl

  pub move_bare : (T : List Proc) (t : Tree A) (h : Heap) (path : List Side) (x : ℕ) → bare_answer (move N room T t h path x) ≡ move nothing room T (bare t) h path x
  move_bare T (Leaf a s) h [] x = perform_bare a (act T s) h x
  move_bare T (Leaf a s) h (d ∷ ds) x = refl
  move_bare T (Fork a w l r) h [] x = join_bare a w l r h
  move_bare T (Fork a w l r) h (Left ∷ ds) x =
      inside_bare (move N room T l h ds x) _ (λ t. Fork tt w t (bare r)) (λ t. refl) ∙ ap (inside nothing (λ t. Fork tt w t (bare r))) (move_bare T l h ds x)
  move_bare T (Fork a w l r) h (Right ∷ ds) x =
      inside_bare (move N room T r h ds x) _ (λ t. Fork tt w (bare l) t) (λ t. refl) ∙ ap (inside nothing (λ t. Fork tt w (bare l) t)) (move_bare T r h ds x)

  then_bare : (a : Answer A) (k : Tree A → Heap → Answer A) (m : Tree (Unit {0}) → Heap → Answer (Unit {0})) → ((t : Tree A) (h : Heap) → bare_answer (k t h) ≡ m (bare t) h) → bare_answer (and_then a k) ≡ and_then (bare_answer a) m
  then_bare (Moved t h) k m e = e t h
  then_bare (Stuck r) k m e = refl
  then_bare Full k m e = refl
  then_bare NoSuchLeaf k m e = refl
  then_bare NameUsed k m e = refl

  ended_bare : (t : Tree A) → has_ended (bare t) ≡ has_ended t
  ended_bare (Leaf a (End vs)) = refl
  ended_bare (Leaf a (Run g cs)) = refl
  ended_bare (Fork a w l r) = refl

  path_bare : (t : Tree A) → left_path (bare t) ≡ left_path t
  path_bare (Leaf a s) = refl
  path_bare (Fork a w l r) = rw (ended_bare l, ended_bare r, path_bare l, path_bare r) refl

  act_bare : (T : List Proc) (t : Tree A) (ds : List Side) → act_at T (bare t) ds ≡ act_at T t ds
  act_bare T (Leaf a s) ds = refl
  act_bare T (Fork a w l r) [] = refl
  act_bare T (Fork a w l r) (Left ∷ ds) = act_bare T l ds
  act_bare T (Fork a w l r) (Right ∷ ds) = act_bare T r ds

  pub reach_bare : (T : List Proc) (es : Schedule) (t : Tree A) (h : Heap) → bare_answer (reach N room T es t h) ≡ reach nothing room T es (bare t) h
  reach_bare T [] t h = refl
  reach_bare T (e ∷ es) t h =
      then_bare (move N room T t h e.0 e.1) _ (λ u g. reach nothing room T es u g) (λ u g. reach_bare T es u g) ∙
      ap (λ a. and_then a (λ u g. reach nothing room T es u g)) (move_bare T t h e.0 e.1)

module _ {A : Type 0} (N : Notes A) (T : List Proc) where
  pub left_bare : (n : ℕ) (xs : List ℕ) (t : Tree A) (h : Heap) → bare_answer (left_first N T n xs t h) ≡ left_first nothing T n xs (bare t) h
  left_bare zero xs t h = refl
  left_bare (suc n) xs t h =
      then_bare N any_room (move N any_room T t h (left_path t) (first_name xs)) _ (λ u g. left_first nothing T n (names_after (act_at T t (left_path t)) xs) u g)
      (λ u g. left_bare n (names_after (act_at T t (left_path t)) xs) u g) ∙
      (ap (λ a. and_then a (λ u g. left_first nothing T n (names_after (act_at T t (left_path t)) xs) u g)) (move_bare N any_room T t h (left_path t) (first_name xs)) ∙
      rw (path_bare N any_room t, act_bare N any_room T t (left_path t)) refl)

  when_bare : (a : Answer A) (k : Tree A → Heap → Schedule) (m : Tree (Unit {0}) → Heap → Schedule) → ((u : Tree A) (g : Heap) → k u g ≡ m (bare u) g) → when_moved a k ≡ when_moved (bare_answer a) m
  when_bare (Moved u g) k m e = e u g
  when_bare (Stuck r) k m e = refl
  when_bare Full k m e = refl
  when_bare NoSuchLeaf k m e = refl
  when_bare NameUsed k m e = refl

  pub schedule_bare : (n : ℕ) (xs : List ℕ) (t : Tree A) (h : Heap) → left_schedule N T n xs t h ≡ left_schedule nothing T n xs (bare t) h
  schedule_bare zero xs t h = refl
  schedule_bare (suc n) xs t h =
      ap (λ es. (left_path t, first_name xs) ∷ es)
      (when_bare (move N any_room T t h (left_path t) (first_name xs)) _ (λ u g. left_schedule nothing T n (names_after (act_at T t (left_path t)) xs) u g)
      (λ u g. schedule_bare n (names_after (act_at T t (left_path t)) xs) u g)) ∙
      (ap (λ a. (left_path t, first_name xs) ∷ when_moved a (λ u g. left_schedule nothing T n (names_after (act_at T t (left_path t)) xs) u g)) (move_bare N any_room T t h (left_path t) (first_name xs)) ∙
      rw (path_bare N any_room t, act_bare N any_room T t (left_path t)) refl)

pub depth_bare : {A : Type 0} (t : Tree A) → depth (bare t) ≡ depth t
depth_bare (Leaf a s) = refl
depth_bare (Fork a w l r) = ap suc (ap (λ y. max y (depth (bare r))) (depth_bare l) ∙ ap (max (depth l)) (depth_bare r))

moved_from : {A : Type 0} (a : Answer A) (P : Tree (Unit {0}) → Heap → Type 0) → OnMoved (bare_answer a) P → OnMoved a (λ t h. P (bare t) h)
moved_from (Moved t h) P m = m
moved_from (Stuck r) P m = tt
moved_from Full P m = tt
moved_from NoSuchLeaf P m = tt
moved_from NameUsed P m = tt

pub shallow_bare : {A : Type 0} (N : Notes A) (room : Room) (T : List Proc) (es : Schedule) (t : Tree A) (h : Heap) → IsShallow nothing room T es (bare t) h → IsShallow N room T es t h
shallow_bare N room T [] t h w = subst (λ y. y ≤ 64) (depth_bare t) w
shallow_bare N room T (e ∷ es) t h w = (
  subst (λ y. y ≤ 64) (depth_bare t) w.0,
  moved_map (move N room T t h e.0 e.1) (λ u g. IsShallow nothing room T es (bare u) g) (λ u g. IsShallow N room T es u g) (λ u g m. shallow_bare N room T es u g m)
      (moved_from (move N room T t h e.0 e.1) (λ u g. IsShallow nothing room T es u g)
      (subst (λ y. OnMoved y (λ u g. IsShallow nothing room T es u g)) (sym (move_bare N room T t h e.0 e.1)) w.1)),
)

moved_to : {A : Type 0} (a : Answer A) (P : Tree (Unit {0}) → Heap → Type 0) → OnMoved a (λ t h. P (bare t) h) → OnMoved (bare_answer a) P
moved_to (Moved t h) P m = m
moved_to (Stuck r) P m = tt
moved_to Full P m = tt
moved_to NoSuchLeaf P m = tt
moved_to NameUsed P m = tt

pub bare_shallow : {A : Type 0} (N : Notes A) (room : Room) (T : List Proc) (es : Schedule) (t : Tree A) (h : Heap) → IsShallow N room T es t h → IsShallow nothing room T es (bare t) h
bare_shallow N room T [] t h w = subst (λ y. y ≤ 64) (sym (depth_bare t)) w
bare_shallow N room T (e ∷ es) t h w = (
  subst (λ y. y ≤ 64) (sym (depth_bare t)) w.0,
  subst (λ y. OnMoved y (λ u g. IsShallow nothing room T es u g)) (move_bare N room T t h e.0 e.1)
      (moved_to (move N room T t h e.0 e.1) (λ u g. IsShallow nothing room T es u g)
      (moved_map (move N room T t h e.0 e.1) (λ u g. IsShallow N room T es u g) (λ u g. IsShallow nothing room T es (bare u) g) (λ u g m. bare_shallow N room T es u g m) w.1)),
)

bare_some : {A : Type 0} (t : Tree A) (P R : Stack → Type 0) → ((s : Stack) → P s → R s) → SomeLeaf t P → SomeLeaf (bare t) R
bare_some (Leaf a s) P R f m = f s m
bare_some (Fork a w l r) P R f m = ⊎_elim (λ x. inl (bare_some l P R f x)) (λ x. inr (bare_some r P R f x)) m

pub bare_race : {A : Type 0} (T : List Proc) (h : Heap) (t : Tree A) → Race T h t → Race T h (bare t)
bare_race T h (Leaf a s) m = m
bare_race T h (Fork a w l r) m =
    ⊎_elim
    (λ x. inl (bare_some l _ _ (λ s y. bare_some r _ _ (λ u z. z) y) x))
    (λ x. ⊎_elim (λ y. inr (inl (bare_race T h l y))) (λ y. inr (inr (bare_race T h r y))) x)
    m

some_bare : {A : Type 0} (t : Tree A) (P R : Stack → Type 0) → ((s : Stack) → P s → R s) → SomeLeaf (bare t) P → SomeLeaf t R
some_bare (Leaf a s) P R f m = f s m
some_bare (Fork a w l r) P R f m = ⊎_elim (λ x. inl (some_bare l P R f x)) (λ x. inr (some_bare r P R f x)) m

pub race_bare : {A : Type 0} (T : List Proc) (h : Heap) (t : Tree A) → Race T h (bare t) → Race T h t
race_bare T h (Leaf a s) m = m
race_bare T h (Fork a w l r) m =
    ⊎_elim
    (λ x. inl (some_bare l _ _ (λ s y. some_bare r _ _ (λ u z. z) y) x))
    (λ x. ⊎_elim (λ y. inr (inl (race_bare T h l y))) (λ y. inr (inr (race_bare T h r y))) x)
    m
