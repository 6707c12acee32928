-- Two children that are safe make a fork that is safe.
use Rattle.std.proofs.Common.{ℕ, zero, suc, ◌+◌, ◌≤◌, arith, List, [], ◌∷◌}
use Rattle.std.specs.Prelude.{Option, Some, None}
use Rattle.target_code.specs.declared.tree.Proc.{Proc}
use Rattle.target_meaning.specs.declared.path.Side.TheVariants.{Left, Right}
use Rattle.target_meaning.specs.Leaf.{Run, End, Wait, joined}
use Rattle.target_meaning.specs.Machine.{Heap, Room, Tree, Leaf, Fork, move, depth}
use Rattle.target_meaning.specs.Piece.{Piece, plus, Holds}
use Rattle.target_meaning.specs.Held.{holdings, total, AllFine}
use Rattle.triple_logic.specs.Safe.{Halt, at_end, Steps, AtRoot, Safe}
use Rattle.target_meaning.specs.Runs.{OnMoved}
use Rattle.target_meaning.proofs.Shares.{holds_left, holds_right}
use Rattle.target_meaning.proofs.Moved.{moved_map, moved_inside}

pub root_map : (o : Option (List ℕ)) (M N : List ℕ → Type 0) (G H : Type 0) → ((vs : List ℕ) → M vs → N vs) → (G → H) → AtRoot o M G → AtRoot o N H
root_map None M N G H f g r = g r
root_map (Some vs) M N G H f g r = f vs r

-- for no steps
pub none_safe : (T : List Proc) (halt : Halt) (Q : List ℕ → Piece → Type 0) (f : ℕ) (t : Tree Piece) → Safe T halt Q 0 f t
unfolding Safe
none_safe T halt Q f t = tt

module _ (T : List Proc) (halt : Halt) (Q : List ℕ → Piece → Type 0) where
  pub steps_map : (f : ℕ) (t : Tree Piece) (h : Heap) (P R : Tree Piece → Type 0) → ((u : Tree Piece) → P u → R u) → Steps T f t h P → Steps T f t h R
  steps_map f t h P R g s room path x =
      moved_map (move holdings room T t h path x) (λ u k. f + depth u ≤ 64 → P u) (λ u k. f + depth u ≤ 64 → R u) (λ u k m d. g u (m d)) (s room path x)

  -- safe for fewer steps
  pub fewer : (n f : ℕ) (t : Tree Piece) → Safe T halt Q (suc n) f t → Safe T halt Q n f t
  unfolding Safe
  fewer zero f t s = tt
  fewer (suc n) f (Leaf p s) sf = λ h hs.
      root_map (halt s) _ _ _ _ (λ vs m. m)
      (λ g. (g.0, steps_map f (Leaf p s) h (Safe T halt Q (suc n) f) (Safe T halt Q n f) (λ u m. fewer n f u m) g.1))
      (sf h hs)
  fewer (suc n) f (Fork p w l r) sf = λ h hs.
      let g = sf h hs in
      (g.0, steps_map f (Fork p w l r) h (Safe T halt Q (suc n) f) (Safe T halt Q n f) (λ u m. fewer n f u m) g.1)

  -- a weaker end, which may rest on a heap that has what is then held
  pub weaker : (R : List ℕ → Piece → Type 0) → ((vs : List ℕ) (p : Piece) (h : Heap) → Holds p h → Q vs p → R vs p) → (n f : ℕ) (t : Tree Piece) → Safe T halt Q n f t → Safe T halt R n f t
  unfolding Safe
  weaker R imp zero f t s = tt
  weaker R imp (suc n) f (Leaf p s) sf = λ h hs.
      root_map (halt s) _ _ _ _ (λ vs m. imp vs p h hs m)
      (λ g. (g.0, steps_map f (Leaf p s) h (Safe T halt Q n f) (Safe T halt R n f) (λ u m. weaker R imp n f u m) g.1))
      (sf h hs)
  weaker R imp (suc n) f (Fork p w l r) sf = λ h hs.
      let g = sf h hs in
      (g.0, steps_map f (Fork p w l r) h (Safe T halt Q n f) (Safe T halt R n f) (λ u m. weaker R imp n f u m) g.1)

-- a leaf that has ended makes no step
pub ended_steps : (T : List Proc) (f : ℕ) (p : Piece) (vs : List ℕ) (h : Heap) (P : Tree Piece → Type 0) → Steps T f (Leaf p (End vs)) h P
ended_steps T f p vs h P room [] x = tt
ended_steps T f p vs h P room (d ∷ ds) x = tt

module _ (T : List Proc) (Q : List ℕ → Piece → Type 0) where
  -- what a child's safety says now
  pub fine_of : (n f : ℕ) (t : Tree Piece) (h : Heap) → Holds (total t) h → Safe T at_end Q (suc n) f t → AllFine T f t
  unfolding Safe
  fine_of n f (Leaf p (Run g cs)) h hs s = (s h hs).0
  fine_of n f (Leaf p (End vs)) h hs s = tt
  fine_of n f (Fork p w l r) h hs s = (s h hs).0

  pub steps_of : (n f : ℕ) (t : Tree Piece) (h : Heap) → Holds (total t) h → Safe T at_end Q (suc n) f t → Steps T f t h (Safe T at_end Q n f)
  unfolding Safe
  steps_of n f (Leaf p (Run g cs)) h hs s = (s h hs).1
  steps_of n f (Leaf p (End vs)) h hs s = ended_steps T f p vs h (Safe T at_end Q n f)
  steps_of n f (Fork p w l r) h hs s = (s h hs).1

module _ (T : List Proc) (halt : Halt) (Q1 Q2 Q : List ℕ → Piece → Type 0) (k : Piece) (w : Wait) where
  -- what follows the join
  abbrev pub After : ℕ → ℕ → Type 0
  After n f =
      (m : ℕ) → m ≤ n → (xs ys : List ℕ) (p q : Piece) (h : Heap) → Holds (plus k (plus p q)) h → Q1 xs p → Q2 ys q →
      Safe T halt Q m f (Leaf (plus k (plus p q)) (joined w xs ys))

  join_safe : (room : Room) (n f : ℕ) (l r : Tree Piece) (h : Heap) (x : ℕ) → Holds (plus k (plus (total l) (total r))) h → Safe T at_end Q1 (suc n) (suc f) l → Safe T at_end Q2 (suc n) (suc f) r → After n f → OnMoved (move holdings room T (Fork k w l r) h [] x) (λ u g. f + depth u ≤ 64 → Safe T halt Q n f u)
  unfolding Safe
  join_safe room n f (Leaf p (End xs)) (Leaf q (End ys)) h x hs sl sr after = λ d.
      after n (omega arith) xs ys p q h hs
      (sl h (holds_left p q h (holds_right k (plus p q) h hs)))
      (sr h (holds_right p q h (holds_right k (plus p q) h hs)))
  join_safe room n f (Leaf p (End xs)) (Leaf q (Run g cs)) h x hs sl sr after = tt
  join_safe room n f (Leaf p (End xs)) (Fork q v a b) h x hs sl sr after = tt
  join_safe room n f (Leaf p (Run g cs)) (Leaf q s) h x hs sl sr after = tt
  join_safe room n f (Leaf p (Run g cs)) (Fork q v a b) h x hs sl sr after = tt
  join_safe room n f (Fork p v a b) r h x hs sl sr after = tt

  fork_steps : (n f : ℕ) (l r : Tree Piece) (h : Heap) → Holds (plus k (plus (total l) (total r))) h → Safe T at_end Q1 (suc n) (suc f) l → Safe T at_end Q2 (suc n) (suc f) r → After n f → ((u : Tree Piece) → Safe T at_end Q1 n (suc f) u → Safe T halt Q n f (Fork k w u r)) → ((u : Tree Piece) → Safe T at_end Q2 n (suc f) u → Safe T halt Q n f (Fork k w l u)) → Steps T f (Fork k w l r) h (Safe T halt Q n f)
  fork_steps n f l r h hs sl sr after on_left on_right room [] x = join_safe room n f l r h x hs sl sr after
  fork_steps n f l r h hs sl sr after on_left on_right room (Left ∷ ds) x =
      moved_inside holdings (move holdings room T l h ds x) (λ t. Fork k w t r) (λ u g. f + depth u ≤ 64 → Safe T halt Q n f u)
      (moved_map (move holdings room T l h ds x) _ _ (λ u g m d. on_left u (m (omega arith)))
      (steps_of T Q1 n (suc f) l h (holds_left (total l) (total r) h (holds_right k (plus (total l) (total r)) h hs)) sl room ds x))
  fork_steps n f l r h hs sl sr after on_left on_right room (Right ∷ ds) x =
      moved_inside holdings (move holdings room T r h ds x) (λ t. Fork k w l t) (λ u g. f + depth u ≤ 64 → Safe T halt Q n f u)
      (moved_map (move holdings room T r h ds x) _ _ (λ u g m d. on_right u (m (omega arith)))
      (steps_of T Q2 n (suc f) r h (holds_right (total l) (total r) h (holds_right k (plus (total l) (total r)) h hs)) sr room ds x))

  -- the parallel law
  pub fork_safe : (n f : ℕ) (l r : Tree Piece) → Safe T at_end Q1 n (suc f) l → Safe T at_end Q2 n (suc f) r → After n f → Safe T halt Q n f (Fork k w l r)
  unfolding Safe
  fork_safe zero f l r sl sr after = tt
  fork_safe (suc n) f l r sl sr after = λ h hs.
      let both = holds_right k (plus (total l) (total r)) h hs in
      let after' : After n f = λ m le. after m (omega arith) in (
        (fine_of T Q1 n (suc f) l h (holds_left (total l) (total r) h both) sl, fine_of T Q2 n (suc f) r h (holds_right (total l) (total r) h both) sr),
        fork_steps n f l r h hs sl sr after'
            (λ u su. fork_safe n f u r su (fewer T at_end Q2 n (suc f) r sr) after')
            (λ u su. fork_safe n f l u (fewer T at_end Q1 n (suc f) l sl) su after'),
      )
