-- What is safe by itself is safe on top of what waits for it.
use Rattle.std.proofs.Common.{◌≡◌, ℕ, zero, suc, ◌+◌, ◌≤◌, List, [], ◌∷◌, refl, sym, subst, arith, Bool, true, false, cond, length}
use Rattle.std.specs.Prelude.{Option, Some, None, nat_lt}
use Rattle.target_code.specs.declared.tree.Proc.{Proc}
use Rattle.target_meaning.specs.declared.path.Side.{Side}
use Rattle.target_meaning.specs.declared.path.Side.TheVariants.{Left, Right}
use Rattle.target_meaning.specs.Leaf.{Stack, Run, End, Wait, Act, Go, Read, Write, Make, Cut, Split, Over, Bad, Number, Is, No, joined, with_number, with_proc, act}
use Rattle.target_meaning.specs.Machine.{Heap, Room, Cell, Never, Live, Freed, Tree, Leaf, Fork, Answer, Moved, Stuck, Full, NoSuchLeaf, NameUsed, read_cell, write_cell, cut_cell, is_new, perform, join_ends, join_both, move, inside, depth}
use Rattle.target_meaning.specs.Piece.{Piece, plus, Holds}
use Rattle.target_meaning.specs.Held.{holdings, Fine}
use Rattle.target_meaning.specs.Runs.{OnMoved}
use Rattle.triple_logic.specs.Safe.{Halt, Steps, AtRoot, Safe}
use Rattle.target_meaning.proofs.Moved.{moved_map}

pub if_map : {A B : Type 0} (b : Bool) (x y : Answer A) (u v : Answer B) (R : Tree A → Heap → Type 0) (P : Tree B → Heap → Type 0) → (OnMoved x R → OnMoved u P) → (OnMoved y R → OnMoved v P) → OnMoved (cond b x y) R → OnMoved (cond b u v) P
if_map true x y u v R P f k m = f m
if_map false x y u v R P f k m = k m

abbrev pub act_map : (Stack → Stack) → (Wait → Wait) → Act → Act
act_map e g (Go s) = Go (e s)
act_map e g (Read b i k) = Read b i (λ v. e (k v))
act_map e g (Write b i v s) = Write b i v (e s)
act_map e g (Make n k) = Make n (λ x. e (k x))
act_map e g (Cut b s) = Cut b (e s)
act_map e g (Split l r w) = Split l r (g w)
act_map e g Over = Over
act_map e g (Bad r) = Bad r

pub number_map : (e : Stack → Stack) (g : Wait → Wait) (n : Number) (k m : ℕ → Act) → ((v : ℕ) → m v ≡ act_map e g (k v)) → with_number n m ≡ act_map e g (with_number n k)
number_map e g (Is v) k m d = d v
number_map e g (No r) k m d = refl

pub proc_map : (e : Stack → Stack) (g : Wait → Wait) (p : Option Proc) (k m : Proc → Act) → ((v : Proc) → m v ≡ act_map e g (k v)) → with_proc p m ≡ act_map e g (with_proc p k)
proc_map e g None k m d = refl
proc_map e g (Some v) k m d = d v

-- the stacks e s go on as the stacks s do, up to where these are over
pub record Under (T : List Proc) (halt1 halt : Halt) (e : Stack → Stack) (g : Wait → Wait) : Type 0 where
  pub acts : (s : Stack) → halt1 s ≡ None → act T (e s) ≡ act_map e g (act T s)
  pub goes : (s : Stack) → halt1 s ≡ None → halt (e s) ≡ None
  pub joins : (w : Wait) (xs ys : List ℕ) → joined (g w) xs ys ≡ e (joined w xs ys)

module _ (e : Stack → Stack) (g : Wait → Wait) where
  abbrev pub on_root : Tree Piece → Tree Piece
  on_root (Leaf p s) = Leaf p (e s)
  on_root (Fork p w l r) = Fork p (g w) l r

  pub depth_root : (t : Tree Piece) → depth (on_root t) ≡ depth t
  depth_root (Leaf p s) = refl
  depth_root (Fork p w l r) = refl

  pub fine_map : (f : ℕ) (a : Act) (p : Piece) → Fine f a p → Fine f (act_map e g a) p
  fine_map f (Go s) p w = w
  fine_map f (Read b i k) p w = w
  fine_map f (Write b i v s) p w = w
  fine_map f (Make n k) p w = w
  fine_map f (Cut b s) p w = w
  fine_map f (Split l r w') p w = w
  fine_map f Over p w = w
  fine_map f (Bad r) p w = w

  module _ (room : Room) (P : Tree Piece → Heap → Type 0) where
    abbrev Rooted : Tree Piece → Heap → Type 0
    Rooted u h = P (on_root u) h

    read_root : (c : Cell) (i : ℕ) (p : Piece) (k : ℕ → Stack) (h : Heap) → OnMoved (read_cell holdings c i p k h) Rooted → OnMoved (read_cell holdings c i p (λ v. e (k v)) h) P
    read_root Never i p k h m = tt
    read_root Freed i p k h m = tt
    read_root (Live ws) i p k h m = if_map (nat_lt i (length ws)) _ _ _ _ Rooted P (λ y. y) (λ y. y) m

    write_root : (c : Cell) (b i v : ℕ) (p : Piece) (s : Stack) (h : Heap) → OnMoved (write_cell holdings c b i v p s h) Rooted → OnMoved (write_cell holdings c b i v p (e s) h) P
    write_root Never b i v p s h m = tt
    write_root Freed b i v p s h m = tt
    write_root (Live ws) b i v p s h m = if_map (nat_lt i (length ws)) _ _ _ _ Rooted P (λ y. y) (λ y. y) m

    cut_root : (c : Cell) (b : ℕ) (p : Piece) (s : Stack) (h : Heap) → OnMoved (cut_cell holdings c b p s h) Rooted → OnMoved (cut_cell holdings c b p (e s) h) P
    cut_root Never b p s h m = tt
    cut_root Freed b p s h m = tt
    cut_root (Live ws) b p s h m = m

    perform_root : (p : Piece) (a : Act) (h : Heap) (x : ℕ) → OnMoved (perform holdings room p a h x) Rooted → OnMoved (perform holdings room p (act_map e g a) h x) P
    perform_root p (Go s) h x m = m
    perform_root p (Read b i k) h x m = read_root (h.cells b) i p k h m
    perform_root p (Write b i v s) h x m = write_root (h.cells b) b i v _ s h m
    perform_root p (Make n k) h x m =
        if_map (room h n) _ _ _ _ Rooted P (λ y. if_map (is_new h x) _ _ _ _ Rooted P (λ z. z) (λ z. z) y) (λ y. y) m
    perform_root p (Cut b s) h x m = cut_root (h.cells b) b _ s h m
    perform_root p (Split l r w) h x m = m
    perform_root p Over h x m = tt
    perform_root p (Bad r) h x m = tt

    ends_root : (k : Piece) (w : Wait) (p q : Piece) (s t : Stack) (h : Heap) → ((xs ys : List ℕ) → joined (g w) xs ys ≡ e (joined w xs ys)) → OnMoved (join_ends holdings k w p q s t h) Rooted → OnMoved (join_ends holdings k (g w) p q s t h) P
    ends_root k w p q (End xs) (End ys) h j m = subst (λ s. P (Leaf (plus k (plus p q)) s) h) (sym (j xs ys)) m
    ends_root k w p q (End xs) (Run f cs) h j m = tt
    ends_root k w p q (Run f cs) t h j m = tt

    join_root : (k : Piece) (w : Wait) (l r : Tree Piece) (h : Heap) → ((xs ys : List ℕ) → joined (g w) xs ys ≡ e (joined w xs ys)) → OnMoved (join_both holdings k w l r h) Rooted → OnMoved (join_both holdings k (g w) l r h) P
    join_root k w (Leaf p s) (Leaf q t) h j m = ends_root k w p q s t h j m
    join_root k w (Leaf p s) (Fork q v x y) h j m = tt
    join_root k w (Fork p v x y) r h j m = tt

    inside_root : (a : Answer Piece) (k : Piece) (w : Wait) (c : Tree Piece → Tree Piece × Tree Piece) → OnMoved (inside holdings (λ u. Fork k w (c u).0 (c u).1) a) Rooted → OnMoved (inside holdings (λ u. Fork k (g w) (c u).0 (c u).1) a) P
    inside_root (Moved t h) k w c m = m
    inside_root (Stuck r) k w c m = tt
    inside_root Full k w c m = tt
    inside_root NoSuchLeaf k w c m = tt
    inside_root NameUsed k w c m = tt

module _ (T : List Proc) (halt1 halt : Halt) (e : Stack → Stack) (g : Wait → Wait) (U : Under T halt1 halt e g) where
  pub leaf_root : (room : Room) (P : Tree Piece → Heap → Type 0) (p : Piece) (s : Stack) (h : Heap) (path : List Side) (x : ℕ) → halt1 s ≡ None → OnMoved (move holdings room T (Leaf p s) h path x) (λ u k. P (on_root e g u) k) → OnMoved (move holdings room T (Leaf p (e s)) h path x) P
  leaf_root room P p s h [] x o m = subst (λ a. OnMoved (perform holdings room p a h x) P) (sym (U.acts s o)) (perform_root e g room P p (act T s) h x m)
  leaf_root room P p s h (d ∷ ds) x o m = tt

  pub fork_root : (room : Room) (P : Tree Piece → Heap → Type 0) (k : Piece) (w : Wait) (l r : Tree Piece) (h : Heap) (path : List Side) (x : ℕ) → OnMoved (move holdings room T (Fork k w l r) h path x) (λ u j. P (on_root e g u) j) → OnMoved (move holdings room T (Fork k (g w) l r) h path x) P
  fork_root room P k w l r h [] x m = join_root e g room P k w l r h (U.joins w) m
  fork_root room P k w l r h (Left ∷ ds) x m = inside_root e g room P (move holdings room T l h ds x) k w (λ u. (u, r)) m
  fork_root room P k w l r h (Right ∷ ds) x m = inside_root e g room P (move holdings room T r h ds x) k w (λ u. (l, u)) m

  module _ (Q1 Q : List ℕ → Piece → Type 0) where
    -- what goes on from where the first is over
    abbrev pub Next : ℕ → ℕ → Type 0
    Next n f =
        (m : ℕ) → m ≤ n → (s : Stack) (vs : List ℕ) (p : Piece) (h : Heap) → halt1 s ≡ Some vs → Holds p h → Q1 vs p → Safe T halt Q m f (Leaf p (e s))

    leaf_bind : (n f : ℕ) (p : Piece) (s : Stack) (h : Heap) (o : Option (List ℕ)) → halt1 s ≡ o → Holds p h → AtRoot o (λ vs. Q1 vs p) (Fine f (act T s) p × Steps T f (Leaf p s) h (Safe T halt1 Q1 n f)) → Next (suc n) f → ((u : Tree Piece) → Safe T halt1 Q1 n f u → Safe T halt Q n f (on_root e g u)) → AtRoot (halt (e s)) (λ vs. Q vs p) (Fine f (act T (e s)) p × Steps T f (Leaf p (e s)) h (Safe T halt Q n f))
    unfolding Safe
    leaf_bind n f p s h (Some vs) o hs a next ih = next (suc n) (omega arith) s vs p h o hs a h hs
    leaf_bind n f p s h None o hs a next ih =
        subst (λ y. AtRoot y (λ vs. Q vs p) (Fine f (act T (e s)) p × Steps T f (Leaf p (e s)) h (Safe T halt Q n f))) (sym (U.goes s o)) (
          subst (λ y. Fine f y p) (sym (U.acts s o)) (fine_map e g f (act T s) p a.0),
          λ room path x. leaf_root room (λ u k. f + depth u ≤ 64 → Safe T halt Q n f u) p s h path x o
              (moved_map (move holdings room T (Leaf p s) h path x) _ _ (λ u k m d. ih u (m (subst (λ y. f + y ≤ 64) (depth_root e g u) d))) (a.1 room path x)),
        )

    pub bind : (n f : ℕ) (t : Tree Piece) → Safe T halt1 Q1 n f t → Next n f → Safe T halt Q n f (on_root e g t)
    unfolding Safe
    bind zero f t s next = tt
    bind (suc n) f (Leaf p s) sf next = λ h hs.
        leaf_bind n f p s h (halt1 s) refl hs (sf h hs) next (λ u su. bind n f u su (λ m le. next m (omega arith)))
    bind (suc n) f (Fork k w l r) sf next = λ h hs.
        let a = sf h hs in (
          a.0,
          λ room path x. fork_root room (λ u j. f + depth u ≤ 64 → Safe T halt Q n f u) k w l r h path x
              (moved_map (move holdings room T (Fork k w l r) h path x) _ _
              (λ u j m d. bind n f u (m (subst (λ y. f + y ≤ 64) (depth_root e g u) d)) (λ m le. next m (omega arith))) (a.1 room path x)),
        )
