-- No run claims more than it may.
use Rattle.std.proofs.Common.{◌≡◌, ℕ, zero, suc, ◌+◌, ◌≤◌, List, [], ◌∷◌, length, sym, subst, arith}
use Rattle.std.specs.Prelude.{Some, slice_set, nat_lt}
use Rattle.target_code.specs.declared.tree.Proc.{Proc}
use Rattle.target_meaning.specs.declared.path.Side.{Side}
use Rattle.target_meaning.specs.declared.answer.Reason.TheVariants.{Index}
use Rattle.target_meaning.specs.Leaf.{Stack, Run, End, Act, Go, Read, Write, Make, Cut, Split, Over, Bad, act, begin}
use Rattle.target_meaning.specs.Machine.{Heap, Room, IsSized, Cell, Never, Live, Freed, Tree, Leaf, Fork, Answer, Moved, Stuck, Full, NameUsed, is_new, with_block, with_cell, read_cell, write_cell, cut_cell, perform, move}
use Rattle.target_meaning.specs.Piece.{Some_of, Piece, none, at_place, Fits, Holds}
use Rattle.target_meaning.specs.Held.{with_new, holdings}
use Rattle.target_meaning.specs.Runs.{AtLeaf, Schedule, OnMoved, and_then, reach}
use Rattle.triple_logic.specs.Safe.{at_end}
use Rattle.target_meaning.proofs.Lists.{get_index}
use Rattle.target_meaning.proofs.Shares.{plus-none}
use Rattle.target_meaning.proofs.Moved.{moved_if}
use Rattle.target_meaning.proofs.Moved.{moved_map, moved_both, moved_then}
use Rattle.target_meaning.proofs.Keeps.{none_here, new_is, Kept, leaf_keeps}
use Rattle.triple_logic.specs.Weakest.{End_fact, MayMake, Next, Ends, Does}
use Rattle.triple_logic.specs.Claims.{cost}
use Rattle.triple_logic.proofs.Ends.{Duty, step_moved}

module _ (R : Duty) (a : List ℕ) (h : Heap) where
  -- a step of a leaf: what it may still claim, and what is claimed
  abbrev Spent : Tree Piece → Heap → Type 0
  Spent (Leaf p s) g = (c : List ℕ) × (g.claimed + cost c ≤ h.claimed + cost a) × R c s p
  Spent (Fork p w l r) g = ⊥

  read_spent : (p : Piece) (k : ℕ → Stack) (c : Cell) (i v : ℕ) → at_place c (suc i) ≡ Some v → R a (k v) p → OnMoved (read_cell holdings c i p k h) Spent
  read_spent p k Never i v e s = tt
  read_spent p k Freed i v e s = tt
  read_spent p k (Live ws) i v e s =
      moved_if (nat_lt i (length ws)) _ (Stuck Index) Spent (λ lt. (a, omega arith, subst (λ y. R a (k y) p) (sym (get_index ws i v e)) s)) (λ lt. tt)

  write_spent : (p : Piece) (u : Stack) (c : Cell) (b i v : ℕ) → R a u p → OnMoved (write_cell holdings c b i v p u h) Spent
  write_spent p u Never b i v s = tt
  write_spent p u Freed b i v s = tt
  write_spent p u (Live ws) b i v s = moved_if (nat_lt i (length ws)) (Moved (Leaf p u) (with_cell h b (Live (slice_set ws i v)))) (Stuck Index) Spent (λ lt. (a, omega arith, s)) (λ lt. tt)

  cut_spent : (p : Piece) (u : Stack) (c : Cell) (b : ℕ) → R a u p → OnMoved (cut_cell holdings c b p u h) Spent
  cut_spent p u Never b s = tt
  cut_spent p u Freed b s = tt
  cut_spent p u (Live ws) b s = (a, omega arith, s)

make_spent : (room : Room) (R : Duty) (a : List ℕ) (h : Heap) (n : ℕ) (k : ℕ → Stack) (p : Piece) (x : ℕ) → Holds p h → Next R a (Make n k) p → OnMoved (perform holdings room p (Make n k) h x) (Spent R a h)
make_spent room R [] h n k p x hs m = absurd m
make_spent room R (w ∷ ws) h n k p x hs m =
    moved_if (room h n) _ Full (Spent R (w ∷ ws) h)
    (λ c. moved_if (is_new h x) (Moved (Leaf (with_new p x n) (k x)) (with_block h x n)) NameUsed (Spent R (w ∷ ws) h)
    (λ new. (ws, omega (arith, m.0), m.1 x (λ j. none_here (p x j) (subst (λ y. Fits (p x j) (at_place y j)) (new_is h x new) (hs.places x j))))) (λ g. tt))
    (λ c. tt)

step_spent : (room : Room) (R : Duty) (a : List ℕ) (h : Heap) (e : Act) (p : Piece) (x : ℕ) → Holds p h → Next R a e p → OnMoved (perform holdings room p e h x) (Spent R a h)
step_spent room R a h (Go u) p x hs n = (a, omega arith, n)
step_spent room R a h (Read b i k) p x hs n =
    read_spent R a h p k (h.cells b) i n.0 (let y : Fits (Some_of n.0 n.1) (at_place (h.cells b) (suc i)) = subst (λ y. Fits y (at_place (h.cells b) (suc i))) n.2 (hs.places b (suc i)) in y.0) n.3
step_spent room R a h (Write b i v u) p x hs n = write_spent R a h _ u (h.cells b) b i v n.1
step_spent room R a h (Make l k) p x hs n = make_spent room R a h l k p x hs n
step_spent room R a h (Cut b u) p x hs n = cut_spent R a h _ u (h.cells b) b n.1
step_spent room R a h (Split l r w) p x hs n = absurd n
step_spent room R a h Over p x hs n = absurd n
step_spent room R a h (Bad r) p x hs n = absurd n

then_moved : (x : Answer Piece) (k : Tree Piece → Heap → Answer Piece) (P S : Tree Piece → Heap → Type 0) → ((t : Tree Piece) (h : Heap) → P t h → OnMoved (k t h) S) → OnMoved x P → OnMoved (and_then x k) S
then_moved x k P S f p = moved_then x k S (moved_map x P (λ t h. OnMoved (k t h) S) f p)

module _ (room : Room) (sized : IsSized room) (T : List Proc) (Q : End_fact) where
  abbrev Now : ℕ → Tree Piece → Heap → Type 0
  Now m (Leaf p s) g = (b : ℕ) × (c : List ℕ) × (g.claimed + cost c ≤ m) × Holds p g × Ends T at_end Q b c s p
  Now m (Fork p w l r) g = ⊥

  leaf_now : (m b : ℕ) (c : List ℕ) (s : Stack) (p : Piece) (g : Heap) (path : List Side) (x : ℕ) → g.claimed + cost c ≤ m → Holds p g → Ends T at_end Q b c s p → OnMoved (move holdings room T (Leaf p s) g path x) (Now m)
  unfolding Ends
  leaf_now m b c s p g (d ∷ ds) x le hs w = tt
  leaf_now m b c (End vs) p g [] x le hs w = tt
  leaf_now m zero c (Run f cs) p g [] x le hs w = absurd (w g hs)
  leaf_now m (suc b) c (Run f cs) p g [] x le hs w =
      let n = w g hs in
      moved_both (perform holdings room p (act T (Run f cs)) g x) (Spent (Ends T at_end Q b) c g) (Kept none) (Now m)
      (λ t k sp kp. together t k sp kp)
      (step_spent room (Ends T at_end Q b) c g (act T (Run f cs)) p x hs n)
      (leaf_keeps room sized p none g x (subst (λ y. Holds y g) (sym (plus-none p)) hs) 0 (act T (Run f cs)) (step_moved (λ u. Unit {0}) 0 (Ends T at_end Q b) (λ c s p r. tt) c (act T (Run f cs)) p g hs n).0)
    where
      together : (t : Tree Piece) (k : Heap) → Spent (Ends T at_end Q b) c g t k → Kept none t k → Now m t k
      together (Leaf q u) k sp kp = (b, sp.0, omega (arith, sp.1, le), subst (λ y. Holds y k) (plus-none q) kp, sp.2)
      together (Fork q v l r) k sp kp = sp

  run_now : (es : Schedule) (m : ℕ) (t : Tree Piece) (g : Heap) → Now m t g → OnMoved (reach holdings room T es t g) (Now m)
  run_now [] m (Leaf p s) g w = w
  run_now [] m (Fork p v l r) g w = absurd w
  run_now (e ∷ es) m (Fork p v l r) g w = absurd w
  run_now (e ∷ es) m (Leaf p s) g w =
      then_moved (move holdings room T (Leaf p s) g e.0 e.1) (λ u k. reach holdings room T es u k) (Now m) (Now m)
      (λ u k n. run_now es m u k n) (leaf_now m w.0 w.1 s p g e.0 e.1 w.2 w.3 w.4)

  spent : (m : ℕ) (t : Tree Piece) (g : Heap) → Now m t g → g.claimed ≤ m
  spent m (Leaf p s) g w = omega (arith, w.2)
  spent m (Fork p v l r) g w = absurd w

  may_fit : (m n : ℕ) (g : Heap) (c : List ℕ) (R : List ℕ → Type 0) → g.claimed + cost c ≤ m → MayMake c n R → g.claimed + n + 1 ≤ m
  may_fit m n g [] R le w = absurd w
  may_fit m n g (l ∷ ls) R le w = omega (arith, le, w.0)

  asks_at : (m b n : ℕ) (c : List ℕ) (s : Stack) (p : Piece) (k : ℕ → Stack) (g : Heap) → g.claimed + cost c ≤ m → Holds p g → Ends T at_end Q b c s p → act T s ≡ Make n k → g.claimed + n + 1 ≤ m
  unfolding Ends
  asks_at m b n c (End vs) p k g le hs w e = cc e
  asks_at m zero n c (Run f cs) p k g le hs w e = absurd (w g hs)
  asks_at m (suc b) n c (Run f cs) p k g le hs w e = may_fit m n g c _ le (let r : Next (Ends T at_end Q b) c (Make n k) p = subst (λ y. Next (Ends T at_end Q b) c y p) e (w g hs) in r)

  asks : (m : ℕ) (t : Tree Piece) (g : Heap) → Now m t g → AtLeaf t [] (λ p s. (n : ℕ) (k : ℕ → Stack) → act T s ≡ Make n k → g.claimed + n + 1 ≤ m)
  asks m (Leaf p s) g w = λ n k e. asks_at m w.0 n w.1 s p k g w.2 w.3 w.4 e
  asks m (Fork p v l r) g w = absurd w

  pub claims_most : (g : Proc) (b : ℕ) (a args : List ℕ) (p : Piece) → Does T g Q b a args p → (es : Schedule) (h : Heap) → Holds p h → OnMoved (reach holdings room T es (Leaf p (Run (begin g args) [])) h) (λ u k. k.claimed ≤ h.claimed + cost a)
  claims_most g b a args p w es h hs =
      moved_map (reach holdings room T es (Leaf p (Run (begin g args) [])) h) (Now (h.claimed + cost a)) (λ u k. k.claimed ≤ h.claimed + cost a) (λ u k n. spent (h.claimed + cost a) u k n)
      (run_now es (h.claimed + cost a) (Leaf p (Run (begin g args) [])) h (b, a, omega arith, hs, w))

  pub asks_most : (g : Proc) (b : ℕ) (a args : List ℕ) (p : Piece) → Does T g Q b a args p → (es : Schedule) (h : Heap) → Holds p h → OnMoved (reach holdings room T es (Leaf p (Run (begin g args) [])) h) (λ u k. AtLeaf u [] (λ q s. (n : ℕ) (next : ℕ → Stack) → act T s ≡ Make n next → k.claimed + n + 1 ≤ h.claimed + cost a))
  asks_most g b a args p w es h hs =
      moved_map (reach holdings room T es (Leaf p (Run (begin g args) [])) h) (Now (h.claimed + cost a)) _ (λ u k n. asks (h.claimed + cost a) u k n)
      (run_now es (h.claimed + cost a) (Leaf p (Run (begin g args) [])) h (b, a, omega arith, hs, w))
