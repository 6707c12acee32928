-- Bounded runs of one leaf, and weakest preconditions of sequential code.
use Rattle.std.specs.Prelude.{◌≡◌, ℕ, zero, suc, ◌+◌, ◌≤◌, List, [], ◌∷◌, ◌++◌, ◌-◌, length, replicate, slice_index, slice_set}
use Rattle.std.specs.Prelude.{Some}
use Rattle.target_code.specs.declared.tree.Proc.{Proc}
use Rattle.target_meaning.specs.Leaf.{Stack, Run, Act, Go, Read, Write, Make, Cut, Split, Over, Bad, act, begin, find, calc_of, Is, read_all, put_all}
use Rattle.target_meaning.specs.Machine.{Heap}
use Rattle.target_meaning.specs.Piece.{Nil, Some_of, Piece, plus, Holds}
use Rattle.target_meaning.specs.Piece.{IsWhole}
use Rattle.target_meaning.specs.Held.{AllWhole, stored, with_new, without}
use Rattle.triple_logic.specs.Safe.{Halt, at_end, AtRoot}
use Rattle.triple_logic.specs.Text.{Text, Stop, Const, Mov, Op, Load, Store, Alloc, Free, If, While, Call}

-- what an end meets: the blocks that may still be claimed, results, and what is held
abbrev pub End_fact : Type 1
End_fact = List ℕ → List ℕ → Piece → Type 0

-- a block of n words may be claimed, and then those of the rest; where none may be claimed, or only a shorter one, it is refused
abbrev pub MayMake : List ℕ → ℕ → (List ℕ → Type 0) → Type 0
MayMake [] n R = ⊥
MayMake (w ∷ ws) n R = (n ≤ w) × R ws

-- one step of a leaf that never forks
abbrev pub Next : (List ℕ → Stack → Piece → Type 0) → List ℕ → Act → Piece → Type 0
Next R a (Go u) p = R a u p
Next R a (Read b i k) p = (v : ℕ) × (l : ℕ) × (p b (suc i) ≡ Some_of v l) × R a (k v) p
Next R a (Write b i v u) p = IsWhole (p b (suc i)) × R a u (stored p b i v)
Next R a (Make n k) p = MayMake a n (λ c. (x : ℕ) → ((j : ℕ) → p x j ≡ Nil) → R c (k x) (with_new p x n))
Next R a (Cut b u) p = AllWhole (p b 0) (p b) × R a u (without p b)
Next R a (Split l r w) p = ⊥
Next R a Over p = ⊥
Next R a (Bad r) p = ⊥

-- the leaf is over after b steps at most, claims only what it may, and is never stuck or unowned
unfoldable pub Ends : List Proc → Halt → End_fact → ℕ → List ℕ → Stack → Piece → Type 0
Ends T halt Q zero a s p = (h : Heap) → Holds p h → AtRoot (halt s) (λ vs. Q a vs p) ⊥
Ends T halt Q (suc b) a s p = (h : Heap) → Holds p h → AtRoot (halt s) (λ vs. Q a vs p) (Next (Ends T halt Q b) a (act T s) p)

-- a procedure on these arguments
abbrev pub Does : List Proc → Proc → End_fact → ℕ → List ℕ → List ℕ → Piece → Type 0
Does T g Q b a args p = Ends T at_end Q b a (Run (begin g args) []) p

-- what holds at a place of the code: steps made, blocks that may still be claimed, registers, and what is held
abbrev pub Assertion : Type 1
Assertion = ℕ → List ℕ → List ℕ → Piece → Type 0

-- at most m - 1 turns of a loop
abbrev pub turns : (Assertion → Assertion) → (Assertion → Assertion) → ℕ → ℕ → Assertion → Assertion
turns c b t zero Q s a regs p = ⊥
turns c b t (suc m) Q s a regs p =
    c (λ s a regs p. (slice_index regs t ≡ 0 → Q (suc s) a regs p) × ((slice_index regs t ≡ 0 → ⊥) → b (turns c b t m Q) (suc s) a regs p)) s a regs p

-- the weakest precondition, within B steps
abbrev pub wp : List Proc → ℕ → Text → Assertion → Assertion
wp T B Stop Q s a regs p = Q s a regs p
wp T B (Const to v k) Q s a regs p = wp T B k Q (suc s) a (slice_set regs to v) p
wp T B (Mov to from k) Q s a regs p = wp T B k Q (suc s) a (slice_set regs to (slice_index regs from)) p
wp T B (Op to w l r k) Q s a regs p =
    (v : ℕ) × (calc_of w (slice_index regs l) (slice_index regs r) ≡ Is v) × wp T B k Q (suc s) a (slice_set regs to v) p
wp T B (Load to b i k) Q s a regs p =
    (v : ℕ) × (l : ℕ) × (p (slice_index regs b) (suc (slice_index regs i)) ≡ Some_of v l) × wp T B k Q (suc s) a (slice_set regs to v) p
wp T B (Store b i v k) Q s a regs p =
    (q : Piece) × IsWhole (p (slice_index regs b) (suc (slice_index regs i))) × (stored p (slice_index regs b) (slice_index regs i) (slice_index regs v) ≡ q) × wp T B k Q (suc s) a regs q
wp T B (Alloc to n k) Q s a regs p =
    (suc s ≤ B) × MayMake a (slice_index regs n) (λ c.
    (x : ℕ) → ((j : ℕ) → p x j ≡ Nil) → (q : Piece) × (with_new p x (slice_index regs n) ≡ q) × ((h : Heap) → Holds q h → wp T B k Q (suc s) c (slice_set regs to x) q))
wp T B (Free b k) Q s a regs p =
    (q : Piece) × AllWhole (p (slice_index regs b) 0) (p (slice_index regs b)) × (without p (slice_index regs b) ≡ q) × wp T B k Q (suc s) a regs q
wp T B (If t x y k) Q s a regs p =
    ((slice_index regs t ≡ 0 → ⊥) → wp T B x (wp T B k Q) (suc s) a regs p) × (slice_index regs t ≡ 0 → wp T B y (wp T B k Q) (suc s) a regs p)
wp T B (While c t b k) Q s a regs p = (m : ℕ) × turns (wp T B c) (wp T B b) t m (wp T B k Q) (suc s) a regs p
wp T B (Call to name args k) Q s a regs p =
    (g : Proc) × (find T name ≡ Some g) × (b : ℕ) × (suc s + b ≤ B) × Does T g (λ c vs q. (h : Heap) → Holds q h → wp T B k Q (suc s + b) c (put_all to vs regs) q) b a (read_all regs args) p

-- the end of a procedure: its last step is within the bound, and its results meet its end
abbrev pub Meets : ℕ → End_fact → List ℕ → Assertion
Meets B Q ret s a regs p = (suc s ≤ B) × ((h : Heap) → Holds p h → Q a (read_all regs ret) p)

-- a procedure meets its end by the weakest precondition of its text
abbrev pub Proves : List Proc → Proc → Text → End_fact → ℕ → List ℕ → List ℕ → Piece → Type 0
Proves T g k Q B a args p = (h : Heap) → Holds p h → wp T B k (Meets B Q g.ret) 0 a (args ++ replicate (g.regs - length args) 0) p

-- the end is met, with some blocks left that may still be claimed
abbrev pub Left : End_fact → List ℕ → Piece → Type 0
Left Q vs q = (c : List ℕ) × Q c vs q

-- the same beside a piece that is as it was
abbrev pub Beside : End_fact → Piece → End_fact
Beside Q q a vs r = (p : Piece) × (r ≡ plus p q) × Q a vs p

-- ends of one shape: some x, by which the claims left, the results and the piece are given
abbrev pub Ended : (X : Type 0) → (X → List ℕ) → (X → List ℕ) → (X → Piece) → End_fact
Ended X A V P a vs q = (x : X) × (a ≡ A x) × (vs ≡ V x) × (q ≡ P x)
