-- Bounded runs: no schedule of the tree, under any frame, has more than b steps.
use Rattle.std.specs.Prelude.{ℕ, zero, suc, ◌+◌, List}
use Rattle.target_code.specs.declared.tree.Proc.{Proc}
use Rattle.target_meaning.specs.Leaf.{act}
use Rattle.target_meaning.specs.Machine.{Heap, Tree, Leaf, Fork}
use Rattle.target_meaning.specs.Piece.{Piece, Holds}
use Rattle.target_meaning.specs.Held.{total, Fine, AllFine}
use Rattle.triple_logic.specs.Safe.{Halt, Steps, AtRoot}

-- the root is over, in each heap that has what it holds, and its end is met
abbrev pub IsOver : Halt → (List ℕ → Piece → Type 0) → Tree Piece → Type 0
IsOver halt Q (Leaf p s) = (h : Heap) → Holds p h → AtRoot (halt s) (λ vs. Q vs p) ⊥
IsOver halt Q (Fork p w l r) = ⊥

-- after b steps at most, whatever the rest of the heap becomes, the root is over and its end is met; before that no leaf is stuck or unowned
unfoldable pub Bounded : List Proc → Halt → (List ℕ → Piece → Type 0) → ℕ → ℕ → Tree Piece → Type 0
Bounded T halt Q zero f t = IsOver halt Q t
Bounded T halt Q (suc n) f (Leaf p s) =
    (h : Heap) → Holds p h → AtRoot (halt s) (λ vs. Q vs p) (Fine f (act T s) p × Steps T f (Leaf p s) h (Bounded T halt Q n f))
Bounded T halt Q (suc n) f (Fork p w l r) =
    (h : Heap) → Holds (total (Fork p w l r)) h → AllFine T f (Fork p w l r) × Steps T f (Fork p w l r) h (Bounded T halt Q n f)

-- the steps of a loop of at most m turns: a for each run of its condition's code, one for each test, and b for each turn
abbrev pub while_bound : ℕ → ℕ → ℕ → ℕ
while_bound a b zero = a + suc (b + 0)
while_bound a b (suc m) = a + suc (b + while_bound a b m)
