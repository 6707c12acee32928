-- Procedures that call each other.
use Rattle.std.proofs.Common.{ℕ, zero, suc, ◌<◌, List, arith}
use Rattle.target_code.specs.declared.tree.Proc.{Proc}
use Rattle.target_meaning.specs.Leaf.{Stack}
use Rattle.target_meaning.specs.Machine.{Leaf}
use Rattle.target_meaning.specs.Piece.{Piece}
use Rattle.triple_logic.specs.Safe.{at_end, Safe}

-- each call in X is safe, if it is so wherever all calls in X are safe for fewer steps
module _ (T : List Proc) (X : Type 0) (begins : X → Stack) (held : X → Piece) (met : X → List ℕ → Piece → Type 0) where
  abbrev pub CallsSafe : ℕ → Type 0
  CallsSafe m = (f : ℕ) (x : X) → Safe T at_end (met x) m f (Leaf (held x) (begins x))

  below : ((n : ℕ) → ((m : ℕ) → m < n → CallsSafe m) → CallsSafe n) → (n m : ℕ) → m < n → CallsSafe m
  below each zero m lt f x = absurd (let o : ⊥ = omega (arith, lt) in o)
  below each (suc n) m lt f x = each m (λ k kl. below each n k (omega (arith, kl, lt))) f x

  pub all_safe : ((n : ℕ) → ((m : ℕ) → m < n → CallsSafe m) → CallsSafe n) → (n : ℕ) → CallsSafe n
  all_safe each n f x = below each (suc n) n (omega arith) f x
