-- Hands of which one list is at its end.
use Rattle.std.proofs.Common.{◌≡◌, ℕ, zero, suc, ◌<◌, Bool, false, List, [], ◌∷◌, length, drop, arith, refl, sym, ◌∙◌}
use Rattle.target_code.specs.declared.tree.Hand.{Hand}
use Rattle.same_procs.specs.Same.{same_hands}

pub hands_over : (xs ys : List Hand) (i : ℕ) (b : Bool) → b ≡ same_hands (drop i xs) ys → i < length xs → length ys < 1 → false ≡ b
hands_over xs ys i b e l m = none xs i l ys m ∙ sym e
  where
    none : (xs : List Hand) (i : ℕ) → i < length xs → (ys : List Hand) → length ys < 1 → false ≡ same_hands (drop i xs) ys
    none [] i l ys m = absurd (omega (arith, l))
    none (x ∷ xs) zero l [] m = refl
    none (x ∷ xs) zero l (y ∷ ys) m = absurd (omega (arith, m))
    none (x ∷ xs) (suc i) l ys m = none xs i (omega (arith, l)) ys m
