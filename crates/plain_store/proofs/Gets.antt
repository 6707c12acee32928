-- Reads of lists after changes.
use Rattle.std.proofs.Common.{◌≡◌, ◌≢◌, ℕ, zero, suc, ◌+◌, ◌<◌, ◌≤◌, List, [], ◌∷◌, ◌++◌, length, replicate, refl, ap, arith}
use Rattle.std.specs.Prelude.{Some, None, slice_get, slice_set, take}

module _ {A : Type 0} where
  pub set_same : (ws : List A) (i : ℕ) (v : A) → i < length ws → slice_get (slice_set ws i v) i ≡ Some v
  set_same [] i v h = absurd (let f : ⊥ = omega arith in f)
  set_same (w ∷ ws) zero v h = refl
  set_same (w ∷ ws) (suc i) v h = set_same ws i v (omega arith)

  pub set_other : (ws : List A) (i j : ℕ) (v : A) → j ≢ i → slice_get (slice_set ws i v) j ≡ slice_get ws j
  set_other [] i j v h = refl
  set_other (w ∷ ws) zero zero v h = absurd (h refl)
  set_other (w ∷ ws) zero (suc j) v h = refl
  set_other (w ∷ ws) (suc i) zero v h = refl
  set_other (w ∷ ws) (suc i) (suc j) v h = set_other ws i j v (λ e. h (ap suc e))

  pub past : (ws : List A) (i : ℕ) → length ws ≤ i → slice_get ws i ≡ None
  past [] i h = refl
  past (w ∷ ws) zero h = absurd (let f : ⊥ = omega arith in f)
  past (w ∷ ws) (suc i) h = past ws i (omega arith)

  pub in_front : (ws us : List A) (i : ℕ) → i < length ws → slice_get (ws ++ us) i ≡ slice_get ws i
  in_front [] us i h = absurd (let f : ⊥ = omega arith in f)
  in_front (w ∷ ws) us zero h = refl
  in_front (w ∷ ws) us (suc i) h = in_front ws us i (omega arith)

  pub behind : (ws us : List A) (i j : ℕ) → i ≡ length ws + j → slice_get (ws ++ us) i ≡ slice_get us j
  behind [] us i j h = let e : i ≡ j = omega arith in ap (slice_get us) e
  behind (w ∷ ws) us zero j h = absurd (let f : ⊥ = omega arith in f)
  behind (w ∷ ws) us (suc i) j h = behind ws us i j (omega arith)

  pub of_same : (n i : ℕ) (a : A) → i < n → slice_get (replicate n a) i ≡ Some a
  of_same zero i a h = absurd (let f : ⊥ = omega arith in f)
  of_same (suc n) zero a h = refl
  of_same (suc n) (suc i) a h = of_same n i a (omega arith)

  pub take_all : (n : ℕ) (ws : List A) → length ws ≤ n → take n ws ≡ ws
  take_all zero [] h = refl
  take_all zero (w ∷ ws) h = absurd (let f : ⊥ = omega arith in f)
  take_all (suc n) [] h = refl
  take_all (suc n) (w ∷ ws) h = ap (λ l. w ∷ l) (take_all n ws (omega arith))
