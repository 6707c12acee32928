-- Reads of lists after writes.
use Rattle.std.proofs.Common.{◌≡◌, ◌≢◌, ℕ, zero, suc, ◌<◌, ◌≤◌, List, [], ◌∷◌, length, replicate, refl, sym, ap, ◌∙◌, arith}
use Rattle.std.specs.Prelude.{Some, None, slice_get, slice_set, slice_index, unwrap_or}
use Rattle.std.proofs.lemmas.Option.{unwrap_or-slice_get}

pub get-set_same : (ws : List ℕ) (i v : ℕ) → i < length ws → slice_get (slice_set ws i v) i ≡ Some v
get-set_same [] i v h = absurd (let f : ⊥ = omega arith in f)
get-set_same (w ∷ ws) zero v h = refl
get-set_same (w ∷ ws) (suc i) v h = get-set_same ws i v (omega arith)

pub get-set_other : (ws : List ℕ) (i j v : ℕ) → j ≢ i → slice_get (slice_set ws i v) j ≡ slice_get ws j
get-set_other [] i j v h = refl
get-set_other (w ∷ ws) zero zero v h = absurd (h refl)
get-set_other (w ∷ ws) zero (suc j) v h = refl
get-set_other (w ∷ ws) (suc i) zero v h = refl
get-set_other (w ∷ ws) (suc i) (suc j) v h = get-set_other ws i j v (λ e. h (ap suc e))

pub get-replicate : (n i a : ℕ) → i < n → slice_get (replicate n a) i ≡ Some a
get-replicate zero i a h = absurd (let f : ⊥ = omega arith in f)
get-replicate (suc n) zero a h = refl
get-replicate (suc n) (suc i) a h = get-replicate n i a (omega arith)

pub get_past : (ws : List ℕ) (i : ℕ) → length ws ≤ i → slice_get ws i ≡ None
get_past [] i h = refl
get_past (w ∷ ws) zero h = absurd (let f : ⊥ = omega arith in f)
get_past (w ∷ ws) (suc i) h = get_past ws i (omega arith)

pub get_index : (ws : List ℕ) (i v : ℕ) → slice_get ws i ≡ Some v → slice_index ws i ≡ v
get_index ws i v e = sym (unwrap_or-slice_get ws i 0) ∙ ap (λ o. unwrap_or o 0) e
