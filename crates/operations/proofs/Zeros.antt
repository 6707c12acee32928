-- A list of zeros is one number again and again.
use Rattle.std.proofs.Common.{◌≡◌, ℕ, zero, suc, ◌∷◌, replicate, refl, ap}
use Rattle.nres_core.specs.Ops.{zeros_of}

pub zeros_repeated : (n : ℕ) → zeros_of n ≡ replicate n 0
zeros_repeated zero = refl
zeros_repeated (suc n) = ap (λ xs. 0 ∷ xs) (zeros_repeated n)
