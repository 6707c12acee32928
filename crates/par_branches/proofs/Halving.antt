-- Workers halved and weights cut.
use Rattle.std.proofs.Common.{ℕ, zero, suc, ◌+◌, ◌*◌, ◌^◌, ◌<◌, ◌≤◌, arith}
use Rattle.std.proofs.Math.Nat.{pow-succ'}
use Rattle.par_branches.specs.Workers.{Enough}

four_pos : (d : ℕ) → 0 < 4 ^ d
four_pos zero = omega arith
four_pos (suc d) = let e = pow-succ' 4 d in let p = four_pos d in omega arith

-- there is a quarter to give
four : (d k w : ℕ) → 1 < k → k ≤ 2 ^ d → 4 ^ d ≤ w → 4 ≤ w
four zero k w m n h = absurd (omega arith)
four (suc d) k w m n h = let e = pow-succ' 4 d in let p = four_pos d in omega arith

pub weighs_four : (k w : ℕ) → 1 < k → Enough k w → 4 ≤ w
weighs_four k w m e = four e.levels k w m e.few e.heavy

-- a side of which the weight is a quarter, rounded down
quarter : (d k j w q : ℕ) → 1 < k → 2 * j ≤ k + 1 → k ≤ 2 ^ d → 4 ^ d ≤ w → w ≤ 4 * q + 3 → Enough j q
quarter zero k j w q m s n h f = absurd (omega arith)
quarter (suc d) k j w q m s n h f =
    let e = pow-succ' 4 d in
    let g = pow-succ' 2 d in
    record { levels = d; few = omega arith; heavy = omega arith }

pub half_enough : (k j w q : ℕ) → 1 < k → 2 * j ≤ k + 1 → Enough k w → w ≤ 4 * q + 3 → Enough j q
half_enough k j w q m s e f = quarter e.levels k j w q m s e.few e.heavy f
