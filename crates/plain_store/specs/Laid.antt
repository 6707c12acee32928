-- That blocks lie one behind the other is one fact, however it is shown.
use Rattle.std.specs.Prelude.{ℕ, ◌+◌, List, [], ◌∷◌}
use Rattle.std.specs.Coded.{×_prop, Coded-set, coded_ℕ}
use Rattle.run_stores.specs.Rows.{IsInRow}

pub row_prop : (x : ℕ) (bs : List (ℕ × ℕ)) (end : ℕ) → IsProp (IsInRow x bs end)
row_prop x [] end = Coded-set coded_ℕ x (end + 1)
row_prop x (b ∷ bs) end = ×_prop (Coded-set coded_ℕ b.0 x) (row_prop (x + b.1 + 1) bs end)
