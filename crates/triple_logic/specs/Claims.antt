-- What a run may claim.
use Rattle.std.specs.Prelude.{ℕ, suc, ◌+◌, List, [], ◌∷◌}

-- blocks of these lengths, with one word more each, as the machine counts
abbrev pub cost : List ℕ → ℕ
cost [] = 0
cost (w ∷ ws) = suc w + cost ws
