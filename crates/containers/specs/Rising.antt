-- The numbers of a list in order.
use Rattle.std.specs.Prelude.{ℕ, cond, List, [], ◌∷◌, insert}
use Rattle.sequences.specs.Keys.{below, has}

-- with k in its place among rising numbers, unless it is there
abbrev pub with_number : ℕ → List ℕ → List ℕ
with_number k xs = cond (has k xs) xs (insert xs (below k xs) k)

-- the numbers of a list, rising, each once
abbrev pub rising : List ℕ → List ℕ
rising [] = []
rising (x ∷ xs) = with_number x (rising xs)
