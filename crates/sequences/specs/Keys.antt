-- Keys in order.
use Rattle.std.specs.Prelude.{ℕ, suc, ◌<◌, ◌≤◌, Bool, false, cond, ◌||◌, List, [], ◌∷◌, Result, Ok, Err, ◌==◌, nat_lt}

-- each key is above k
abbrev pub AllAbove : ℕ → List ℕ → Type 0
AllAbove k [] = Unit {0}
AllAbove k (x ∷ xs) = (k < x) × AllAbove k xs

-- each key is below all later ones
abbrev pub IsRising : List ℕ → Type 0
IsRising [] = Unit {0}
IsRising (x ∷ xs) = AllAbove x xs × IsRising xs

-- each key is at least k
abbrev pub AllFrom : ℕ → List ℕ → Type 0
AllFrom k [] = Unit {0}
AllFrom k (x ∷ xs) = (k ≤ x) × AllFrom k xs

-- each key is at most all later ones
abbrev pub IsAscending : List ℕ → Type 0
IsAscending [] = Unit {0}
IsAscending (x ∷ xs) = AllFrom x xs × IsAscending xs

-- how many keys are below k
abbrev pub below : ℕ → List ℕ → ℕ
below k [] = 0
below k (x ∷ xs) = cond (nat_lt x k) (suc (below k xs)) (below k xs)

-- whether k is one of the keys
abbrev pub has : ℕ → List ℕ → Bool
has k [] = false
has k (x ∷ xs) = k == x || has k xs

-- the place of a key that is there, or else the place at which it would keep the order
abbrev pub place_of : ℕ → List ℕ → Result ℕ ℕ
place_of k keys = cond (has k keys) (Ok (below k keys)) (Err (below k keys))
