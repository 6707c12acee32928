-- What counts of faults say.
use Rattle.std.specs.Prelude.{◌≡◌, ℕ, ◌<◌, List, length, Option}
use Rattle.std.specs.Io.KnownBytes.{Consumes}

-- the greatest count of faults, at which a count stays
abbrev pub most_faults : ℕ
most_faults = 18446744073709551615

-- a count of faults rose; one that stands at the greatest count cannot rise, and counts as risen
abbrev pub Rose : ℕ → ℕ → Type 0
Rose old new = old < most_faults → old < new

-- a source went from having the first bytes left to having the second left by giving n bytes
abbrev pub Gave : Option (List ℕ) → Option (List ℕ) → ℕ → Type 0
Gave old new n = (bytes : List ℕ) × (Consumes old new bytes × (length bytes ≡ n))
