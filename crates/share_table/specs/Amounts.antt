-- How much a table has of a place of a block.
use Rattle.std.specs.Prelude.{◌≡◌, ℕ, ◌+◌, ◌<◌, ◌≤◌, ◌^◌, ◌&&◌, Bool, true, List, [], ◌∷◌, nat_le, nat_lt, ◌==◌, if◌then◌else◌}
use Rattle.std.specs.Prelude.{Option, Some, None}
use Rattle.share_table.specs.declared.entry.Entry.{Entry}

-- a place of a block is among those of an entry
abbrev pub covers : Entry → ℕ → ℕ → Bool
covers e b j = (e.block == b) && (nat_le e.first j && nat_lt j (e.first + e.count))

-- what an entry has of a place
abbrev pub share_at : Entry → ℕ → ℕ → ℕ
share_at e b j = if covers e b j then e.share else 0

-- what one branch has of it
abbrev pub amount : List Entry → ℕ → ℕ → ℕ → ℕ
amount [] o b j = 0
amount (e ∷ es) o b j = (if e.owner == o then share_at e b j else 0) + amount es o b j

-- what all branches have of it
abbrev pub total : List Entry → ℕ → ℕ → ℕ
total [] b j = 0
total (e ∷ es) b j = share_at e b j + total es b j

-- an entry has the name of a block
abbrev pub has_name : Entry → ℕ → Bool
has_name e b = covers e b 0 && nat_lt 0 e.share

-- the length of a block of which a branch has the name
abbrev pub length_in : List Entry → ℕ → ℕ → Option ℕ
length_in [] o b = None
length_in (e ∷ es) o b = if e.owner == o then (if has_name e b then Some e.len else length_in es o b) else length_in es o b

-- the lengths that entries with names tell are these
abbrev pub Measures : List Entry → (ℕ → ℕ) → Type 0
Measures [] f = Unit {0}
Measures (e ∷ es) f = (has_name e e.block ≡ true → e.len ≡ f e.block) × Measures es f

-- an entry's places end below 2^62
abbrev pub Short : List Entry → Type 0
Short [] = Unit {0}
Short (e ∷ es) = (e.first + e.count ≤ 2 ^ 62) × Short es
