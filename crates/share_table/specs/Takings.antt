-- What is taken of a table.
use Rattle.std.specs.Prelude.{◌≡◌, ◌≢◌, ℕ, ◌+◌, ◌-◌, ◌/◌, ◌<◌, ◌≤◌, ◌^◌, Bool, true, false, List, [], ◌∷◌, ◌==◌, ◌&&◌, nat_le, nat_lt, if◌then◌else◌}
use Rattle.share_table.specs.Amounts.{amount, total, Measures, Short}
use Rattle.share_table.specs.declared.entry.Entry.{Entry}
use Rattle.share_table.specs.declared.entry.Taking.{Taking}

-- what a taking leaves of an amount: all where the place is not asked for; nothing, or all but half
abbrev pub left_of : Bool → Bool → ℕ → ℕ
left_of false all n = n
left_of true true n = 0
left_of true false n = n - n / 2

-- a place of a block lies from one place up to another one of its block
abbrev pub is_between : ℕ → ℕ → ℕ → ℕ → ℕ → Bool
is_between block lo hi b j = (block == b) && (nat_le lo j && nat_lt j hi)

-- a taking asks for a place
abbrev pub asks : Taking → ℕ → ℕ → Bool
asks t b j = is_between t.block t.first t.end b j

-- what is so of a table in which one branch took of another one
pub record Taken (es vs : List Entry) (t : Taking) : Type 0 where
  pub kept : (b j : ℕ) → amount vs t.from b j ≡ left_of (asks t b j) t.all (amount es t.from b j)
  pub given : (b j : ℕ) → amount vs t.to b j + left_of (asks t b j) t.all (amount es t.from b j) ≡ amount es t.to b j + amount es t.from b j
  pub others : (o b j : ℕ) → o ≢ t.from → o ≢ t.to → amount vs o b j ≡ amount es o b j
  pub all : (b j : ℕ) → total vs b j ≡ total es b j
  pub lengths : (f : ℕ → ℕ) → Measures es f → Measures vs f
  pub short : Short es → Short vs
