-- What a taking gives and leaves, segment by segment.
use Rattle.std.specs.Prelude.{◌≡◌, ℕ, ◌+◌, ◌-◌, ◌≤◌, ◌^◌, true, List, [], ◌∷◌, ◌==◌, if◌then◌else◌}
use Rattle.share_table.specs.Amounts.{amount, total, Measures, Short}
use Rattle.share_table.specs.Takings.{left_of, is_between}
use Rattle.share_table.specs.declared.entry.Entry.{Entry}
use Rattle.share_table.specs.declared.entry.Taking.{Taking}

-- an entry with another share, of another branch
abbrev pub shared : Entry → ℕ → ℕ → Entry
shared e owner share = record { block = e.block; first = e.first; count = e.count; len = e.len; share = share; owner = owner }

-- a table grew by an entry, or by nothing where its share is none
pub record Pushed (e : Entry) (old new : List Entry) : Type 0 where
  pub amounts : (o b j : ℕ) → amount new o b j ≡ amount old o b j + amount (e ∷ []) o b j
  pub totals : (b j : ℕ) → total new b j ≡ total old b j + total (e ∷ []) b j
  pub lengths : (f : ℕ → ℕ) → Measures old f → Measures (e ∷ []) f → Measures new f
  pub short : Short old → Short (e ∷ []) → Short new

-- what a branch gets or keeps of so much of a place, by a taking
abbrev pub dealt : Taking → ℕ → ℕ → ℕ
dealt t a o = (if t.from == o then left_of true t.all a else 0) + (if t.to == o then a - left_of true t.all a else 0)

-- a table grew by what a taking from another one gives and leaves of the places from one up to another
pub record Segments (es : List Entry) (t : Taking) (lo hi : ℕ) (old new : List Entry) : Type 0 where
  pub amounts : (o b j : ℕ) → amount new o b j ≡ amount old o b j + (if is_between t.block lo hi b j then dealt t (amount es t.from b j) o else 0)
  pub totals : (b j : ℕ) → total new b j ≡ total old b j + (if is_between t.block lo hi b j then amount es t.from b j else 0)
  pub lengths : (f : ℕ → ℕ) → Measures es f → Measures old f → Measures new f
  pub short : Short old → Short new
