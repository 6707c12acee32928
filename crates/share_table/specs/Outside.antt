-- What is left of a table beside some places.
use Rattle.std.specs.Prelude.{◌≡◌, ◌≢◌, ℕ, ◌+◌, List, ◌==◌, ◌&&◌, if◌then◌else◌}
use Rattle.share_table.specs.Amounts.{amount, total, Measures, Short}
use Rattle.share_table.specs.Takings.{asks}
use Rattle.share_table.specs.declared.entry.Entry.{Entry}
use Rattle.share_table.specs.declared.entry.Taking.{Taking}

-- an entry with other places of its block
abbrev pub ranged : Entry → ℕ → ℕ → Entry
ranged e first count = record { block = e.block; first = first; count = count; len = e.len; share = e.share; owner = e.owner }

-- a table grew from old to new by what another one has, but for what a branch has of the places that are asked for
pub record Beside (es : List Entry) (t : Taking) (old new : List Entry) : Type 0 where
  pub amounts : (o b j : ℕ) → amount new o b j ≡ amount old o b j + (if (t.from == o) && asks t b j then 0 else amount es o b j)
  pub totals : (b j : ℕ) → total new b j + (if asks t b j then amount es t.from b j else 0) ≡ total old b j + total es b j
  pub lengths : (f : ℕ → ℕ) → Measures old f → Measures es f → Measures new f
  pub short : Short old → Short es → Short new
