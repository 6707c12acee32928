-- Changes of the cells of a fork.
use Rattle.std.specs.Prelude.{◌≡◌, ℕ, ◌+◌, ◌-◌, ◌≤◌, true, false, List, [], ◌∷◌, length, slice_get, ◌==◌, if◌then◌else◌}
use Rattle.std.specs.Prelude.{Some}
use Rattle.plain_store.specs.Levels.{is_lent, kept_in, other_in}
use Rattle.plain_store.specs.declared.cells.Cell.{Cell}
use Rattle.plain_store.specs.declared.forks.Lent.{Lent}

-- a cell with another amount and stamp
abbrev pub with_amount : Cell → ℕ → ℕ → Cell
with_amount c n stamp = record { home = c.home; value = c.value; amount = n; stamp = stamp }

-- what the first entry of a cell keeps of it, and has for the right branch
abbrev pub first_kept : List Lent → ℕ → ℕ
first_kept [] i = 0
first_kept (e ∷ es) i = if e.at == i then e.kept else first_kept es i

abbrev pub first_other : List Lent → ℕ → ℕ
first_other [] i = 0
first_other (e ∷ es) i = if e.at == i then e.other else first_other es i

-- all entries of a cell say the same
abbrev pub AllAgree : List Lent → Type 0
AllAgree lent = (k : ℕ) (e : Lent) → slice_get lent k ≡ Some e → (e.kept ≡ first_kept lent e.at) × (e.other ≡ first_other lent e.at)

-- a cell is there that has so much
abbrev pub IsSomeCell : List Cell → ℕ → ℕ → Type 0
IsSomeCell cells i n = (c : Cell) × (slice_get cells i ≡ Some c) × (n ≤ c.amount)

-- The cells of a list are cut: so much is taken off them as the list has of them then, and they get a new stamp.
pub record AreCut (old new : List Cell) (lent after : List Lent) (kept other : ℕ → ℕ) (stamp : ℕ) : Type 0 where
  pub len : length new ≡ length old
  pub cut : (i : ℕ) (c : Cell) → slice_get old i ≡ Some c → is_lent lent i ≡ true → (slice_get new i ≡ Some (with_amount c ((c.amount - kept i) - other i) stamp)) × (kept_in after i ≡ kept i) × (other_in after i ≡ other i)
  pub same : (i : ℕ) → is_lent lent i ≡ false → slice_get new i ≡ slice_get old i
  pub places : (i : ℕ) → is_lent after i ≡ is_lent lent i

-- The cells of a list get what waits there for the right branch, and the list what stood in them.
pub record AreSwapped (old new : List Cell) (lent after : List Lent) (stamp : ℕ) : Type 0 where
  pub len : length new ≡ length old
  pub swapped : (i : ℕ) (c : Cell) → slice_get old i ≡ Some c → is_lent lent i ≡ true → (slice_get new i ≡ Some (with_amount c (other_in lent i) stamp)) × (other_in after i ≡ c.amount)
  pub same : (i : ℕ) → is_lent lent i ≡ false → slice_get new i ≡ slice_get old i
  pub kept : (i : ℕ) → kept_in after i ≡ kept_in lent i
  pub places : (i : ℕ) → is_lent after i ≡ is_lent lent i

-- The cells of a list get back what it has of them.
pub record AreJoined (old new : List Cell) (lent : List Lent) : Type 0 where
  pub len : length new ≡ length old
  pub joined : (i : ℕ) (c : Cell) → slice_get old i ≡ Some c → slice_get new i ≡ Some (with_amount c (c.amount + (kept_in lent i + other_in lent i)) c.stamp)

-- an entry's cell is there, and so
abbrev pub IsWithin : List Cell → Lent → (Cell → Type 0) → Type 0
IsWithin cells e P = (c : Cell) × (slice_get cells e.at ≡ Some c) × P c

-- a cell that an entry's is cut off, and an entry with nothing
abbrev pub cut_cell : Cell → Lent → ℕ → Cell
cut_cell d e stamp = with_amount d ((d.amount - e.kept) - e.other) stamp

abbrev pub no_entry : ℕ → Lent
no_entry i = record { at = i; kept = 0; other = 0 }

-- a cell that gets what waits for the right branch, and the entry that gets what stood there; once more, it gets that too
abbrev pub swapped_cell : Cell → Lent → ℕ → Cell
swapped_cell d e stamp = with_amount d (if d.stamp == stamp then d.amount + e.other else e.other) stamp

abbrev pub swapped_entry : Cell → Lent → ℕ → Lent
swapped_entry d e stamp = record { at = e.at; kept = e.kept; other = if d.stamp == stamp then 0 else d.amount }

-- a cell that gets back what an entry has of it
abbrev pub joined_cell : Cell → Lent → Cell
joined_cell d e = with_amount d (d.amount + e.kept + e.other) d.stamp
