-- Changes of the cells of the running branch.
use Rattle.std.specs.Prelude.{◌≡◌, ◌≢◌, ℕ, ◌+◌, ◌<◌, ◌≤◌, ◌⊎◌, List, length, slice_get}
use Rattle.std.specs.Prelude.{Some}
use Rattle.target_meaning.specs.Piece.{whole}
use Rattle.plain_store.specs.Cells.{new_name, new_word}
use Rattle.plain_store.specs.declared.cells.Cell.{Cell}

-- a cell of which nothing is held any more
abbrev pub cleared : Cell → Cell
cleared c = record { home = c.home; value = c.value; amount = 0; stamp = c.stamp }

-- nothing is held of the cells of a block any more, which was held whole from the border on
pub record AreCleared (old new : List Cell) (border b n : ℕ) : Type 0 where
  pub len : length new ≡ length old
  pub cleared : (i : ℕ) → b ≤ i → i ≤ b + n → (c : Cell) × (slice_get old i ≡ Some c) × (c.home ≡ b) × (border ≤ c.stamp) × (c.amount ≡ whole) × (slice_get new i ≡ Some (cleared c))
  pub same : (i : ℕ) → (i < b) ⊎ (b + n < i) → slice_get new i ≡ slice_get old i

-- the word of one cell is changed, which was held whole from the border on
pub record IsPut (old new : List Cell) (border f v : ℕ) : Type 0 where
  pub len : length new ≡ length old
  pub cell : Cell
  pub at : slice_get old f ≡ Some cell
  pub word : cell.home < f
  pub top : border ≤ cell.stamp
  pub held : cell.amount ≡ whole
  pub put : slice_get new f ≡ Some (record { home = cell.home; value = v; amount = cell.amount; stamp = cell.stamp })
  pub same : (i : ℕ) → i ≢ f → slice_get new i ≡ slice_get old i

-- a block of zeros lies behind the others, whole
pub record HasGrown (old new : List Cell) (border n : ℕ) : Type 0 where
  pub len : length new ≡ length old + 1 + n
  pub front : (i : ℕ) → i < length old → slice_get new i ≡ slice_get old i
  pub name : slice_get new (length old) ≡ Some (new_name (length old) n border)
  pub words : (i : ℕ) → length old < i → i ≤ length old + n → slice_get new i ≡ Some (new_word (length old) border)
