-- The forks under way of a flat memory.
use Rattle.std.specs.Prelude.{◌≡◌, ℕ, suc, ◌+◌, ◌<◌, ◌≤◌, Bool, true, false, List, [], ◌∷◌, nat_le, ◌==◌, if◌then◌else◌, slice_get}
use Rattle.std.specs.Prelude.{Option, Some, None}
use Rattle.std.specs.Coded.{×_prop, Π_prop, Unit-prop, le_prop, Coded-set, coded_ℕ, coded_bool}
use Rattle.target_meaning.specs.Piece.{whole}
use Rattle.branch_exec.specs.Stores.{Level}
use Rattle.plain_store.specs.Cells.{amount_between, piece_by, IsPlaced}
use Rattle.plain_store.specs.declared.cells.Cell.{Cell}
use Rattle.plain_store.specs.declared.forks.Lent.{Lent}
use Rattle.plain_store.specs.declared.forks.Fork.{Fork}

-- what is kept of a cell in a list
abbrev pub kept_in : List Lent → ℕ → ℕ
kept_in [] i = 0
kept_in (e ∷ es) i = (if e.at == i then e.kept else 0) + kept_in es i

-- what waits there for the right branch, or was left by the left one
abbrev pub other_in : List Lent → ℕ → ℕ
other_in [] i = 0
other_in (e ∷ es) i = (if e.at == i then e.other else 0) + other_in es i

-- the cell stands in a list
abbrev pub is_lent : List Lent → ℕ → Bool
is_lent [] i = false
is_lent (e ∷ es) i = if e.at == i then true else is_lent es i

-- what a fork keeps of each cell
abbrev pub kept_by : List Cell → Fork → ℕ → ℕ
kept_by cells f i = amount_between f.low f.high (slice_get cells i) + (kept_in f.lent.items i + (if f.begun then other_in f.lent.items i else 0))

-- a fork under way: what is kept, and what waits for the right branch
abbrev pub level_of : List Cell → Fork → Level
level_of cells f = record {
  kept = piece_by cells (kept_by cells f);
  right = if f.begun then None else Some (piece_by cells (other_in f.lent.items));
}

-- all of them, the innermost first, before those
abbrev pub levels : List Cell → List Fork → List Level → List Level
levels cells [] acc = acc
levels cells (f ∷ fs) acc = levels cells fs (level_of cells f ∷ acc)

-- all that the forks keep of a cell
abbrev pub lent_of : List Fork → ℕ → ℕ
lent_of [] i = 0
lent_of (f ∷ fs) i = (kept_in f.lent.items i + other_in f.lent.items i) + lent_of fs i

-- the forks whose right branch has not begun
abbrev pub waiting : List Fork → ℕ
waiting [] = 0
waiting (f ∷ fs) = (if f.begun then 0 else 1) + waiting fs

-- each fork's stamps lie between those of the one around it and those of the branch that runs
abbrev pub Nested : ℕ → List Fork → ℕ → Type 0
Nested low [] border = border ≡ low
Nested low (f ∷ fs) border = ((f.low ≡ low) × (low < f.high)) × Nested f.high fs border

-- a cell is there, and its stamp is at least this one
abbrev pub is_from : ℕ → Option Cell → Bool
is_from high None = false
is_from high (Some c) = nat_le high c.stamp

-- the cells of a list came to the branch of its fork, or to one in it
abbrev pub AllFrom : List Cell → ℕ → List Lent → Type 0
AllFrom cells high lent = (i : ℕ) → is_lent lent i ≡ true → is_from high (slice_get cells i) ≡ true

abbrev pub AllLent : List Cell → List Fork → Type 0
AllLent cells [] = Unit {0}
AllLent cells (f ∷ fs) = AllFrom cells f.high f.lent.items × AllLent cells fs

-- what is so of a store's cells and forks: no more of a cell is held than the whole
pub record IsSound (cells : List Cell) (forks : List Fork) (border last : ℕ) : Type 0 where
  pub most : (i : ℕ) (c : Cell) → slice_get cells i ≡ Some c → c.amount + lent_of forks i ≤ whole
  pub placed : IsPlaced cells
  pub stamped : (i : ℕ) (c : Cell) → slice_get cells i ≡ Some c → c.stamp ≤ last
  pub nested : Nested 0 forks border
  pub bounded : border ≤ last
  pub lent : AllLent cells forks
  pub spare : last + waiting forks < whole

pub nested_prop : (low : ℕ) (fs : List Fork) (border : ℕ) → IsProp (Nested low fs border)
nested_prop low [] border = Coded-set coded_ℕ border low
nested_prop low (f ∷ fs) border = ×_prop (×_prop (Coded-set coded_ℕ f.low low) (le_prop {n = suc low} {m = f.high})) (nested_prop f.high fs border)

from_prop : (cells : List Cell) (high : ℕ) (lent : List Lent) → IsProp (AllFrom cells high lent)
from_prop cells high lent = Π_prop (λ i. Π_prop (λ e. Coded-set coded_bool (is_from high (slice_get cells i)) true))

pub lent_prop : (cells : List Cell) (fs : List Fork) → IsProp (AllLent cells fs)
lent_prop cells [] = Unit-prop
lent_prop cells (f ∷ fs) = ×_prop (from_prop cells f.high f.lent.items) (lent_prop cells fs)
