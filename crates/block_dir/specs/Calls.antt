-- The words of the public contracts.
use Rattle.std.specs.Prelude.{◌≡◌, ℕ, ◌+◌, ◌*◌, ◌<◌, ◌≤◌, List}
use Rattle.atomic_table.specs.Seated.{TableId}
use Rattle.block_dir.specs.declared.view.View.{View}
use Rattle.block_dir.specs.declared.seat.DirSeat.{DirSeat}
use Rattle.block_dir.specs.declared.directory.Directory.{Directory}
use Rattle.block_dir.specs.declared.directory.Claim.{Claim}
use Rattle.block_dir.specs.declared.directory.Claim.TheVariants.{Won, Full}
use Rattle.block_dir.specs.declared.view.Cell.{Cell}
use Rattle.block_dir.specs.declared.Part.{Part}
use Rattle.block_dir.specs.Views.{whole, cell_of, share_of, won, walked, kept, handed, joined}

-- what the seat knows
abbrev pub view : DirSeat → View
view s = s.seat.me.0

-- which directory a seat is of
abbrev pub seat_of : DirSeat → TableId
seat_of s = s.seat.table_id

-- which directory this is
abbrev pub id_of : Directory → TableId
id_of d = d.table.shared.table_id

-- the number of words behind word 0
abbrev pub capacity : Directory → ℕ
capacity d = d.cap

-- A claim of `len` words at the capacity `cap` took the view v to w. Won: a block at or past the old position, which
-- fits, and which the seat then has. Full: the place at + 1, where no block of `len` words fits, is the seat's new
-- position.
abbrev pub Claimed : ℕ → ℕ → View → View → Claim → Type 0
Claimed cap len v w (Won name) = (v.position ≤ name) × (name + len ≤ cap) × (w ≡ won name len v)
Claimed cap len v w (Full at) = (v.position ≤ at + 1) × (cap < at + 1 + len) × (w ≡ walked (at + 1) v)

-- the fact, if the claim won
abbrev pub IfWon : Claim → Type 0 → Type 0
IfWon (Won name) P = P
IfWon (Full at) P = Unit {0}

-- the fact of the won name
abbrev pub OnWon : Claim → (ℕ → Type 0) → Type 0
OnWon (Won name) P = P name
OnWon (Full at) P = Unit {0}

-- the seat has a share of the word i of the block b
pub record HasWord (v : View) (b i : ℕ) : Type 0 where
  pub share : 0 < share_of (b + 1 + i) v
  pub home : (cell_of (b + 1 + i) v).home ≡ b

-- the seat has the word i of the block b whole
pub record OwnsWord (v : View) (b i : ℕ) : Type 0 where
  pub share : share_of (b + 1 + i) v ≡ whole
  pub home : (cell_of (b + 1 + i) v).home ≡ b

-- the same word, of the same block
abbrev pub SameWord : Cell → Cell → Type 0
SameWord c d = (c.value ≡ d.value) × (c.home ≡ d.home)

-- two views agree on each place of which both have a share
abbrev pub Agree : View → View → Type 0
Agree v u = (p : ℕ) → 0 < share_of p v → 0 < share_of p u → SameWord (cell_of p v) (cell_of p u)

-- beside what is held the views are the same
abbrev pub SameRest : View → View → Type 0
SameRest v w = (v.drawn ≡ w.drawn) × (v.position ≡ w.position) × (v.weight ≡ w.weight)

-- the length that the header at b tells the view, where the block ends in a directory of capacity `cap`
abbrev pub KnowsLength : ℕ → View → ℕ → Type 0
KnowsLength cap v b = (n : ℕ) × ((cell_of b v).value ≡ 2 * n + 2) × (b + n ≤ cap)

-- what a seat has after a split of it, and a join with the new seat
abbrev pub rejoined : List Part → List Part → View → View
rejoined hands lends v = joined (kept hands lends v) (handed hands lends v)
