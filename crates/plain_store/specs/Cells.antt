-- What the cells of a flat memory are, as a piece of the heap. The place j of the block b is the cell b + j.
use Rattle.std.specs.Prelude.{◌≡◌, ℕ, ◌+◌, ◌≤◌, ◌&&◌, List, [], ◌∷◌, nat_le, nat_lt, ◌==◌, if◌then◌else◌, slice_get}
use Rattle.std.specs.Prelude.{Option, Some, None}
use Rattle.atomic_table.specs.Seated.{TableId}
use Rattle.target_meaning.specs.Piece.{Share, Nil, Piece, share_of, whole}
use Rattle.plain_store.specs.declared.cells.Cell.{Cell}
use Rattle.plain_store.specs.declared.cells.Drawn.{Drawn}

-- so much of a cell, if it is one of the block b
abbrev pub share_in : ℕ → ℕ → Option Cell → Share
share_in b n None = Nil
share_in b n (Some c) = if c.home == b then share_of c.value n else Nil

-- the piece that holds so much of each cell
abbrev pub piece_by : List Cell → (ℕ → ℕ) → Piece
piece_by cells amount b j = share_in b (amount (b + j)) (slice_get cells (b + j))

-- what stands in a cell, where its stamp is at least this one
abbrev pub amount_from : ℕ → Option Cell → ℕ
amount_from low None = 0
amount_from low (Some c) = if nat_le low c.stamp then c.amount else 0

-- what stands in a cell, where its stamp is at least this one, and below that one
abbrev pub amount_between : ℕ → ℕ → Option Cell → ℕ
amount_between low high None = 0
amount_between low high (Some c) = if nat_le low c.stamp && nat_lt c.stamp high then c.amount else 0

-- the top piece: the cells from the border on
abbrev pub top_of : List Cell → ℕ → Piece
top_of cells border = piece_by cells (λ i. amount_from border (slice_get cells i))

-- no cell of a block lies behind the block's length
abbrev pub IsPlaced : List Cell → Type 0
IsPlaced cells = (i : ℕ) (c n : Cell) → slice_get cells i ≡ Some c → slice_get cells c.home ≡ Some n → n.home ≡ c.home → i ≤ c.home + n.value

-- a block's name and a word of it, when it is made
abbrev pub new_name : ℕ → ℕ → ℕ → Cell
new_name x n stamp = record { home = x; value = n; amount = whole; stamp = stamp }

abbrev pub new_word : ℕ → ℕ → Cell
new_word x stamp = record { home = x; value = 0; amount = whole; stamp = stamp }

-- the blocks drawn
abbrev pub blocks_of : List Drawn → List (ℕ × ℕ)
blocks_of [] = []
blocks_of (d ∷ ds) = (d.name, d.len) ∷ blocks_of ds

-- it stands over no directory
abbrev pub no_place : TableId
no_place = record { words = 0; slots = 0; views_name = 0; atom = 0; block = 0; offset = 0; slot_names = [] }
