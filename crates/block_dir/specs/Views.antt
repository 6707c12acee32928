-- What a seat knows, as plain data, and what each step makes of it.
-- A view has a cell for each place, with the share that the seat holds (0 where it holds nothing), the value there and
-- the block to which the place belongs. At a header the block is the place itself, and the value is the header, so a
-- name is held like a word.
use Rattle.std.specs.Prelude.{◌≡◌, ℕ, zero, suc, ◌+◌, ◌-◌, ◌*◌, ◌/◌, ◌%◌, ◌<◌, ◌≤◌, Bool, true, false, ◌&&◌, ◌||◌, ◌==◌, nat_lt, nat_le, not, min, max, map, List, [], ◌∷◌, ◌++◌, slice_index_or, cond, Option, Some, None}
use Rattle.block_dir.specs.declared.view.Cell.{Cell}
use Rattle.block_dir.specs.declared.view.View.{View}
use Rattle.block_dir.specs.declared.Part.{Part}

-- the share of who has all of a place, and the weight of a directory's first seat: 2^64
abbrev pub whole : ℕ
whole = 18446744073709551616

-- a place of which nothing is held
abbrev pub no_cell : Cell
no_cell = record { share = 0; value = 0; home = 0; going = 0 }

-- the cell at the place p; past the end of the list nothing is held
abbrev pub place : List Cell → ℕ → Cell
place cells p = slice_index_or cells p no_cell

-- what the view knows of the place p
abbrev pub cell_of : ℕ → View → Cell
cell_of p v = place v.cells p

-- the share that the view has of the place p
abbrev pub share_of : ℕ → View → ℕ
share_of p v = (place v.cells p).share

-- the first seat's view: it holds nothing, drew nothing and has the whole weight
unfoldable pub opening_view : ℕ → View
opening_view cap = record { cells = []; position = 1; drawn = []; weight = whole; room = cap }

-- the cell at the place p becomes c, whatever the length of the list
abbrev pub put : List Cell → ℕ → Cell → List Cell
put [] zero c = c ∷ []
put [] (suc p) c = no_cell ∷ put [] p c
put (x ∷ xs) zero c = c ∷ xs
put (x ∷ xs) (suc p) c = x ∷ put xs p c

-- c at each place from `from` to `from + count`
abbrev pub fill : List Cell → ℕ → ℕ → Cell → List Cell
fill xs from zero c = xs
fill xs from (suc k) c = put (fill xs from k c) (from + k) c

-- the sum of f over a list of blocks
abbrev pub sum_of : (ℕ × ℕ → ℕ) → List (ℕ × ℕ) → ℕ
sum_of f [] = 0
sum_of f (x ∷ xs) = f x + sum_of f xs

-- the seat's position becomes q, and all else stays
unfoldable pub walked : ℕ → View → View
walked q v = record { cells = v.cells; position = q; drawn = v.drawn; weight = v.weight; room = v.room }

-- the header of a new block at q of length n, held whole
abbrev pub header_cell : ℕ → ℕ → Cell
header_cell q n = record { share = whole; value = 2 * n + 2; home = q; going = 0 }

-- a word of a new block at q: 0, held whole
abbrev pub word_cell : ℕ → Cell
word_cell q = record { share = whole; value = 0; home = q; going = 0 }

-- the block at q of length n is won: its header and its words are held whole, it is the last drawn, and the position is
-- behind it
unfoldable pub won : ℕ → ℕ → View → View
won q n v = record { cells = put (fill v.cells (q + 1) n (word_cell q)) q (header_cell q n); position = q + n + 1; drawn = v.drawn ++ (q, n) ∷ []; weight = v.weight; room = v.room }

-- nothing is held of the block b of length n any more
unfoldable pub released : ℕ → ℕ → View → View
released b n v = record { cells = fill v.cells b (n + 1) no_cell; position = v.position; drawn = v.drawn; weight = v.weight; room = v.room }

-- the cell with another value
abbrev pub revalued : ℕ → Cell → Cell
revalued x c = record { share = c.share; value = x; home = c.home; going = c.going }

-- the word at p becomes x
unfoldable pub written : ℕ → ℕ → View → View
written p x v = record { cells = put v.cells p (revalued x (place v.cells p)); position = v.position; drawn = v.drawn; weight = v.weight; room = v.room }

-- where one side has a share, what it says of the place; else what the other says
abbrev pub pick : ℕ → ℕ → ℕ → ℕ
pick zero a b = b
pick (suc n) a b = a

-- what both sides of a join say of one place, with the shares added
abbrev pub merged : Cell → Cell → Cell
merged x y = record { share = x.share + y.share; value = pick x.share x.value y.value; home = pick x.share x.home y.home; going = 0 }

-- the cells of both sides, place by place
abbrev pub paired : List Cell → List Cell → List Cell
paired [] [] = []
paired [] (y ∷ ys) = merged no_cell y ∷ paired [] ys
paired (x ∷ xs) [] = merged x no_cell ∷ paired xs []
paired (x ∷ xs) (y ∷ ys) = merged x y ∷ paired xs ys

-- both seats' views in one
unfoldable pub joined : View → View → View
joined v u = record { cells = paired v.cells u.cells; position = max v.position u.position; drawn = v.drawn ++ u.drawn; weight = v.weight + u.weight; room = pick v.weight v.room u.room }

-- 1 where both sides have a share of a place and disagree on it
abbrev pub clash_if : Bool → Bool → Bool → Bool → ℕ
clash_if a b c d = cond ((a && b) && not (c && d)) 1 0

-- the same of two cells
abbrev pub clash : Cell → Cell → ℕ
clash x y = clash_if (nat_lt 0 x.share) (nat_lt 0 y.share) (x.value == y.value) (x.home == y.home)

-- on how many places two lists of cells disagree
abbrev pub clashes : List Cell → List Cell → ℕ
clashes [] ys = 0
clashes (x ∷ xs) [] = 0
clashes (x ∷ xs) (y ∷ ys) = clash x y + clashes xs ys

-- a view, at the position 0 unless the number is 0; no seat has that position
abbrev pub unless_any : ℕ → View → View
unless_any zero v = v
unless_any (suc n) v = record { cells = v.cells; position = 0; drawn = v.drawn; weight = v.weight; room = v.room }

-- both seats' views in one, where they agree; by the rule they do
unfoldable pub met : View → View → View
met v u = unless_any (clashes v.cells u.cells) (joined v u)

-- the view of a seat that was joined away: it has nothing, and no weight
unfoldable pub spent_view : View
spent_view = record { cells = []; position = 1; drawn = []; weight = 0; room = 0 }

-- where a part starts: at the header of the whole block, or at a word behind it
abbrev pub span_start : ℕ → Option (ℕ × ℕ) → ℕ
span_start b None = b
span_start b (Some s) = b + 1 + s.0

-- how many places a part has, where the view knows the header of its block
abbrev pub span_count : ℕ → Option (ℕ × ℕ) → ℕ
span_count header None = header / 2
span_count header (Some s) = s.1

-- the first place of a part
abbrev pub part_start : View → Part → ℕ
part_start v x = span_start x.block x.span

-- the number of its places
abbrev pub part_count : View → Part → ℕ
part_count v x = span_count (place v.cells x.block).value x.span

-- whether p is one of the `count` places from `from` on
abbrev pub in_range : ℕ → ℕ → ℕ → Bool
in_range from count p = nat_le from p && nat_lt p (from + count)

-- what goes of the share s: half, rounded down, or all
abbrev pub amount : Bool → ℕ → ℕ
amount false s = s
amount true s = s / 2

-- the cell of a place, which the next split hands on if the first argument is true
abbrev pub mark_cell : Bool → Bool → Cell → Cell
mark_cell true half c = record { share = c.share; value = c.value; home = c.home; going = amount half c.share }
mark_cell false half c = c

-- the cells from the place k on, with those of a part marked
abbrev pub mark_from : ℕ → ℕ → Bool → ℕ → List Cell → List Cell
mark_from from count half k [] = []
mark_from from count half k (x ∷ xs) = mark_cell (in_range from count k) half x ∷ mark_from from count half (suc k) xs

-- the next split hands this part on
unfoldable pub marked : Part → Bool → View → View
marked x half v = record { cells = mark_from (part_start v x) (part_count v x) half 0 v.cells; position = v.position; drawn = v.drawn; weight = v.weight; room = v.room }

-- the next split hands these parts on
abbrev pub marks : List Part → Bool → View → View
marks [] half v = v
marks (x ∷ xs) half v = marks xs half (marked x half v)

-- what is left of a cell after a split
abbrev pub keep_cell : Cell → Cell
keep_cell c = record { share = c.share - min c.share c.going; value = c.value; home = c.home; going = 0 }

-- what a split hands on of a cell
abbrev pub give_cell : Cell → Cell
give_cell c = record { share = min c.share c.going; value = c.value; home = c.home; going = 0 }

-- whether some part has the place p
abbrev pub covers : View → List Part → ℕ → Bool
covers v [] p = false
covers v (x ∷ xs) p = in_range (part_start v x) (part_count v x) p || covers v xs p

-- what a split hands on of the share of p: half if the place is lent, all if it is handed on
abbrev pub handed_share : List Part → List Part → View → ℕ → ℕ
handed_share hands lends v p = cond (covers v lends p) (share_of p v / 2) (cond (covers v hands p) (share_of p v) 0)

-- what stays on the left side of a split, with the weight that is left
unfoldable pub left_view : View → View
left_view v = record { cells = map keep_cell v.cells; position = v.position; drawn = v.drawn; weight = v.weight - v.weight / 2; room = v.room }

-- what goes to the right side, the new seat: it drew nothing, and has half of the weight
unfoldable pub right_view : View → View
right_view v = record { cells = map give_cell v.cells; position = v.position; drawn = []; weight = v.weight / 2; room = v.room }

-- what a split of these hands and lends leaves
unfoldable pub kept : List Part → List Part → View → View
kept hands lends v = left_view (marks lends true (marks hands false v))

-- what it hands on
unfoldable pub handed : List Part → List Part → View → View
handed hands lends v = right_view (marks lends true (marks hands false v))

-- the words of a block with its header
abbrev pub words_of : ℕ × ℕ → ℕ
words_of x = x.1 + 1

-- 1 for the block b, and 0 for any other
abbrev pub is_named : ℕ → ℕ × ℕ → ℕ
is_named b x = cond (x.0 == b) 1 0

-- What is so of every seat: its weight is at most the whole, its position is in the directory, what it holds lies below
-- the position, it knows the length of each block whose name it holds and which of the held words are of that block, no
-- name stands twice among the blocks that it drew, these fit into the directory, and with the whole weight it drew all
-- that lies below its position.
pub record Sound (v : View) : Type 0 where
  pub weighs : v.weight ≤ whole
  pub starts : 1 ≤ v.position
  pub within : v.position ≤ v.room + 1
  pub below : (p : ℕ) → 0 < share_of p v → p < v.position
  pub home : (p : ℕ) → 0 < share_of p v → (cell_of p v).home ≤ p
  -- of a held name the seat knows an even header, of a block that ends in the directory
  pub header : (b : ℕ) → 0 < share_of b v → (cell_of b v).home ≡ b → ((cell_of b v).value % 2 ≡ 0) × (2 ≤ (cell_of b v).value) × (b + (cell_of b v).value / 2 ≤ v.room + 1)
  -- what it holds within the length of a held name belongs to that block
  pub inside : (b p : ℕ) → 0 < share_of b v → (cell_of b v).home ≡ b → b ≤ p → p < b + (cell_of b v).value / 2 → 0 < share_of p v → (cell_of p v).home ≡ b
  pub once : (b : ℕ) → sum_of (is_named b) v.drawn ≤ 1
  pub fits : sum_of words_of v.drawn ≤ v.room
  pub full : v.weight ≡ whole → v.position ≤ sum_of words_of v.drawn + 1

-- no split is under way
abbrev pub Unmarked : View → Type 0
Unmarked v = (p : ℕ) → (cell_of p v).going ≡ 0
