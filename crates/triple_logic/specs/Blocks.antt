-- Pieces that procedures hold: blocks, and ranges of words.
use Rattle.std.specs.Prelude.{◌≡◌, ℕ, zero, suc, ◌+◌, ◌-◌, ◌<◌, List, length, nat_lt, ◌==◌, if◌then◌else◌, slice_get, slice_index}
use Rattle.std.specs.Prelude.{Option, Some, None}
use Rattle.target_meaning.specs.Piece.{whole, Share, Nil, Some_of, Piece}
use Rattle.triple_logic.specs.Sample.{HasValue}

-- a word that is held whole, if there is one
abbrev pub held_word : Option ℕ → Share
held_word None = Nil
held_word (Some v) = Some_of v (whole - 1)

-- what a whole block of these words has of each place
abbrev pub block_share : List ℕ → ℕ → Share
block_share ws zero = Some_of (length ws) (whole - 1)
block_share ws (suc i) = held_word (slice_get ws i)

-- block b with these words and its name, held whole
abbrev pub block : ℕ → List ℕ → Piece
block b ws c j = if c == b then block_share ws j else Nil

-- words of a block from off on are held, with any shares
abbrev pub Reads : ℕ → ℕ → List ℕ → Piece → Type 0
Reads b off xs p = (i : ℕ) → i < length xs → HasValue (p b (suc (off + i))) (slice_index xs i)

-- nothing of a block is held
abbrev pub Apart : ℕ → Piece → Type 0
Apart b p = (j : ℕ) → p b j ≡ Nil

-- what a range has of each place: words from off on, and nothing else of the block
abbrev pub range_share : ℕ → List ℕ → ℕ → Share
range_share off xs zero = Nil
range_share off xs (suc j) = if nat_lt j off then Nil else held_word (slice_get xs (j - off))

-- words of block b from off on, held whole, and nothing else of the block
abbrev pub range : ℕ → ℕ → List ℕ → Piece
range b off xs c j = if c == b then range_share off xs j else Nil

-- what a block's name has of each place: the length
abbrev pub name_share : ℕ → ℕ → Share
name_share n zero = Some_of n (whole - 1)
name_share n (suc j) = Nil

-- a block's name alone, of a block of n words
abbrev pub name_of : ℕ → ℕ → Piece
name_of b n c j = if c == b then name_share n j else Nil
