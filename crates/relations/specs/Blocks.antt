-- What a piece has of a block: all of it with its name, or a range of its words.
use Rattle.std.specs.Prelude.{◌≡◌, ℕ, zero, suc, ◌-◌, ◌^◌, ◌<◌, List, ◌==◌, nat_lt, if◌then◌else◌, slice_get, slice_index, EachIndex, Option, Some, None}
use Rattle.target_meaning.specs.Machine.{Live}
use Rattle.target_meaning.specs.Piece.{whole, Share, Nil, Some_of, Piece, at_place}

-- words are below 2^64
abbrev pub AreWords : List ℕ → Type 0
AreWords ws = EachIndex ws (λ i. slice_index ws i < 2 ^ 64)

-- what stands at each place of each name, as far as something stands there
abbrev pub Contents : Type 0
Contents = ℕ → ℕ → Option ℕ

-- nothing anywhere
abbrev pub nothing : Contents
nothing c j = None

-- a block of these words, with its name
abbrev pub block : ℕ → List ℕ → Contents
block b ws c j = if c == b then at_place (Live ws) j else None

-- what stands at a place of a range of words, which has no name
abbrev pub in_range : ℕ → List ℕ → ℕ → Option ℕ
in_range off ws zero = None
in_range off ws (suc i) = if nat_lt i off then None else slice_get ws (i - off)

-- these words of a block from an offset on, without the name
abbrev pub range : ℕ → ℕ → List ℕ → Contents
range b off ws c j = if c == b then in_range off ws j else None

-- a place with this value and some share from 1 to the whole, or without either
abbrev pub Has : Share → Option ℕ → Type 0
Has x None = x ≡ Nil
Has x (Some v) = (k : ℕ) × (k < whole) × (x ≡ Some_of v k)

-- a piece has exactly these contents, each with some share
abbrev pub Exactly : Contents → Piece → Type 0
Exactly contents p = (c j : ℕ) → Has (p c j) (contents c j)

-- the whole share of a place
abbrev pub wholly : Option ℕ → Share
wholly None = Nil
wholly (Some v) = Some_of v (whole - 1)

-- the piece that holds these contents whole
abbrev pub whole_piece : Contents → Piece
whole_piece contents c j = wholly (contents c j)
