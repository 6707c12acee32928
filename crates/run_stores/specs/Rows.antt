-- A store at the beginning of a run, and where its blocks lie.
use Rattle.std.specs.Prelude.{◌≡◌, ℕ, ◌+◌, List, [], ◌∷◌, Option, Some, None, if◌then◌else◌}
use Rattle.target_meaning.specs.Piece.{Share, Nil, Some_of, Clash, Piece, none}
use Rattle.branch_exec.specs.Stores.{Kept, block_whole}

-- it holds nothing, drew nothing and walked over nothing
pub record IsEmpty (s : Kept) (cap : ℕ) : Type 0 where
  pub below : s.below ≡ []
  pub top : s.top ≡ none
  pub drawn : s.drawn ≡ []
  pub walked : s.walked ≡ 0
  pub capacity : s.cap ≡ cap

-- blocks, with their lengths, lie one behind the other from this name on, and the last ends at this word
abbrev pub IsInRow : ℕ → List (ℕ × ℕ) → ℕ → Type 0
IsInRow x [] end = x ≡ end + 1
IsInRow x (b ∷ bs) end = (b.0 ≡ x) × IsInRow (x + b.1 + 1) bs end

-- the length that a share of a name tells
abbrev pub length_in : Share → Option ℕ
length_in Nil = None
length_in (Some_of n k) = Some n
length_in Clash = None

-- the length of a block whose name and words are held whole
abbrev pub whole_length : Piece → ℕ → Option ℕ
whole_length p b = if block_whole (p b 0) (p b) then length_in (p b 0) else None
