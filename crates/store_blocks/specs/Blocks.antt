-- A block with its words.
use Rattle.std.specs.Prelude.{◌≡◌, ℕ, zero, suc, ◌+◌, ◌-◌, ◌<◌, ◌≤◌, List, [], ◌∷◌, ◌++◌, length, ◌==◌, nat_lt, if◌then◌else◌, slice_get}
use Rattle.std.specs.Prelude.{Option, Some, None}
use Rattle.target_meaning.specs.Piece.{Share, Nil, Some_of, Piece, whole}
use Rattle.branch_exec.specs.Stores.{Kept, IsRefused}
use Rattle.branch_exec.specs.declared.store.Got.{Got}
use Rattle.branch_exec.specs.declared.store.Got.TheVariants as got

-- a whole share of a word, where there is one
abbrev pub whole_word : Option ℕ → Share
whole_word None = Nil
whole_word (Some v) = Some_of v (whole - 1)

-- a block of these words, whole: its name with the length, and each word
abbrev pub block_with : List ℕ → ℕ → Share
block_with ws zero = Some_of (length ws) (whole - 1)
block_with ws (suc i) = whole_word (slice_get ws i)

-- a piece and this block
abbrev pub with_block : Piece → ℕ → List ℕ → Piece
with_block p x ws c j = if c == x then block_with ws j else p c j

-- the store after a block was put
pub record IsPut (s t : Kept) (x : ℕ) (ws : List ℕ) : Type 0 where
  pub new : s.walked < x
  pub fits : x + length ws ≤ s.cap
  pub reached : t.walked ≡ x + length ws
  pub below : t.below ≡ s.below
  pub top : t.top ≡ with_block s.top x ws
  pub drawn : t.drawn ≡ s.drawn ++ (x, length ws) ∷ []
  pub cap : t.cap ≡ s.cap
  pub place : t.place ≡ s.place
  pub weight : t.weight ≡ s.weight

abbrev pub Puts : Got → Kept → Kept → List ℕ → Type 0
Puts (got.Won x) s t ws = IsPut s t x ws
Puts (got.Full at) s t ws = IsRefused s t × (t.walked ≡ at) × (s.cap < at + 1 + length ws)
Puts got.Memory s t ws = IsRefused s t
