-- Pieces of a heap with shares. A place of a block is 0 for its name and i + 1 for its word i.
use Rattle.std.specs.Prelude.{◌≡◌, ℕ, zero, suc, ◌+◌, ◌-◌, ◌/◌, ◌^◌, ◌<◌, ◌≤◌, ◌⊎◌, Bool, true, false, List, length, ◌==◌, slice_get}
use Rattle.std.specs.Prelude.{Option, Some, None}
use Rattle.target_meaning.specs.Machine.{Cell, Never, Live, Freed, Heap}

-- the whole share
abbrev pub whole : ℕ
whole = 2 ^ 64

-- what is held of one place: nothing, or its value (of a name the length) with a share, which is one more than `less`; Clash where shares disagree on the value
pub data Share : Type 0 where
  Nil : Share
  Some_of : (value less : ℕ) → Share
  Clash : Share

-- the sum of two shares that agree, or do not
abbrev pub add_if : Bool → ℕ → ℕ → ℕ → Share
add_if true v k j = Some_of v (suc (k + j))
add_if false v k j = Clash

-- the sum of two shares of one place: they add up where the values agree
abbrev pub add : Share → Share → Share
add Nil b = b
add Clash b = Clash
add (Some_of v k) Nil = Some_of v k
add (Some_of v k) (Some_of u j) = add_if (v == u) v k j
add (Some_of v k) Clash = Clash

-- a piece of a heap: what is held of each name and word
abbrev pub Piece : Type 0
Piece = ℕ → ℕ → Share

-- nothing is held
abbrev pub none : Piece
none b j = Nil

-- the union of two pieces: shares that meet are added
abbrev pub plus : Piece → Piece → Piece
plus p q b j = add (p b j) (q b j)

-- what stands at a place of a block
abbrev pub at_place : Cell → ℕ → Option ℕ
at_place Never j = None
at_place Freed j = None
at_place (Live ws) zero = Some (length ws)
at_place (Live ws) (suc i) = slice_get ws i

-- a heap has what is held
abbrev pub Fits : Share → Option ℕ → Type 0
Fits Nil o = Unit {0}
Fits (Some_of v k) o = (o ≡ Some v) × (k < whole)
Fits Clash o = ⊥

-- a lawful heap, as the machine makes it: the capacity is a word, each live block is shorter than the capacity, and each live name is at most the capacity, so a word
pub record IsHeap (h : Heap) : Type 0 where
  pub word : h.cap < 2 ^ 64
  pub short : (b : ℕ) (ws : List ℕ) → h.cells b ≡ Live ws → length ws < h.cap
  pub named : (b : ℕ) (ws : List ℕ) → h.cells b ≡ Live ws → b ≤ h.cap

-- a heap has what a piece holds
pub record Holds (p : Piece) (h : Heap) : Type 0 where
  pub places : (b j : ℕ) → Fits (p b j) (at_place (h.cells b) j)
  pub heap : IsHeap h

-- a share of this size, none at 0
abbrev pub share_of : ℕ → ℕ → Share
share_of v zero = Nil
share_of v (suc k) = Some_of v k

-- half of a share, rounded down
abbrev pub half : Share → Share
half Nil = Nil
half (Some_of v k) = share_of v (suc k / 2)
half Clash = Clash

-- what half of a share leaves
abbrev pub rest : Share → Share
rest Nil = Nil
rest (Some_of v k) = share_of v (suc k - suc k / 2)
rest Clash = Nil

-- each share is from 1 to the whole
abbrev pub IsProper : Share → Type 0
IsProper Nil = Unit {0}
IsProper (Some_of v k) = suc k ≤ whole
IsProper Clash = ⊥

-- each share of a piece is from 1 to the whole
abbrev pub IsPiece : Piece → Type 0
IsPiece p = (b j : ℕ) → IsProper (p b j)

-- a share that is the whole one
abbrev pub IsWhole : Share → Type 0
IsWhole Nil = ⊥
IsWhole (Some_of v k) = suc k ≡ whole
IsWhole Clash = ⊥

-- all shares of a piece are whole
abbrev pub IsAllWhole : Piece → Type 0
IsAllWhole p = (b j : ℕ) → (p b j ≡ Nil) ⊎ IsWhole (p b j)

-- shares of one place agree on the value and are at most the whole together
abbrev pub Meets : Share → Share → Type 0
Meets Nil y = Unit {0}
Meets (Some_of v k) Nil = Unit {0}
Meets (Some_of v k) (Some_of u j) = (v ≡ u) × (suc k + suc j ≤ whole)
Meets (Some_of v k) Clash = ⊥
Meets Clash y = ⊥

-- two pieces are compatible
abbrev pub AreCompatible : Piece → Piece → Type 0
AreCompatible p q = (b j : ℕ) → Meets (p b j) (q b j)

-- two pieces share neither word nor name
abbrev pub AreDisjoint : Piece → Piece → Type 0
AreDisjoint p q = (b j : ℕ) → (p b j ≡ Nil) ⊎ (q b j ≡ Nil)

-- all that is live in a heap is held whole
abbrev pub Covers : Piece → Heap → Type 0
Covers p h = (b j v : ℕ) → at_place (h.cells b) j ≡ Some v → IsWhole (p b j)
