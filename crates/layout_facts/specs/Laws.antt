-- What the ten layouts have in common, as facts; and that blocks and ranges of the layouts are those that proofs about code speak of.
use Rattle.std.specs.Prelude.{◌≡◌, ◌↔◌, ℕ, suc, ◌+◌, ◌-◌, ◌^◌, ◌<◌, ◌≤◌, true, false, List, [], ◌∷◌, ◌++◌, length, take, drop}
use Rattle.nres_core.specs.declared.value.Value.{Value}
use Rattle.nres_core.specs.declared.value.Value.TheVariants as v
use Rattle.target_code.specs.Formed.{is_container}
use Rattle.target_code.specs.Reps.{width}
use Rattle.target_code.specs.declared.tree.Rep.{Rep}
use Rattle.target_code.specs.declared.tree.Rep.TheVariants as rep
use Rattle.target_meaning.specs.Held.{CanHalve, AllWhole, Places, without}
use Rattle.target_meaning.specs.Machine.{Heap}
use Rattle.target_meaning.specs.Piece.{Piece, none, plus, Holds, IsPiece, IsAllWhole, AreDisjoint}
use Rattle.triple_logic.specs.Blocks as logic
use Rattle.triple_logic.specs.Parts.{Inside, Outside, AtLeast, half_of, rest_of, front, back}
use Rattle.triple_logic.specs.Sample as sample
use Rattle.relations.specs.Blocks.{block, range, Exactly}
use Rattle.relations.specs.Represents.{Represents}
use Rattle.layout_facts.specs.Footprints.{HasFootprint, Keeps, OneBlock, first_word, part_of}

-- ---- one representation

abbrev pub HaveFootprints : Type 0
HaveFootprints = (r : Rep) (x : Value) (regs : List ℕ) (p : Piece) → Represents r x regs p → HasFootprint r x regs p

-- what registers and a piece that represent a value have
pub record Has (r : Rep) (x : Value) (regs : List ℕ) (p : Piece) : Type 0 where
  pub wide : length regs ≡ width r
  -- a number or a truth value holds nothing
  pub bare : is_container r ≡ false → p ≡ none
  -- a piece with the same values under other shares represents the value too
  pub kept : (q : Piece) → Keeps p q → Represents r x regs q
  pub half : ((b j : ℕ) → AtLeast 2 (p b j)) → Represents r x regs (half_of p)
  pub rest : ((b j : ℕ) → AtLeast 2 (p b j)) → Represents r x regs (rest_of p)

-- what those of a container have: the piece lies in the part that the registers name and fills it, so that it can be handed, and lent where no share is
-- less than 2; a piece beside it has nothing of that part
pub record Contained (r : Rep) (regs : List ℕ) (p : Piece) : Type 0 where
  pub inside : Inside (part_of r regs) p
  pub handed : Places (part_of r regs) p (λ j. CanHalve true (p (part_of r regs).block j))
  pub lent : ((b j : ℕ) → AtLeast 2 (p b j)) → Places (part_of r regs) p (λ j. CanHalve false (p (part_of r regs).block j))
  pub beside : (q : Piece) (h : Heap) → AreDisjoint p q → Holds (plus p q) h → Outside (part_of r regs) q

abbrev pub AllHave : Type 0
AllHave = (r : Rep) (x : Value) (regs : List ℕ) (p : Piece) → Represents r x regs p → Has r x regs p

abbrev pub ContainersHave : Type 0
ContainersHave = (r : Rep) (x : Value) (regs : List ℕ) (p : Piece) → is_container r ≡ true → Represents r x regs p → Contained r regs p

-- ---- a container that is no slice

abbrev pub ContainersAreBlocks : Type 0
ContainersAreBlocks =
    (r : Rep) (x : Value) (regs : List ℕ) (p : Piece) → is_container r ≡ true → (r ≡ rep.Slice → ⊥) → Represents r x regs p → OneBlock regs p

-- where all of it is held whole: it is that block, and beside any piece it can be freed, which leaves the other
pub record IsOwned (regs : List ℕ) (p : Piece) (o : OneBlock regs p) : Type 0 where
  pub same : p ≡ logic.block (first_word regs) o.words
  pub can_free : (q : Piece) (h : Heap) → Holds (plus p q) h → AllWhole (plus p q (first_word regs) 0) (plus p q (first_word regs))
  pub freed : (q : Piece) (h : Heap) → Holds (plus p q) h → without (plus p q) (first_word regs) ≡ q

abbrev pub WholeBlocks : Type 0
WholeBlocks = (regs : List ℕ) (p : Piece) (o : OneBlock regs p) → IsAllWhole p → IsOwned regs p o

-- ---- blocks and ranges of the layouts, and those of proofs about code

pub record BlocksAgree : Type 0 where
  -- a block under any shares is read by its words
  pub read : (b : ℕ) (ws : List ℕ) (p : Piece) → Exactly (block b ws) p → logic.Reads b 0 ws p
  -- one that is held whole is that block
  pub whole : (b : ℕ) (ws : List ℕ) (p : Piece) → Exactly (block b ws) p → IsAllWhole p → p ≡ logic.block b ws

-- a piece has exactly a range of words where it is a slice, and its shares are from 1 to the whole
abbrev pub RangesAgree : Type 0
RangesAgree = (b off : ℕ) (xs : List ℕ) (p : Piece) → Exactly (range b off xs) p ↔ (sample.IsSlice xs b off p × IsPiece p)

-- ---- slices that are cut in two and joined

abbrev pub SlicesSplit : Type 0
SlicesSplit =
    (b off len k : ℕ) (xs : List ℕ) (p : Piece) (h : Heap) → Represents rep.Slice (v.List xs) (b ∷ off ∷ len ∷ []) p → Holds p h → k ≤ length xs
    → Represents rep.Slice (v.List (take k xs)) (b ∷ off ∷ k ∷ []) (front b (suc (off + k)) p)
    × Represents rep.Slice (v.List (drop k xs)) (b ∷ (off + k) ∷ (length xs - k) ∷ []) (back b (suc (off + k)) p)

abbrev pub SlicesJoin : Type 0
SlicesJoin =
    (b off m n : ℕ) (xs ys : List ℕ) (p q : Piece) (h : Heap) → Holds (plus p q) h → length xs + length ys < 2 ^ 32
    → Represents rep.Slice (v.List xs) (b ∷ off ∷ m ∷ []) p → Represents rep.Slice (v.List ys) (b ∷ (off + m) ∷ n ∷ []) q
    → Represents rep.Slice (v.List (xs ++ ys)) (b ∷ off ∷ (m + n) ∷ []) (plus p q)

-- ---- halves

-- a piece is its two halves; below f forks, where no share is less than 2^(64 - f), each share can be halved, and the halves are fit for one fork more
pub record Halves : Type 0 where
  pub all : (p : Piece) → plus (half_of p) (rest_of p) ≡ p
  pub two : (f : ℕ) → f < 64 → (p : Piece) → ((b j : ℕ) → AtLeast (2 ^ (64 - f)) (p b j)) → (b j : ℕ) → AtLeast 2 (p b j)
  pub fit : (f : ℕ) → f < 64 → (p : Piece) → ((b j : ℕ) → AtLeast (2 ^ (64 - f)) (p b j))
      → (b j : ℕ) → AtLeast (2 ^ (64 - suc f)) (half_of p b j) × AtLeast (2 ^ (64 - suc f)) (rest_of p b j)
