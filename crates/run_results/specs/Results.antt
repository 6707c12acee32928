-- The values that the results of an ended run represent, by their registers and by what is held whole.
use Rattle.std.specs.Prelude.{◌≡◌, ℕ, zero, suc, ◌+◌, ◌-◌, ◌<◌, List, [], ◌∷◌, length, take, drop, slice_index, Option, Some, None}
use Rattle.nres_core.specs.declared.value.Value.{Value}
use Rattle.target_code.specs.Reps.{width}
use Rattle.target_code.specs.declared.tree.Rep.{Rep}
use Rattle.target_meaning.specs.Piece.{Piece, Some_of, whole}
use Rattle.layout_facts.specs.Footprints.{first_word}
use Rattle.image_laws.specs.Laws.{IsRead}
use Rattle.run_results.specs.declared.showing.Shown.{Shown}
use Rattle.run_results.specs.declared.showing.Shown.TheVariants as shown

-- a block of these words is held whole, its name and each of its words
pub record HoldsBlock (p : Piece) (b : ℕ) (ws : List ℕ) : Type 0 where
  pub name : p b 0 ≡ Some_of (length ws) (whole - 1)
  pub words : (i : ℕ) → i < length ws → p b (suc i) ≡ Some_of (slice_index ws i) (whole - 1)

-- these are the words of the block of this name that is held whole; none where none is
abbrev pub IsBlock : Piece → ℕ → Option (List ℕ) → Type 0
IsBlock p b None = (ws : List ℕ) → HoldsBlock p b ws → ⊥
IsBlock p b (Some ws) = HoldsBlock p b ws

-- a block, where there is one, is held whole
abbrev pub HoldsAny : Piece → ℕ → Option (List ℕ) → Type 0
HoldsAny p b None = Unit {0}
HoldsAny p b (Some ws) = HoldsBlock p b ws

-- registers represent a value, alone or with the block that the first of them names, which is held whole
pub record Shows (p : Piece) (r : Rep) (regs : List ℕ) (x : Value) : Type 0 where
  pub block : Option (List ℕ)
  pub read : IsRead r regs block x
  pub held : HoldsAny p (first_word regs) block

-- results represent these values; their registers stand in order
abbrev pub AllShow : Piece → List Rep → List Value → List ℕ → Type 0
AllShow p [] [] regs = Unit {0}
AllShow p (r ∷ rs) (x ∷ xs) regs = Shows p r (take (width r) regs) x × AllShow p rs xs (drop (width r) regs)
AllShow p _ _ regs = ⊥

-- the first result that represents no value, counted from 0
abbrev pub FirstNone : Piece → List Rep → List ℕ → ℕ → Type 0
FirstNone p [] regs k = ⊥
FirstNone p (r ∷ rs) regs zero = (x : Value) → Shows p r (take (width r) regs) x → ⊥
FirstNone p (r ∷ rs) regs (suc k) = ((x : Value) × Shows p r (take (width r) regs) x) × FirstNone p rs (drop (width r) regs) k

-- results are so: they represent these values, or this one, counted from 1, is the first that represents none
abbrev pub AreShown : Piece → List Rep → List ℕ → Shown → Type 0
AreShown p outs regs (shown.Values vs) = AllShow p outs vs regs
AreShown p outs regs (shown.NoValue k) = (n : ℕ) × (k ≡ n + 1) × FirstNone p outs regs n
