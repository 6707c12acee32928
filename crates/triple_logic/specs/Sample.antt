-- Small procedures, and what they do.
use Rattle.std.specs.Prelude.{◌≡◌, ℕ, suc, ◌+◌, ◌^◌, ◌<◌, ◌≤◌, List, [], ◌∷◌, length, codes, slice_index, slice_set, ◌≢◌}
use Rattle.target_code.specs.declared.tree.Instr.TheVariants.{Alloc, Calc, Const, Store}
use Rattle.target_code.specs.declared.tree.Calc.TheVariants.{Add}
use Rattle.target_code.specs.declared.tree.Proc.{Proc}
use Rattle.target_meaning.specs.Leaf.{Run, begin}
pub use Rattle.target_meaning.specs.Samples.{array_get}
use Rattle.target_meaning.specs.Machine.{Leaf}
use Rattle.target_meaning.specs.Piece.{Share, Nil, Some_of, Clash, Piece}
use Rattle.target_meaning.specs.Piece.{IsWhole}
use Rattle.triple_logic.specs.Safe.{at_end, Safe}

-- an array with the element at an index replaced: block, offset, length, index, element
abbrev pub array_set : Proc
array_set = record {
  name = codes "array_set";
  args = 5;
  regs = 6;
  code = record { list = Calc 5 Add 1 3 ∷ Store 0 5 4 ∷ [] };
  ret = 0 ∷ 1 ∷ 2 ∷ [];
}

-- claims 2^63 words before anything else
abbrev pub claimer : Proc
claimer = record {
  name = codes "claimer";
  args = 0;
  regs = 2;
  code = record { list = Const 0 (2 ^ 63) ∷ Alloc 1 0 ∷ [] };
  ret = 1 ∷ [];
}

-- a place holds this value, with some share
abbrev pub HasValue : Share → ℕ → Type 0
HasValue Nil v = ⊥
HasValue (Some_of u k) v = u ≡ v
HasValue Clash v = ⊥

-- the words off to off + length xs - 1 of block b are xs, and nothing else is held
pub record IsSlice (xs : List ℕ) (b off : ℕ) (p : Piece) : Type 0 where
  pub words : (i : ℕ) → i < length xs → HasValue (p b (suc (off + i))) (slice_index xs i)
  pub no_name : p b 0 ≡ Nil
  pub before : (j : ℕ) → j < off → p b (suc j) ≡ Nil
  pub after : (j : ℕ) → off + length xs ≤ j → p b (suc j) ≡ Nil
  pub others : (c j : ℕ) → c ≢ b → p c j ≡ Nil

-- the words off to off + length xs - 1 of block b are held whole
abbrev pub IsOwned : List ℕ → ℕ → ℕ → Piece → Type 0
IsOwned xs b off p = (i : ℕ) → i < length xs → IsWhole (p b (suc (off + i)))

-- `array_get` gives the element and keeps what it has
abbrev pub GetLaw : Type 0
GetLaw =
    (T : List Proc) (n f : ℕ) (xs : List ℕ) (b off i : ℕ) (p : Piece) → i < length xs → IsSlice xs b off p →
    Safe T at_end (λ vs q. (vs ≡ slice_index xs i ∷ []) × (q ≡ p)) n f (Leaf p (Run (begin array_get (b ∷ off ∷ length xs ∷ i ∷ [])) []))

-- `array_set` gives a slice with the element replaced
abbrev pub SetLaw : Type 0
SetLaw =
    (T : List Proc) (n f : ℕ) (xs : List ℕ) (b off i v : ℕ) (p : Piece) → i < length xs → IsSlice xs b off p → IsOwned xs b off p →
    Safe T at_end (λ vs q. (vs ≡ b ∷ off ∷ length xs ∷ []) × IsSlice (slice_set xs i v) b off q × IsOwned (slice_set xs i v) b off q) n f
    (Leaf p (Run (begin array_set (b ∷ off ∷ length xs ∷ i ∷ v ∷ [])) []))
