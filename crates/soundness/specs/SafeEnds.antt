-- Soundness and bounds by the logic: an end that is good by what the root holds.
use Rattle.std.specs.Prelude.{◌≡◌, ℕ, List, [], ◌++◌}
use Rattle.nres_core.specs.declared.value.Value.{Value}
use Rattle.target_code.specs.declared.tree.Proc.{Proc}
use Rattle.target_code.specs.declared.tree.Program.{Program}
use Rattle.target_meaning.specs.Leaf.{Stack, Run, begin}
use Rattle.target_meaning.specs.Machine.{Heap, Leaf}
use Rattle.target_meaning.specs.Piece.{Piece, IsAllWhole}
use Rattle.triple_logic.specs.Bounded.{Bounded}
use Rattle.triple_logic.specs.Safe.{Safe, at_end}
use Rattle.relations.specs.Values.{AllRepresent, AreApart, union}
use Rattle.soundness.specs.Behaviour.{Behaviour}
use Rattle.soundness.specs.Good.{kept_pieces}
use Rattle.soundness.specs.Start.{Start, reps_of}

-- registers and a piece, on values whose pieces were these at the start: the registers represent results that are allowed, and the piece is the disjoint
-- union of theirs and of those that kept inputs had
pub record EndsGood (m : Behaviour) (T : Program) (us : List Value) (pieces : List Piece) (regs : List ℕ) (held : Piece) : Type 0 where
  pub results : List Value
  pub outs : List Piece
  pub allowed : m.allows us results
  pub related : AllRepresent T.outs results regs outs
  pub apart : AreApart (outs ++ kept_pieces T.ins pieces)
  pub all : (b j : ℕ) → union (outs ++ kept_pieces T.ins pieces) b j ≡ held b j

-- from every start on values on which nothing can fail a program is safe for every number of steps with such an end, on what the inputs hold
abbrev pub IsSafe : Behaviour → Program → Type 0
IsSafe m T =
    (us : List Value) (s : Stack) (h : Heap) (start : Start T us s h) → ¬ m.can_fail us
    → (n : ℕ) → Safe T.procs at_end (EndsGood m T us start.pieces) n 0 (Leaf (union start.pieces) s)

-- the same from the beginning of `main`, on registers and pieces that represent the inputs; the pieces are apart and whole
abbrev pub IsSafeFrom : Proc → Behaviour → Program → Type 0
IsSafeFrom main m T =
    (us : List Value) (regs : List ℕ) (ps : List Piece) → AllRepresent (reps_of T.ins) us regs ps → AreApart ps → IsAllWhole (union ps) → ¬ m.can_fail us
    → (n : ℕ) → Safe T.procs at_end (EndsGood m T us ps) n 0 (Leaf (union ps) (Run (begin main regs) []))

-- from every start on values on which each path ends a program has a bound on its steps, and ends so, on what the inputs hold
abbrev pub IsBounded : Behaviour → Program → Type 0
IsBounded m T =
    (n : ℕ) (us : List Value) (s : Stack) (h : Heap) (start : Start T us s h) → m.ends n us
    → (bound : ℕ) × Bounded T.procs at_end (EndsGood m T us start.pieces) bound 0 (Leaf (union start.pieces) s)

-- the same from the beginning of `main`
abbrev pub IsBoundedFrom : Proc → Behaviour → Program → Type 0
IsBoundedFrom main m T =
    (n : ℕ) (us : List Value) (regs : List ℕ) (ps : List Piece) → AllRepresent (reps_of T.ins) us regs ps → AreApart ps → IsAllWhole (union ps) → m.ends n us
    → (bound : ℕ) × Bounded T.procs at_end (EndsGood m T us ps) bound 0 (Leaf (union ps) (Run (begin main regs) []))
