-- What is asked of a program: which results inputs may have, where anything may happen, and where each run is to end.
use Rattle.std.specs.Prelude.{ℕ, List}
use Rattle.nres_core.specs.declared.flat.Flat.{Flat}
use Rattle.nres_core.specs.declared.tree.Spec.{Spec}
use Rattle.nres_core.specs.declared.value.Value.{Value}
use Rattle.nres_meaning.specs.Allowed.{Allows, CanFail, Ends, FlatAllows, FlatCanFail, FlatEnds}
use Rattle.target_code.specs.declared.tree.Program.{Program}
use Rattle.target_meaning.specs.Piece.{Piece}
use Rattle.relations.specs.Values.{AllRepresent}
use Rattle.soundness.specs.Start.{reps_of}

pub record Behaviour : Type 1 where
  -- inputs may have these results
  pub allows : List Value → List Value → Type 0
  -- on inputs some path fails
  pub can_fail : List Value → Type 0
  -- on inputs no path fails, and none has more turns of a loop or deeper calls than this
  pub ends : ℕ → List Value → Type 0

-- what a text says
abbrev pub of_spec : Spec → Behaviour
of_spec p = record { allows = Allows p; can_fail = CanFail p; ends = λ n us. Ends n p us }

-- what a flat tree says
abbrev pub of_flat : Flat → Behaviour
of_flat f = record { allows = FlatAllows f; can_fail = FlatCanFail f; ends = λ n us. FlatEnds n f us }

-- registers and pieces can represent these values as a program's inputs
abbrev pub CanBeGiven : Program → List Value → Type 0
CanBeGiven T us = (regs : List ℕ) × (ps : List Piece) × AllRepresent (reps_of T.ins) us regs ps

-- on the inputs that a program can be given the first asks no less than the second: it allows no more, and it may fail only where the second may and ends
-- where the second does
pub record Refines (T : Program) (m k : Behaviour) : Type 0 where
  pub allows : (us vs : List Value) → CanBeGiven T us → m.allows us vs → k.allows us vs
  pub can_fail : (us : List Value) → CanBeGiven T us → m.can_fail us → k.can_fail us
  pub ends : (n : ℕ) (us : List Value) → CanBeGiven T us → k.ends n us → m.ends n us
