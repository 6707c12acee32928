-- What a proof of `main` by the paths of a flat tree gives, as facts.
use Rattle.std.specs.Prelude.{◌≡◌, Some, codes}
use Rattle.nres_core.specs.declared.flat.Flat.{Flat}
use Rattle.soundness.specs.Behaviour.{of_flat}
use Rattle.soundness.specs.Bound.{IsBoundedFor}
use Rattle.soundness.specs.Sound.{FlatSound}
use Rattle.start_ends.specs.Things.{ProgramSafe, ProgramBounded}
use Rattle.target_code.specs.declared.tree.Proc.{Proc}
use Rattle.target_code.specs.declared.tree.Program.{Program}
use Rattle.target_meaning.specs.Leaf.{find}

-- a program whose `main` is safe by the paths of a flat tree is sound for it
abbrev pub PathsSound : Type 0
PathsSound = (main : Proc) (f : Flat) (T : Program) → find T.procs (codes "main") ≡ Some main → ProgramSafe main f T → FlatSound f T

-- one whose `main` is bounded by them has bounds
abbrev pub PathsBounded : Type 0
PathsBounded = (main : Proc) (f : Flat) (T : Program) → find T.procs (codes "main") ≡ Some main → ProgramBounded main f T → IsBoundedFor (of_flat f) T
