-- What a program that is right for a flat tree is for the text, as facts.
use Rattle.std.specs.Prelude.{◌≡◌, ℕ, List}
use Rattle.nres_core.specs.FlatTree.{flat_whole_of}
use Rattle.nres_core.specs.declared.flat.Flat.{Flat}
use Rattle.nres_core.specs.declared.tree.Spec.{Spec}
use Rattle.nres_core.specs.declared.value.Value.{Value}
use Rattle.nres_rules.specs.Identify.{IsFlatOf}
use Rattle.nres_rules.specs.Types.{rep_type}
use Rattle.identify_laws.specs.Taken.{SpecTakes}
use Rattle.identify_laws.specs.Values.{Of}
use Rattle.target_code.specs.declared.tree.Program.{Program}
use Rattle.target_code.specs.declared.tree.Rep.{Rep}
use Rattle.target_meaning.specs.Piece.{Piece}
use Rattle.relations.specs.Represents.{Represents}
use Rattle.soundness.specs.Behaviour.{Refines, of_spec, of_flat}
use Rattle.soundness.specs.Bound.{IsBoundedFor}
use Rattle.soundness.specs.Sound.{Sound, FlatSound}

-- a value that is represented is of the representation's type
abbrev pub RepresentedAreTyped : Type 0
RepresentedAreTyped = (r : Rep) (x : Value) (regs : List ℕ) (p : Piece) → Represents r x regs p → Of (rep_type r) x

-- this is the flat tree of a text, and a program takes the inputs of its parameters
pub record IsFor (p : Spec) (f : Flat) (T : Program) : Type 0 where
  pub takes : SpecTakes p
  pub flat : IsFlatOf p (flat_whole_of f)
  pub ins : T.ins ≡ (flat_whole_of f).params

abbrev pub FlatTreeRefines : Type 0
FlatTreeRefines = (p : Spec) (f : Flat) (T : Program) → IsFor p f T → Refines T (of_flat f) (of_spec p)

abbrev pub SoundKept : Type 0
SoundKept = (p : Spec) (f : Flat) (T : Program) → IsFor p f T → FlatSound f T → Sound p T

abbrev pub BoundsKept : Type 0
BoundsKept = (p : Spec) (f : Flat) (T : Program) → IsFor p f T → IsBoundedFor (of_flat f) T → IsBoundedFor (of_spec p) T
