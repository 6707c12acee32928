-- What evaluation writes for a specification.
use Rattle.std.specs.Prelude.{◌≡◌, ℕ, List, Ok, Err}
use Rattle.nres_core.specs.Runs.{Gave, Fell, Late}
use Rattle.nres_core.specs.declared.tree.Spec.{Spec}
use Rattle.nres_core.specs.declared.tree.With.{With}
use Rattle.nres_core.specs.declared.value.Value.{Value}
use Rattle.nres_meaning.specs.Allowed.{Allows, CanFail, first_end}
use Rattle.relations.specs.ResultLines.{result_lines}
use Rattle.inputs.specs.Inputs.{Fault, inputs}
use Rattle.sepref_top.specs.InputLines.{input_line}
use Rattle.sepref_top.specs.Statuses.{line_of}
use Rattle.sepref_top.specs.declared.status.Status.{Status}
use Rattle.sepref_top.specs.declared.status.Status.TheVariants as status

-- how deep calls may nest
abbrev pub deepest_call : ℕ
deepest_call = 32

-- with so many turns for a loop, the path of the first choices gives results, which the specification then allows, and their lines are written
pub record GivesLines (turns : ℕ) (p : Spec) (us : List Value) (output : List ℕ) : Type 0 where
  pub results : List Value
  pub first : first_end turns deepest_call p us ≡ Gave results
  pub allowed : Allows p us results
  pub written : output ≡ result_lines results

-- it fails at a line, so that the specification can fail
pub record FailsAt (turns : ℕ) (p : Spec) (us : List Value) (l : ℕ) (output : List ℕ) : Type 0 where
  pub first : first_end turns deepest_call p us ≡ Fell l
  pub can_fail : CanFail p us
  pub written : output ≡ line_of (status.Fails l)

-- it would begin one turn too many of the loop at a line, or make the call at a line inside too many
pub record TurnsAt (turns : ℕ) (p : Spec) (us : List Value) (l : ℕ) (output : List ℕ) : Type 0 where
  pub first : first_end turns deepest_call p us ≡ Late l
  pub written : output ≡ line_of (status.OutOfTurns l)

-- a status and an output tell how the path of the first choices ends on these values
abbrev pub EndsSo : ℕ → Spec → List Value → Status → List ℕ → Type 0
EndsSo turns p us status.Done output = GivesLines turns p us output
EndsSo turns p us (status.Fails l) output = FailsAt turns p us l output
EndsSo turns p us (status.OutOfTurns l) output = TurnsAt turns p us l output
EndsSo turns p us s output = ⊥

-- lines give the parameters no values: this is wrong first
pub record BadInput (p : Spec) (ws : List With) (output : List ℕ) : Type 0 where
  pub fault : Fault
  pub first : inputs p.params ws ≡ Err fault
  pub written : output ≡ input_line fault

-- they do, and the path on these values ends so
abbrev pub EndsOn : ℕ → Spec → List With → Status → List ℕ → Type 0
EndsOn turns p ws s output = (us : List Value) × (inputs p.params ws ≡ Ok us) × EndsSo turns p us s output

-- a status and an output tell what evaluation says of a specification and lines
abbrev pub Evaluated : ℕ → Spec → List With → Status → List ℕ → Type 0
Evaluated turns p ws status.Input output = BadInput p ws output
Evaluated turns p ws s output = EndsOn turns p ws s output
