-- What is told of a program on values along a schedule.
use Rattle.std.specs.Prelude.{◌≡◌, ℕ, ◌+◌, List, [], Some, Ok, Err}
use Rattle.target_code.specs.declared.tree.Program.{Program}
use Rattle.target_code.specs.declared.tree.Rep.{Rep}
use Rattle.target_meaning.specs.States.{MachineState, root_results}
use Rattle.nres_core.specs.declared.tree.With.{With}
use Rattle.nres_core.specs.declared.value.Value.{Value}
use Rattle.inputs.specs.Inputs.{program_inputs}
use Rattle.inputs.specs.declared.refusal.InputRefusal.{InputRefusal}
use Rattle.inputs.specs.declared.refusal.InputRefusal.TheVariants as refusal
use Rattle.relations.specs.Values.{live}
use Rattle.run_begins.specs.Beginning.{AreUnfit}
use Rattle.run_results.specs.Results.{AllShow, FirstNone}
use Rattle.replay.specs.declared.answer.ReplayEnd.{ReplayEnd}
use Rattle.replay.specs.declared.answer.ReplayEnd.TheVariants as end
use Rattle.replay.specs.declared.schedule.Move.{Move}
use Rattle.replay.specs.Told.{Replays, steps_of}
use Rattle.replay_causes.specs.declared.cause.Cause.{Cause}
use Rattle.replay_causes.specs.declared.cause.Cause.TheVariants as cause
use Rattle.replay_input.specs.declared.reading.Unread.{Unread}
use Rattle.replay_input.specs.declared.reading.Unread.TheVariants as unread
use Rattle.state_values.specs.Beginning.{IsBegun}

-- a root that ended in a state, with its results, and what they represent
abbrev pub Ended : List Rep → MachineState → ℕ → Cause → Type 0
Ended outs left at (cause.Told e vs) = (e ≡ end.End at) × (regs : List ℕ) × (root_results left.tree ≡ Some regs) × AllShow (live left.heap) outs vs regs
Ended outs left at (cause.NoValue k) = (regs : List ℕ) × (n : ℕ) × (root_results left.tree ≡ Some regs) × FirstNone (live left.heap) outs regs n × (k ≡ n + 1)
Ended outs left at _ = ⊥

-- an answer that left a state: with the end of the root as above, else the answer alone
abbrev pub TellsEnd : List Rep → MachineState → ReplayEnd → Cause → Type 0
TellsEnd outs left (end.End at) c = Ended outs left at c
TellsEnd outs left e (cause.Told f vs) = (f ≡ e) × (vs ≡ [])
TellsEnd outs left e _ = ⊥

-- the schedule was followed from the beginning, and this was told
pub record Followed (T : Program) (us : List Value) (es : List Move) (cap : ℕ) (c : Cause) : Type 0 where
  pub beginning : MachineState
  pub begins : IsBegun T us cap beginning
  pub end_is : ReplayEnd
  pub left : MachineState
  pub replays : Replays T.procs (steps_of es) beginning end_is left
  pub tells : TellsEnd T.outs left end_is c

-- the inputs do not fit, or the schedule was followed
abbrev pub Follows : Program → List Value → List Move → ℕ → Cause → Type 0
Follows T us es cap (cause.HeapFull at len) = AreUnfit T us cap at len
Follows T us es cap c = Followed T us es cap c

-- lines give no values, and this is wrong first; or they give values, and so it went on
abbrev pub Given : Program → List With → List Move → ℕ → Cause → Type 0
Given T ws es cap (cause.Input x f) = program_inputs T.ins ws ≡ Err (x, f)
Given T ws es cap c = (us : List Value) × (program_inputs T.ins ws ≡ Ok us) × Follows T us es cap c

-- what is wrong with the value of a name is told
abbrev pub IsInputCause : InputRefusal → Cause → Type 0
IsInputCause (refusal.Refused x f) c = c ≡ cause.Input x.now f
IsInputCause refusal.Memory c = ⊥

-- why an input is not read is told
abbrev pub IsUnreadCause : Unread → Cause → Type 0
IsUnreadCause (unread.NotProgram k) c = c ≡ cause.NotProgram k
IsUnreadCause (unread.Syntax q) c = c ≡ cause.Syntax q
IsUnreadCause (unread.NoSchedule k) c = c ≡ cause.NoSchedule k
IsUnreadCause unread.Memory c = ⊥
