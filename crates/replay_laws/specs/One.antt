-- A replay has one answer, and leaves one state.
use Rattle.std.specs.Prelude.{◌≡◌, List}
use Rattle.target_code.specs.declared.tree.Proc.{Proc}
use Rattle.target_meaning.specs.Runs.{Schedule}
use Rattle.target_meaning.specs.States.{MachineState}
use Rattle.replay.specs.declared.answer.ReplayEnd.{ReplayEnd}
use Rattle.replay.specs.Told.{Replays}

abbrev pub OneAnswer : Type 0
OneAnswer =
    (T : List Proc) (es : Schedule) (s : MachineState) (e f : ReplayEnd) (l k : MachineState)
    → Replays T es s e l → Replays T es s f k → (e ≡ f) × (l ≡ k)
