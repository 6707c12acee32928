-- An input whose program is sound.
use Rattle.std.proofs.Common.{ℕ, List, subst}
use Rattle.nres_core.specs.declared.value.Value.{Value}
use Rattle.target_code.specs.declared.tree.Program.{Program}
use Rattle.target_meaning.specs.Piece.{Piece}
use Rattle.target_meaning.specs.States.{MachineState}
use Rattle.soundness.specs.Behaviour.{Behaviour}
use Rattle.replay.specs.declared.answer.ReplayEnd.{ReplayEnd}
use Rattle.replay.specs.declared.answer.ReplayEnd.TheVariants as end
use Rattle.replay.specs.Told.{Replays, steps_of}
use Rattle.replay_laws.specs.Calm.{IsCalmEnd, SoundIsCalm}
use Rattle.replay_causes.specs.Causes.{IsReplayed, IsNoFault, SoundIsTold}

no_fault : (m : Behaviour) (T : Program) (us : List Value) (ps : List Piece) (left : MachineState) (e : ReplayEnd) → IsCalmEnd m T us ps left e → IsNoFault e
no_fault m T us ps left (end.Race after p q) w = w
no_fault m T us ps left (end.Stuck after path proc line why) w = w
no_fault m T us ps left (end.End at) w = tt
no_fault m T us ps left (end.Full at) w = tt
no_fault m T us ps left (end.Open steps) w = tt
no_fault m T us ps left (end.BadStep at used) w = tt
no_fault m T us ps left (end.Depth path) w = tt

pub sound_is_told : (m : Behaviour) → SoundIsCalm m → SoundIsTold m
sound_is_told m calm text cap e r sound safe =
    no_fault m r.tree r.values r.begins.begins.begin.start.pieces r.left e
    (calm r.tree sound r.values r.begins.stack r.begins.heap r.begins.begins.begin.start safe (steps_of r.steps) e r.left
    (subst (λ (s : MachineState). Replays r.tree.procs (steps_of r.steps) s e r.left) r.begins.is r.replays))
