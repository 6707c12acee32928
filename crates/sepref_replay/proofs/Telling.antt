-- What is told of an answer is told of a schedule that was followed.
use Rattle.std.proofs.Common.{◌≡◌, ℕ, false, List, [], Result, Ok, Err, IfOk, refl, ap}
use Rattle.target_code.specs.declared.tree.Proc.{Proc}
use Rattle.target_code.specs.declared.tree.Program.{Program}
use Rattle.target_code.specs.declared.tree.Rep.{Rep}
use Rattle.target_meaning.specs.States.{MachineState}
use Rattle.nres_core.specs.declared.value.Value.{Value}
use Rattle.replay.specs.declared.answer.ReplayEnd.{ReplayEnd}
use Rattle.replay.specs.declared.answer.ReplayEnd.TheVariants as end
use Rattle.replay.specs.declared.schedule.Move.{Move}
use Rattle.replay.specs.Told.{Replays, steps_of}
use Rattle.replay_causes.specs.declared.cause.Cause.{Cause}
use Rattle.replay_causes.specs.declared.cause.Cause.TheVariants as cause
use Rattle.sepref_replay.specs.Follows.{Followed, Follows, TellsEnd}
use Rattle.state_values.specs.Beginning.{IsBegun}

module _ (outs : List Rep) (left : MachineState) where
  -- an answer other than the end of the root is told alone
  pub tells_alone : (e : ReplayEnd) (vs : List Value) → ((at : ℕ) → e ≡ end.End at → ⊥) → vs ≡ [] → TellsEnd outs left e (cause.Told e vs)
  tells_alone (end.Race after p q) vs other v = (refl, v)
  tells_alone (end.Stuck after path proc line why) vs other v = (refl, v)
  tells_alone (end.Full at) vs other v = (refl, v)
  tells_alone (end.End at) vs other v = absurd (other at refl)
  tells_alone (end.Open steps) vs other v = (refl, v)
  tells_alone (end.BadStep at used) vs other v = (refl, v)
  tells_alone (end.Depth path) vs other v = (refl, v)

  -- no answer tells that inputs do not fit
  not_unfit : (e : ReplayEnd) (at len : ℕ) → TellsEnd outs left e (cause.HeapFull at len) → ⊥
  not_unfit (end.Race after p q) at len t = t
  not_unfit (end.Stuck after path proc line why) at len t = t
  not_unfit (end.Full n) at len t = t
  not_unfit (end.End n) at len t = t
  not_unfit (end.Open steps) at len t = t
  not_unfit (end.BadStep n used) at len t = t
  not_unfit (end.Depth path) at len t = t

-- a beginning is not full
pub not_full : (T : Program) (us : List Value) (cap : ℕ) (m : MachineState) → IsBegun T us cap m → m.full ≡ false
not_full T us cap m b = ap (λ (s : MachineState). s.full) b.is

module _ (T : Program) (us : List Value) (es : List Move) (cap : ℕ) (m left : MachineState) (e : ReplayEnd) (begun : IsBegun T us cap m) (replays : Replays T.procs (steps_of es) m e left) where
  record_of : (c : Cause) → TellsEnd T.outs left e c → Followed T us es cap c
  record_of c t = record { beginning = m; begins = begun; end_is = e; left = left; replays = replays; tells = t }

  follows : (c : Cause) → TellsEnd T.outs left e c → Follows T us es cap c
  follows (cause.NotProgram k) t = record_of (cause.NotProgram k) t
  follows (cause.Syntax q) t = record_of (cause.Syntax q) t
  follows (cause.NoSchedule k) t = record_of (cause.NoSchedule k) t
  follows (cause.Input x f) t = record_of (cause.Input x f) t
  follows (cause.HeapFull at len) t = absurd (not_unfit T.outs left e at len t)
  follows (cause.NoValue k) t = record_of (cause.NoValue k) t
  follows (cause.Told d vs) t = record_of (cause.Told d vs) t

  pub all_follow : {E : Type 0} (r : Result Cause E) → IfOk r (λ c. TellsEnd T.outs left e c) → IfOk r (λ c. Follows T us es cap c)
  all_follow (Ok c) t = follows c t
  all_follow (Err x) t = tt

-- what holds by all lists of procedures holds by each
pub at_procs : {A E : Type 0} (P : List Proc → A → Type 0) (procs : List Proc) (r : Result A E) → IfOk r (λ t. (ps : List Proc) → P ps t) → IfOk r (P procs)
at_procs P procs (Ok t) h = h procs
at_procs P procs (Err x) h = tt
