-- What is told of a text has its cause.
use Rattle.std.proofs.Common.{◌≡◌, ℕ, ◌+◌, ◌≤◌, ◌<◌, ◌^◌, List, [], length, Result, Ok, Err, IfOk, refl, sym, ap, ◌∙◌, subst, arith}
use Rattle.std.specs.Prelude.{Some}
use Rattle.target_code.specs.declared.tree.Program.{Program}
use Rattle.target_meaning.specs.States.{MachineState, root_results}
use Rattle.nres_core.specs.declared.tree.With.{With}
use Rattle.nres_core.specs.declared.value.Value.{Value}
use Rattle.inputs.specs.Inputs.{Tells, program_inputs}
use Rattle.inputs.specs.declared.refusal.InputRefusal.{InputRefusal}
use Rattle.inputs.specs.declared.refusal.InputRefusal.TheVariants as refusal
use Rattle.relations.specs.Values.{live}
use Rattle.run_begins.specs.Beginning.{AreHeld, AreUnfit}
use Rattle.run_begins.proofs.Fitting.{given_fit}
use Rattle.run_inputs.specs.Placing.{AllFit}
use Rattle.run_results.specs.Results.{AllShow, FirstNone}
use Rattle.given_values.proofs.Held.{given_held}
use Rattle.replay.specs.declared.answer.ReplayEnd.{ReplayEnd}
use Rattle.replay.specs.declared.answer.ReplayEnd.TheVariants as end
use Rattle.replay.specs.declared.schedule.Move.{Move}
use Rattle.replay.specs.Told.{Replays, steps_of}
use Rattle.replay_lines.specs.Inputs.{values_line, values_part}
use Rattle.replay_causes.specs.Causes.{HasAnswer, HasCause, HasInputs, HasNoValue, HasResults, IsReplay, IsReplayed, OneCause, bare}
use Rattle.replay_causes.specs.declared.cause.Cause.{Cause}
use Rattle.replay_causes.specs.declared.cause.Cause.TheVariants as cause
use Rattle.replay_input.proofs.Lengths.{values_short}
use Rattle.replay_input.specs.Reads.{IsUnread}
use Rattle.replay_input.specs.declared.reading.Unread.{Unread}
use Rattle.replay_input.specs.declared.reading.Unread.TheVariants as unread
use Rattle.sepref_replay.specs.Follows.{Ended, Followed, Follows, Given, IsInputCause, IsUnreadCause, TellsEnd}
use Rattle.state_values.specs.Beginning.{IsBegun}

-- ---- what was followed

module _ (text : List ℕ) (cap : ℕ) (T : Program) (us : List Value) (es : List Move) (inputs : HasInputs text T us es) where
  -- an end of the root that shows values, or none
  shown : (e : ReplayEnd) (vs : List Value) (m left : MachineState) → IsBegun T us cap m → (at : ℕ) → Replays T.procs (steps_of es) m (end.End at) left → Ended T.outs left at (cause.Told e vs) → HasAnswer text cap e vs
  shown e vs m left b at r t =
      subst (λ f. HasAnswer text cap f vs) (sym t.0) (record {
        replayed = record { tree = T; values = us; steps = es; inputs = inputs; beginning = m; begins = b; left = left; replays = r };
        results = (t.1, t.2, t.3);
      })

  unshown : (k : ℕ) (m left : MachineState) → IsBegun T us cap m → (at : ℕ) → Replays T.procs (steps_of es) m (end.End at) left → Ended T.outs left at (cause.NoValue k) → HasNoValue text cap k
  unshown k m left b at r t = record {
    at = at;
    replayed = record { tree = T; values = us; steps = es; inputs = inputs; beginning = m; begins = b; left = left; replays = r };
    regs = t.0;
    ended = t.2;
    number = t.1;
    none = t.3;
    is = t.4;
  }

  -- another answer
  plain : (e : ReplayEnd) (vs : List Value) (m left : MachineState) → IsBegun T us cap m → Replays T.procs (steps_of es) m e left → HasResults T left [] e → vs ≡ [] → HasAnswer text cap e vs
  plain e vs m left b r h q =
      subst (λ us. HasAnswer text cap e us) (sym q) (record {
        replayed = record { tree = T; values = us; steps = es; inputs = inputs; beginning = m; begins = b; left = left; replays = r };
        results = h;
      })

  module _ (m left : MachineState) (b : IsBegun T us cap m) where
    other : (e f : ReplayEnd) (vs : List Value) → Replays T.procs (steps_of es) m e left → HasResults T left [] e → (f ≡ e) × (vs ≡ []) → HasAnswer text cap f vs
    other e f vs r h t = subst (λ g. HasAnswer text cap g vs) (sym t.0) (plain e vs m left b r h t.1)

    told_by : (e f : ReplayEnd) (vs : List Value) → Replays T.procs (steps_of es) m e left → TellsEnd T.outs left e (cause.Told f vs) → HasAnswer text cap f vs
    told_by (end.Race after p q) f vs r t = other _ f vs r refl t
    told_by (end.Stuck after path proc line why) f vs r t = other _ f vs r refl t
    told_by (end.Full at) f vs r t = other _ f vs r refl t
    told_by (end.End at) f vs r t = shown f vs m left b at r t
    told_by (end.Open steps) f vs r t = other _ f vs r refl t
    told_by (end.BadStep at used) f vs r t = other _ f vs r refl t
    told_by (end.Depth path) f vs r t = other _ f vs r refl t

    none_by : (e : ReplayEnd) (k : ℕ) → Replays T.procs (steps_of es) m e left → TellsEnd T.outs left e (cause.NoValue k) → HasNoValue text cap k
    none_by (end.Race after p q) k r t = absurd t
    none_by (end.Stuck after path proc line why) k r t = absurd t
    none_by (end.Full at) k r t = absurd t
    none_by (end.End at) k r t = unshown k m left b at r t
    none_by (end.Open steps) k r t = absurd t
    none_by (end.BadStep at used) k r t = absurd t
    none_by (end.Depth path) k r t = absurd t

  followed : (c : Cause) → Follows T us es cap c → HasCause text cap c
  followed (cause.HeapFull at len) f = record { tree = T; values = us; steps = es; inputs = inputs; unfit = f }
  followed (cause.Told e vs) f = told_by f.beginning f.left f.begins f.end_is e vs f.replays f.tells
  followed (cause.NoValue k) f = none_by f.beginning f.left f.begins f.end_is k f.replays f.tells
  followed (cause.NotProgram k) f = absurd (by f.end_is f.tells)
    where
      by : (e : ReplayEnd) → TellsEnd T.outs f.left e (cause.NotProgram k) → ⊥
      by (end.Race after p q) t = t
      by (end.Stuck after path proc line why) t = t
      by (end.Full at) t = t
      by (end.End at) t = t
      by (end.Open steps) t = t
      by (end.BadStep at used) t = t
      by (end.Depth path) t = t
  followed (cause.Syntax q) f = absurd (by f.end_is f.tells)
    where
      by : (e : ReplayEnd) → TellsEnd T.outs f.left e (cause.Syntax q) → ⊥
      by (end.Race after p r) t = t
      by (end.Stuck after path proc line why) t = t
      by (end.Full at) t = t
      by (end.End at) t = t
      by (end.Open steps) t = t
      by (end.BadStep at used) t = t
      by (end.Depth path) t = t
  followed (cause.NoSchedule k) f = absurd (by f.end_is f.tells)
    where
      by : (e : ReplayEnd) → TellsEnd T.outs f.left e (cause.NoSchedule k) → ⊥
      by (end.Race after p q) t = t
      by (end.Stuck after path proc line why) t = t
      by (end.Full at) t = t
      by (end.End at) t = t
      by (end.Open steps) t = t
      by (end.BadStep at used) t = t
      by (end.Depth path) t = t
  followed (cause.Input x g) f = absurd (by f.end_is f.tells)
    where
      by : (e : ReplayEnd) → TellsEnd T.outs f.left e (cause.Input x g) → ⊥
      by (end.Race after p q) t = t
      by (end.Stuck after path proc line why) t = t
      by (end.Full at) t = t
      by (end.End at) t = t
      by (end.Open steps) t = t
      by (end.BadStep at used) t = t
      by (end.Depth path) t = t

-- ---- of an input that was read

module _ (text : List ℕ) (cap : ℕ) (T : Program) (ws : List With) (es : List Move) (reads : IsReplay text T ws es) where
  with_inputs : (us : List Value) → program_inputs T.ins ws ≡ Ok us → HasInputs text T us es
  with_inputs us e = record { withs = ws; reads = reads; given = e }

  pub given_has : (c : Cause) → Given T ws es cap c → HasCause text cap c
  given_has (cause.Input x f) g = record { tree = T; withs = ws; steps = es; reads = reads; given = g }
  given_has (cause.HeapFull at len) g = followed text cap T g.0 es (with_inputs g.0 g.1) (cause.HeapFull at len) g.2
  given_has (cause.Told e vs) g = followed text cap T g.0 es (with_inputs g.0 g.1) (cause.Told e vs) g.2
  given_has (cause.NoValue k) g = followed text cap T g.0 es (with_inputs g.0 g.1) (cause.NoValue k) g.2
  given_has (cause.NotProgram k) g = followed text cap T g.0 es (with_inputs g.0 g.1) (cause.NotProgram k) g.2
  given_has (cause.Syntax q) g = followed text cap T g.0 es (with_inputs g.0 g.1) (cause.Syntax q) g.2
  given_has (cause.NoSchedule k) g = followed text cap T g.0 es (with_inputs g.0 g.1) (cause.NoSchedule k) g.2

  -- the values that lines give are held, and fit
  pub ready : length text < 2 ^ 32 → (us : List Value) → program_inputs T.ins ws ≡ Ok us → AreHeld us × AllFit T.ins us
  ready lt us e =
      let v = values_short text in
      let h = given_held (values_line text) (values_part text) ws T.ins us (omega (arith, lt, v)) reads.front.values e in
      (h, given_fit T ws us reads.front.program.formed e h)

-- an input that was not
pub unread_has : (text : List ℕ) (cap : ℕ) (u : Unread) (c : Cause) → IsUnread text u → IsUnreadCause u c → HasCause text cap c
unread_has text cap (unread.NotProgram k) c h e = subst (HasCause text cap) (sym e) h
unread_has text cap (unread.Syntax q) c h e = subst (HasCause text cap) (sym e) h
unread_has text cap (unread.NoSchedule k) c h e = subst (HasCause text cap) (sym e) h
unread_has text cap unread.Memory c h e = absurd e

-- ---- by calls

pub told_given : {E : Type 0} (text : List ℕ) (cap : ℕ) (T : Program) (ws : List With) (es : List Move) → IsReplay text T ws es → (r : Result Cause E)
    → IfOk r (λ c. Given T ws es cap c) → IfOk r (λ c. HasCause text cap c)
told_given text cap T ws es reads (Ok c) h = given_has text cap T ws es reads c h
told_given text cap T ws es reads (Err x) h = tt

pub told_unread : {E : Type 0} (text : List ℕ) (cap : ℕ) (u : Unread) → IsUnread text u → (r : Result Cause E) → IfOk r (λ c. IsUnreadCause u c) → IfOk r (λ c. HasCause text cap c)
told_unread text cap u h (Ok c) e = unread_has text cap u c h e
told_unread text cap u h (Err x) e = tt

pub told_only : {E : Type 0} → OneCause → (text : List ℕ) (cap : ℕ) (r : Result Cause E) → IfOk r (λ c. HasCause text cap c) → (d : Cause) → HasCause text cap d → IfOk r (λ c. bare c ≡ bare d)
told_only one text cap (Ok c) h d g = one text cap c d h g
told_only one text cap (Err x) h d g = tt

-- values
pub values_given : {E : Type 0} (T : Program) (ws : List With) (es : List Move) (cap : ℕ) (us : List Value) → program_inputs T.ins ws ≡ Ok us → (r : Result Cause E)
    → IfOk r (λ c. Follows T us es cap c) → IfOk r (λ c. Given T ws es cap c)
values_given T ws es cap us e (Ok (cause.HeapFull at len)) h = (us, e, h)
values_given T ws es cap us e (Ok (cause.Told d vs)) h = (us, e, h)
values_given T ws es cap us e (Ok (cause.NoValue k)) h = (us, e, h)
values_given T ws es cap us e (Ok (cause.NotProgram k)) h = (us, e, h)
values_given T ws es cap us e (Ok (cause.Syntax q)) h = (us, e, h)
values_given T ws es cap us e (Ok (cause.NoSchedule k)) h = (us, e, h)
values_given T ws es cap us e (Ok (cause.Input x f)) h = absurd (by h.end_is h.tells)
  where
    by : (d : ReplayEnd) → TellsEnd T.outs h.left d (cause.Input x f) → ⊥
    by (end.Race after p q) t = t
    by (end.Stuck after path proc line why) t = t
    by (end.Full at) t = t
    by (end.End at) t = t
    by (end.Open steps) t = t
    by (end.BadStep at used) t = t
    by (end.Depth path) t = t
values_given T ws es cap us e (Err x) h = tt

pub input_given : {E : Type 0} (T : Program) (ws : List With) (es : List Move) (cap : ℕ) (f : InputRefusal) → Tells {A = List Value} (Err f) (program_inputs T.ins ws) → (r : Result Cause E)
    → IfOk r (λ c. IsInputCause f c) → IfOk r (λ c. Given T ws es cap c)
input_given T ws es cap (refusal.Refused x f) e (Ok c) h = subst (Given T ws es cap) (sym h) e
input_given T ws es cap refusal.Memory e (Ok c) h = absurd h
input_given T ws es cap f e (Err x) h = tt
