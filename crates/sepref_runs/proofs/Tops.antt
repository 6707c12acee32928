-- What is told and the write of it say together.
use Rattle.std.proofs.Common.{◌≡◌, ◌≢◌, ◌⊎◌, inl, inr, ℕ, ◌^◌, ◌<◌, ◌≤◌, Bool, true, false, arith, List, [], ◌∷◌, length, take, Result, Ok, Err, IfOk, Option, Some, None, refl, ◌∙◌, sym, subst, ap}
use Rattle.std.proofs.lemmas.List.{length-drop}
use Rattle.std.specs.declared.alloc.AllocError.{AllocError}
use Rattle.std.specs.Io.KnownBytes.{Appends, Consumes, IsAtEnd, Keeps}
use Rattle.relations.specs.ResultLines.{result_lines}
use Rattle.sep_io.specs.Faults.{Gave}
use Rattle.program_run.specs.declared.end.RunEnd.{RunEnd}
use Rattle.program_run.specs.declared.end.RunEnd.TheVariants as run
use Rattle.run_lines.specs.Lines.{end_text}
use Rattle.nres_core.specs.declared.tree.With.{With}
use Rattle.target_code.specs.declared.tree.Program.{Program}
use Rattle.nres_core.specs.declared.value.Value.{Value}
use Rattle.inputs.specs.Inputs.{Tells, program_inputs}
use Rattle.inputs.specs.declared.refusal.InputRefusal.{InputRefusal}
use Rattle.inputs.specs.declared.refusal.InputRefusal.TheVariants as refusal
use Rattle.target_text.specs.Refusals.{RefusedAt}
use Rattle.nres_core.specs.declared.place.Place.{Place}
use Rattle.execution_input.specs.declared.reading.Unrun.{Unrun}
use Rattle.execution_input.specs.declared.reading.Unrun.TheVariants as unrun
use Rattle.run_begins.specs.Beginning.{AreHeld}
use Rattle.run_begins.proofs.Fitting.{given_fit}
use Rattle.run_inputs.specs.Placing.{AllFit}
use Rattle.execution_input.specs.Executions.{IsExecution, NoValuesAt, front_of, rest_of, values_line}
use Rattle.given_values.proofs.Behind.{spec_held}
use Rattle.given_values.proofs.Held.{given_held}
use Rattle.program_run.specs.Ends.{RunMeans}
use Rattle.replay.specs.declared.answer.ReplayEnd.{ReplayEnd}
use Rattle.replay.specs.declared.answer.ReplayEnd.TheVariants as end
use Rattle.replay_causes.specs.Causes.{HasCause, OneCause, bare}
use Rattle.replay_causes.specs.declared.cause.Cause.{Cause}
use Rattle.replay_causes.specs.declared.cause.Cause.TheVariants as cause
use Rattle.sepref_replay.specs.Lines.{text_of}
use Rattle.sepref_top.proofs.Told.{all_given, gave_at_most}
use Rattle.sepref_top.specs.CommandWords.{command_of_word, line_of_words, plain, plain_of}
use Rattle.sepref_top.specs.Making.{IsRunnable, TellsNoProgram}
use Rattle.sepref_top.specs.Outcome.{longest}
use Rattle.sepref_top.specs.Texts.{bytes_of as bytes_in}
use Rattle.sepref_top.specs.declared.answer.Answer.{Answer}
use Rattle.sepref_top.specs.declared.making.Runnable.{Runnable}
use Rattle.sepref_top.specs.declared.status.Status.{Status}
use Rattle.sepref_top.specs.declared.status.Status.TheVariants as calm
use Rattle.sepref_top.specs.declared.words.Command.{Command}
use Rattle.sepref_top.specs.declared.words.Command.TheVariants as command
use Rattle.sepref_top.specs.declared.words.Line.{Line}
use Rattle.sepref_runs.specs.Calm.{IsRun, IsRunLine, RunsNothing, runs}
use Rattle.sepref_runs.specs.Replays.{HasFailed, IsAnswered, IsTold, Replayed, status_of_answer, status_of_cause}
use Rattle.sepref_runs.specs.Runs.{Due, Given, HasResults, HasSpecResults, Ran, Says, SaysAs, SaysRun, TellsLength, UnlessLost, Went, Wrote, status_of}
use Rattle.sepref_runs.specs.Texts.{TellsInput, TellsUnrun, bytes_of, told_status}
use Rattle.sepref_runs.specs.declared.telling.Telling.{Telling}
use Rattle.sepref_runs.specs.declared.status.RunStatus.{RunStatus}
use Rattle.sepref_runs.specs.declared.status.RunStatus.TheVariants as status

abbrev pub lost_write : RunStatus
lost_write = status.Calm calm.WriteFault

same_calm : (a b : Status) → status.Calm a ≡ status.Calm b → a ≡ b
same_calm a b e = cc e

-- ---- no failed write is due, and no want of memory

abbrev pub IsDue : RunStatus → Type 0
IsDue (status.Calm calm.WriteFault) = ⊥
IsDue (status.Calm calm.Memory) = ⊥
IsDue _ = Unit {0}

of_end : (r : RunEnd) → IsDue (status_of r)
of_end (run.Values vs) = tt
of_end (run.NoValue k) = tt
of_end (run.Stuck spot reason) = tt
of_end (run.Unowned spot block offset) = tt
of_end (run.OutOfSteps path) = tt
of_end (run.HeapFull at len) = tt
of_end (run.Depth path) = tt

of_answer : (e : ReplayEnd) → IsDue (status_of_answer e)
of_answer (end.Race after q r) = tt
of_answer (end.Stuck after path proc line why) = tt
of_answer (end.Full at) = tt
of_answer (end.End at) = tt
of_answer (end.Open steps) = tt
of_answer (end.BadStep at used) = tt
of_answer (end.Depth path) = tt

of_cause : (c : Cause) → IsDue (status_of_cause c)
of_cause (cause.NotProgram k) = tt
of_cause (cause.Syntax q) = tt
of_cause (cause.NoSchedule k) = tt
of_cause (cause.Input x f) = tt
of_cause (cause.HeapFull at len) = tt
of_cause (cause.NoValue k) = tt
of_cause (cause.Told e vs) = of_answer e

module _ (l : Line) where
  given_due : {s : RunStatus} {output : List ℕ} {T : Program} {ws : List With} → Given l T ws s output → IsDue s
  given_due (Given.on_values us g r) = subst IsDue (sym r.status_is) (of_end r.end)
  given_due (Given.bad_input f g w) = tt

  says_due : {text : List ℕ} {s : RunStatus} {output : List ℕ} → Says l text s output → IsDue s
  says_due (Says.no_program k r w) = tt
  says_due (Says.no_lines q r w) = tt
  says_due (Says.execution T ws e g) = given_due g

  unmade_due : (text : List ℕ) (s : Status) (output : List ℕ) → TellsNoProgram text s output → IsDue (status.Calm s)
  unmade_due text (calm.Syntax q) output t = tt
  unmade_due text (calm.TooDeep q) output t = tt
  unmade_due text calm.Type_ output t = tt
  unmade_due text calm.NoRule output t = tt
  unmade_due text calm.NotYet output t = tt
  unmade_due text calm.Done output t = tt
  unmade_due text calm.Input output t = tt
  unmade_due text (calm.NotProgram k) output t = tt
  unmade_due text (calm.Fails k) output t = tt
  unmade_due text (calm.OutOfTurns k) output t = tt
  unmade_due text (calm.NoProof k) output t = tt
  unmade_due text calm.Usage output t = tt
  unmade_due text calm.TooLong output t = tt
  unmade_due text calm.ReadFault output t = tt
  unmade_due text calm.WriteFault output t = absurd t
  unmade_due text calm.Memory output t = absurd t

  run_due : {text : List ℕ} {s : RunStatus} {output : List ℕ} → SaysRun l text s output → IsDue s
  run_due {text = text} {output = output} (SaysRun.no_spec_program s t) = unmade_due text s output t
  run_due (SaysRun.with_program x r g) = given_due g

  as_due : (c : Command) (text : List ℕ) (s : RunStatus) (output : List ℕ) → SaysAs c l text s output → IsDue s
  as_due command.Exec text s output a = says_due a
  as_due command.Replay text s output a = subst IsDue (sym a.status_is) (of_cause a.cause_is)
  as_due command.Check text s output a = absurd a
  as_due command.Synth text s output a = absurd a
  as_due command.Eval text s output a = absurd a
  as_due command.Run text s output a = run_due a
  as_due command.Verify text s output a = absurd a

  pub is_due : {old new : Option (List ℕ)} {s : RunStatus} {output : List ℕ} → Due l old new s output → IsDue s
  is_due {s = s} {output = output} (Due.of_text text c e a) = as_due l.command text s output a
  is_due (Due.too_long w) = tt
  is_due (Due.read_fault w) = tt

  pub no_write_due : {old new : Option (List ℕ)} {s : RunStatus} {output : List ℕ} → Due l old new s output → s ≢ lost_write
  no_write_due d e = subst IsDue e (is_due d)

  pub no_memory_due : {old new : Option (List ℕ)} {s : RunStatus} {output : List ℕ} → Due l old new s output → s ≢ status.Calm calm.Memory
  no_memory_due d e = subst IsDue e (is_due d)

  -- ---- what went out

  module _ (old new before after : Option (List ℕ)) (output : List ℕ) (s r : RunStatus) (due : Due l old new s output) (lost : UnlessLost s r)
      (whole : r ≢ lost_write → Appends before after output) (front : r ≡ lost_write → s ≢ lost_write → (n : ℕ) × Appends before after (take n output)) where
    pub wrote : Wrote (Due l old new) before after r
    wrote = by lost
      where
        by : UnlessLost s r → Wrote (Due l old new) before after r
        by (inl e) =
            let kept : r ≢ lost_write = λ f. no_write_due due (sym e ∙ f) in
            Wrote.whole output (subst (λ x. Due l old new x output) (sym e) due) (whole kept)
        by (inr e) =
            let f = front e (no_write_due due) in
            subst (Wrote (Due l old new) before after) (sym e) (Wrote.lost output f.0 due f.1)

    pub no_memory : r ≢ status.Calm calm.Memory
    no_memory e = by lost
      where
        by : UnlessLost s r → ⊥
        by (inl f) = no_memory_due due (sym f ∙ e)
        by (inr f) = let g : calm.WriteFault ≡ calm.Memory = same_calm calm.WriteFault calm.Memory (sym f ∙ e) in let z : ⊥ = cc g in z

    pub was : (x : Status) → x ≢ calm.WriteFault → r ≡ status.Calm x → s ≡ status.Calm x
    was x other e = by lost
      where
        by : UnlessLost s r → s ≡ status.Calm x
        by (inl f) = sym f ∙ e
        by (inr f) = absurd (other (same_calm x calm.WriteFault (sym e ∙ f)))

    pub counted : (n : ℕ) → Gave old new n → (longest < n → s ≡ status.Calm calm.TooLong) → (s ≡ status.Calm calm.TooLong → longest < n) → TellsLength r old new
    counted n g most only = (n, g, λ lt. by (most lt) lost, λ e. only (was calm.TooLong (λ q. let z : ⊥ = cc q in z) e))
      where
        by : s ≡ status.Calm calm.TooLong → UnlessLost s r → UnlessLost (status.Calm calm.TooLong) r
        by t (inl f) = inl (f ∙ t)
        by t (inr f) = inr f

  -- ---- status 0

  module _ (T : Program) (ws : List With) (us : List Value) (text output : List ℕ) (reads : IsExecution text T ws) (given : program_inputs T.ins ws ≡ Ok us) where
    with_end : (r : RunEnd) → status_of r ≡ status.Calm calm.Done → RunMeans T us l.heap l.steps r → output ≡ end_text r → HasResults l text output
    with_end (run.Values vs) e m w = record { program = T; withs = ws; reads = reads; values = us; given = given; results = vs; means = m; written = w }
    with_end (run.NoValue k) e m w = absurd (let z : ⊥ = cc e in z)
    with_end (run.Stuck spot reason) e m w = absurd (let z : ⊥ = cc e in z)
    with_end (run.Unowned spot block offset) e m w = absurd (let z : ⊥ = cc e in z)
    with_end (run.OutOfSteps path) e m w = absurd (let z : ⊥ = cc e in z)
    with_end (run.HeapFull at len) e m w = absurd (let z : ⊥ = cc e in z)
    with_end (run.Depth path) e m w = absurd (let z : ⊥ = cc e in z)

  module _ (x : Runnable) (us : List Value) (text output : List ℕ) (right : IsRunnable text x) (given : program_inputs x.program.ins x.withs ≡ Ok us) where
    with_spec_end : (r : RunEnd) → status_of r ≡ status.Calm calm.Done → RunMeans x.program us l.heap l.steps r → output ≡ end_text r → HasSpecResults l text output
    with_spec_end (run.Values vs) e m w = record { found = x; right = right; values = us; given = given; results = vs; means = m; written = w }
    with_spec_end (run.NoValue k) e m w = absurd (let z : ⊥ = cc e in z)
    with_spec_end (run.Stuck spot reason) e m w = absurd (let z : ⊥ = cc e in z)
    with_spec_end (run.Unowned spot block offset) e m w = absurd (let z : ⊥ = cc e in z)
    with_spec_end (run.OutOfSteps path) e m w = absurd (let z : ⊥ = cc e in z)
    with_spec_end (run.HeapFull at len) e m w = absurd (let z : ⊥ = cc e in z)
    with_spec_end (run.Depth path) e m w = absurd (let z : ⊥ = cc e in z)

  of_made : (x : Runnable) (text : List ℕ) (s : RunStatus) (output : List ℕ) → IsRunnable text x → Given l x.program x.withs s output → s ≡ status.Calm calm.Done → HasSpecResults l text output
  of_made x text s output i (Given.on_values us g r) e = with_spec_end x us text output i g r.end (sym r.status_is ∙ e) r.means r.written
  of_made x text s output i (Given.bad_input f g w) e = absurd (let q = same_calm calm.Input calm.Done e in let z : ⊥ = cc q in z)

  of_run_says : (text : List ℕ) (s : RunStatus) (output : List ℕ) → SaysRun l text s output → s ≡ status.Calm calm.Done → HasSpecResults l text output
  of_run_says text s output (SaysRun.no_spec_program c t) e = absurd (subst (λ (c : Status). TellsNoProgram text c output) (same_calm c calm.Done e) t)
  of_run_says text s output (SaysRun.with_program x i g) e = of_made x text s output i g e

  of_given : {s : RunStatus} {output : List ℕ} (text : List ℕ) (T : Program) (ws : List With) → IsExecution text T ws → Given l T ws s output → s ≡ status.Calm calm.Done → HasResults l text output
  of_given {output = output} text T ws i (Given.on_values us g r) e = with_end T ws us text output i g r.end (sym r.status_is ∙ e) r.means r.written
  of_given text T ws i (Given.bad_input f g w) e = absurd (let q = same_calm calm.Input calm.Done e in let z : ⊥ = cc q in z)

  of_says : {text : List ℕ} {s : RunStatus} {output : List ℕ} → Says l text s output → s ≡ status.Calm calm.Done → HasResults l text output
  of_says (Says.no_program k r w) e = absurd (let q = same_calm (calm.NotProgram k) calm.Done e in let z : ⊥ = cc q in z)
  of_says (Says.no_lines p r w) e = absurd (let q = same_calm (calm.Syntax p) calm.Done e in let z : ⊥ = cc q in z)
  of_says {text = text} (Says.execution T ws i g) e = of_given text T ws i g e

  with_answer : (text output : List ℕ) (c : Cause) → HasCause text l.heap c → status_of_cause c ≡ status.Calm calm.Done → output ≡ text_of c → IsAnswered l.heap text output
  with_answer text output (cause.NotProgram k) h e w = absurd (let q = same_calm (calm.NotProgram k) calm.Done e in let z : ⊥ = cc q in z)
  with_answer text output (cause.Syntax p) h e w = absurd (let q = same_calm (calm.Syntax p) calm.Done e in let z : ⊥ = cc q in z)
  with_answer text output (cause.NoSchedule k) h e w = absurd (let z : ⊥ = cc e in z)
  with_answer text output (cause.Input x f) h e w = absurd (let q = same_calm calm.Input calm.Done e in let z : ⊥ = cc q in z)
  with_answer text output (cause.HeapFull at len) h e w = absurd (let z : ⊥ = cc e in z)
  with_answer text output (cause.NoValue k) h e w = absurd (let z : ⊥ = cc e in z)
  with_answer text output (cause.Told d vs) h e w = record { end_is = d; values = vs; answer = h; done = e; written = w }

  -- what holds of what a command says at status 0 holds of what went out
  module _ (holds : List ℕ → List ℕ → Type 0) (says : (text : List ℕ) (s : RunStatus) (output : List ℕ) → SaysAs l.command l text s output → s ≡ status.Calm calm.Done → holds text output) where
    of_due : {old new : Option (List ℕ)} (before after : Option (List ℕ)) {s : RunStatus} {output : List ℕ} → Due l old new s output → s ≡ status.Calm calm.Done → Appends before after output → Went holds old new before after
    of_due before after {s = s} {output = output} (Due.of_text text c n said) e a = (text, output, c, n, a, says text s output said e)
    of_due before after (Due.too_long w) e a = absurd (let q = same_calm calm.TooLong calm.Done e in let z : ⊥ = cc q in z)
    of_due before after (Due.read_fault w) e a = absurd (let q = same_calm calm.ReadFault calm.Done e in let z : ⊥ = cc q in z)

    done_by : {old new before after : Option (List ℕ)} {r : RunStatus} → Wrote (Due l old new) before after r → r ≡ status.Calm calm.Done → Went holds old new before after
    done_by {before = before} {after = after} (Wrote.whole output d a) e = of_due before after d e a
    done_by (Wrote.lost output n d a) e = absurd (let q = same_calm calm.WriteFault calm.Done e in let z : ⊥ = cc q in z)
    done_by (Wrote.nothing k) e = absurd (let q = same_calm calm.Memory calm.Done e in let z : ⊥ = cc q in z)

  pub done : {old new before after : Option (List ℕ)} {r : RunStatus} → l.command ≡ command.Exec → Wrote (Due l old new) before after r → r ≡ status.Calm calm.Done → Went (HasResults l) old new before after
  done k = done_by (HasResults l) (λ text s output a e. of_says (subst (λ c. SaysAs c l text s output) k a) e)

  pub ran : {old new before after : Option (List ℕ)} {r : RunStatus} → l.command ≡ command.Run → Wrote (Due l old new) before after r → r ≡ status.Calm calm.Done → Went (HasSpecResults l) old new before after
  ran k = done_by (HasSpecResults l) (λ text s output a e. of_run_says text s output (subst (λ c. SaysAs c l text s output) k a) e)

  pub answered : {old new before after : Option (List ℕ)} {r : RunStatus} → l.command ≡ command.Replay → Wrote (Due l old new) before after r → r ≡ status.Calm calm.Done → Went (IsAnswered l.heap) old new before after
  answered k = done_by (IsAnswered l.heap) (λ text s output a e.
      let h : Replayed l.heap text s output = subst (λ c. SaysAs c l text s output) k a in
      with_answer text output h.cause_is h.has (sym h.status_is ∙ e) h.written)

-- ---- words

same_some : (a b : Line) → Some a ≡ Some b → a ≡ b
same_some a b e = cc e

of_command : (o : Option Command) (l : Line) → plain_of o ≡ Some l → l.steps ≤ 2 ^ 62
of_command None l e = absurd (let z : ⊥ = cc e in z)
of_command (Some c) l e = let q = same_some (plain c) l e in subst (λ (k : Line). k.steps ≤ 2 ^ 62) q (omega arith)

-- the steps of a command line are few enough to run
pub few_steps : (words : List (List ℕ)) (l : Line) → line_of_words words ≡ Some l → l.steps ≤ 2 ^ 62
few_steps [] l e = absurd (let z : ⊥ = cc e in z)
few_steps (w ∷ []) l e = of_command (command_of_word w) l e
few_steps (w ∷ v ∷ ws) l e = absurd (let z : ⊥ = cc e in z)

pub not_run : (l : Line) → runs l.command ≡ false → RunsNothing (Some l)
not_run l e k q = let same : l ≡ k = same_some l k q in ap (λ (x : Line). runs x.command) (sym same) ∙ e

pub of_other : (o : Option Line) (l : Line) → IsRun o l → RunsNothing o → ⊥
of_other o l x n = let z : true ≡ false = sym x.command ∙ n l x.line in let y : ⊥ = cc z in y

-- the words ask for none of these commands, and for one
pub of_none : (o : Option Line) (l : Line) → RunsNothing o → o ≡ Some l → runs l.command ≡ true → ⊥
of_none o l n e r = let z : true ≡ false = sym r ∙ n l e in let y : ⊥ = cc z in y

pub of_exec : (l : Line) → l.command ≡ command.Exec → runs l.command ≡ true
of_exec l e = ap runs e

pub of_run : (l : Line) → l.command ≡ command.Run → runs l.command ≡ true
of_run l e = ap runs e

pub of_replay : (l : Line) → l.command ≡ command.Replay → runs l.command ≡ true
of_replay l e = ap runs e

pub same_line : (o : Option Line) (l k : Line) → IsRun o l → o ≡ Some k → l ≡ k
same_line o l k x e = same_some l k (sym x.line ∙ e)

-- ---- texts

-- the values that lines give to a program are held, and fit
pub ready : (text : List ℕ) (T : Program) (ws : List With) → length text < 2 ^ 32 → IsExecution text T ws → (us : List Value) → program_inputs T.ins ws ≡ Ok us → AreHeld us × AllFit T.ins us
ready text T ws lt i us e =
    let d = length-drop (length (front_of true text)) text in
    let short : length (rest_of text) < 2 ^ 32 = omega (arith, lt, d) in
    let h = given_held (values_line text) (rest_of text) ws T.ins us short i.values e in
    (h, given_fit T ws us i.program.formed e h)

-- the same of a specification
pub spec_ready : (text : List ℕ) (x : Runnable) → length text < 2 ^ 32 → IsRunnable text x → (us : List Value) → program_inputs x.program.ins x.withs ≡ Ok us → AreHeld us × AllFit x.program.ins us
spec_ready text x lt i us e =
    let h = spec_held text i.spec x.withs x.program.ins us lt i.reads e in
    (h, given_fit x.program x.withs us i.right.formed e h)

pub of_end_told : {E : Type 0} (l : Line) (T : Program) (us : List Value) (e : RunEnd) → RunMeans T us l.heap l.steps e → (r : Result Telling E)
    → IfOk r (λ t. (t.status ≡ status_of e) × (bytes_of t.text ≡ end_text e)) → IfOk r (λ t. Ran l T us t.status (bytes_of t.text))
of_end_told l T us e m (Ok t) h = record { end = e; means = m; status_is = h.0; written = h.1 }
of_end_told l T us e m (Err x) h = tt

pub of_run_told : {E : Type 0} (l : Line) (T : Program) (ws : List With) (us : List Value) → program_inputs T.ins ws ≡ Ok us → (r : Result Telling E)
    → IfOk r (λ t. Ran l T us t.status (bytes_of t.text)) → IfOk r (λ t. Given l T ws t.status (bytes_of t.text))
of_run_told l T ws us e (Ok t) h = Given.on_values us e h
of_run_told l T ws us e (Err x) h = tt

pub of_given_told : {E : Type 0} (l : Line) (text : List ℕ) (T : Program) (ws : List With) → IsExecution text T ws → (r : Result Telling E)
    → IfOk r (λ t. Given l T ws t.status (bytes_of t.text)) → IfOk r (λ t. Says l text t.status (bytes_of t.text))
of_given_told l text T ws i (Ok t) h = Says.execution T ws i h
of_given_told l text T ws i (Err x) h = tt

pub of_made_told : {E : Type 0} (l : Line) (text : List ℕ) (x : Runnable) → IsRunnable text x → (ws : List With) → ws ≡ x.withs → (r : Result Telling E)
    → IfOk r (λ t. Given l x.program ws t.status (bytes_of t.text)) → IfOk r (λ t. SaysRun l text t.status (bytes_of t.text))
of_made_told l text x i ws w (Ok t) h = SaysRun.with_program x i (subst (λ vs. Given l x.program vs t.status (bytes_of t.text)) w h)
of_made_told l text x i ws w (Err y) h = tt

pub of_answer_told : {E : Type 0} (l : Line) (text : List ℕ) (a : Answer) → TellsNoProgram text a.status (bytes_in a.text) → (r : Result Telling E)
    → IfOk r (λ t. (t.status ≡ status.Calm a.status) × (bytes_of t.text ≡ bytes_in a.text)) → IfOk r (λ t. SaysRun l text t.status (bytes_of t.text))
of_answer_told l text a n (Ok t) h =
    subst (λ s. SaysRun l text s (bytes_of t.text)) (sym h.0) (SaysRun.no_spec_program a.status (subst (λ bs. TellsNoProgram text a.status bs) (sym h.1) n))
of_answer_told l text a n (Err y) h = tt

pub of_text_told : {E : Type 0} (l : Line) (old new : Option (List ℕ)) (text : List ℕ) → Consumes old new text → IsAtEnd new → (r : Result Telling E)
    → IfOk r (λ t. SaysAs l.command l text t.status (bytes_of t.text)) → IfOk r (λ t. Due l old new t.status (bytes_of t.text))
of_text_told l old new text c e (Ok t) h = Due.of_text text c e h
of_text_told l old new text c e (Err x) h = tt

-- lines that are at fault
pub of_input_told : {E : Type 0} (l : Line) (T : Program) (ws : List With) (f : InputRefusal) → Tells {A = List Value} (Err f) (program_inputs T.ins ws) → (r : Result Telling E)
    → IfOk r (λ t. TellsInput f t.status (bytes_of t.text)) → IfOk r (λ t. Given l T ws t.status (bytes_of t.text))
of_input_told l T ws (refusal.Refused x f) e (Ok t) h = subst (λ s. Given l T ws s (bytes_of t.text)) (sym h.0) (Given.bad_input (x.now, f) e h.1)
of_input_told l T ws refusal.Memory e (Ok t) h = absurd h
of_input_told l T ws f e (Err x) h = tt

-- inputs that are not run
pub of_unrun_told : {E : Type 0} (l : Line) (text : List ℕ) (u : Unrun) → ((k : ℕ) → u ≡ unrun.NotProgram k → RefusedAt (front_of true text) k) → ((q : Place) → u ≡ unrun.Syntax q → NoValuesAt text q)
    → (r : Result Telling E) → IfOk r (λ t. TellsUnrun u t.status (bytes_of t.text)) → IfOk r (λ t. Says l text t.status (bytes_of t.text))
of_unrun_told l text (unrun.NotProgram k) n s (Ok t) h = subst (λ x. Says l text x (bytes_of t.text)) (sym h.0) (Says.no_program k (n k refl) h.1)
of_unrun_told l text (unrun.Syntax q) n s (Ok t) h = subst (λ x. Says l text x (bytes_of t.text)) (sym h.0) (Says.no_lines q (s q refl) h.1)
of_unrun_told l text unrun.Memory n s (Ok t) h = absurd h
of_unrun_told l text u n s (Err x) h = tt

-- ---- what is said of a text is neither that it is too long nor that a read failed

abbrev pub IsSaid : RunStatus → Type 0
IsSaid (status.Calm calm.TooLong) = ⊥
IsSaid (status.Calm calm.ReadFault) = ⊥
IsSaid _ = Unit {0}

end_said : (r : RunEnd) → IsSaid (status_of r)
end_said (run.Values vs) = tt
end_said (run.NoValue k) = tt
end_said (run.Stuck spot reason) = tt
end_said (run.Unowned spot block offset) = tt
end_said (run.OutOfSteps path) = tt
end_said (run.HeapFull at len) = tt
end_said (run.Depth path) = tt

given_said : {l : Line} {s : RunStatus} {output : List ℕ} {T : Program} {ws : List With} → Given l T ws s output → IsSaid s
given_said (Given.on_values us g r) = subst IsSaid (sym r.status_is) (end_said r.end)
given_said (Given.bad_input f g w) = tt

says_said : {l : Line} {text : List ℕ} {s : RunStatus} {output : List ℕ} → Says l text s output → IsSaid s
says_said (Says.no_program k r w) = tt
says_said (Says.no_lines q r w) = tt
says_said (Says.execution T ws e g) = given_said g

unmade_said : (text : List ℕ) (s : Status) (output : List ℕ) → TellsNoProgram text s output → IsSaid (status.Calm s)
unmade_said text (calm.Syntax q) output t = tt
unmade_said text (calm.TooDeep q) output t = tt
unmade_said text calm.Type_ output t = tt
unmade_said text calm.NoRule output t = tt
unmade_said text calm.NotYet output t = tt
unmade_said text calm.Done output t = tt
unmade_said text calm.Input output t = tt
unmade_said text (calm.NotProgram k) output t = tt
unmade_said text (calm.Fails k) output t = tt
unmade_said text (calm.OutOfTurns k) output t = tt
unmade_said text (calm.NoProof k) output t = tt
unmade_said text calm.Usage output t = tt
unmade_said text calm.TooLong output t = absurd t
unmade_said text calm.ReadFault output t = absurd t
unmade_said text calm.WriteFault output t = tt
unmade_said text calm.Memory output t = tt

run_said : {l : Line} {text : List ℕ} {s : RunStatus} {output : List ℕ} → SaysRun l text s output → IsSaid s
run_said {text = text} {output = output} (SaysRun.no_spec_program s t) = unmade_said text s output t
run_said (SaysRun.with_program x r g) = given_said g

answer_said : (e : ReplayEnd) → IsSaid (status_of_answer e)
answer_said (end.Race after q r) = tt
answer_said (end.Stuck after path proc line why) = tt
answer_said (end.Full at) = tt
answer_said (end.End at) = tt
answer_said (end.Open steps) = tt
answer_said (end.BadStep at used) = tt
answer_said (end.Depth path) = tt

cause_said : (c : Cause) → IsSaid (status_of_cause c)
cause_said (cause.NotProgram k) = tt
cause_said (cause.Syntax q) = tt
cause_said (cause.NoSchedule k) = tt
cause_said (cause.Input x f) = tt
cause_said (cause.HeapFull at len) = tt
cause_said (cause.NoValue k) = tt
cause_said (cause.Told e vs) = answer_said e

as_said : (c : Command) (l : Line) (text : List ℕ) (s : RunStatus) (output : List ℕ) → SaysAs c l text s output → IsSaid s
as_said command.Exec l text s output a = says_said a
as_said command.Replay l text s output a = subst IsSaid (sym a.status_is) (cause_said a.cause_is)
as_said command.Check l text s output a = absurd a
as_said command.Synth l text s output a = absurd a
as_said command.Eval l text s output a = absurd a
as_said command.Run l text s output a = run_said a
as_said command.Verify l text s output a = absurd a

pub told_said : (l : Line) (text : List ℕ) (r : Result Telling AllocError) → IfOk r (λ t. SaysAs l.command l text t.status (bytes_of t.text)) → IsSaid (told_status r)
told_said l text (Ok t) h = as_said l.command l text t.status (bytes_of t.text) h
told_said l text (Err x) h = tt

pub not_too_long : (x : RunStatus) → IsSaid x → x ≡ status.Calm calm.TooLong → ⊥
not_too_long x h e = subst IsSaid e h

pub not_read_fault : (x : RunStatus) → IsSaid x → x ≡ status.Calm calm.ReadFault → ⊥
not_read_fault x h e = subst IsSaid e h

-- ---- each input of `replay` is told

bare_status : (c : Cause) → status_of_cause (bare c) ≡ status_of_cause c
bare_status (cause.NotProgram k) = refl
bare_status (cause.Syntax q) = refl
bare_status (cause.NoSchedule k) = refl
bare_status (cause.Input x f) = refl
bare_status (cause.HeapFull at len) = refl
bare_status (cause.NoValue k) = refl
bare_status (cause.Told e vs) = refl

module _ (one_cause : OneCause) (l : Line) (is : l.command ≡ command.Replay) (old new : Option (List ℕ)) (text : List ℕ) (known : old ≡ Some text) (n : ℕ) (gave : Gave old new n) (short : length text ≤ longest) where
  told_due : (s : RunStatus) (output : List ℕ) → (s ≡ status.Calm calm.TooLong → longest < n) → Due l old new s output → IsTold l.heap text s
  told_due s output far (Due.of_text given c e a) d h =
      let it : given ≡ text = all_given old new text given known c e in
      let r : Replayed l.heap text s output = subst (λ z. Replayed l.heap z s output) it (subst (λ k. SaysAs k l given s output) is a) in
      let same = one_cause text l.heap r.cause_is d r.has h in
      inl (r.status_is ∙ sym (bare_status r.cause_is) ∙ ap status_of_cause same ∙ bare_status d)
  told_due s output far (Due.too_long w) d h = absurd (let a = far refl in let b = gave_at_most old new n text known gave in let z : ⊥ = omega (arith, a, b, short) in z)
  told_due s output far (Due.read_fault w) d h = inr tt

  lost_told : (r : RunStatus) → r ≡ lost_write → IsTold l.heap text r
  lost_told r e d h = subst (λ s. (s ≡ status_of_cause d) ⊎ HasFailed s) (sym e) (inr tt)

  pub told_unless : (s r : RunStatus) (output : List ℕ) → UnlessLost s r → (s ≡ status.Calm calm.TooLong → longest < n) → Due l old new s output → IsTold l.heap text r
  told_unless s r output (inl e) far d = subst (IsTold l.heap text) (sym e) (told_due s output far d)
  told_unless s r output (inr e) far d = lost_told r e
