-- An input has one cause.
use Rattle.std.proofs.Common.{◌≡◌, ℕ, zero, suc, ◌+◌, ◌≤◌, Bool, false, List, [], ◌∷◌, length, take, drop, refl, sym, ap, ◌∙◌, subst, arith}
use Rattle.std.specs.Prelude.{Option, Some, None, Result, Ok, Err}
use Rattle.target_code.specs.Reps.{width}
use Rattle.target_code.specs.declared.tree.Program.{Program}
use Rattle.target_code.specs.declared.tree.Rep.{Rep}
use Rattle.target_text.proofs.SameTexts.{same_text}
use Rattle.target_meaning.specs.Machine.{Leaf}
use Rattle.target_meaning.specs.Piece.{Piece}
use Rattle.target_meaning.specs.States.{MachineState, root_results}
use Rattle.nres_core.specs.declared.place.Place.{Place}
use Rattle.nres_core.specs.declared.tree.With.{With}
use Rattle.nres_core.specs.declared.value.Value.{Value}
use Rattle.inputs.specs.Inputs.{Fault, program_inputs}
use Rattle.inputs.specs.declared.refusal.InputFault.{InputFault}
use Rattle.relations.specs.Values.{live}
use Rattle.run_begins.specs.Beginning.{AreUnfit}
use Rattle.run_results.specs.Results.{AllShow, FirstNone}
use Rattle.replay.specs.Facts.{NoneRefused, TextsApart}
use Rattle.replay.specs.declared.answer.ReplayEnd.{ReplayEnd}
use Rattle.replay.specs.declared.answer.ReplayEnd.TheVariants as end
use Rattle.replay.specs.declared.schedule.Move.{Move}
use Rattle.replay.specs.Schedules.{RefusedAt}
use Rattle.replay.specs.Told.{Replays, steps_of}
use Rattle.replay_laws.specs.One.{OneAnswer}
use Rattle.replay_lines.specs.Inputs.{program_part, schedule_line, schedule_part, values_line, values_part}
use Rattle.state_values.proofs.Starting.{one_beginning, unfit_begins_not}
use Rattle.state_values.specs.Beginning.{IsBegun}
use Rattle.replay_causes.specs.Causes.{HasAnswer, HasCause, HasFault, HasInputs, HasNoValue, HasResults, HasUnfit, HasValues, IsProgram, IsReplay, IsReplayed, NoScheduleAt, NoValuesAt, OneCause, bare}
use Rattle.replay_causes.specs.declared.cause.Cause.{Cause}
use Rattle.replay_causes.specs.declared.cause.Cause.TheVariants as cause
use Rattle.replay_causes.proofs.Texts.{one_line, one_place, one_refused, same_values}

module _ (apart : TextsApart) (not_refused : NoneRefused) (one_answer : OneAnswer) (text : List ℕ) where
  -- ---- one input

  pub same_program : (t u : Program) → IsProgram text t → IsProgram text u → t ≡ u
  same_program t u a b = same_text t u a.formed b.formed (sym a.is_text ∙ b.is_text)

  pub same_front : (t u : Program) (ws vs : List With) → HasValues text t ws → HasValues text u vs → (t ≡ u) × (ws ≡ vs)
  same_front t u ws vs a b = (same_program t u a.program b.program, same_values (values_line text) (values_part text) ws vs a.values b.values)

  pub same_replay : (t u : Program) (ws vs : List With) (es fs : List Move) → IsReplay text t ws es → IsReplay text u vs fs → (t ≡ u) × (ws ≡ vs) × (es ≡ fs)
  same_replay t u ws vs es fs a b =
      let f = same_front t u ws vs a.front b.front in
      (f.0, f.1, apart es fs a.words b.words (sym a.schedule ∙ b.schedule))

  same_ok : (us vs : List Value) → (let r : Result (List Value) Fault = Ok us in r) ≡ Ok vs → us ≡ vs
  same_ok us vs e = cc e

  same_err : (f g : Fault) → (let r : Result (List Value) Fault = Err f in r) ≡ Err g → f ≡ g
  same_err f g e = cc e

  not_both : (us : List Value) (f : Fault) → (let r : Result (List Value) Fault = Ok us in r) ≡ Err f → ⊥
  not_both us f e = cc e

  inputs_at : (t u : Program) (ws vs : List With) → t ≡ u → ws ≡ vs → program_inputs t.ins ws ≡ program_inputs u.ins vs
  inputs_at t u ws vs a b = λ i. program_inputs (a i).ins (b i)

  pub same_inputs : (t u : Program) (us vs : List Value) (es fs : List Move) → HasInputs text t us es → HasInputs text u vs fs → (t ≡ u) × (us ≡ vs) × (es ≡ fs)
  same_inputs t u us vs es fs a b =
      let s = same_replay t u a.withs b.withs es fs a.reads b.reads in
      (s.0, same_ok us vs (sym a.given ∙ inputs_at t u a.withs b.withs s.0 s.1 ∙ b.given), s.2)

  -- ---- what is told first stands alone

  no_program : (k : ℕ) (t : Program) → HasCause text 0 (cause.NotProgram k) → IsProgram text t → ⊥
  no_program k t r p = r.no_text t p.formed p.is_text

  no_values : (q : Place) (t : Program) (ws : List With) → NoValuesAt text q → HasValues text t ws → ⊥
  no_values q t ws n v = n.none ws v.values

  no_schedule : (k : ℕ) (t : Program) (ws : List With) (es : List Move) → NoScheduleAt text k → IsReplay text t ws es → ⊥
  no_schedule k t ws es n r =
      not_refused es (schedule_line text) k r.words r.few (subst (λ l. RefusedAt l (schedule_line text) k) r.schedule n.refused)

  no_inputs : (f : Fault) (t : Program) (us : List Value) (es : List Move) → HasFault text f → HasInputs text t us es → ⊥
  no_inputs f t us es a b =
      let s = same_replay t a.tree b.withs a.withs es a.steps b.reads a.reads in
      not_both us f (sym b.given ∙ inputs_at t a.tree b.withs a.withs s.0 s.1 ∙ a.given)

  one_fault : (f g : Fault) → HasFault text f → HasFault text g → f ≡ g
  one_fault f g a b =
      let s = same_replay a.tree b.tree a.withs b.withs a.steps b.steps a.reads b.reads in
      same_err f g (sym a.given ∙ inputs_at a.tree b.tree a.withs b.withs s.0 s.1 ∙ b.given)

  module _ (cap : ℕ) where
    one_unfit : (at len to more : ℕ) → HasUnfit text cap at len → HasUnfit text cap to more → (at ≡ to) × (len ≡ more)
    one_unfit at len to more a b =
        let s = same_inputs a.tree b.tree a.values b.values a.steps b.steps a.inputs b.inputs in
        let here : AreUnfit b.tree b.values cap at len = subst (λ (us : List Value). AreUnfit b.tree us cap at len) s.1 (subst (λ (t : Program). AreUnfit t a.values cap at len) s.0 a.unfit) in
        unfit_begins_not.one b.tree b.values cap at len to more here b.unfit

    no_beginning : (at len : ℕ) (e : ReplayEnd) → HasUnfit text cap at len → IsReplayed text cap e → ⊥
    no_beginning at len e a b =
        let s = same_inputs a.tree b.tree a.values b.values a.steps b.steps a.inputs b.inputs in
        let here : AreUnfit b.tree b.values cap at len = subst (λ (us : List Value). AreUnfit b.tree us cap at len) s.1 (subst (λ (t : Program). AreUnfit t a.values cap at len) s.0 a.unfit) in
        unfit_begins_not.none b.tree b.values cap at len b.begins.stack b.begins.heap here b.begins.begins

    -- ---- one replay

    same_state : (t : Program) (us : List Value) (m n : MachineState) → IsBegun t us cap m → IsBegun t us cap n → m ≡ n
    same_state t us m n a b =
        let s = one_beginning t us cap a.stack b.stack a.heap b.heap a.begins b.begins in
        a.is ∙ (λ i. record { tree = Leaf tt (s.0 i); heap = s.1 i; full = false }) ∙ sym b.is

    pub record Same (e f : ReplayEnd) (a : IsReplayed text cap e) (b : IsReplayed text cap f) : Type 0 where
      pub tree : a.tree ≡ b.tree
      pub answer : e ≡ f
      pub left : a.left ≡ b.left

    pub one_replay : (e f : ReplayEnd) (a : IsReplayed text cap e) (b : IsReplayed text cap f) → Same e f a b
    one_replay e f a b =
        let s = same_inputs a.tree b.tree a.values b.values a.steps b.steps a.inputs b.inputs in
        let begun : IsBegun b.tree b.values cap a.beginning = subst (λ (us : List Value). IsBegun b.tree us cap a.beginning) s.1 (subst (λ (t : Program). IsBegun t a.values cap a.beginning) s.0 a.begins) in
        let begins = same_state b.tree b.values a.beginning b.beginning begun b.begins in
        let there : Replays b.tree.procs (steps_of a.steps) a.beginning e a.left = subst (λ (t : Program). Replays t.procs (steps_of a.steps) a.beginning e a.left) s.0 a.replays in
        let along : Replays b.tree.procs (steps_of b.steps) a.beginning e a.left = subst (λ (es : List Move). Replays b.tree.procs (steps_of es) a.beginning e a.left) s.2 there in
        let whole : Replays b.tree.procs (steps_of b.steps) b.beginning e a.left = subst (λ (m : MachineState). Replays b.tree.procs (steps_of b.steps) m e a.left) begins along in
        let one = one_answer b.tree.procs (steps_of b.steps) b.beginning e f a.left b.left whole b.replays in
        record { tree = s.0; answer = one.0; left = one.1 }

    -- ---- results

    same_some : (a b : List ℕ) → Some a ≡ Some b → a ≡ b
    same_some a b e = cc e

    one_none : (p : Piece) (outs : List Rep) (regs : List ℕ) (n m : ℕ) → FirstNone p outs regs n → FirstNone p outs regs m → n ≡ m
    one_none p [] regs n m a b = absurd a
    one_none p (r ∷ rs) regs zero zero a b = refl
    one_none p (r ∷ rs) regs zero (suc m) a b = absurd (a b.0.0 b.0.1)
    one_none p (r ∷ rs) regs (suc n) zero a b = absurd (b a.0.0 a.0.1)
    one_none p (r ∷ rs) regs (suc n) (suc m) a b = ap suc (one_none p rs (drop (width r) regs) n m a.1 b.1)

    none_shown : (p : Piece) (outs : List Rep) (vs : List Value) (regs : List ℕ) (n : ℕ) → FirstNone p outs regs n → AllShow p outs vs regs → ⊥
    none_shown p [] vs regs n a b = a
    none_shown p (r ∷ rs) [] regs n a b = b
    none_shown p (r ∷ rs) (v ∷ vs) regs zero a b = a v b.0
    none_shown p (r ∷ rs) (v ∷ vs) regs (suc n) a b = none_shown p rs vs (drop (width r) regs) n a.1 b.1

    module _ (j k : ℕ) (a : HasNoValue text cap j) (b : HasNoValue text cap k) where
      both : Same (end.End a.at) (end.End b.at) a.replayed b.replayed
      both = one_replay (end.End a.at) (end.End b.at) a.replayed b.replayed

      one_no_value : j ≡ k
      one_no_value =
          let regs : a.regs ≡ b.regs = same_some a.regs b.regs (sym a.ended ∙ ap (λ (m : MachineState). root_results m.tree) both.left ∙ b.ended) in
          let first : FirstNone (live b.replayed.left.heap) a.replayed.tree.outs a.regs a.number = subst (λ (m : MachineState). FirstNone (live m.heap) a.replayed.tree.outs a.regs a.number) both.left a.none in
          let second : FirstNone (live b.replayed.left.heap) b.replayed.tree.outs a.regs a.number = subst (λ (t : Program). FirstNone (live b.replayed.left.heap) t.outs a.regs a.number) both.tree first in
          let third : FirstNone (live b.replayed.left.heap) b.replayed.tree.outs b.regs a.number = subst (λ rs. FirstNone (live b.replayed.left.heap) b.replayed.tree.outs rs a.number) regs second in
          a.is ∙ ap (λ n. n + 1) (one_none (live b.replayed.left.heap) b.replayed.tree.outs b.regs a.number b.number third b.none) ∙ sym b.is

    not_shown : (k : ℕ) (e : ReplayEnd) (vs : List Value) → HasNoValue text cap k → HasAnswer text cap e vs → ⊥
    not_shown k e vs a b =
        let s = one_replay (end.End a.at) e a.replayed b.replayed in
        by (subst (λ (f : ReplayEnd). HasResults b.replayed.tree b.replayed.left vs f) (sym s.answer) b.results) s.tree s.left
      where
        by : HasResults b.replayed.tree b.replayed.left vs (end.End a.at) → a.replayed.tree ≡ b.replayed.tree → a.replayed.left ≡ b.replayed.left → ⊥
        by r tree left =
            let regs : a.regs ≡ r.0 = same_some a.regs r.0 (sym a.ended ∙ ap (λ (m : MachineState). root_results m.tree) left ∙ r.1) in
            let first : FirstNone (live b.replayed.left.heap) a.replayed.tree.outs a.regs a.number = subst (λ (m : MachineState). FirstNone (live m.heap) a.replayed.tree.outs a.regs a.number) left a.none in
            let second : FirstNone (live b.replayed.left.heap) b.replayed.tree.outs a.regs a.number = subst (λ (t : Program). FirstNone (live b.replayed.left.heap) t.outs a.regs a.number) tree first in
            let third : FirstNone (live b.replayed.left.heap) b.replayed.tree.outs r.0 a.number = subst (λ rs. FirstNone (live b.replayed.left.heap) b.replayed.tree.outs rs a.number) regs second in
            none_shown (live b.replayed.left.heap) b.replayed.tree.outs vs r.0 a.number third r.2

    -- ---- causes

    agree : (c d : Cause) → HasCause text cap c → HasCause text cap d → bare c ≡ bare d
    agree (cause.NotProgram j) (cause.NotProgram k) a b = ap cause.NotProgram (one_line (program_part text) j k a b)
    agree (cause.NotProgram j) (cause.Syntax r) a b = absurd (no_program j b.tree a b.program)
    agree (cause.NotProgram j) (cause.NoSchedule k) a b = absurd (no_program j b.tree a b.front.program)
    agree (cause.NotProgram j) (cause.Input y g) a b = absurd (no_program j b.tree a b.reads.front.program)
    agree (cause.NotProgram j) (cause.HeapFull to more) a b = absurd (no_program j b.tree a b.inputs.reads.front.program)
    agree (cause.NotProgram j) (cause.NoValue k) a b = absurd (no_program j b.replayed.tree a b.replayed.inputs.reads.front.program)
    agree (cause.NotProgram j) (cause.Told d us) a b = absurd (no_program j b.replayed.tree a b.replayed.inputs.reads.front.program)
    agree (cause.Syntax q) (cause.NotProgram k) a b = absurd (no_program k a.tree b a.program)
    agree (cause.Syntax q) (cause.Syntax r) a b = ap cause.Syntax (one_place (values_line text) (values_part text) q r a.refused b.refused)
    agree (cause.Syntax q) (cause.NoSchedule k) a b = absurd (no_values q b.tree b.withs a b.front)
    agree (cause.Syntax q) (cause.Input y g) a b = absurd (no_values q b.tree b.withs a b.reads.front)
    agree (cause.Syntax q) (cause.HeapFull to more) a b = absurd (no_values q b.tree b.inputs.withs a b.inputs.reads.front)
    agree (cause.Syntax q) (cause.NoValue k) a b = absurd (no_values q b.replayed.tree b.replayed.inputs.withs a b.replayed.inputs.reads.front)
    agree (cause.Syntax q) (cause.Told d us) a b = absurd (no_values q b.replayed.tree b.replayed.inputs.withs a b.replayed.inputs.reads.front)
    agree (cause.NoSchedule j) (cause.NotProgram k) a b = absurd (no_program k a.tree b a.front.program)
    agree (cause.NoSchedule j) (cause.Syntax r) a b = absurd (no_values r a.tree a.withs b a.front)
    agree (cause.NoSchedule j) (cause.NoSchedule k) a b = ap cause.NoSchedule (one_refused apart not_refused (schedule_part text) (schedule_line text) j k a.refused b.refused)
    agree (cause.NoSchedule j) (cause.Input y g) a b = absurd (no_schedule j b.tree b.withs b.steps a b.reads)
    agree (cause.NoSchedule j) (cause.HeapFull to more) a b = absurd (no_schedule j b.tree b.inputs.withs b.steps a b.inputs.reads)
    agree (cause.NoSchedule j) (cause.NoValue k) a b = absurd (no_schedule j b.replayed.tree b.replayed.inputs.withs b.replayed.steps a b.replayed.inputs.reads)
    agree (cause.NoSchedule j) (cause.Told d us) a b = absurd (no_schedule j b.replayed.tree b.replayed.inputs.withs b.replayed.steps a b.replayed.inputs.reads)
    agree (cause.Input x f) (cause.NotProgram k) a b = absurd (no_program k a.tree b a.reads.front.program)
    agree (cause.Input x f) (cause.Syntax r) a b = absurd (no_values r a.tree a.withs b a.reads.front)
    agree (cause.Input x f) (cause.NoSchedule k) a b = absurd (no_schedule k a.tree a.withs a.steps b a.reads)
    agree (cause.Input x f) (cause.Input y g) a b = ap (λ (p : Fault). cause.Input p.0 p.1) (one_fault (x, f) (y, g) a b)
    agree (cause.Input x f) (cause.HeapFull to more) a b = absurd (no_inputs (x, f) b.tree b.values b.steps a b.inputs)
    agree (cause.Input x f) (cause.NoValue k) a b = absurd (no_inputs (x, f) b.replayed.tree b.replayed.values b.replayed.steps a b.replayed.inputs)
    agree (cause.Input x f) (cause.Told d us) a b = absurd (no_inputs (x, f) b.replayed.tree b.replayed.values b.replayed.steps a b.replayed.inputs)
    agree (cause.HeapFull at len) (cause.NotProgram k) a b = absurd (no_program k a.tree b a.inputs.reads.front.program)
    agree (cause.HeapFull at len) (cause.Syntax r) a b = absurd (no_values r a.tree a.inputs.withs b a.inputs.reads.front)
    agree (cause.HeapFull at len) (cause.NoSchedule k) a b = absurd (no_schedule k a.tree a.inputs.withs a.steps b a.inputs.reads)
    agree (cause.HeapFull at len) (cause.Input y g) a b = absurd (no_inputs (y, g) a.tree a.values a.steps b a.inputs)
    agree (cause.HeapFull at len) (cause.HeapFull to more) a b = let s = one_unfit at len to more a b in (λ i. cause.HeapFull (s.0 i) (s.1 i))
    agree (cause.HeapFull at len) (cause.NoValue k) a b = absurd (no_beginning at len (end.End b.at) a b.replayed)
    agree (cause.HeapFull at len) (cause.Told d us) a b = absurd (no_beginning at len d a b.replayed)
    agree (cause.NoValue j) (cause.NotProgram k) a b = absurd (no_program k a.replayed.tree b a.replayed.inputs.reads.front.program)
    agree (cause.NoValue j) (cause.Syntax r) a b = absurd (no_values r a.replayed.tree a.replayed.inputs.withs b a.replayed.inputs.reads.front)
    agree (cause.NoValue j) (cause.NoSchedule k) a b = absurd (no_schedule k a.replayed.tree a.replayed.inputs.withs a.replayed.steps b a.replayed.inputs.reads)
    agree (cause.NoValue j) (cause.Input y g) a b = absurd (no_inputs (y, g) a.replayed.tree a.replayed.values a.replayed.steps b a.replayed.inputs)
    agree (cause.NoValue j) (cause.HeapFull to more) a b = absurd (no_beginning to more (end.End a.at) b a.replayed)
    agree (cause.NoValue j) (cause.NoValue k) a b = ap cause.NoValue (one_no_value j k a b)
    agree (cause.NoValue j) (cause.Told d us) a b = absurd (not_shown j d us a b)
    agree (cause.Told e vs) (cause.NotProgram k) a b = absurd (no_program k a.replayed.tree b a.replayed.inputs.reads.front.program)
    agree (cause.Told e vs) (cause.Syntax r) a b = absurd (no_values r a.replayed.tree a.replayed.inputs.withs b a.replayed.inputs.reads.front)
    agree (cause.Told e vs) (cause.NoSchedule k) a b = absurd (no_schedule k a.replayed.tree a.replayed.inputs.withs a.replayed.steps b a.replayed.inputs.reads)
    agree (cause.Told e vs) (cause.Input y g) a b = absurd (no_inputs (y, g) a.replayed.tree a.replayed.values a.replayed.steps b a.replayed.inputs)
    agree (cause.Told e vs) (cause.HeapFull to more) a b = absurd (no_beginning to more e b a.replayed)
    agree (cause.Told e vs) (cause.NoValue k) a b = absurd (not_shown k e vs b a)
    agree (cause.Told e vs) (cause.Told d us) a b = ap (λ (p : ReplayEnd). cause.Told p []) (one_replay e d a.replayed b.replayed).answer

pub one_cause : TextsApart → NoneRefused → OneAnswer → OneCause
one_cause apart not_refused one_answer text cap c d a b = agree apart not_refused one_answer text cap c d a b
