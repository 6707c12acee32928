-- What passing instructions comes to.
use Rattle.std.specs.Prelude.{◌≡◌, ℕ, nat_lt, Bool, true, List, Option}
use Rattle.target_code.specs.declared.tree.Instr.{Instr, out-Instr}
use Rattle.fits.specs.Follow.{Line, Answer, Unmet, Views, need, with_some, owner, pass_one, pass_until}
use Rattle.fits.specs.Places.{State, Token, put, with_toks, with_hold}
use Rattle.rule_check.specs.Context.{Gone}
use Rattle.fit_state.specs.States.{Is}
use Rattle.fit_state.specs.declared.state.FitState.{FitState}
use Rattle.fit_state.specs.declared.step.Step.{Step}
use Rattle.fit_state.specs.declared.step.Step.TheVariants as t

-- a way of going on that may fail
abbrev pub Way : Type 0
Way = List Line → (State → List Instr → Answer) → Answer

-- it fails at these lines
abbrev pub Fails : Way → Type 0
Fails way = (ls : List Line) (go : State → List Instr → Answer) → way ls go ≡ Unmet ls

-- it goes on from what the code came to, with the same entries
pub record GoesTo (R : ℕ) (s : State) (new : FitState) (rest : List Instr) (way : Way) : Type 0 where
  pub next : State
  pub is : Is R new next
  pub entries : next.entries ≡ s.entries
  pub on : (ls : List Line) (go : State → List Instr → Answer) → way ls go ≡ go next rest

-- it goes on where a test holds
pub record StopsTo (R : ℕ) (V : Views) (s : State) (new : FitState) (rest : List Instr) (ok : State → Bool) (code : List Instr) : Type 0 where
  pub goes : GoesTo R s new rest (pass_until R V ok s code)
  pub holds : ok goes.next ≡ true

-- ---- one instruction

-- it is passed, and the code came to this state
pub record Moves (R : ℕ) (s : State) (new : FitState) (way : List Line → (State → Answer) → Answer → Answer) : Type 0 where
  pub next : State
  pub is : Is R new next
  pub entries : next.entries ≡ s.entries
  pub on : (ls : List Line) (go : State → Answer) (stop : Answer) → way ls go stop ≡ go next

abbrev pub StepOf : ℕ → State → FitState → FitState → (List Line → (State → Answer) → Answer → Answer) → Step → Type 0
StepOf R s old new way t.Passed = Moves R s new way
StepOf R s old new way t.Stops = (new ≡ old) × ((ls : List Line) (go : State → Answer) (stop : Answer) → way ls go stop ≡ stop)
StepOf R s old new way t.Fails = (ls : List Line) (go : State → Answer) (stop : Answer) → way ls go stop ≡ Unmet ls

abbrev pub StepIs : ℕ → Instr → FitState → FitState → Step → Type 0
StepIs R i old new step = (V : Views) (s : State) → Is R old s → StepOf R s old new (λ ls go stop. pass_one R V ls s (out-Instr i) go stop) step

-- ---- its parts

-- a register gets this token, or none
abbrev pub PutIs : ℕ → ℕ → Option Token → FitState → FitState → Step → Type 0
PutIs R to o old new step = (s : State) → Is R old s → StepOf R s old new (λ ls go stop. need (nat_lt to R) ls (go (with_toks s (put s.toks to o)))) step

-- the container whose block a register holds is gone
abbrev pub FreeIs : ℕ → FitState → FitState → Step → Type 0
FreeIs b old new step = (R : ℕ) (s : State) → Is R old s → StepOf R s old new (λ ls go stop. with_some (owner s.entries s.hold (s.toks b)) ls (λ v. go (with_hold s (put s.hold v Gone)))) step
