-- Where a step of following leads.
use Rattle.std.specs.Prelude.{◌≡◌, ℕ, List, Option, Some, None}
use Rattle.target_code.specs.declared.tree.Instr.{Instr}
use Rattle.proof_lines.specs.Lines.{lines_of}
use Rattle.fit_state.specs.States.{Grows, Is}
use Rattle.fit_state.specs.declared.state.FitState.{FitState}
use Rattle.fit_state.specs.declared.view.Rest.{Rest}
use Rattle.fits.specs.Follow.{Line, Answer, Unmet, Walk}
use Rattle.fits.specs.Places.{State}

-- it goes on from what the code came to, with what is left of the code and of the lines
pub record Goes (R : ℕ) (new : FitState) (code : List Instr) (lines : List Line) (step : Walk → Answer) : Type 0 where
  pub next : State
  pub is : Is R new next
  pub on : (go : Walk) → step go ≡ go next code lines

-- these lines are not found
abbrev pub Unfit : List Line → (Walk → Answer) → Type 0
Unfit ls step = (go : Walk) → step go ≡ Unmet ls

abbrev pub Steps : ℕ → FitState → List Line → (Walk → Answer) → Option Rest → Type 0
Steps R new ls step None = Unfit ls step
Steps R new ls step (Some r) = Goes R new r.code.now (lines_of r.lines.now) step

-- ---- a line

-- the first line is another one
abbrev pub Astray : ((List Line → Answer) → Answer) → List Line → Type 0
Astray way ls = (k : List Line → Answer) → way k ≡ Unmet ls

-- it is found, and these are behind it
abbrev pub Behind : ((List Line → Answer) → Answer) → List Line → Type 0
Behind way rest = (k : List Line → Answer) → way k ≡ k rest

-- what a step that fits leaves as it was
abbrev pub GrowsBy : FitState → FitState → Option Rest → Type 0
GrowsBy old new None = Unit {0}
GrowsBy old new (Some r) = Grows old new
