-- What following the blocks of a bind comes to.
use Rattle.std.specs.Prelude.{◌≡◌, ℕ, [], List, Result, Ok, Err, Some}
use Rattle.fit_blocks.specs.Answers.{At, Results}
use Rattle.fit_blocks.specs.Blocks.{with_branches}
use Rattle.fit_blocks.specs.Choices.{Leaves, if_other}
use Rattle.fit_blocks.specs.Loops.{Headed_at, OpenLoop, body_end, turn_body, turn_head}
use Rattle.fit_blocks.specs.declared.choice.Joint.{Joint}
use Rattle.fit_blocks.specs.declared.choice.Side.{Side}
use Rattle.fit_blocks.specs.declared.frame.Unmet.{Unmet}
use Rattle.fit_blocks.specs.declared.looping.Loop.{Loop}
use Rattle.fit_blocks.specs.declared.looping.Starting.{Starting}
use Rattle.fit_blocks.specs.declared.turning.Headed.{Headed}
use Rattle.proof_lines.specs.Lines.{lines_of}
use Rattle.fit_state.specs.States.{Is}
use Rattle.fit_state.specs.declared.state.FitState.{FitState}
use Rattle.fit_state.specs.declared.view.Rest.{Rest}
use Rattle.fits.specs.Follow as f
use Rattle.fits.specs.Follow.{Line, Answer, Found, Walk, Views, fit, side_step}
use Rattle.fits.specs.Places.{State, Info}
use Rattle.nres_core.specs.FlatTree.{Binds, Ending, Flats}
use Rattle.ownership.specs.Entries.{shapes_of}
use Rattle.target_code.specs.declared.tree.Instr.{Instr}

-- ---- a way of going on

-- it goes on from here, whatever follows
pub record Goes (R : ℕ) (new : FitState) (r : Rest) (step : Walk → Answer) : Type 0 where
  pub next : State
  pub is : Is R new next
  pub on : (go : Walk) → step go ≡ go next r.code.now (lines_of r.lines.now)

abbrev pub StepIs : ℕ → FitState → Result Rest Unmet → (Walk → Answer) → Type 0
StepIs R new (Ok r) step = Goes R new r step
StepIs R new (Err m) step = (go : Walk) → step go ≡ f.Unmet (lines_of m.lines.now)

-- ---- `if`

-- a side that was followed: all but the number of branches is as it was
pub record Side_at (R : ℕ) (old past : FitState) (u : State) (e : Ending) (rs : List ℕ) (side : Side) (a : Answer) : Type 0 where
  pub last : State
  pub found : a ≡ Found last [] (lines_of side.over.lines.now)
  pub results : Results last e (shapes_of side.over.shapes)
  pub leaves : Leaves R old u last rs side
  pub new : past ≡ with_branches old last.branch

abbrev pub SideWalked : ℕ → FitState → FitState → State → Ending → List ℕ → Result Side Unmet → Answer → Type 0
SideWalked R old new u e rs (Ok side) a = Side_at R old new u e rs side a
SideWalked R old new u e rs (Err m) a = a ≡ f.Unmet (lines_of m.lines.now)

-- the second side and what follows it, where the first one came to this state
abbrev pub other_side : ℕ → Views → State → State → Joint → Side → Ending → Flats → Walk → Answer
other_side R V u s1 j left le b go =
    if_other R V u j.choice.targets.now j.choice.no.now j.choice.after.code.now j.outs.now le (fit R V b.binds) b.ending go s1 (lines_of left.over.lines.now)

-- ---- loops

-- the condition was followed
pub record Head_goes (R : ℕ) (V : Views) (u : State) (infos : List Info) (st : Starting) (l : Loop) (head new : FitState) (hd : Headed) (tests : Walk) : Type 0 where
  pub last : State
  pub headed : Headed_at R V u infos st l head new hd last
  pub on : (k : State → List Line → Answer) → turn_head R V u infos st l.code tests k ≡ k last (lines_of hd.lines.now)

abbrev pub HeadWalked : (R : ℕ) (V : Views) (u : State) (infos : List Info) (st : Starting) (l : Loop) → FitState → FitState → Result Headed Unmet → Walk → Type 0
HeadWalked R V u infos st l head new (Ok hd) tests = Head_goes R V u infos st l head new hd tests
HeadWalked R V u infos st l head new (Err m) tests = (k : State → List Line → Answer) → turn_head R V u infos st l.code tests k ≡ f.Unmet (lines_of m.lines.now)

-- ---- lists of binds

-- the binds so far were followed to this state
pub record Reached (R : ℕ) (V : Views) (all left : Binds) (s0 : State) (code : List Instr) (lines : List Line) (x : FitState) (r : Rest) : Type 0 where
  pub here : State
  pub at : At R x here
  pub on : fit R V all s0 code lines ≡ fit R V left here r.code.now (lines_of r.lines.now)
