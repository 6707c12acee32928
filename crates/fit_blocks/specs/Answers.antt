-- What the code comes to where something is followed.
use Rattle.std.specs.Prelude.{◌≡◌, ◌≤◌, ℕ, true, List, [], length, Some, Result, Ok, Err}
use Rattle.fit_blocks.specs.declared.frame.Ends.{Ends}
use Rattle.fit_blocks.specs.declared.frame.Over.{Over}
use Rattle.fit_blocks.specs.declared.frame.Unmet.{Unmet}
use Rattle.fit_laws.specs.Older.{Under}
use Rattle.proof_lines.specs.Lines.{lines_of}
use Rattle.fit_state.specs.States.{Is}
use Rattle.fit_state.specs.declared.state.FitState.{FitState}
use Rattle.fit_state.specs.declared.view.Rest.{Rest}
use Rattle.fits.specs.Follow as f
use Rattle.fits.specs.Follow.{Line, Answer, Found, Views, all_below, end_block, fit}
use Rattle.fits.specs.Places.{State, Info, arg_infos, info_shapes}
use Rattle.nres_core.specs.FlatTree.{Before, Binds, Ending}
use Rattle.ownership.specs.Entries.{shapes_of}
use Rattle.rule_check.specs.Context.{Shape}
use Rattle.rule_steps.specs.Ends.{astray_of}
use Rattle.target_code.specs.declared.tree.Instr.{Instr}

-- the code is in a state, all of whose variables are below its bound
pub record At (R : ℕ) (x : FitState) (s : State) : Type 0 where
  pub is : Is R x s
  pub under : Under s.next s.entries

-- the calculations of the list of binds are the newest
abbrev pub IsOpen : FitState → Type 0
IsOpen x = x.rules.start ≤ length x.rules.calculations

-- ---- binds

-- it goes on from here
pub record Goes_on (R : ℕ) (new : FitState) (r : Rest) (a : Answer) : Type 0 where
  pub last : State
  pub is : Is R new last
  pub found : a ≡ Found last r.code.now (lines_of r.lines.now)

abbrev pub AnswerIs : ℕ → FitState → Result Rest Unmet → Answer → Type 0
AnswerIs R new (Ok r) a = Goes_on R new r a
AnswerIs R new (Err u) a = a ≡ f.Unmet (lines_of u.lines.now)

-- a bind is followed: what follows it is followed from the new state on
pub record Bind_goes (R : ℕ) (V : Views) (bind : Before) (s : State) (code : List Instr) (lines : List Line) (new : FitState) (r : Rest) : Type 0 where
  pub next : State
  pub is : Is R new next
  pub on : (rest : Binds) → fit R V (bind rest) s code lines ≡ fit R V rest next r.code.now (lines_of r.lines.now)

abbrev pub BindIs : ℕ → Views → Before → State → List Instr → List Line → FitState → Result Rest Unmet → Type 0
BindIs R V bind s code lines new (Ok r) = Bind_goes R V bind s code lines new r
BindIs R V bind s code lines new (Err u) = (rest : Binds) → fit R V (bind rest) s code lines ≡ f.Unmet (lines_of u.lines.now)

-- ---- blocks

-- the results of a block in the state where it ended
pub record Results (s : State) (e : Ending) (zs : List Shape) : Type 0 where
  pub infos : List Info
  pub are : arg_infos s.entries e.results ≡ Some infos
  pub shapes : info_shapes infos ≡ zs

-- the end of a block in the definition
abbrev pub ends_at : ℕ → Views → Ends → Ending → State → List Instr → List Line → Answer
ends_at R V n e = end_block R V n.count n.mark (astray_of n.owed) e n.targets.now

-- it is over, with results that are in these shapes
pub record Ended (R : ℕ) (V : Views) (n : Ends) (e : Ending) (s : State) (code : List Instr) (new : FitState) (zs : List Shape) : Type 0 where
  pub last : State
  pub is : Is R new last
  pub below : all_below R n.targets.now ≡ true
  pub found : (ls : List Line) → ends_at R V n e s code ls ≡ Found last [] ls
  pub results : Results last e zs

-- a block was followed to its end
pub record Over_at (R : ℕ) (new : FitState) (e : Ending) (rs : List ℕ) (o : Over) (a : Answer) : Type 0 where
  pub last : State
  pub below : all_below R rs ≡ true
  pub is : Is R new last
  pub found : a ≡ Found last [] (lines_of o.lines.now)
  pub results : Results last e (shapes_of o.shapes)

abbrev pub OverIs : ℕ → FitState → Ending → List ℕ → Result Over Unmet → Answer → Type 0
OverIs R new e rs (Ok o) a = Over_at R new e rs o a
OverIs R new e rs (Err u) a = a ≡ f.Unmet (lines_of u.lines.now)
