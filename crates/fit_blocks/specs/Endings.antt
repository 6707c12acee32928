-- The end of a block in the definition, part by part.
use Rattle.std.specs.Prelude.{◌≡◌, ◌&&◌, ℕ, Bool, true, false, List, []}
use Rattle.fit_blocks.specs.Answers.{Results}
use Rattle.fit_blocks.specs.declared.frame.Ends.{Ends}
use Rattle.fit_state.specs.States.{Is}
use Rattle.fit_state.specs.declared.state.FitState.{FitState}
use Rattle.fits.specs.Follow.{Line, Answer, Found, Unmet, Views, need, with_some, with_ok, all_below, end_test}
use Rattle.fits.specs.Places.{State, Info, ctx_of, with_hold, arg_infos, all_words, all_vars, hold_words, goners, none_left}
use Rattle.nres_core.specs.FlatTree.{Ending}
use Rattle.rule_check.specs.Context.{Shape}
use Rattle.rule_check.specs.Steps.{ended}
use Rattle.rule_steps.specs.Ends.{astray_of}
use Rattle.target_code.specs.declared.tree.Instr.{Instr}

-- what is asked of a block's results and of what it leaves
abbrev pub is_met : ℕ → Ends → State → List Info → Bool
is_met R n u infos = hold_words u.toks n.targets.now (all_words infos) && all_below R n.targets.now && none_left n.mark (goners (all_vars infos) u.hold) u.entries

-- the state once its results moved out
abbrev pub moved_out : State → List Info → State
moved_out u infos = with_hold u (goners (all_vars infos) u.hold)

abbrev pub ends_with : ℕ → Views → Ends → Ending → State → List Info → List Line → Answer
ends_with R V n e u infos ls =
    with_ok (ended V.book n.count (astray_of n.owed) (ctx_of u) e) ls (λ m. need (is_met R n u infos) ls (Found (moved_out u infos) [] ls))

abbrev pub ends_here : ℕ → Views → Ends → Ending → State → List Line → Answer
ends_here R V n e u ls = with_some (arg_infos u.entries e.results) ls (λ infos. ends_with R V n e u infos ls)

-- the results moved out, or the rule check refuses it
pub record Moves_out (R : ℕ) (V : Views) (n : Ends) (e : Ending) (u : State) (infos : List Info) (new : FitState) : Type 0 where
  pub is : Is R new (moved_out u infos)
  pub asks : (ls : List Line) (a : Answer) → with_ok (ended V.book n.count (astray_of n.owed) (ctx_of u) e) ls (λ m. a) ≡ a

abbrev pub MovedOut : ℕ → Views → Ends → Ending → State → List Info → FitState → Bool → Type 0
MovedOut R V n e u infos new true = Moves_out R V n e u infos new
MovedOut R V n e u infos new false = (ls : List Line) (a : Answer) → with_ok (ended V.book n.count (astray_of n.owed) (ctx_of u) e) ls (λ m. a) ≡ Unmet ls

pub record EndsWith (R : ℕ) (V : Views) (n : Ends) (e : Ending) (u : State) (infos : List Info) (new : FitState) (zs : List Shape) : Type 0 where
  pub is : Is R new (moved_out u infos)
  pub below : all_below R n.targets.now ≡ true
  pub found : (ls : List Line) → ends_with R V n e u infos ls ≡ Found (moved_out u infos) [] ls
  pub results : Results (moved_out u infos) e zs

pub record EndsHere (R : ℕ) (V : Views) (n : Ends) (e : Ending) (u : State) (new : FitState) (zs : List Shape) : Type 0 where
  pub last : State
  pub is : Is R new last
  pub below : all_below R n.targets.now ≡ true
  pub found : (ls : List Line) → ends_here R V n e u ls ≡ Found last [] ls
  pub results : Results last e zs

-- ---- the end of a loop's condition

pub record Test_over (R : ℕ) (V : Views) (mark : ℕ) (s : State) (code : List Instr) (new : FitState) : Type 0 where
  pub last : State
  pub is : Is R new last
  pub entries : last.entries ≡ s.entries
  pub found : (ls : List Line) → end_test R V mark s code ls ≡ Found last [] ls

abbrev pub TestEnds : ℕ → Views → ℕ → State → List Instr → FitState → Bool → Type 0
TestEnds R V mark s code new true = Test_over R V mark s code new
TestEnds R V mark s code new false = (ls : List Line) → end_test R V mark s code ls ≡ Unmet ls
