-- The body of a specification or of a procedure.
use Rattle.std.specs.Prelude.{◌≡◌, ◌+◌, ◌&&◌, ◌||◌, ℕ, suc, nat_le, Bool, true, false, not, cond, List, [], ◌∷◌, length, Option, Some, None, Result, Ok, Err}
use Rattle.context_laws.specs.Stacks.{spot_in}
use Rattle.fit_blocks.specs.Answers.{At}
use Rattle.fit_blocks.specs.declared.frame.Unmet.{Unmet}
use Rattle.fit_state.specs.declared.state.FitState.{FitState}
use Rattle.fit_tokens.specs.Standing.{Standing}
use Rattle.fit_walk.specs.declared.body.Body.{Body}
use Rattle.fit_walk.specs.declared.body.Past.{Past}
use Rattle.fits.specs.Follow as f
use Rattle.fits.specs.Follow.{Line, Answer, Found, Views, all_below, and_then, end_block, fit, is_there, need, with_ok, with_some}
use Rattle.fits.specs.Places.{State, Info, all_vars, all_words, arg_infos, ctx_of, fresh, goners, hold_words, info_reps, none_left, with_hold}
use Rattle.fits.specs.Programs.{begin_state, follow_proc, only_kept, param_shape, same_reps}
use Rattle.nres_core.specs.FlatTree.{Ending, Flats, flats_of}
use Rattle.proof_lines.specs.Lines.{lines_of}
use Rattle.rule_check.specs.Check.{owed, param_spots}
use Rattle.rule_check.specs.Context.{Shape, Spot, is_container, is_among, is_gone}
use Rattle.rule_check.specs.Steps.{ended, slices_are}
use Rattle.target_code.specs.declared.tree.InParam.{InParam}
use Rattle.target_code.specs.declared.tree.Instr.{Instr}
use Rattle.target_code.specs.declared.tree.Rep.{Rep}

-- ---- where it begins

-- what stands for parameters, which are the variables from k on
abbrev pub param_stands : ℕ → List InParam → List Standing → List Standing
param_stands k [] ws = ws
param_stands k (y ∷ ys) ws = param_stands (suc k) ys (record { words = fresh k (param_shape k y); part = y.kept } ∷ ws)

abbrev pub body_regs : Body → ℕ
body_regs b = b.proc.now.regs

abbrev pub body_params : Body → List InParam
body_params b = b.header.params.now

abbrev pub body_flats : Body → Flats
body_flats b = flats_of b.block.now

abbrev pub begins : Body → State
begins b = begin_state b.first b.branch (body_params b)

-- ---- its end

abbrev pub body_astray : Body → List Shape → Option ℕ
body_astray b = slices_are (owed b.first (body_params b)) b.header.shown.now

-- its registers have its results, and nothing that was made in it is left
abbrev pub block_met : ℕ → Body → State → List Info → Bool
block_met R b u infos =
    hold_words u.toks b.proc.now.ret (all_words infos) && all_below R b.proc.now.ret && none_left (b.first + length (body_params b)) (goners (all_vars infos) u.hold) u.entries

-- a parameter that is kept is there at the end, and one that is not is gone
abbrev pub kept_at : Option Spot → Bool → List ℕ → Bool
kept_at None kept gone = true
kept_at (Some s) kept gone = not (is_container s.rep) || cond kept (not (is_gone s.hold || is_among s.var gone)) (is_gone s.hold || is_among s.var gone)

-- of parameters whose entries are at the places from this one on
abbrev pub kept_from : List Spot → ℕ → List InParam → List ℕ → Bool
kept_from ss i [] gone = true
kept_from ss i (y ∷ ys) gone = kept_at (spot_in ss i) y.kept gone && kept_from ss (suc i) ys gone

-- ---- what following comes to

abbrev pub body_followed : Views → Body → List Line → Answer
body_followed V b = follow_proc V b.first b.branch (body_params b) b.header.shown.now (body_flats b) b.proc.now

-- it was followed to its end
pub record Followed_to (p : Past) (a : Answer) : Type 0 where
  pub last : State
  pub found : a ≡ Found last [] (lines_of p.lines.now)
  pub branch : p.branch ≡ last.branch

abbrev pub BodyIs : Answer → Result Past Unmet → Type 0
BodyIs a (Ok p) = Followed_to p a
BodyIs a (Err u) = a ≡ f.Unmet (lines_of u.lines.now)

-- behind the block, what is asked of a body
abbrev pub body_asks : Body → State → List Instr → List Line → Answer
body_asks b s c ls =
    with_some (arg_infos s.entries (body_flats b).ending.results) ls (λ infos.
    need (same_reps (info_reps infos) b.header.shown.now && only_kept s.hold (begins b).entries) ls (Found s c ls))

-- behind the binds
abbrev pub body_end : ℕ → Views → Body → State → List Instr → List Line → Answer
body_end R V b s code ls = and_then (end_block R V 0 (b.first + length (body_params b)) (body_astray b) (body_flats b).ending b.proc.now.ret s code ls) (body_asks b)

-- from the state where it begins
abbrev pub body_walk : Views → Body → List Line → Answer
body_walk V b ls = and_then (fit (body_regs b) V (body_flats b).binds (begins b) b.proc.now.code.list ls) (body_end (body_regs b) V b)

-- binds were followed to a state: it ends as it must, or not
pub record Finishes (R : ℕ) (V : Views) (b : Body) (s : State) (code : List Instr) (new : FitState) : Type 0 where
  pub last : State
  pub found : (ls : List Line) → body_end R V b s code ls ≡ Found last [] ls
  pub branch : new.branch ≡ last.branch

abbrev pub FinishIs : ℕ → Views → Body → State → List Instr → FitState → Bool → Type 0
FinishIs R V b s code new true = Finishes R V b s code new
FinishIs R V b s code new false = (ls : List Line) → body_end R V b s code ls ≡ f.Unmet ls

-- the same where no code is left
abbrev pub end_here : Views → ℕ → Body → State → List Line → Answer
end_here V R b u ls =
    and_then (with_some (arg_infos u.entries (body_flats b).ending.results) ls (λ infos.
    with_ok (ended V.book 0 (body_astray b) (ctx_of u) (body_flats b).ending) ls (λ m. need (block_met R b u infos) ls (Found (with_hold u (goners (all_vars infos) u.hold)) [] ls)))) (body_asks b)

pub record Finishes_here (V : Views) (R : ℕ) (b : Body) (u : State) : Type 0 where
  pub last : State
  pub found : (ls : List Line) → end_here V R b u ls ≡ Found last [] ls
  pub branch : u.branch ≡ last.branch

abbrev pub FinishesHere : Views → ℕ → Body → State → Bool → Type 0
FinishesHere V R b u true = Finishes_here V R b u
FinishesHere V R b u false = (ls : List Line) → end_here V R b u ls ≡ f.Unmet ls

-- and these are the results
abbrev pub end_with : Views → ℕ → Body → State → List Info → List Line → Answer
end_with V R b u infos ls =
    and_then (with_ok (ended V.book 0 (body_astray b) (ctx_of u) (body_flats b).ending) ls (λ m. need (block_met R b u infos) ls (Found (with_hold u (goners (all_vars infos) u.hold)) [] ls))) (body_asks b)

pub record Finishes_with (V : Views) (R : ℕ) (b : Body) (u : State) (infos : List Info) : Type 0 where
  pub found : (ls : List Line) → end_with V R b u infos ls ≡ Found (with_hold u (goners (all_vars infos) u.hold)) [] ls

abbrev pub FinishesWith : Views → ℕ → Body → State → List Info → Bool → Type 0
FinishesWith V R b u infos true = Finishes_with V R b u infos
FinishesWith V R b u infos false = (ls : List Line) → end_with V R b u infos ls ≡ f.Unmet ls

-- ---- parameters

-- parameters, the variables from this one on, became entries
pub record ParamsBound (first : ℕ) (ys : List InParam) (old new : FitState) : Type 0 where
  pub spots : new.rules.context.spots ≡ param_spots first ys old.rules.context.spots
  pub saved : new.rules.context.saved ≡ old.rules.context.saved
  pub words : new.words ≡ param_stands first ys old.words
  pub next : new.next ≡ first + length ys
  pub rest : new ≡ record { rules = record { context = new.rules.context; facts = old.rules.facts; calculations = old.rules.calculations; start = old.rules.start }; tokens = old.tokens; words = new.words; next = new.next; branch = old.branch }
