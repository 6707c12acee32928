-- Code that fits binds, and what is claimed of it: where no path fails it is safe for every number of steps, and where all paths end in time it is over after a
-- number of steps that no value decides.
use Rattle.std.specs.Prelude.{◌≡◌, ℕ, List, []}
use Rattle.flat_paths.specs.Paths.{Calls, Lives, below, never, paths}
use Rattle.nres_core.specs.FlatTree.{Binds, FlatProc}
use Rattle.nres_meaning.specs.FlatMeaning.{Vars}
use Rattle.target_code.specs.declared.tree.Instr.{Instr}
use Rattle.target_code.specs.declared.tree.Proc.{Proc}
use Rattle.target_meaning.specs.Leaf.{do_all}
use Rattle.target_meaning.specs.Machine.{Leaf}
use Rattle.target_meaning.specs.Piece.{Piece}
use Rattle.triple_logic.specs.Bounded.{Bounded}
use Rattle.triple_logic.specs.Laws.{at_code}
use Rattle.triple_logic.specs.Safe.{Safe, at_code_end}
use Rattle.run_laws.specs.RunLaws.{Laws}
use Rattle.rule_check.specs.Check.{sigs_of}
use Rattle.fits.specs.Places.{Entry, State}
use Rattle.fits.specs.Follow.{Line, Views, Found, fit}
use Rattle.fits.specs.Programs.{follow_from}
use Rattle.fits_sound.specs.Balanced.{AreBalanced}
use Rattle.fits_sound.specs.Meant.{Dyn, Inv}
use Rattle.fits_sound.specs.World.{Rows_sound}

-- where the code ends: registers and a piece are as they are known there, and some path of the binds came to the values that they stand for
pub record Comes (calls : ℕ → Calls) (R f mark : ℕ) (base : List Entry) (D0 : Dyn) (bs : Binds) (env : Vars) (s : State) (regs : List ℕ) (p : Piece) : Type 0 where
  pub now : Dyn
  pub known : Inv R f mark base D0 s now regs p
  pub turns : ℕ
  pub path : paths calls turns bs env (λ e. e ≡ now.value) never

-- a stretch of code of a procedure that fits binds, in a program whose procedures fit those of a text, with rows that are sound by whatever laws its runs are
-- proved
pub record Fitted : Type 1 where
  pub procs : List Proc
  pub views : Views
  pub same : views.procs ≡ procs
  pub rows : (L : Laws procs) → Rows_sound procs L views
  -- the procedures of the text, the first of their variables, and how many calls are under way
  pub texts : List FlatProc
  pub from : ℕ
  pub under : ℕ
  pub sigs : views.book.sigs ≡ sigs_of texts
  pub balanced : AreBalanced texts
  pub begun : State
  pub ended : State
  pub all_lines : List Line
  pub all_fit : follow_from views 0 from texts begun all_lines ≡ Found ended [] []
  pub proc : Proc
  pub regs : ℕ
  pub binds : Binds
  -- what is known where the code begins, and where it ends
  pub first : State
  pub last : State
  pub code : List Instr
  pub lines : List Line
  pub left : List Line
  pub fits : fit regs views binds first code lines ≡ Found last [] left

module _ (x : Fitted) where
  -- the meaning of calls
  abbrev pub calls_in : ℕ → Calls
  calls_in = below x.texts x.from x.under

  -- where no path fails the code is safe for every number of steps, below any number of forks, from all that is so as it is known
  abbrev pub IsSafe : Type 0
  IsSafe =
      (n f line mark : ℕ) (base : List Entry) (D0 D : Dyn) (regs : List ℕ) (p : Piece) → Inv x.regs f mark base D0 x.first D regs p →
      Lives calls_in ⊥ 0 x.binds D.value →
      Safe x.procs at_code_end (Comes calls_in x.regs f mark base D0 x.binds D.value x.last) n f (Leaf p (at_code x.proc (do_all line x.code) regs))

  -- for each limit on turns there is a number of steps, chosen before any value, after which the code is over wherever no path fails or passes the limit
  abbrev pub IsBounded : Type 0
  IsBounded =
      (limit f : ℕ) → (c : ℕ) × ((line mark : ℕ) (base : List Entry) (D0 D : Dyn) (regs : List ℕ) (p : Piece) → Inv x.regs f mark base D0 x.first D regs p →
      Lives calls_in (Unit {0}) limit x.binds D.value →
      Bounded x.procs at_code_end (Comes calls_in x.regs f mark base D0 x.binds D.value x.last) c f (Leaf p (at_code x.proc (do_all line x.code) regs)))
