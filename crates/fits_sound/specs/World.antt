-- What a proof about a program goes by: the laws of its runs, the rule rows, the procedures, the meaning of calls.
use Rattle.std.specs.Prelude.{◌≡◌, ℕ, ◌<◌, ◌≤◌, length, List, Option, Some}
use Rattle.flat_paths.specs.Paths.{Calls, Rising, IsWithin, Lives}
use Rattle.nres_core.specs.FlatTree.{Binds}
use Rattle.nres_core.specs.declared.op.Op.{Op}
use Rattle.nres_meaning.specs.FlatMeaning.{Vars}
use Rattle.target_code.specs.declared.tree.Proc.{Proc}
use Rattle.target_code.specs.declared.tree.Rep.{Rep}
use Rattle.target_meaning.specs.Leaf.{Item}
use Rattle.target_meaning.specs.Piece.{Piece}
use Rattle.triple_logic.specs.Laws.{End_fact, at_code}
use Rattle.triple_logic.specs.Safe.{at_code_end}
use Rattle.rule_check.specs.Context.{Shape}
use Rattle.rule_check.specs.Table.{Rule}
use Rattle.run_laws.specs.RunLaws.{Laws}
use Rattle.fits.specs.Follow.{Views, fates}
use Rattle.fits_sound.specs.Called.{Callees}
use Rattle.fits_sound.specs.Meant.{Via_sound}
use Rattle.fits_sound.specs.RowShapes.{row_on, shape_reps, kept_count}

-- a row on arguments of given shapes: it keeps at most one container, its fact is on one of them, and it is sound
pub record Row_sound (T : List Proc) (L : Laws T) (V : Views) (op : Op) (zs : List Shape) (made : Option Rep) (x : Rule) : Type 0 where
  pub few : kept_count (fates x.takes) zs ≤ 1
  pub fact : (k : ℕ) → x.fact ≡ Some k → k < length zs
  pub via : Via_sound T L V.lib_name op (row_on zs made x) x.code

-- a row that is found is sound on arguments of any shapes for which it is found
abbrev pub Rows_sound : (T : List Proc) → Laws T → Views → Type 0
Rows_sound T L V = (op : Op) (zs : List Shape) (made : Option Rep) (x : Rule) → V.book.row_for op (shape_reps zs) made ≡ Some x → Row_sound T L V op zs made x

pub record World : Type 1 where
  pub procs : List Proc
  pub laws : Laws procs
  pub views : Views
  pub same : views.procs ≡ procs
  pub sound : Rows_sound procs laws views
  -- the meaning of calls, by the turns and the depth that are allowed
  pub calls : ℕ → Calls
  pub rising : Rising calls
  -- the turns of a loop, where runs have to end
  pub limit : ℕ
  -- the procedures of the text may be called
  pub callees : Callees procs laws limit calls views.book.sigs

module _ (W : World) where
  -- a stretch of code
  abbrev pub Code_run : Proc → End_fact → (n c f : ℕ) → List Item → List ℕ → Piece → Type 0
  Code_run proc Q n c f items regs p = W.laws.run at_code_end Q n c f p (at_code proc items regs)

  -- so many turns of each loop are allowed
  abbrev pub Within : ℕ → Type 0
  Within N = IsWithin W.laws.ends W.limit N

  -- how no path of a tree stops
  abbrev pub Live : Binds → Vars → Type 0
  Live bs env = Lives W.calls W.laws.ends W.limit bs env
