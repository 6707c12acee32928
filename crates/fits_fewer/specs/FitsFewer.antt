-- A program that fits a specification and has only some procedures of a longer list.
use Rattle.std.specs.Prelude.{◌≡◌, List, []}
use Rattle.nres_core.specs.FlatTree.{flat_whole_of}
use Rattle.nres_core.specs.declared.flat.Flat.{Flat}
use Rattle.nres_rules.specs.FlatTyped.{IsTyped}
use Rattle.rule_check.specs.Check.{sigs_of}
use Rattle.target_code.specs.declared.tree.Proc.{Proc}
use Rattle.target_code.specs.declared.tree.Program.{Program}
use Rattle.run_laws.specs.RunLaws.{Laws}
use Rattle.fits.specs.Places.{State}
use Rattle.fits.specs.Follow.{Line, Views, Found}
use Rattle.fits.specs.Programs.{follow_whole}
use Rattle.fits_more.specs.More.{of_procs}
use Rattle.fewer_procs.specs.Fewer.{AreOf}
use Rattle.fits_sound.specs.Balanced.{AreBalanced}
use Rattle.fits_sound.specs.World.{Rows_sound}

-- a program of a specification's parameters and results that fits it; each of its calls finds one of its procedures, and these are found in a longer list,
-- with which the rows are sound by whatever laws its runs are proved; and the specification's procedures give as many slices as they take over
pub record FitsFewer : Type 1 where
  pub text : Flat
  pub program : Program
  pub views : Views
  pub same : views.procs ≡ program.procs
  pub more : List Proc
  pub fewer : AreOf more program.procs
  pub rows : (L : Laws more) → Rows_sound more L (of_procs views more)
  pub sigs : views.book.sigs ≡ sigs_of (flat_whole_of text).procs
  pub balanced : AreBalanced (flat_whole_of text).procs
  pub ins : program.ins ≡ (flat_whole_of text).params
  pub outs : program.outs ≡ (flat_whole_of text).shown
  pub lines : List Line
  pub last : State
  pub fits : follow_whole views (flat_whole_of text) lines ≡ Found last [] []

-- the procedures of a typed flat tree give as many slices as they take over
abbrev pub TypedAreBalanced : Type 0
TypedAreBalanced = (f : Flat) → IsTyped f → AreBalanced (flat_whole_of f).procs
