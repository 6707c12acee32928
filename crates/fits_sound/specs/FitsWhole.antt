-- A program that fits a whole specification by a derivation.
use Rattle.std.specs.Prelude.{◌≡◌, List, []}
use Rattle.nres_core.specs.FlatTree.{flat_whole_of}
use Rattle.nres_core.specs.declared.flat.Flat.{Flat}
use Rattle.target_code.specs.declared.tree.Program.{Program}
use Rattle.run_laws.specs.RunLaws.{Laws}
use Rattle.rule_check.specs.Check.{sigs_of}
use Rattle.fits.specs.Places.{State}
use Rattle.fits.specs.Follow.{Line, Views, Found}
use Rattle.fits.specs.Programs.{follow_whole}
use Rattle.fits_sound.specs.Balanced.{AreBalanced}
use Rattle.fits_sound.specs.World.{Rows_sound}

-- a specification whose procedures give as many slices as they take over, a program of its parameters and results that fits it, and rows that are sound by
-- whatever laws the program's runs are proved
pub record FitsWhole : Type 1 where
  pub text : Flat
  pub program : Program
  pub views : Views
  pub same : views.procs ≡ program.procs
  pub rows : (L : Laws program.procs) → Rows_sound program.procs L views
  -- the rule check's book is that of the specification's procedures
  pub sigs : views.book.sigs ≡ sigs_of (flat_whole_of text).procs
  pub balanced : AreBalanced (flat_whole_of text).procs
  pub ins : program.ins ≡ (flat_whole_of text).params
  pub outs : program.outs ≡ (flat_whole_of text).shown
  pub lines : List Line
  pub last : State
  pub fits : follow_whole views (flat_whole_of text) lines ≡ Found last [] []
