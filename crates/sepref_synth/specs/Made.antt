-- A program that was made for a specification, with its text.
use Rattle.std.specs.Prelude.{◌≡◌, ℕ, List}
use Rattle.fits_shape.specs.Fits.{Fits}
use Rattle.fits_text.specs.FitsText.{text_views}
use Rattle.nres_core.specs.FlatTree.{FlatWhole}
use Rattle.proof_lines.specs.Lines.{lines_of}
use Rattle.rule_table.specs.Library.{library}
use Rattle.sepref_synth.specs.declared.making.Synthesized.{Synthesized}
use Rattle.target_code.specs.Formed.{Formed}
use Rattle.target_code.specs.declared.tree.Program.{Program}
use Rattle.target_lines.specs.Programs.{program_text}

-- a formed program, and its text
pub record IsRead (T : Program) (text : List ℕ) : Type 0 where
  pub formed : Formed T
  pub is_text : text ≡ program_text T

-- it fits the specification by its derivation, over the table of rows and the library
pub record IsMadeFor (f : FlatWhole) (x : Synthesized) : Type 0 where
  pub read : IsRead x.program x.text.items
  pub fits : Fits library (text_views f x.program.procs) f x.program (lines_of x.lines)
