-- A typed text, a program that fits it as a whole, and what the program then is.
use Rattle.std.specs.Prelude.{◌≡◌, ℕ, Bool, List}
use Rattle.nres_core.specs.FlatTree.{FlatWhole, flat_whole_of}
use Rattle.nres_core.specs.Texts.{SpecText}
use Rattle.nres_core.specs.declared.flat.Flat.{Flat}
use Rattle.nres_core.specs.declared.tree.Spec.{Spec}
use Rattle.nres_core.specs.declared.tree.With.{With}
use Rattle.nres_rules.specs.Identify.{IsFlatOf}
use Rattle.rule_table.specs.Library.{library}
use Rattle.soundness.specs.Behaviour.{of_spec}
use Rattle.soundness.specs.Bound.{IsBoundedFor}
use Rattle.soundness.specs.Shape.{Made, Shape}
use Rattle.soundness.specs.Sound.{Sound}
use Rattle.target_code.specs.Formed.{Formed}
use Rattle.target_code.specs.declared.tree.Program.{Program}
use Rattle.fits.specs.Follow.{Line}
use Rattle.fits_shape.specs.Fits.{Fits}
use Rattle.fits_shape.specs.Taken.{WholeTakes}
use Rattle.fits_text.specs.FitsText.{text_views}

-- a text, its typed tree's flat tree, and a program that fits it as a whole by a derivation, over the table of rows and the library
pub record FitsTyped : Type 0 where
  pub text : List ℕ
  pub spec : Spec
  pub withs : List With
  pub reads : SpecText text spec withs
  pub flat : Flat
  pub flat_is : IsFlatOf spec (flat_whole_of flat)
  pub program : Program
  pub lines : List Line
  pub fits : Fits library (text_views (flat_whole_of flat) program.procs) (flat_whole_of flat) program lines

-- the specification with one operation in each bind
abbrev pub flat_of : FitsTyped → FlatWhole
flat_of x = flat_whole_of x.flat

-- ---- what it then is

abbrev pub IsFormed : FitsTyped → Type 0
IsFormed x = Formed x.program

-- the trees of the specification, its inputs, results and procedures, and the library's that are called
abbrev pub HasItsShape : FitsTyped → Type 0
HasItsShape x = Shape library (flat_of x) x.program

-- the same, with that side of each `either` which the derivation takes
abbrev pub HasItsSides : FitsTyped → Type 0
HasItsSides x = (side : List ℕ → Bool) → WholeTakes (λ to left. side to ≡ left) (flat_of x) x.lines → Made side library (flat_of x) x.program

-- right for the text's specification, under every interleaving
abbrev pub IsSound : FitsTyped → Type 0
IsSound x = Sound x.spec x.program

-- no run goes on where the specification ends
abbrev pub IsBounded : FitsTyped → Type 0
IsBounded x = IsBoundedFor (of_spec x.spec) x.program
