-- When a program fits a flat specification by a derivation, over a table of rows and a library.
use Rattle.std.specs.Prelude.{◌≡◌, ℕ, ◌⊎◌, suc, ◌-◌, Bool, List, [], ◌∷◌, ◌++◌, length, Contains, codes}
use Rattle.nres_core.specs.FlatTree.{FlatWhole}
use Rattle.rule_check.specs.Check.{sigs_of}
use Rattle.soundness.specs.Nodes.{numbered}
use Rattle.soundness.specs.Shape.{AreRising, IsNeeded, Made, Shape, names_of}
use Rattle.target_code.specs.Formed.{Formed}
use Rattle.target_code.specs.declared.tree.Proc.{Proc}
use Rattle.target_code.specs.declared.tree.Program.{Program}
use Rattle.fits.specs.Places.{State}
use Rattle.fits.specs.Follow.{Line, Views, Found, Unmet}
use Rattle.fits.specs.Programs.{follow_whole}
use Rattle.fits_shape.specs.Taken.{WholeTakes}
use Rattle.fits_shape.specs.Trees.{NamesOperations}

-- the same table, and the procedures of a program
abbrev pub of_program : Views → Program → Views
of_program V T = record { book = V.book; procs = T.procs; lib_name = V.lib_name }

-- what is asked of a program as a whole: it is formed, and has the inputs, the results and the procedures of a specification, with those of the library that
-- are called, word for word
pub record Stands (library : List Proc) (f : FlatWhole) (T : Program) : Type 0 where
  pub formed : Formed T
  pub main : Proc
  pub own : List Proc
  pub branches : List Proc
  pub called : List Proc
  -- the inputs are the parameters with their representations and whether they are kept, the results those shown
  pub ins : T.ins ≡ f.params
  pub outs : T.outs ≡ f.shown
  -- the procedures are `main`, p1, p2 and so on, the branches b1, b2 and so on, and then the library's that are called, by name
  pub procs : T.procs ≡ main ∷ (own ++ (branches ++ called))
  pub main_name : main.name ≡ codes "main"
  pub own_names : names_of own ≡ numbered (codes "p") 1 (length f.procs)
  pub branch_names : names_of branches ≡ numbered (codes "b") 1 (length branches)
  pub rising : AreRising (names_of called)
  pub no_more : (q : Proc) → Contains called q → IsNeeded (main ∷ (own ++ branches)) called q.name
  -- what is called by name, in helpers too, is a procedure of the text or is the library's, word for word
  pub known : (name : List ℕ) → IsNeeded (main ∷ (own ++ branches)) called name → Contains (names_of own) name ⊎ Contains (names_of called) name
  pub word_for_word : (q : Proc) → Contains called q → Contains library q

-- a program fits a flat specification by a derivation: as a whole, and followed line by line, with as many branches as are forked
pub record Fits (library : List Proc) (V : Views) (f : FlatWhole) (T : Program) (lines : List Line) : Type 0 where
  pub stands : Stands library f T
  pub last : State
  pub followed : follow_whole (of_program V T) f lines ≡ Found last [] []
  pub as_many : last.branch ≡ length stands.branches

-- a program that does not fit, and the line that is told, counted from 1: behind as many lines as were found before the first failure. What is asked of the
-- program as a whole comes before all lines
pub data IsUnfitAt (library : List Proc) (V : Views) (f : FlatWhole) (T : Program) (lines : List Line) : ℕ → Type 0 where
  whole : (Stands library f T → ⊥) → IsUnfitAt library V f T lines 1
  line : {left : List Line} → Stands library f T → follow_whole (of_program V T) f lines ≡ Unmet left → IsUnfitAt library V f T lines (suc (length lines - length left))
  too_many : {last : State} → ((s : Stands library f T) → last.branch ≡ length s.branches → ⊥) → follow_whole (of_program V T) f lines ≡ Found last [] [] → IsUnfitAt library V f T lines 1

-- a program that is told a line does not fit
abbrev pub UnfitDoNotFit : Type 0
UnfitDoNotFit = (library : List Proc) (V : Views) (f : FlatWhole) (T : Program) (lines : List Line) (n : ℕ) → IsUnfitAt library V f T lines n → Fits library V f T lines → ⊥

-- what fits has the shape, and, where the sides that the derivation takes are those of `side`, has these
pub record HaveShape : Type 0 where
  pub shape :
      (library : List Proc) (V : Views) (f : FlatWhole) (T : Program) (lines : List Line) → NamesOperations V → V.book.sigs ≡ sigs_of f.procs
      → Fits library V f T lines → Shape library f T
  pub made :
      (side : List ℕ → Bool) (library : List Proc) (V : Views) (f : FlatWhole) (T : Program) (lines : List Line) → NamesOperations V → V.book.sigs ≡ sigs_of f.procs
      → Fits library V f T lines → WholeTakes (λ to left. side to ≡ left) f lines → Made side library f T
