-- What is followed with some procedures is followed as well where more are found.
use Rattle.std.specs.Prelude.{◌≡◌, ℕ, List}
use Rattle.std.specs.Prelude.{Some}
use Rattle.target_code.specs.declared.tree.Instr.{Instr}
use Rattle.target_code.specs.declared.tree.Proc.{Proc}
use Rattle.target_meaning.specs.Leaf.{find}
use Rattle.nres_core.specs.FlatTree.{FlatWhole}
use Rattle.fits.specs.Places.{State}
use Rattle.fits.specs.Follow.{Line, Views, Found}
use Rattle.fits.specs.Programs.{follow_whole}

-- the same views of other procedures
abbrev pub of_procs : Views → List Proc → Views
of_procs V more = record { book = V.book; procs = more; lib_name = V.lib_name }

-- what is found in the one list is found in the other
abbrev pub FindsAll : List Proc → List Proc → Type 0
FindsAll more few = (name : List ℕ) (p : Proc) → find few name ≡ Some p → find more name ≡ Some p

-- a derivation that is followed with the procedures of the views is followed to the same end with more
abbrev pub MoreFollow : Type 0
MoreFollow =
    (V : Views) (more : List Proc) → FindsAll more V.procs → (f : FlatWhole) (lines : List Line) (last : State) (code : List Instr) (left : List Line)
    → follow_whole V f lines ≡ Found last code left → follow_whole (of_procs V more) f lines ≡ Found last code left
