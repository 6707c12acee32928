-- What is followed has the trees of its specification.
use Rattle.std.specs.Prelude.{◌≡◌, ℕ, suc, Bool, true, false, List, [], ◌∷◌, length, Option, Some, codes}
use Rattle.nres_core.specs.FlatTree.{FlatWhole}
use Rattle.nres_core.specs.declared.op.Op.{Op}
use Rattle.nres_core.specs.declared.row.LibName.{LibName}
use Rattle.nres_core.specs.declared.row.RowCode.{RowCode}
use Rattle.nres_core.specs.declared.row.RowCode.TheVariants as c
use Rattle.rule_check.specs.Check.{sigs_of}
use Rattle.rule_check.specs.Table.{Rule}
use Rattle.soundness.specs.Nodes.{is_size, library_op, made_kind, numbered}
use Rattle.soundness.specs.Shape.{SameTrees, any_side, bodies}
use Rattle.target_code.specs.declared.tree.Instr.{Instr}
use Rattle.target_code.specs.declared.tree.Proc.{Proc}
use Rattle.target_code.specs.declared.tree.Rep.{Rep}
use Rattle.target_meaning.specs.Leaf.{find}
use Rattle.fits.specs.Places.{State}
use Rattle.fits.specs.Follow.{Line, Views, Found, proc_name}
use Rattle.fits.specs.Programs.{follow_whole}
use Rattle.fits_shape.specs.Taken.{WholeTakes}

-- a row by register is one of a length or a size; each other has the procedure that is for its operation and, where it makes a container, for its kind
abbrev pub IsNamed : (LibName → List ℕ) → Op → Option Rep → RowCode → Type 0
IsNamed names op made (c.Register j) = is_size op ≡ true
IsNamed names op made (c.Proc name) = (is_size op ≡ false) × (library_op (names name) ≡ Some (op, made_kind made))

-- each row of the table is named so
pub record NamesOperations (V : Views) : Type 0 where
  pub rows : (op : Op) (xs : List Rep) (made : Option Rep) (x : Rule) → V.book.row_for op xs made ≡ Some x → IsNamed V.lib_name op made x.code

-- procedures are found by the names pk in order, from the g-th on
abbrev pub AreFound : List Proc → ℕ → List Proc → Type 0
AreFound procs g [] = Unit {0}
AreFound procs g (q ∷ qs) = (find procs (proc_name g) ≡ Some q) × AreFound procs (suc g) qs

-- `main` and the procedures of the text are found, and have the trees of the specification and its procedures; so many branches, b1, b2 and so on, stand in
-- text order
pub record Trees (may : List ℕ → Bool → Type 0) (procs : List Proc) (f : FlatWhole) (branches : ℕ) : Type 0 where
  pub main : Proc
  pub own : List Proc
  pub main_found : find procs (codes "main") ≡ Some main
  pub own_found : AreFound procs 0 own
  pub trees : SameTrees may procs (length f.procs) (f.body.binds ∷ bodies f.procs) (main ∷ own) (numbered (codes "b") 1 branches)

-- what is followed has its trees, where the sides that its derivation takes may be taken
abbrev pub TreesBy : (List ℕ → Bool → Type 0) → Type 0
TreesBy may =
    (V : Views) (f : FlatWhole) → NamesOperations V → V.book.sigs ≡ sigs_of f.procs
    → (lines left : List Line) (last : State) (code : List Instr) → follow_whole V f lines ≡ Found last code left → WholeTakes may f lines
    → Trees may V.procs f last.branch

-- any sides, and certain ones
pub record HaveTrees : Type 0 where
  pub any :
      (V : Views) (f : FlatWhole) → NamesOperations V → V.book.sigs ≡ sigs_of f.procs
      → (lines left : List Line) (last : State) (code : List Instr) → follow_whole V f lines ≡ Found last code left → Trees any_side V.procs f last.branch
  pub chosen : (side : List ℕ → Bool) → TreesBy (λ to left. side to ≡ left)
