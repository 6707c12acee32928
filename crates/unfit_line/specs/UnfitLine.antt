-- The line that is told of a program that does not fit, as a function.
use Rattle.std.specs.Prelude.{◌≡◌, ℕ, zero, suc, ◌-◌, Bool, true, ◌||◌, cond, List, length, Option, Some, None}
use Rattle.nres_core.specs.FlatTree.{FlatWhole}
use Rattle.target_code.specs.declared.tree.Proc.{Proc}
use Rattle.target_code.specs.declared.tree.Program.{Program}
use Rattle.fits.specs.Follow.{Answer, Found, Line, Unmet, Views}
use Rattle.fits.specs.Programs.{follow_whole}
use Rattle.fits_shape.specs.Fits.{Fits, IsUnfitAt, Stands, of_program}
use Rattle.unfit_line.specs.Tests.{stands_at}

-- a test that tells of two procedures whether they are equal
pub record TellsEqual (same : Proc → Proc → Bool) : Type 0 where
  pub equal : (p q : Proc) → same p q ≡ true → p ≡ q
  pub itself : (p : Proc) → same p p ≡ true

-- one of the numbers up to this one passes
abbrev pub some_up_to : (ℕ → Bool) → ℕ → Bool
some_up_to test zero = test zero
some_up_to test (suc m) = test (suc m) || some_up_to test m

-- by what the following came to: the line behind as many as were found; where all were, none, if as many branches stand there as were forked
unfoldable pub told : (ℕ → Bool) → List Line → Answer → Option ℕ
told stands lines (Found last code left) = cond (stands last.branch) None (Some 1)
told stands lines (Unmet left) = Some (suc (length lines - length left))

-- the line that is told of a program, counted from 1: the first where it does not stand as a whole, with any number of branches
abbrev pub unfit_line : (Proc → Proc → Bool) → List Proc → Views → FlatWhole → Program → List Line → Option ℕ
unfit_line same library V f T lines =
    cond (some_up_to (stands_at same library f T) (length T.procs)) (told (stands_at same library f T) lines (follow_whole (of_program V T) f lines)) (Some 1)

-- ---- the laws

-- the test passes with a number exactly where the program stands with as many branches
pub record IsTested (same : Proc → Proc → Bool) (library : List Proc) (f : FlatWhole) (T : Program) : Type 0 where
  pub passes : (s : Stands library f T) → stands_at same library f T (length s.branches) ≡ true
  pub stands : (m : ℕ) → stands_at same library f T m ≡ true → (s : Stands library f T) × (m ≡ length s.branches)

-- none exactly where the program fits, and else the line that is told of it, which is the only one
pub record IsTold (library : List Proc) (V : Views) (f : FlatWhole) (T : Program) (lines : List Line) (said : Option ℕ) : Type 0 where
  pub fits : said ≡ None → Fits library V f T lines
  pub none : Fits library V f T lines → said ≡ None
  pub line : (n : ℕ) → said ≡ Some n → IsUnfitAt library V f T lines n
  pub only : (n : ℕ) → IsUnfitAt library V f T lines n → said ≡ Some n

-- for each test that tells whether procedures are equal, and for any library and table
pub record LineIsTold : Type 0 where
  pub tested : (same : Proc → Proc → Bool) → TellsEqual same → (library : List Proc) (f : FlatWhole) (T : Program) → IsTested same library f T
  pub told :
      (same : Proc → Proc → Bool) → TellsEqual same → (library : List Proc) (V : Views) (f : FlatWhole) (T : Program) (lines : List Line)
      → IsTold library V f T lines (unfit_line same library V f T lines)
