-- The tests on small programs, and lines that are told of them.
use Rattle.std.specs.Prelude.{◌≡◌, ℕ, nat_eq, Bool, true, false, List, [], ◌∷◌, Option, Some, None, codes}
use Rattle.target_code.specs.declared.tree.Calc.TheVariants as calc
use Rattle.target_code.specs.declared.tree.InParam.{InParam}
use Rattle.target_code.specs.declared.tree.Instr.{Instr}
use Rattle.target_code.specs.declared.tree.Instr.TheVariants.{Const, Calc, Call, If, While}
use Rattle.target_code.specs.declared.tree.Proc.{Proc}
use Rattle.target_code.specs.declared.tree.Rep.TheVariants as r
use Rattle.nres_core.specs.FlatTree as t
use Rattle.nres_core.specs.FlatTree.{FlatWhole}
use Rattle.nres_core.specs.declared.flat.Arg.TheVariants as a
use Rattle.nres_core.specs.declared.place.Place.{Place}
use Rattle.rule_check.specs.Check.{book_of}
use Rattle.rule_check.specs.Table.{row_for}
use Rattle.fits.specs.Follow.{Line, Calc_line}
use Rattle.fits.specs.Programs.{follow_whole}
use Rattle.unfit_line.specs.Tests.{calls_of, not_called, rise, same_ins}
use Rattle.unfit_line.specs.UnfitLine.{told}

abbrev at : Place
at = record { line = 1; column = 1 }

-- a number, and one more
abbrev one_more : FlatWhole
one_more = record {
  params = record { name = codes "x"; rep = r.Word; kept = false } ∷ [];
  shown = r.Word ∷ [];
  body = record { binds = t.Calc_to at 1 calc.Add (a.Var 0) (a.Num 1) t.No_bind; ending = record { place = at; results = a.Var 1 ∷ [] } };
  names = [];
  procs = [];
}

abbrev proc : List ℕ → ℕ → ℕ → List Instr → List ℕ → Proc
proc name args regs code ret = record { name = name; args = args; regs = regs; code = record { list = code }; ret = ret }

abbrev main : ℕ → Proc
main n = proc (codes "main") 1 3 (Const 1 n ∷ Calc 2 calc.Add 0 1 ∷ []) (2 ∷ [])

-- the line of `one_more` that is told of this `main`, if it stands with so many branches
abbrev line_with : ℕ → ℕ → List Line → Option ℕ
line_with branches n lines = told (λ m. nat_eq m branches) lines (follow_whole (record { book = book_of row_for one_more; procs = main n ∷ []; lib_name = λ name. [] }) one_more lines)

-- a procedure with this code
abbrev having : List ℕ → List Instr → Proc
having name code = proc name 0 1 code []

abbrev call : List ℕ → Instr
call name = Call [] name []

-- `f` is called in a side of an `if`, `g` in the condition of a loop
abbrev pub inside : Proc
inside = having (codes "main") (If 0 (record { list = call (codes "f") ∷ [] }) (record { list = [] }) ∷ While (record { list = call (codes "g") ∷ [] }) 0 (record { list = [] }) ∷ [])

abbrev pub g : Proc
g = having (codes "g") []

-- it calls `g`
abbrev pub h : Proc
h = having (codes "h") (call (codes "g") ∷ [])

abbrev input : Bool → List InParam
input kept = record { name = codes "x"; rep = r.Array; kept = kept } ∷ []

-- ---- what is seen

pub record Seen : Type 0 where
  pub calls : calls_of (inside ∷ []) ≡ codes "f" ∷ codes "g" ∷ []
  pub rising : rise (codes "a" ∷ codes "ab" ∷ codes "b" ∷ []) ≡ true
  pub not_rising : rise (codes "a" ∷ codes "b" ∷ codes "ab" ∷ []) ≡ false
  -- where `h` is called, `g` is; where `g` alone is called, `h` is not; and where none is, neither
  pub by_another : not_called 2 (codes "h" ∷ []) (g ∷ h ∷ []) ≡ []
  pub one_alone : not_called 2 (codes "g" ∷ []) (g ∷ h ∷ []) ≡ h ∷ []
  pub by_none : not_called 2 [] (g ∷ h ∷ []) ≡ g ∷ h ∷ []
  -- an input that is kept is not one that is not
  pub kept : same_ins (input true) (input true) ≡ true
  pub not_kept : same_ins (input true) (input false) ≡ false
  -- one more is found; two more, no line, and a line more
  pub found : line_with 0 1 (Calc_line ∷ []) ≡ None
  pub two_more : line_with 0 2 (Calc_line ∷ []) ≡ Some 1
  pub no_line : line_with 0 1 [] ≡ Some 1
  pub a_line_more : line_with 0 1 (Calc_line ∷ Calc_line ∷ []) ≡ Some 2
  -- a branch that is not forked
  pub not_forked : line_with 1 1 (Calc_line ∷ []) ≡ Some 1
