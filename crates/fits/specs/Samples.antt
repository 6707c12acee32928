-- Programs that are followed by their derivations, and some that are not.
use Rattle.std.specs.Prelude.{◌≡◌, ℕ, Bool, true, false, List, [], ◌∷◌, Option, Some, None, codes}
use Rattle.target_code.specs.declared.tree.Branch.{Branch}
use Rattle.target_code.specs.declared.tree.Calc.TheVariants as calc
use Rattle.target_code.specs.declared.tree.Hand.{Hand}
use Rattle.target_code.specs.declared.tree.InParam.{InParam}
use Rattle.target_code.specs.declared.tree.Instr.{Instr}
use Rattle.target_code.specs.declared.tree.Instr.TheVariants.{Const, Mov, Calc, Call, Par, Free}
use Rattle.target_code.specs.declared.tree.Proc.{Proc}
use Rattle.target_code.specs.declared.tree.Rep.{Rep}
use Rattle.target_code.specs.declared.tree.Rep.TheVariants as r
use Rattle.nres_core.specs.FlatTree as t
use Rattle.nres_core.specs.FlatTree.{Binds, Ending, Flats, FlatWhole}
use Rattle.nres_core.specs.declared.flat.Arg.{Arg}
use Rattle.nres_core.specs.declared.flat.Arg.TheVariants as a
use Rattle.nres_core.specs.declared.op.Op.TheVariants as o
use Rattle.nres_core.specs.declared.place.Place.{Place}
use Rattle.nres_core.specs.declared.row.LibName.{LibName}
use Rattle.nres_core.specs.declared.row.LibName.TheVariants as l
use Rattle.rule_check.specs.Check.{book_of}
use Rattle.rule_check.specs.Table.{row_for}
use Rattle.fits.specs.Follow.{Line, Calc_line, Row_line, Reg_line, Any_line, Par_line, Split_line, Views}
use Rattle.fits.specs.Programs.{follow_whole, first_unfound}

abbrev at : Place
at = record { line = 1; column = 1 }

abbrev ends : List Arg → Ending
ends us = record { place = at; results = us }

abbrev named : LibName → List ℕ
named l.ArrayGet = codes "array_get"
named l.ArraySet = codes "array_set"
named l.BitsInsert = codes "bits_insert"
named _ = codes "other"

abbrev param : Rep → Bool → InParam
param x kept = record { name = codes "x"; rep = x; kept = kept }

abbrev whole : List InParam → List Rep → Binds → List Arg → FlatWhole
whole params shown b us = record { params = params; shown = shown; body = record { binds = b; ending = ends us }; names = []; procs = [] }

abbrev proc : List ℕ → ℕ → ℕ → List Instr → List ℕ → Proc
proc name args regs code ret = record { name = name; args = args; regs = regs; code = record { list = code }; ret = ret }

-- the first line that is not found
abbrev missed : FlatWhole → List Proc → List Line → Option ℕ
missed f procs lines = first_unfound lines (follow_whole (record { book = book_of row_for f; procs = procs; lib_name = named }) f lines)

-- ---- an element of a list

abbrev element : FlatWhole
element = whole (param r.Array true ∷ []) (r.Word ∷ []) (t.Apply_to at (1 ∷ []) o.Get None (a.Var 0 ∷ a.Num 0 ∷ []) t.No_bind) (a.Var 1 ∷ [])

abbrev element_main : ℕ → List Proc
element_main i = proc (codes "main") 3 5 (Const 3 i ∷ Call (4 ∷ []) (codes "array_get") (0 ∷ 1 ∷ 2 ∷ 3 ∷ []) ∷ []) (4 ∷ []) ∷ []

abbrev get_line : List Line
get_line = Row_line (codes "array_get") ∷ []

-- ---- a list that is lent to both branches

abbrev both_read : FlatWhole
both_read = whole (param r.Array true ∷ []) (r.Word ∷ r.Word ∷ []) (t.Par at (3 ∷ 4 ∷ []) (t.Apply_to at (1 ∷ []) o.Get None (a.Var 0 ∷ a.Num 0 ∷ []) t.No_bind) (ends (a.Var 1 ∷ [])) (t.Apply_to at (2 ∷ []) o.Get None (a.Var 0 ∷ a.Num 1 ∷ []) t.No_bind) (ends (a.Var 2 ∷ [])) t.No_bind) (a.Var 3 ∷ a.Var 4 ∷ [])

abbrev the_list : List Hand
the_list = record { block = 0; span = None } ∷ []

abbrev side : ℕ → List ℕ → List Hand → List Hand → Branch
side to name hands lends = record { to = to ∷ []; proc = name; args = 0 ∷ 1 ∷ 2 ∷ []; hands = hands; lends = lends }

abbrev get_at : List ℕ → ℕ → Proc
get_at name i = proc name 3 5 (Const 3 i ∷ Call (4 ∷ []) (codes "array_get") (0 ∷ 1 ∷ 2 ∷ 3 ∷ []) ∷ []) (4 ∷ [])

abbrev reading : Branch → List Proc
reading left =
    proc (codes "main") 3 5 (Par left (side 4 (codes "b2") [] the_list) ∷ []) (3 ∷ 4 ∷ []) ∷ get_at (codes "b1") 0 ∷ get_at (codes "b2") 1 ∷ []

abbrev reading_lines : List Line
reading_lines = Par_line ∷ Row_line (codes "array_get") ∷ Row_line (codes "array_get") ∷ []

-- ---- a list in two parts

abbrev parted : FlatWhole
parted = whole (param r.Array false ∷ []) (r.Array ∷ []) (t.Split at (3 ∷ []) 0 (a.Num 1) 1 t.No_bind (ends (a.Var 1 ∷ [])) 2 t.No_bind (ends (a.Var 2 ∷ [])) t.No_bind) (a.Var 3 ∷ [])

abbrev range_hand : ℕ → ℕ → List Hand
range_hand o n = record { block = 0; span = Some (o, n) } ∷ []

abbrev parting : ℕ → List Proc
parting n =
    proc (codes "main") 3 12 (Const 3 1 ∷ Calc 4 calc.Add 1 3 ∷ Calc 5 calc.Sub 2 3 ∷ Par
    (record { to = 6 ∷ 7 ∷ 8 ∷ []; proc = codes "b1"; args = 0 ∷ 1 ∷ 3 ∷ []; hands = range_hand 1 n; lends = [] })
    (record { to = 9 ∷ 10 ∷ 11 ∷ []; proc = codes "b2"; args = 0 ∷ 4 ∷ 5 ∷ []; hands = range_hand 4 5; lends = [] }) ∷ []) (0 ∷ 1 ∷ 2 ∷ [])
    ∷ proc (codes "b1") 3 3 [] (0 ∷ 1 ∷ 2 ∷ []) ∷ proc (codes "b2") 3 3 [] (0 ∷ 1 ∷ 2 ∷ []) ∷ []

-- ---- a number that is known to be below the bound of a set

abbrev inserted : ℕ → FlatWhole
inserted high = whole (param (r.Bits 10) false ∷ []) (r.Bits 10 ∷ []) (t.Any at 1 (a.Num 0) (a.Num high) (t.Apply_to at (2 ∷ []) o.Insert None (a.Var 0 ∷ a.Var 1 ∷ []) t.No_bind)) (a.Var 2 ∷ [])

abbrev inserting : List Proc
inserting = proc (codes "main") 2 6 (Const 2 0 ∷ Const 3 10 ∷ Call (4 ∷ 5 ∷ []) (codes "bits_insert") (3 ∷ 0 ∷ 1 ∷ 2 ∷ []) ∷ []) (4 ∷ 5 ∷ []) ∷ []

abbrev inserting_lines : List Line
inserting_lines = Any_line 2 ∷ Row_line (codes "bits_insert") ∷ []

-- ---- what is seen

pub record Seen : Type 0 where
  -- an element of a list; with another index, without a line, with another row's line, and with a line more
  pub element_fits : missed element (element_main 0) get_line ≡ None
  pub other_index : missed element (element_main 1) get_line ≡ Some 1
  pub no_line : missed element (element_main 0) [] ≡ Some 1
  pub other_row : missed element (element_main 0) (Row_line (codes "array_set") ∷ []) ≡ Some 1
  pub a_line_more : missed element (element_main 0) (Row_line (codes "array_get") ∷ Reg_line ∷ []) ≡ Some 2
  -- a list that both branches use is lent to both; it may not be handed to one
  pub lent_fits : missed both_read (reading (side 3 (codes "b1") [] the_list)) reading_lines ≡ None
  pub handed_does_not : missed both_read (reading (side 3 (codes "b1") the_list [])) reading_lines ≡ Some 1
  -- the parts of a list are handed as their ranges, and the left one is the first
  pub parts_fit : missed parted (parting 3) (Split_line 4 5 ∷ []) ≡ None
  pub too_long_does_not : missed parted (parting 2) (Split_line 4 5 ∷ []) ≡ Some 1
  -- the fact that `any` gives
  pub known_fits : missed (inserted 10) inserting inserting_lines ≡ None
  pub unknown_does_not : missed (inserted 11) inserting inserting_lines ≡ Some 2
