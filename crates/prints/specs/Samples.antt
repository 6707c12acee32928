-- Programs that are printed, and specifications that are refused.
use Rattle.std.specs.Prelude.{◌≡◌, ℕ, Bool, true, false, List, [], ◌∷◌, length, Some, None, Result, Ok, Err, codes}
use Rattle.target_code.specs.declared.tree.Branch.{Branch}
use Rattle.target_code.specs.declared.tree.Calc.TheVariants as calc
use Rattle.target_code.specs.declared.tree.Code.{Code}
use Rattle.target_code.specs.declared.tree.Hand.{Hand}
use Rattle.target_code.specs.declared.tree.InParam.{InParam}
use Rattle.target_code.specs.declared.tree.Instr.{Instr}
use Rattle.target_code.specs.declared.tree.Instr.TheVariants as i
use Rattle.target_code.specs.declared.tree.Proc.{Proc}
use Rattle.target_code.specs.declared.tree.Rep.{Rep}
use Rattle.target_code.specs.declared.tree.Rep.TheVariants as r
use Rattle.nres_core.specs.FlatTree as t
use Rattle.nres_core.specs.FlatTree.{Binds, Ending, Flats, FlatProc, FlatWhole}
use Rattle.nres_core.specs.declared.flat.Arg.{Arg}
use Rattle.nres_core.specs.declared.flat.Arg.TheVariants as a
use Rattle.nres_core.specs.declared.op.Op.TheVariants as o
use Rattle.nres_core.specs.declared.place.Place.{Place}
use Rattle.nres_core.specs.declared.refusal.Refusal.{Refusal}
use Rattle.nres_core.specs.declared.refusal.Why.TheVariants as w
use Rattle.nres_core.specs.declared.row.LibName.{LibName}
use Rattle.nres_core.specs.declared.row.LibName.TheVariants as l
use Rattle.rule_check.specs.Check.{book_of}
use Rattle.rule_check.specs.Table.{row_for}
use Rattle.fits.specs.Follow.{Line, Calc_line, Row_line, Reg_line, Any_line, Left_line, Right_line, If_line, While_line, Par_line, Split_line, Use_line}
use Rattle.prints.specs.Programs.{Procs, print_all}

abbrev at : Place
at = record { line = 1; column = 1 }

abbrev ends : List Arg → Ending
ends us = record { place = at; results = us }

abbrev named : LibName → List ℕ
named l.ArrayGet = codes "array_get"
named l.ArraySet = codes "array_set"
named l.ArrayCopy = codes "array_copy"
named l.VecNil = codes "vec_nil"
named l.BitsEmpty = codes "bits_empty"
named l.BitsInsert = codes "bits_insert"
named _ = codes "other"

abbrev param : Rep → Bool → InParam
param x kept = record { name = codes "x"; rep = x; kept = kept }

abbrev whole : List InParam → List Rep → Binds → List Arg → FlatWhole
whole params shown b us = record { params = params; shown = shown; body = record { binds = b; ending = ends us }; names = []; procs = [] }

abbrev proc : List ℕ → ℕ → ℕ → List Instr → List ℕ → Proc
proc name args regs code ret = record { name = name; args = args; regs = regs; code = record { list = code }; ret = ret }

abbrev code : List Instr → Code
code is = record { list = is }

-- what is printed: `main` and the procedures of the text, the branches, and the lines of their derivation
abbrev printed : FlatWhole → Result Procs Refusal
printed f = print_all (record { book = book_of row_for f; lib_name = named }) f

abbrev procs : List Proc → List Proc → List Line → Result Procs Refusal
procs own made lines = Ok (record { own = own; made = made; lines = lines; branch = length made })

-- ---- straight code

abbrev one : FlatWhole
one = whole [] (r.Word ∷ []) t.No_bind (a.Num 1 ∷ [])

-- x <- get xs 0, return x
abbrev first : FlatWhole
first = whole (param r.Array true ∷ []) (r.Word ∷ []) (t.Apply_to at (1 ∷ []) o.Get None (a.Var 0 ∷ a.Num 0 ∷ []) t.No_bind) (a.Var 1 ∷ [])

-- ys <- set xs 0 7, x <- get xs 0
abbrev lost : FlatWhole
lost = whole (param r.Array false ∷ []) (r.Word ∷ []) (t.Apply_to at (1 ∷ []) o.SetAt None (a.Var 0 ∷ a.Num 0 ∷ a.Num 7 ∷ [])
    (t.Apply_to at (2 ∷ []) o.Get None (a.Var 0 ∷ a.Num 0 ∷ []) t.No_bind)) (a.Var 2 ∷ [])

-- n <- len xs, x <- any n 9, y <- any 3 9, assert y < n, return x + y: what is any number is the lower one, and the list goes at the end
abbrev chosen : FlatWhole
chosen = whole (param r.Array false ∷ []) (r.Word ∷ []) (t.Apply_to at (1 ∷ []) o.Len None (a.Var 0 ∷ []) (t.Any at 2 (a.Var 1) (a.Num 9) (t.Any at 3 (a.Num 3) (a.Num 9)
    (t.Assert at (t.Calc_to at 4 calc.Lt (a.Var 3) (a.Var 1) t.No_bind) (a.Var 4) (t.Calc_to at 5 calc.Add (a.Var 2) (a.Var 3) t.No_bind))))) (a.Var 5 ∷ [])

-- ---- sides and loops

-- if b then 1 else { ys <- set xs 0 7; 2 }: the list is freed on the left, what it became on the right
abbrev sides : FlatWhole
sides = whole (param r.Array false ∷ param r.Flag false ∷ []) (r.Word ∷ [])
    (t.If at (3 ∷ []) (a.Var 1) t.No_bind (ends (a.Num 1 ∷ [])) (t.Apply_to at (2 ∷ []) o.SetAt None (a.Var 0 ∷ a.Num 0 ∷ a.Num 7 ∷ []) t.No_bind) (ends (a.Num 2 ∷ [])) t.No_bind)
    (a.Var 3 ∷ [])

-- (i, s) <- while (i, s) from (0, xs) if i < 5 do return (i + 1, s)
abbrev counting : FlatWhole
counting = whole (param r.Array false ∷ []) (r.Word ∷ r.Array ∷ [])
    (t.While at (5 ∷ 6 ∷ []) (1 ∷ 2 ∷ []) (a.Num 0 ∷ a.Var 0 ∷ []) (t.Calc_to at 3 calc.Lt (a.Var 1) (a.Num 5) t.No_bind) (a.Var 3)
    (t.Calc_to at 4 calc.Add (a.Var 1) (a.Num 1) t.No_bind) (ends (a.Var 4 ∷ a.Var 2 ∷ [])) t.No_bind)
    (a.Var 5 ∷ a.Var 6 ∷ [])

-- (a, b) <- while (x, y) from (1, 2) if x < y do return (y, x)
abbrev turning : FlatWhole
turning = whole [] (r.Word ∷ []) (t.While at (3 ∷ 4 ∷ []) (0 ∷ 1 ∷ []) (a.Num 1 ∷ a.Num 2 ∷ []) (t.Calc_to at 2 calc.Lt (a.Var 0) (a.Var 1) t.No_bind) (a.Var 2)
    t.No_bind (ends (a.Var 1 ∷ a.Var 0 ∷ [])) t.No_bind) (a.Var 3 ∷ [])

-- ---- either

-- either set xs 0 7 and get it, or 5: the left side passes, and what it made is freed at its end
abbrev left_side : FlatWhole
left_side = whole (param r.Array false ∷ []) (r.Word ∷ []) (t.Either at (3 ∷ [])
    (t.Apply_to at (1 ∷ []) o.SetAt None (a.Var 0 ∷ a.Num 0 ∷ a.Num 7 ∷ []) (t.Apply_to at (2 ∷ []) o.Get None (a.Var 1 ∷ a.Num 0 ∷ []) t.No_bind)) (ends (a.Var 2 ∷ []))
    t.No_bind (ends (a.Num 5 ∷ [])) (t.Calc_to at 4 calc.Add (a.Var 3) (a.Var 3) t.No_bind)) (a.Var 4 ∷ [])

-- the left side uses the list after it is gone: the right one, whose result is a literal wherever it is used
abbrev right_side : FlatWhole
right_side = whole (param r.Array true ∷ []) (r.Word ∷ []) (t.Either at (2 ∷ [])
    (t.Apply_to at (1 ∷ []) o.SetAt None (a.Var 0 ∷ a.Num 0 ∷ a.Num 7 ∷ []) t.No_bind) (ends (a.Num 5 ∷ []))
    t.No_bind (ends (a.Num 6 ∷ [])) (t.Calc_to at 3 calc.Add (a.Var 2) (a.Var 2) t.No_bind)) (a.Var 3 ∷ [])

-- ---- branches

abbrev two : FlatWhole
two = whole (param r.Array true ∷ []) (r.Word ∷ r.Word ∷ [])
    (t.Par at (3 ∷ 4 ∷ []) (t.Apply_to at (1 ∷ []) o.Get None (a.Var 0 ∷ a.Num 0 ∷ []) t.No_bind) (ends (a.Var 1 ∷ []))
    (t.Apply_to at (2 ∷ []) o.Get None (a.Var 0 ∷ a.Num 1 ∷ []) t.No_bind) (ends (a.Var 2 ∷ [])) t.No_bind) (a.Var 3 ∷ a.Var 4 ∷ [])

abbrev the_list : List Hand
the_list = record { block = 0; span = None } ∷ []

abbrev branch : List ℕ → List ℕ → List ℕ → List Hand → List Hand → Branch
branch to name args hands lends = record { to = to; proc = name; args = args; hands = hands; lends = lends }

abbrev get_at : List ℕ → ℕ → Proc
get_at name n = proc name 3 5 (i.Const 3 n ∷ i.Call (4 ∷ []) (codes "array_get") (0 ∷ 1 ∷ 2 ∷ 3 ∷ []) ∷ []) (4 ∷ [])

-- an inner fork on the left: outer left, what is inside it, outer right
abbrev nested : FlatWhole
nested = whole (param r.Word false ∷ []) (r.Word ∷ r.Word ∷ r.Word ∷ [])
    (t.Par at (3 ∷ 4 ∷ 5 ∷ []) (t.Par at (1 ∷ 2 ∷ []) t.No_bind (ends (a.Var 0 ∷ [])) t.No_bind (ends (a.Num 2 ∷ [])) t.No_bind) (ends (a.Var 1 ∷ a.Var 2 ∷ []))
    t.No_bind (ends (a.Num 3 ∷ [])) t.No_bind) (a.Var 3 ∷ a.Var 4 ∷ a.Var 5 ∷ [])

-- (ys, a, b) <- split xs at k left l: n <- len l, return (l, n) right r: m <- len r, return (r, m)
abbrev halves : FlatWhole
halves = whole (param r.Array false ∷ param r.Word false ∷ []) (r.Array ∷ r.Word ∷ r.Word ∷ [])
    (t.Split at (6 ∷ 7 ∷ 8 ∷ []) 0 (a.Var 1) 2 (t.Apply_to at (3 ∷ []) o.Len None (a.Var 2 ∷ []) t.No_bind) (ends (a.Var 2 ∷ a.Var 3 ∷ []))
    4 (t.Apply_to at (5 ∷ []) o.Len None (a.Var 4 ∷ []) t.No_bind) (ends (a.Var 4 ∷ a.Var 5 ∷ [])) t.No_bind) (a.Var 6 ∷ a.Var 7 ∷ a.Var 8 ∷ [])

abbrev range : ℕ → ℕ → ℕ → List Hand
range b o n = record { block = b; span = Some (o, n) } ∷ []

-- ---- calls

-- ys <- call f(xs, 3); fun f (l: list as slice, n: nat) : list as slice, return l
abbrev calling : FlatWhole
calling = record {
  params = param r.Array false ∷ [];
  shown = r.Array ∷ [];
  body = record { binds = t.Call at (1 ∷ []) 0 (a.Var 0 ∷ a.Num 3 ∷ []) t.No_bind; ending = ends (a.Var 1 ∷ []) };
  names = [];
  procs = record { name = codes "f"; params = param r.Slice false ∷ param r.Word false ∷ []; shown = r.Slice ∷ []; body = record { binds = t.No_bind; ending = ends (a.Var 2 ∷ []) } } ∷ [];
}

-- ---- sets

-- s <- empty as bits 10, x <- any 0 10, t <- insert s x
abbrev inserted : FlatWhole
inserted = whole [] (r.Bits 10 ∷ []) (t.Apply_to at (0 ∷ []) o.EmptySet (Some (r.Bits 10)) [] (t.Any at 1 (a.Num 0) (a.Num 10)
    (t.Apply_to at (2 ∷ []) o.Insert None (a.Var 0 ∷ a.Var 1 ∷ []) t.No_bind))) (a.Var 2 ∷ [])

-- ---- what is seen

pub record Seen : Type 0 where
  -- a number; an element of a list
  pub one_is : printed one ≡ procs (proc (codes "main") 0 1 (i.Const 0 1 ∷ []) (0 ∷ []) ∷ []) [] []
  pub first_is :
      printed first ≡ procs
      (proc (codes "main") 3 5 (i.Const 3 0 ∷ i.Call (4 ∷ []) (codes "array_get") (0 ∷ 1 ∷ 2 ∷ 3 ∷ []) ∷ []) (4 ∷ []) ∷ []) []
      (Row_line (codes "array_get") ∷ [])
  -- the refusal of the rule check
  pub lost_is_refused :
      printed lost ≡ Err (record { place = at; op = codes "get"; reps = r.Array ∷ r.Word ∷ []; why = w.Gone (codes "_") })
  -- a length and a number of a choice have no code of their own
  pub chosen_is :
      printed chosen ≡ procs
      (proc (codes "main") 3 5 (i.Const 3 3 ∷ i.Calc 4 calc.Add 2 3 ∷ i.Free 0 ∷ []) (4 ∷ []) ∷ []) []
      (Reg_line ∷ Any_line 2 ∷ Any_line 3 ∷ Calc_line ∷ [])
  -- the second side uses the registers of the first one again
  pub sides_are :
      printed sides ≡ procs
      (proc (codes "main") 4 10 (i.If 3 (code (i.Free 0 ∷ i.Const 9 1 ∷ []))
      (code (i.Const 4 0 ∷ i.Const 5 7 ∷ i.Call (6 ∷ 7 ∷ 8 ∷ []) (codes "array_set") (0 ∷ 1 ∷ 2 ∷ 4 ∷ 5 ∷ []) ∷ i.Free 6 ∷ i.Const 9 2 ∷ [])) ∷ []) (9 ∷ []) ∷ []) []
      (If_line (9 ∷ []) ∷ Row_line (codes "array_set") ∷ [])
  -- a loop's variable that stays is not moved, and a number comes where it is to be at once
  pub counting_is :
      printed counting ≡ procs
      (proc (codes "main") 3 11 (i.Const 3 0 ∷ i.Mov 4 0 ∷ i.Mov 5 1 ∷ i.Mov 6 2
      ∷ i.While (code (i.Const 7 5 ∷ i.Calc 8 calc.Lt 3 7 ∷ [])) 8 (code (i.Const 9 1 ∷ i.Calc 10 calc.Add 3 9 ∷ i.Mov 3 10 ∷ [])) ∷ []) (3 ∷ 4 ∷ 5 ∷ 6 ∷ []) ∷ []) []
      (While_line (3 ∷ 4 ∷ 5 ∷ 6 ∷ []) ∷ Calc_line ∷ Calc_line ∷ [])
  -- two that change places need a third register
  pub turning_is :
      printed turning ≡ procs
      (proc (codes "main") 0 4 (i.Const 0 1 ∷ i.Const 1 2
      ∷ i.While (code (i.Calc 2 calc.Lt 0 1 ∷ [])) 2 (code (i.Mov 3 0 ∷ i.Mov 0 1 ∷ i.Mov 1 3 ∷ [])) ∷ []) (0 ∷ []) ∷ []) []
      (While_line (0 ∷ 1 ∷ []) ∷ Calc_line ∷ [])
  -- the left side of a choice where it passes, else the right one
  pub left_is :
      printed left_side ≡ procs
      (proc (codes "main") 3 11 (i.Const 3 0 ∷ i.Const 4 7 ∷ i.Call (5 ∷ 6 ∷ 7 ∷ []) (codes "array_set") (0 ∷ 1 ∷ 2 ∷ 3 ∷ 4 ∷ [])
      ∷ i.Const 8 0 ∷ i.Call (9 ∷ []) (codes "array_get") (5 ∷ 6 ∷ 7 ∷ 8 ∷ []) ∷ i.Free 5 ∷ i.Calc 10 calc.Add 9 9 ∷ []) (10 ∷ []) ∷ []) []
      (Left_line ∷ Row_line (codes "array_set") ∷ Row_line (codes "array_get") ∷ Calc_line ∷ [])
  pub right_is :
      printed right_side ≡ procs
      (proc (codes "main") 3 6 (i.Const 3 6 ∷ i.Const 4 6 ∷ i.Calc 5 calc.Add 3 4 ∷ []) (5 ∷ []) ∷ []) [] (Right_line ∷ Calc_line ∷ [])
  -- a list that both branches use is lent to both
  pub two_is :
      printed two ≡ procs
      (proc (codes "main") 3 5 (i.Par (branch (3 ∷ []) (codes "b1") (0 ∷ 1 ∷ 2 ∷ []) [] the_list) (branch (4 ∷ []) (codes "b2") (0 ∷ 1 ∷ 2 ∷ []) [] the_list) ∷ []) (3 ∷ 4 ∷ []) ∷ [])
      (get_at (codes "b1") 0 ∷ get_at (codes "b2") 1 ∷ [])
      (Par_line ∷ Row_line (codes "array_get") ∷ Row_line (codes "array_get") ∷ [])
  -- branches are numbered outer left, what is inside it, outer right
  pub nested_is :
      printed nested ≡ procs
      (proc (codes "main") 1 4 (i.Par (branch (1 ∷ 2 ∷ []) (codes "b1") (0 ∷ []) [] []) (branch (3 ∷ []) (codes "b4") [] [] []) ∷ []) (1 ∷ 2 ∷ 3 ∷ []) ∷ [])
      (proc (codes "b1") 1 3 (i.Par (branch (1 ∷ []) (codes "b2") (0 ∷ []) [] []) (branch (2 ∷ []) (codes "b3") [] [] []) ∷ []) (1 ∷ 2 ∷ [])
      ∷ proc (codes "b2") 1 1 [] (0 ∷ []) ∷ proc (codes "b3") 0 1 (i.Const 0 2 ∷ []) (0 ∷ []) ∷ proc (codes "b4") 0 1 (i.Const 0 3 ∷ []) (0 ∷ []) ∷ [])
      (Par_line ∷ Par_line ∷ [])
  -- the parts of a list are handed as their ranges, and it stands where it stood
  pub halves_are :
      printed halves ≡ procs
      (proc (codes "main") 4 14 (i.Calc 4 calc.Add 1 3 ∷ i.Calc 5 calc.Sub 2 3
      ∷ i.Par (branch (6 ∷ 7 ∷ 8 ∷ 9 ∷ []) (codes "b1") (0 ∷ 1 ∷ 3 ∷ []) (range 0 1 3) []) (branch (10 ∷ 11 ∷ 12 ∷ 13 ∷ []) (codes "b2") (0 ∷ 4 ∷ 5 ∷ []) (range 0 4 5) []) ∷ [])
      (0 ∷ 1 ∷ 2 ∷ 9 ∷ 13 ∷ []) ∷ [])
      (proc (codes "b1") 3 3 [] (0 ∷ 1 ∷ 2 ∷ 2 ∷ []) ∷ proc (codes "b2") 3 3 [] (0 ∷ 1 ∷ 2 ∷ 2 ∷ []) ∷ [])
      (Split_line 4 5 ∷ Reg_line ∷ Reg_line ∷ [])
  -- a procedure of the text
  pub calling_is :
      printed calling ≡ procs
      (proc (codes "main") 3 7 (i.Const 3 3 ∷ i.Call (4 ∷ 5 ∷ 6 ∷ []) (codes "p1") (0 ∷ 1 ∷ 2 ∷ 3 ∷ []) ∷ []) (4 ∷ 5 ∷ 6 ∷ [])
      ∷ proc (codes "p1") 4 4 [] (0 ∷ 1 ∷ 2 ∷ []) ∷ []) []
      (Use_line ∷ [])
  -- the bound of a set is the first argument
  pub inserted_is :
      printed inserted ≡ procs
      (proc (codes "main") 0 7 (i.Const 0 10 ∷ i.Call (1 ∷ 2 ∷ []) (codes "bits_empty") (0 ∷ []) ∷ i.Const 3 0
      ∷ i.Const 4 10 ∷ i.Call (5 ∷ 6 ∷ []) (codes "bits_insert") (4 ∷ 1 ∷ 2 ∷ 3 ∷ []) ∷ []) (5 ∷ 6 ∷ []) ∷ []) []
      (Row_line (codes "bits_empty") ∷ Any_line 3 ∷ Row_line (codes "bits_insert") ∷ [])
