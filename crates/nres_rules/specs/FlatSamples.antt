-- The flat tree of a loop over a set.
use Rattle.std.specs.Prelude.{◌≡◌, ℕ, List, [], ◌∷◌, None, Some, codes}
use Rattle.target_code.specs.declared.tree.Calc.TheVariants as c
use Rattle.nres_core.specs.FlatTree as f
use Rattle.nres_core.specs.FlatTree.{Binds}
use Rattle.nres_rules.specs.FlatTyped.{ended, binds_ty}
use Rattle.nres_rules.specs.Flatten.{Parts, entered, unnamed, ending}
use Rattle.nres_core.specs.Tree as t
use Rattle.nres_core.specs.Tree.{Blk, Exp}
use Rattle.nres_rules.specs.Typed.{blk_ty}
use Rattle.nres_core.specs.declared.flat.Arg.TheVariants as a
use Rattle.nres_core.specs.declared.op.Op.{Op}
use Rattle.nres_core.specs.declared.op.Op.TheVariants as o
use Rattle.nres_core.specs.declared.place.Named.{Named}
use Rattle.nres_core.specs.declared.place.Place.{Place}
use Rattle.nres_core.specs.declared.ty.Ty.TheVariants as ty

abbrev pub at : ℕ → ℕ → Place
at l k = record { line = l; column = k }

abbrev pub named : List ℕ → Place → Named
named x p = record { name = x; place = p }

abbrev pub set : Named
set = named (codes "s") (at 1 11)

-- t <- foreach x in s (a) from 0 do return a + x end, return t
abbrev pub sum_block : Blk Op
sum_block = t.Returns
    (t.Bind (named (codes "t") (at 2 3) ∷ []) (at 2 3)
    (t.Foreach (at 2 8) (named (codes "x") (at 2 16)) (named (codes "s") (at 2 21)) (named (codes "a") (at 2 24) ∷ []) (at 2 23) (t.Also (t.Num (at 2 32) 0) t.None_left)
    (t.Returns t.No_step (at 3 5) (t.Also (t.Binary (at 3 12) c.Add (t.Var (named (codes "a") (at 3 12))) (t.Var (named (codes "x") (at 3 16)))) t.None_left)))
    t.No_step)
    (at 5 3) (t.Also (t.Var (named (codes "t") (at 5 10))) t.None_left)

-- the parameter is variable 0
abbrev pub sum_parts : Parts
sum_parts = entered (λ x. 0) (set ∷ []) sum_block 0

-- the elements, their number, and a loop that gets one each turn, with its index last
abbrev pub sum_binds : Binds
sum_binds =
    f.Apply_to (at 2 8) (1 ∷ []) o.Elems None (a.Var 0 ∷ [])
    (f.Apply_to (at 2 8) (2 ∷ []) o.Len None (a.Var 1 ∷ [])
    (f.While (at 2 8) (9 ∷ 10 ∷ []) (3 ∷ 4 ∷ []) (a.Num 0 ∷ a.Num 0 ∷ [])
    (f.Calc_to (at 2 8) 5 c.Lt (a.Var 4) (a.Var 2) f.No_bind) (a.Var 5)
    (f.Apply_to (at 2 8) (6 ∷ []) o.Get None (a.Var 1 ∷ a.Var 4 ∷ [])
    (f.Calc_to (at 3 12) 7 c.Add (a.Var 3) (a.Var 6)
    (f.Calc_to (at 2 8) 8 c.Add (a.Var 4) (a.Num 1) f.No_bind)))
    (record { place = at 3 5; results = a.Var 7 ∷ a.Var 8 ∷ [] })
    f.No_bind))

pub record Seen : Type 0 where
  pub typed : blk_ty [] sum_block ((codes "s", ty.Set) ∷ []) ≡ Some (ty.Nat ∷ [])
  pub binds : sum_parts.binds ≡ sum_binds
  pub results : sum_parts.args ≡ a.Var 9 ∷ []
  pub names : sum_parts.names ≡ unnamed ∷ unnamed ∷ codes "a" ∷ unnamed ∷ unnamed ∷ codes "x" ∷ unnamed ∷ unnamed ∷ codes "t" ∷ unnamed ∷ []
  pub flat_typed : ended (ending (at 5 3) sum_parts) (binds_ty [] sum_parts.binds ((0, ty.Set) ∷ []) 1) ≡ Some (ty.Nat ∷ [], 11)
