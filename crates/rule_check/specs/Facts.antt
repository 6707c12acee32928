-- What conditions, asserts, `%` and `any` tell of numbers.
use Rattle.std.specs.Prelude.{ℕ, nat_lt, nat_le, nat_eq, Bool, false, ◌&&◌, ◌||◌, cond, List, [], ◌∷◌, ◌++◌}
use Rattle.target_code.specs.declared.tree.Calc.{Calc}
use Rattle.target_code.specs.declared.tree.Calc.TheVariants as c
use Rattle.nres_core.specs.FlatTree as t
use Rattle.nres_core.specs.FlatTree.{Binds}
use Rattle.nres_rules.specs.Types.{stands_before}
use Rattle.nres_core.specs.declared.flat.Arg.{Arg}
use Rattle.nres_core.specs.declared.flat.Arg.TheVariants as a
use Rattle.nres_core.specs.declared.place.Place.{Place}
use Rattle.rule_check.specs.Context.{Fact, Def, is_among}

abbrev pub below : ℕ → ℕ → Fact
below v n = record { var = v; bound = n }

-- the calculations of a list of binds, inner ones not counted, the last first, before those of ds
abbrev pub defs_in : Binds → List Def → List Def
defs_in t.No_bind ds = ds
defs_in (t.Calc_to p to w x y rest) ds = defs_in rest (record { place = p; to = to; word = w; left = x; right = y } ∷ ds)
defs_in (t.Apply_to p to op made us rest) ds = defs_in rest ds
defs_in (t.Assert p inner x rest) ds = defs_in rest ds
defs_in (t.If p to x l le r re rest) ds = defs_in rest ds
defs_in (t.While p to xs us cs x b be rest) ds = defs_in rest ds
defs_in (t.Par p to l le r re rest) ds = defs_in rest ds
defs_in (t.Split p to list at i l le j r re rest) ds = defs_in rest ds
defs_in (t.Either p to l le r re rest) ds = defs_in rest ds
defs_in (t.Any p to x y rest) ds = defs_in rest ds
defs_in (t.Call p to g us rest) ds = defs_in rest ds

-- those that stand behind a place
abbrev pub defs_behind : Place → List Def → List Def
defs_behind p [] = []
defs_behind p (d ∷ ds) = cond (stands_before p d.place) (d ∷ defs_behind p ds) (defs_behind p ds)

-- a value that holds, among others
abbrev pub also : Arg → List ℕ → List ℕ
also (a.Var v) vs = v ∷ vs
also (a.Num n) vs = vs
also (a.Truth b) vs = vs

-- what a comparison that holds tells
abbrev pub compared : Arg → Arg → List Fact
compared (a.Var v) (a.Num n) = below v n ∷ []
compared _ _ = []

abbrev pub told_by : Calc → Arg → Arg → List Fact
told_by c.Lt x y = compared x y
told_by _ x y = []

abbrev pub parts_of : Calc → Arg → Arg → List ℕ → List ℕ
parts_of c.And x y vs = also x (also y vs)
parts_of _ x y vs = vs

-- the facts that hold where these variables do, each of which is looked for among calculations, the last first
abbrev pub told : List Def → List ℕ → List Fact
told [] vs = []
told (d ∷ ds) vs = cond (is_among d.to vs) (told_by d.word d.left d.right ++ told ds (parts_of d.word d.left d.right vs)) (told ds vs)

-- the facts of a condition
abbrev pub learnt : List Def → Arg → List Fact
learnt ds x = told ds (also x [])

-- a literal as an upper end, and a literal above 0 as a divisor
abbrev pub any_tells : ℕ → Arg → List Fact
any_tells to (a.Num n) = below to n ∷ []
any_tells to _ = []

abbrev pub positive : ℕ → ℕ → List Fact
positive to n = cond (nat_lt 0 n) (below to n ∷ []) []

abbrev pub rest_tells : ℕ → Arg → List Fact
rest_tells to (a.Num n) = positive to n
rest_tells to _ = []

abbrev pub calc_tells : Calc → ℕ → Arg → List Fact
calc_tells c.Mod to y = rest_tells to y
calc_tells _ to y = []

-- whether a value is known to be below a bound
abbrev pub var_below : List Fact → ℕ → ℕ → Bool
var_below [] v n = false
var_below (e ∷ es) v n = (nat_eq e.var v && nat_le e.bound n) || var_below es v n

abbrev pub knows : List Fact → Arg → ℕ → Bool
knows es (a.Var v) n = var_below es v n
knows es (a.Num m) n = nat_lt m n
knows es (a.Truth b) n = false
