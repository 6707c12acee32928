-- What a flat tree needs: 4 for each variable, 1 for each literal argument, and 2 for each bind; and how deep its blocks nest.
use Rattle.std.specs.Prelude.{ℕ, suc, ◌+◌, ◌*◌, max, List, [], ◌∷◌, length}
use Rattle.nres_core.specs.FlatTree as f
use Rattle.nres_core.specs.FlatTree.{Binds, Flats, FlatProc, FlatWhole}
use Rattle.nres_core.specs.declared.flat.Arg.{Arg}
use Rattle.nres_core.specs.declared.flat.Arg.TheVariants as a

-- a literal
abbrev pub arg_need : Arg → ℕ
arg_need (a.Var k) = 0
arg_need (a.Num n) = 1
arg_need (a.Truth b) = 1

abbrev pub args_need : List Arg → ℕ
args_need [] = 0
args_need (u ∷ us) = arg_need u + args_need us

-- the binds, and the literals in them and in the results of their blocks; those in asserts, conditions and blocks counted
abbrev pub binds_need : Binds → ℕ
binds_need f.No_bind = 0
binds_need (f.Calc_to p to w x y rest) = 2 + (arg_need x + (arg_need y + binds_need rest))
binds_need (f.Apply_to p to op made us rest) = 2 + (args_need us + binds_need rest)
binds_need (f.Assert p inner x rest) = 2 + (binds_need inner + (arg_need x + binds_need rest))
binds_need (f.If p to x l le r re rest) = 2 + (arg_need x + (binds_need l + (args_need le.results + (binds_need r + (args_need re.results + binds_need rest)))))
binds_need (f.While p to xs us cs x b be rest) = 2 + (args_need us + (binds_need cs + (arg_need x + (binds_need b + (args_need be.results + binds_need rest)))))
binds_need (f.Par p to l le r re rest) = 2 + (binds_need l + (args_need le.results + (binds_need r + (args_need re.results + binds_need rest))))
binds_need (f.Split p to list at k l le j r re rest) = 2 + (arg_need at + (binds_need l + (args_need le.results + (binds_need r + (args_need re.results + binds_need rest)))))
binds_need (f.Either p to l le r re rest) = 2 + (binds_need l + (args_need le.results + (binds_need r + (args_need re.results + binds_need rest))))
binds_need (f.Any p to x y rest) = 2 + (arg_need x + (arg_need y + binds_need rest))
binds_need (f.Call p to g us rest) = 2 + (args_need us + binds_need rest)

abbrev pub flats_need : Flats → ℕ
flats_need b = binds_need b.binds + args_need b.ending.results

abbrev pub procs_need : List FlatProc → ℕ
procs_need [] = 0
procs_need (p ∷ ps) = flats_need p.body + procs_need ps

-- the variables of all blocks are in one list of names
abbrev pub need_of : FlatWhole → ℕ
need_of w = 4 * length w.names + (flats_need w.body + procs_need w.procs)

-- how many blocks stand in one another below a block with these binds; an assert's binds and a loop's condition are no blocks, but a condition's binds
-- stand as deep as the loop's body
abbrev pub binds_nesting : Binds → ℕ
binds_nesting f.No_bind = 0
binds_nesting (f.Calc_to p to w x y rest) = binds_nesting rest
binds_nesting (f.Apply_to p to op made us rest) = binds_nesting rest
binds_nesting (f.Assert p inner x rest) = max (binds_nesting inner) (binds_nesting rest)
binds_nesting (f.If p to x l le r re rest) = max (max (suc (binds_nesting l)) (suc (binds_nesting r))) (binds_nesting rest)
binds_nesting (f.While p to xs us cs x b be rest) = max (max (suc (binds_nesting cs)) (suc (binds_nesting b))) (binds_nesting rest)
binds_nesting (f.Par p to l le r re rest) = max (max (suc (binds_nesting l)) (suc (binds_nesting r))) (binds_nesting rest)
binds_nesting (f.Split p to list at k l le j r re rest) = max (max (suc (binds_nesting l)) (suc (binds_nesting r))) (binds_nesting rest)
binds_nesting (f.Either p to l le r re rest) = max (max (suc (binds_nesting l)) (suc (binds_nesting r))) (binds_nesting rest)
binds_nesting (f.Any p to x y rest) = binds_nesting rest
binds_nesting (f.Call p to g us rest) = binds_nesting rest

abbrev pub procs_nesting : List FlatProc → ℕ
procs_nesting [] = 0
procs_nesting (p ∷ ps) = max (suc (binds_nesting p.body.binds)) (procs_nesting ps)

-- the greatest over its own block and those of its procedures
abbrev pub flat_nesting_of : FlatWhole → ℕ
flat_nesting_of w = max (suc (binds_nesting w.body.binds)) (procs_nesting w.procs)
