-- How large a tree is whose words stand for operations, how many loops over sets it has, and how deep its blocks nest.
use Rattle.std.specs.Prelude.{ℕ, suc, ◌+◌, max, List, [], ◌∷◌, length}
use Rattle.nres_core.specs.Mirror.{id_blk_of}
use Rattle.nres_core.specs.Sizes.{blk_size, blk_loops, blk_nesting}
use Rattle.nres_core.specs.declared.identified.IdBlock.{IdBlock}
use Rattle.nres_core.specs.declared.identified.IdFun.{IdFun}
use Rattle.nres_core.specs.declared.identified.Identified.{Identified}
use Rattle.nres_core.specs.declared.tree.Param.{Param}
use Rattle.nres_core.specs.declared.tree.Shown.{Shown}

-- the parameters, what is shown, and the block
abbrev pub id_entry_size : List Param → List Shown → IdBlock → ℕ
id_entry_size xs ys b = length xs + (length ys + blk_size (id_blk_of b))

abbrev pub id_funs_size : List IdFun → ℕ
id_funs_size [] = 0
id_funs_size (g ∷ gs) = id_entry_size g.params g.shown g.body + id_funs_size gs

abbrev pub id_size_of : Identified → ℕ
id_size_of p = id_entry_size p.params p.shown p.body + id_funs_size p.funs

-- the loops over sets, those in others counted
abbrev pub id_funs_loops : List IdFun → ℕ
id_funs_loops [] = 0
id_funs_loops (g ∷ gs) = blk_loops (id_blk_of g.body) + id_funs_loops gs

abbrev pub id_loops_of : Identified → ℕ
id_loops_of p = blk_loops (id_blk_of p.body) + id_funs_loops p.funs

abbrev pub id_funs_nesting : List IdFun → ℕ
id_funs_nesting [] = 0
id_funs_nesting (g ∷ gs) = max (blk_nesting (id_blk_of g.body)) (id_funs_nesting gs)

-- the greatest over its own block and those of its procedures
abbrev pub id_nesting_of : Identified → ℕ
id_nesting_of p = max (blk_nesting (id_blk_of p.body)) (id_funs_nesting p.funs)
