-- Binds without branches.
use Rattle.std.specs.Prelude.{Bool, true, false, ◌&&◌, List, [], ◌∷◌}
use Rattle.nres_core.specs.FlatTree as t
use Rattle.nres_core.specs.FlatTree.{Binds, FlatProc, FlatWhole}

-- no bind is a `par` or a `split`
abbrev pub sequential : Binds → Bool
sequential t.No_bind = true
sequential (t.Calc_to p to w x y rest) = sequential rest
sequential (t.Apply_to p to op made us rest) = sequential rest
sequential (t.Assert p inner x rest) = sequential rest
sequential (t.If p to x l le r re rest) = sequential l && (sequential r && sequential rest)
sequential (t.While p to xs us cs x b be rest) = sequential cs && (sequential b && sequential rest)
sequential (t.Par p to l le r re rest) = false
sequential (t.Split p to list at i l le j r re rest) = false
sequential (t.Either p to l le r re rest) = sequential l && (sequential r && sequential rest)
sequential (t.Any p to x y rest) = sequential rest
sequential (t.Call p to g us rest) = sequential rest

abbrev pub sequential_procs : List FlatProc → Bool
sequential_procs [] = true
sequential_procs (p ∷ ps) = sequential p.body.binds && sequential_procs ps

-- of a specification and of its procedures
abbrev pub sequential_whole : FlatWhole → Bool
sequential_whole f = sequential f.body.binds && sequential_procs f.procs
