-- The sides that a derivation takes.
use Rattle.std.specs.Prelude.{ℕ, Bool, true, false, List, [], ◌∷◌, drop}
use Rattle.nres_core.specs.FlatTree as t
use Rattle.nres_core.specs.FlatTree.{Binds, FlatProc, FlatWhole}
use Rattle.fits.specs.Follow.{Line, Left_line, Right_line}

-- the lines behind those of binds: each bind but an assert has one, before those of its blocks; of an `either` only the side that is taken has lines
abbrev pub after : Binds → List Line → List Line
after t.No_bind ls = ls
after (t.Calc_to p to w x y rest) ls = after rest (drop 1 ls)
after (t.Apply_to p to op made us rest) ls = after rest (drop 1 ls)
after (t.Assert p inner x rest) ls = after rest ls
after (t.If p to x l le r re rest) ls = after rest (after r (after l (drop 1 ls)))
after (t.While p to xs us cs x b be rest) ls = after rest (after b (after cs (drop 1 ls)))
after (t.Par p to l le r re rest) ls = after rest (after r (after l (drop 1 ls)))
after (t.Split p to list at i l le j r re rest) ls = after rest (after r (after l (drop 1 ls)))
after (t.Either p to l le r re rest) (Left_line ∷ ls) = after rest (after l ls)
after (t.Either p to l le r re rest) (Right_line ∷ ls) = after rest (after r ls)
after (t.Either p to l le r re rest) ls = []
after (t.Any p to x y rest) ls = after rest (drop 1 ls)
after (t.Call p to g us rest) ls = after rest (drop 1 ls)

-- an `either` is known by the variables that it binds; `true` is its left side
module _ (may : List ℕ → Bool → Type 0) where
  -- each side that the lines of binds take may be taken
  abbrev pub Takes : Binds → List Line → Type 0
  Takes t.No_bind ls = Unit {0}
  Takes (t.Calc_to p to w x y rest) ls = Takes rest (drop 1 ls)
  Takes (t.Apply_to p to op made us rest) ls = Takes rest (drop 1 ls)
  Takes (t.Assert p inner x rest) ls = Takes rest ls
  Takes (t.If p to x l le r re rest) ls = Takes l (drop 1 ls) × Takes r (after l (drop 1 ls)) × Takes rest (after r (after l (drop 1 ls)))
  Takes (t.While p to xs us cs x b be rest) ls = Takes cs (drop 1 ls) × Takes b (after cs (drop 1 ls)) × Takes rest (after b (after cs (drop 1 ls)))
  Takes (t.Par p to l le r re rest) ls = Takes l (drop 1 ls) × Takes r (after l (drop 1 ls)) × Takes rest (after r (after l (drop 1 ls)))
  Takes (t.Split p to list at i l le j r re rest) ls = Takes l (drop 1 ls) × Takes r (after l (drop 1 ls)) × Takes rest (after r (after l (drop 1 ls)))
  Takes (t.Either p to l le r re rest) (Left_line ∷ ls) = may to true × Takes l ls × Takes rest (after l ls)
  Takes (t.Either p to l le r re rest) (Right_line ∷ ls) = may to false × Takes r ls × Takes rest (after r ls)
  Takes (t.Either p to l le r re rest) ls = Unit {0}
  Takes (t.Any p to x y rest) ls = Takes rest (drop 1 ls)
  Takes (t.Call p to g us rest) ls = Takes rest (drop 1 ls)

  -- the same of procedures, one after the other
  abbrev pub ProcsTake : List FlatProc → List Line → Type 0
  ProcsTake [] ls = Unit {0}
  ProcsTake (g ∷ gs) ls = Takes g.body.binds ls × ProcsTake gs (after g.body.binds ls)

  -- of a specification, and then of its procedures
  abbrev pub WholeTakes : FlatWhole → List Line → Type 0
  WholeTakes f ls = Takes f.body.binds ls × ProcsTake f.procs (after f.body.binds ls)
