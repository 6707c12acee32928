-- Small specifications, and what the rules say of them.
use Rattle.std.specs.Prelude.{◌≡◌, ℕ, Bool, true, false, List, [], ◌∷◌, None, Some, codes, decimal}
use Rattle.target_code.specs.declared.tree.Calc.TheVariants as c
use Rattle.target_code.specs.declared.tree.InParam.{InParam}
use Rattle.target_code.specs.declared.tree.Rep.{Rep}
use Rattle.target_code.specs.declared.tree.Rep.TheVariants as r
use Rattle.nres_rules.specs.FlatSamples.{at}
use Rattle.nres_core.specs.FlatTree as f
use Rattle.nres_core.specs.FlatTree.{FlatWhole, Ending}
use Rattle.nres_core.specs.declared.flat.Arg.{Arg}
use Rattle.nres_core.specs.declared.flat.Arg.TheVariants as a
use Rattle.nres_core.specs.declared.op.Op.TheVariants as o
use Rattle.nres_core.specs.declared.place.Place.{Place}
use Rattle.nres_core.specs.declared.refusal.Why.TheVariants as w
use Rattle.rule_check.specs.Check.{refusal_of}
use Rattle.rule_check.specs.Sides.{whole_sides}
use Rattle.rule_check.specs.Steps.{refused}
use Rattle.rule_check.specs.Table.{row_for}

abbrev pub ends : Place → List Arg → Ending
ends p us = record { place = p; results = us }

abbrev pub taking : List ℕ → Rep → Bool → InParam
taking x y b = record { name = x; rep = y; kept = b }

-- a list that was used up is read
abbrev pub lost : FlatWhole
lost = record {
  params = (taking (codes "xs") r.Array false ∷ []);
  shown = (r.Word ∷ []);
  body = record {
    binds = f.Apply_to (at 2 9) (1 ∷ []) o.SetAt None ((a.Var 0) ∷ (a.Num 0) ∷ (a.Num 7) ∷ [])
        (f.Apply_to (at 3 8) (2 ∷ []) o.Get None ((a.Var 0) ∷ (a.Num 0) ∷ []) f.No_bind);
    ending = ends (at 4 3) ((a.Var 2) ∷ []);
  };
  names = (codes "xs" ∷ codes "ys" ∷ codes "x" ∷ []);
  procs = [];
}

-- a number of which nothing is known
abbrev pub insert_unknown : FlatWhole
insert_unknown = record {
  params = (taking (codes "x") r.Word false ∷ []);
  shown = ((r.Bits 1000) ∷ []);
  body = record {
    binds = f.Apply_to (at 2 8) (1 ∷ []) o.EmptySet (Some (r.Bits 1000)) []
        (f.Apply_to (at 3 8) (2 ∷ []) o.Insert None ((a.Var 1) ∷ (a.Var 0) ∷ []) f.No_bind);
    ending = ends (at 4 3) ((a.Var 2) ∷ []);
  };
  names = (codes "x" ∷ codes "s" ∷ codes "t" ∷ []);
  procs = [];
}

-- an assert that says too little
abbrev pub insert_too_weak : FlatWhole
insert_too_weak = record {
  params = (taking (codes "x") r.Word false ∷ []);
  shown = ((r.Bits 1000) ∷ []);
  body = record {
    binds = f.Apply_to (at 2 8) (1 ∷ []) o.EmptySet (Some (r.Bits 1000)) []
        (f.Assert (at 3 3) (f.Calc_to (at 3 10) 2 c.Lt (a.Var 0) (a.Num 1001) f.No_bind) (a.Var 2)
        (f.Apply_to (at 4 8) (3 ∷ []) o.Insert None ((a.Var 1) ∷ (a.Var 0) ∷ []) f.No_bind));
    ending = ends (at 5 3) ((a.Var 3) ∷ []);
  };
  names = (codes "x" ∷ codes "s" ∷ codes "_" ∷ codes "t" ∷ []);
  procs = [];
}

-- another list comes back than the part
abbrev pub swaps : FlatWhole
swaps = record {
  params = (taking (codes "xs") r.Array false ∷ []);
  shown = (r.Array ∷ []);
  body = record {
    binds = f.Split (at 2 9) (4 ∷ []) 0 (a.Num 1) 1
        (f.Apply_to (at 3 10) (2 ∷ []) o.CopyList None ((a.Var 1) ∷ []) f.No_bind) (ends (at 4 5) ((a.Var 2) ∷ [])) 3
        (f.No_bind) (ends (at 6 5) ((a.Var 3) ∷ [])) f.No_bind;
    ending = ends (at 8 3) ((a.Var 4) ∷ []);
  };
  names = (codes "xs" ∷ codes "l" ∷ codes "c" ∷ codes "r" ∷ codes "ys" ∷ []);
  procs = [];
}

-- a set with itself
abbrev pub union_twice : FlatWhole
union_twice = record {
  params = (taking (codes "s") (r.Bits 1000) false ∷ []);
  shown = ((r.Bits 1000) ∷ []);
  body = record { binds = f.Apply_to (at 2 8) (1 ∷ []) o.Union None ((a.Var 0) ∷ (a.Var 0) ∷ []) f.No_bind; ending = ends (at 3 3) ((a.Var 1) ∷ []) };
  names = (codes "s" ∷ codes "t" ∷ []);
  procs = [];
}

-- a kept list is written
abbrev pub set_kept : FlatWhole
set_kept = record {
  params = (taking (codes "xs") r.Array true ∷ []);
  shown = (r.Array ∷ []);
  body = record { binds = f.Apply_to (at 2 9) (1 ∷ []) o.SetAt None ((a.Var 0) ∷ (a.Num 0) ∷ (a.Num 1) ∷ []) f.No_bind; ending = ends (at 3 3) ((a.Var 1) ∷ []) };
  names = (codes "xs" ∷ codes "ys" ∷ []);
  procs = [];
}

-- another representation than is shown
abbrev pub result_vec : FlatWhole
result_vec = record {
  params = [];
  shown = (r.Array ∷ []);
  body = record { binds = f.Apply_to (at 2 8) (0 ∷ []) o.Nil (Some r.Vec) [] f.No_bind; ending = ends (at 3 3) ((a.Var 0) ∷ []) };
  names = (codes "v" ∷ []);
  procs = [];
}

-- no row
abbrev pub union_hset : FlatWhole
union_hset = record {
  params = [];
  shown = (r.Hset ∷ []);
  body = record {
    binds = f.Apply_to (at 2 8) (0 ∷ []) o.EmptySet (Some r.Hset) []
        (f.Apply_to (at 3 8) (1 ∷ []) o.CopySet None ((a.Var 0) ∷ [])
        (f.Apply_to (at 4 8) (2 ∷ []) o.Union None ((a.Var 0) ∷ (a.Var 1) ∷ []) f.No_bind));
    ending = ends (at 5 3) ((a.Var 2) ∷ []);
  };
  names = (codes "s" ∷ codes "t" ∷ codes "u" ∷ []);
  procs = [];
}

-- one side uses a slice up
abbrev pub mixed : FlatWhole
mixed = record {
  params = (taking (codes "xs") r.Array false ∷ taking (codes "c") r.Flag false ∷ []);
  shown = (r.Array ∷ []);
  body = record {
    binds = f.Split (at 2 9) (6 ∷ []) 0 (a.Num 0) 2
        (f.No_bind) (ends (at 3 5) ((a.Var 2) ∷ [])) 3
        (f.If (at 5 10) (5 ∷ []) (a.Var 1)
        (f.No_bind) (ends (at 6 7) ((a.Var 3) ∷ []))
        (f.Apply_to (at 8 12) (4 ∷ []) o.CopyList None ((a.Var 3) ∷ []) f.No_bind) (ends (at 9 7) ((a.Var 4) ∷ [])) f.No_bind) (ends (at 11 5) ((a.Var 5) ∷ [])) f.No_bind;
    ending = ends (at 13 3) ((a.Var 6) ∷ []);
  };
  names = (codes "xs" ∷ codes "c" ∷ codes "l" ∷ codes "r" ∷ codes "d" ∷ codes "q" ∷ codes "ys" ∷ []);
  procs = [];
}

-- no row for arrays
abbrev pub push_array : FlatWhole
push_array = record {
  params = (taking (codes "xs") r.Array false ∷ []);
  shown = (r.Array ∷ []);
  body = record { binds = f.Apply_to (at 2 9) (1 ∷ []) o.Push None ((a.Var 0) ∷ (a.Num 1) ∷ []) f.No_bind; ending = ends (at 3 3) ((a.Var 1) ∷ []) };
  names = (codes "xs" ∷ codes "ys" ∷ []);
  procs = [];
}

-- a key of which nothing is known
abbrev pub put_unknown : FlatWhole
put_unknown = record {
  params = (taking (codes "x") r.Word false ∷ []);
  shown = ((r.Amap 7) ∷ []);
  body = record {
    binds = f.Apply_to (at 2 8) (1 ∷ []) o.EmptyMap (Some (r.Amap 7)) []
        (f.Apply_to (at 3 8) (2 ∷ []) o.Put None ((a.Var 1) ∷ (a.Var 0) ∷ (a.Num 1) ∷ []) f.No_bind);
    ending = ends (at 4 3) ((a.Var 2) ∷ []);
  };
  names = (codes "x" ∷ codes "m" ∷ codes "n" ∷ []);
  procs = [];
}

-- a literal that is too large
abbrev pub insert_literal : FlatWhole
insert_literal = record {
  params = [];
  shown = ((r.Bits 1000) ∷ []);
  body = record {
    binds = f.Apply_to (at 2 8) (0 ∷ []) o.EmptySet (Some (r.Bits 1000)) []
        (f.Apply_to (at 3 8) (1 ∷ []) o.Insert None ((a.Var 0) ∷ (a.Num 1000) ∷ []) f.No_bind);
    ending = ends (at 4 3) ((a.Var 1) ∷ []);
  };
  names = (codes "s" ∷ codes "t" ∷ []);
  procs = [];
}

-- no side passes
abbrev pub either_refused : FlatWhole
either_refused = record {
  params = [];
  shown = (r.Vec ∷ []);
  body = record {
    binds = f.Either (at 2 8) (2 ∷ [])
        (f.Apply_to (at 3 10) (0 ∷ []) o.Zeros (Some r.Vec) ((a.Num 2) ∷ []) f.No_bind) (ends (at 4 5) ((a.Var 0) ∷ []))
        (f.Apply_to (at 6 10) (1 ∷ []) o.Zeros (Some r.Vec) ((a.Num 3) ∷ []) f.No_bind) (ends (at 7 5) ((a.Var 1) ∷ [])) f.No_bind;
    ending = ends (at 9 3) ((a.Var 2) ∷ []);
  };
  names = (codes "a" ∷ codes "b" ∷ codes "z" ∷ []);
  procs = [];
}

-- a branch reads what was used up
abbrev pub late : FlatWhole
late = record {
  params = (taking (codes "xs") r.Array false ∷ []);
  shown = (r.Word ∷ r.Word ∷ []);
  body = record {
    binds = f.Apply_to (at 2 9) (1 ∷ []) o.SetAt None ((a.Var 0) ∷ (a.Num 0) ∷ (a.Num 1) ∷ [])
        (f.Par (at 3 13) (3 ∷ 4 ∷ [])
        (f.Apply_to (at 4 10) (2 ∷ []) o.Get None ((a.Var 0) ∷ (a.Num 0) ∷ []) f.No_bind) (ends (at 5 5) ((a.Var 2) ∷ []))
        (f.No_bind) (ends (at 7 5) ((a.Num 0) ∷ [])) f.No_bind);
    ending = ends (at 9 3) ((a.Var 3) ∷ (a.Var 4) ∷ []);
  };
  names = (codes "xs" ∷ codes "ys" ∷ codes "x" ∷ codes "a" ∷ codes "b" ∷ []);
  procs = [];
}

-- one branch writes what both use
abbrev pub clash : FlatWhole
clash = record {
  params = (taking (codes "xs") r.Array false ∷ []);
  shown = (r.Array ∷ r.Word ∷ []);
  body = record {
    binds = f.Par (at 2 13) (3 ∷ 4 ∷ [])
        (f.Apply_to (at 3 10) (1 ∷ []) o.SetAt None ((a.Var 0) ∷ (a.Num 0) ∷ (a.Num 9) ∷ []) f.No_bind) (ends (at 4 5) ((a.Var 1) ∷ []))
        (f.Apply_to (at 6 10) (2 ∷ []) o.Get None ((a.Var 0) ∷ (a.Num 0) ∷ []) f.No_bind) (ends (at 7 5) ((a.Var 2) ∷ [])) f.No_bind;
    ending = ends (at 9 3) ((a.Var 3) ∷ (a.Var 4) ∷ []);
  };
  names = (codes "xs" ∷ codes "p" ∷ codes "x" ∷ codes "a" ∷ codes "b" ∷ []);
  procs = [];
}

-- a procedure gives another list back
abbrev pub copied : FlatWhole
copied = record {
  params = (taking (codes "xs") r.Array false ∷ []);
  shown = (r.Array ∷ []);
  body = record { binds = f.Call (at 2 9) (1 ∷ []) 0 ((a.Var 0) ∷ []) f.No_bind; ending = ends (at 3 3) ((a.Var 1) ∷ []) };
  names = (codes "xs" ∷ codes "ys" ∷ codes "l" ∷ codes "c" ∷ []);
  procs = (record { name = codes "f"; params = (taking (codes "l") r.Slice false ∷ []); shown = (r.Slice ∷ []); body = record { binds = f.Apply_to (at 6 8) (3 ∷ []) o.CopyList None ((a.Var 2) ∷ []) f.No_bind; ending = ends (at 7 3) ((a.Var 3) ∷ []) } } ∷ []);
}

-- both branches read a list
abbrev pub reads : FlatWhole
reads = record {
  params = (taking (codes "xs") r.Array false ∷ []);
  shown = (r.Word ∷ r.Word ∷ r.Array ∷ []);
  body = record {
    binds = f.Par (at 2 13) (3 ∷ 4 ∷ [])
        (f.Apply_to (at 3 10) (1 ∷ []) o.Get None ((a.Var 0) ∷ (a.Num 0) ∷ []) f.No_bind) (ends (at 4 5) ((a.Var 1) ∷ []))
        (f.Apply_to (at 6 10) (2 ∷ []) o.Len None ((a.Var 0) ∷ []) f.No_bind) (ends (at 7 5) ((a.Var 2) ∷ [])) f.No_bind;
    ending = ends (at 9 3) ((a.Var 3) ∷ (a.Var 4) ∷ (a.Var 0) ∷ []);
  };
  names = (codes "xs" ∷ codes "x" ∷ codes "y" ∷ codes "a" ∷ codes "b" ∷ []);
  procs = [];
}

-- the parts of a list, one of them written; `%` tells of a number
abbrev pub halves : FlatWhole
halves = record {
  params = (taking (codes "xs") r.Array false ∷ taking (codes "s") (r.Bits 7) false ∷ taking (codes "k") r.Word false ∷ []);
  shown = (r.Array ∷ r.Word ∷ (r.Bits 7) ∷ []);
  body = record {
    binds = f.Split (at 2 17) (9 ∷ 10 ∷ 11 ∷ []) 0 (a.Var 2) 3
        (f.Apply_to (at 3 10) (4 ∷ []) o.SetAt None ((a.Var 3) ∷ (a.Num 0) ∷ (a.Num 5) ∷ [])
        (f.Apply_to (at 4 10) (5 ∷ []) o.Len None ((a.Var 4) ∷ []) f.No_bind)) (ends (at 5 5) ((a.Var 4) ∷ (a.Var 5) ∷ [])) 6
        (f.Calc_to (at 7 10) 7 c.Mod (a.Var 2) (a.Num 7)
        (f.Apply_to (at 8 10) (8 ∷ []) o.Insert None ((a.Var 1) ∷ (a.Var 7) ∷ []) f.No_bind)) (ends (at 9 5) ((a.Var 6) ∷ (a.Var 8) ∷ [])) f.No_bind;
    ending = ends (at 11 3) ((a.Var 9) ∷ (a.Var 10) ∷ (a.Var 11) ∷ []);
  };
  names = (codes "xs" ∷ codes "s" ∷ codes "k" ∷ codes "l" ∷ codes "m" ∷ codes "n" ∷ codes "r" ∷ codes "i" ∷ codes "t" ∷ codes "ys" ∷ codes "n" ∷ codes "t" ∷ []);
  procs = [];
}

-- a procedure that calls itself on the rest of a slice
abbrev pub recursive : FlatWhole
recursive = record {
  params = (taking (codes "xs") r.Array false ∷ []);
  shown = (r.Array ∷ []);
  body = record { binds = f.Call (at 2 9) (1 ∷ []) 0 ((a.Var 0) ∷ []) f.No_bind; ending = ends (at 3 3) ((a.Var 1) ∷ []) };
  names = (codes "xs" ∷ codes "ys" ∷ codes "l" ∷ codes "n" ∷ codes "_" ∷ codes "a" ∷ codes "b" ∷ codes "c" ∷ codes "d" ∷ codes "m" ∷ codes "r" ∷ []);
  procs = (record {
    name = codes "f";
    params = (taking (codes "l") r.Slice false ∷ []);
    shown = (r.Slice ∷ []);
    body = record {
      binds = f.Apply_to (at 6 8) (3 ∷ []) o.Len None ((a.Var 2) ∷ [])
          (f.Calc_to (at 7 11) 4 c.Eq (a.Var 3) (a.Num 0)
          (f.If (at 7 8) (10 ∷ []) (a.Var 4)
          (f.No_bind) (ends (at 8 5) ((a.Var 2) ∷ []))
          (f.Split (at 10 10) (9 ∷ []) 2 (a.Num 1) 5
          (f.Apply_to (at 11 12) (6 ∷ []) o.SetAt None ((a.Var 5) ∷ (a.Num 0) ∷ (a.Num 0) ∷ []) f.No_bind) (ends (at 12 7) ((a.Var 6) ∷ [])) 7
          (f.Call (at 14 12) (8 ∷ []) 0 ((a.Var 7) ∷ []) f.No_bind) (ends (at 15 7) ((a.Var 8) ∷ [])) f.No_bind) (ends (at 17 5) ((a.Var 9) ∷ [])) f.No_bind));
      ending = ends (at 19 3) ((a.Var 10) ∷ []);
    };
  } ∷ []);
}

-- a loop with facts from its condition
abbrev pub looped : FlatWhole
looped = record {
  params = (taking (codes "s") (r.Bits 9) false ∷ []);
  shown = ((r.Bits 9) ∷ []);
  body = record {
    binds = f.While (at 2 13) (7 ∷ 8 ∷ []) (1 ∷ 2 ∷ []) ((a.Num 0) ∷ (a.Var 0) ∷ [])
        (f.Calc_to (at 2 41) 3 c.Lt (a.Var 1) (a.Num 9)
        (f.Calc_to (at 2 41) 4 c.And (a.Var 3) (a.Truth true) f.No_bind)) (a.Var 4)
        (f.Apply_to (at 3 10) (5 ∷ []) o.Insert None ((a.Var 2) ∷ (a.Var 1) ∷ [])
        (f.Calc_to (at 4 13) 6 c.Add (a.Var 1) (a.Num 1) f.No_bind)) (ends (at 4 5) ((a.Var 6) ∷ (a.Var 5) ∷ [])) f.No_bind;
    ending = ends (at 6 3) ((a.Var 8) ∷ []);
  };
  names = (codes "s" ∷ codes "i" ∷ codes "t" ∷ codes "_" ∷ codes "_" ∷ codes "u" ∷ codes "_" ∷ codes "i" ∷ codes "t" ∷ []);
  procs = [];
}

-- a side that passes ends the search
abbrev pub either_left : FlatWhole
either_left = record {
  params = (taking (codes "xs") r.Array false ∷ []);
  shown = (r.Array ∷ []);
  body = record {
    binds = f.Either (at 2 8) (3 ∷ [])
        (f.Apply_to (at 3 10) (1 ∷ []) o.SetAt None ((a.Var 0) ∷ (a.Num 0) ∷ (a.Num 1) ∷ []) f.No_bind) (ends (at 4 5) ((a.Var 1) ∷ []))
        (f.Apply_to (at 6 10) (2 ∷ []) o.Push None ((a.Var 0) ∷ (a.Num 1) ∷ []) f.No_bind) (ends (at 7 5) ((a.Var 2) ∷ [])) f.No_bind;
    ending = ends (at 9 3) ((a.Var 3) ∷ []);
  };
  names = (codes "xs" ∷ codes "a" ∷ codes "b" ∷ codes "z" ∷ []);
  procs = [];
}

-- the left side has no row
abbrev pub either_right : FlatWhole
either_right = record {
  params = [];
  shown = (r.Array ∷ []);
  body = record {
    binds = f.Either (at 2 8) (2 ∷ [])
        (f.Apply_to (at 3 10) (0 ∷ []) o.Zeros (Some r.Vec) ((a.Num 3) ∷ []) f.No_bind) (ends (at 4 5) ((a.Var 0) ∷ []))
        (f.Apply_to (at 6 10) (1 ∷ []) o.Zeros (Some r.Array) ((a.Num 2) ∷ []) f.No_bind) (ends (at 7 5) ((a.Var 1) ∷ [])) f.No_bind;
    ending = ends (at 9 3) ((a.Var 2) ∷ []);
  };
  names = (codes "a" ∷ codes "b" ∷ codes "z" ∷ []);
  procs = [];
}

pub record Seen : Type 0 where
  -- ! rule 3 8 get (array, word) gone xs
  pub lost_is : refusal_of row_for lost ≡ Some (refused (at 3 8) (codes "get") (r.Array ∷ r.Word ∷ []) (w.Gone (codes "xs")))
  -- ! rule 3 8 insert (bits 1000, word) fact x 1000
  pub insert_unknown_is : refusal_of row_for insert_unknown ≡ Some (refused (at 3 8) (codes "insert") ((r.Bits 1000) ∷ r.Word ∷ []) (w.Fact (codes "x") 1000))
  -- ! rule 4 8 insert (bits 1000, word) fact x 1000
  pub insert_too_weak_is : refusal_of row_for insert_too_weak ≡ Some (refused (at 4 8) (codes "insert") ((r.Bits 1000) ∷ r.Word ∷ []) (w.Fact (codes "x") 1000))
  -- ! rule 4 5 return (array) tag l
  pub swaps_is : refusal_of row_for swaps ≡ Some (refused (at 4 5) (codes "return") (r.Array ∷ []) (w.Tag (codes "l")))
  -- ! rule 2 8 union (bits 1000, bits 1000) twice s
  pub union_twice_is : refusal_of row_for union_twice ≡ Some (refused (at 2 8) (codes "union") ((r.Bits 1000) ∷ (r.Bits 1000) ∷ []) (w.Twice (codes "s")))
  -- ! rule 2 9 set (array, word, word) held xs
  pub set_kept_is : refusal_of row_for set_kept ≡ Some (refused (at 2 9) (codes "set") (r.Array ∷ r.Word ∷ r.Word ∷ []) (w.Held (codes "xs")))
  -- ! rule 3 3 return (vec) result 1
  pub result_vec_is : refusal_of row_for result_vec ≡ Some (refused (at 3 3) (codes "return") (r.Vec ∷ []) (w.Result 1))
  -- ! rule 4 8 union (hset, hset) missing
  pub union_hset_is : refusal_of row_for union_hset ≡ Some (refused (at 4 8) (codes "union") (r.Hset ∷ r.Hset ∷ []) w.Missing)
  -- ! rule 5 10 if () meet r
  pub mixed_is : refusal_of row_for mixed ≡ Some (refused (at 5 10) (codes "if") [] (w.Meet (codes "r")))
  -- ! rule 2 9 push (array, word) missing
  pub push_array_is : refusal_of row_for push_array ≡ Some (refused (at 2 9) (codes "push") (r.Array ∷ r.Word ∷ []) w.Missing)
  -- ! rule 3 8 put (amap 7, word, word) fact x 7
  pub put_unknown_is : refusal_of row_for put_unknown ≡ Some (refused (at 3 8) (codes "put") ((r.Amap 7) ∷ r.Word ∷ r.Word ∷ []) (w.Fact (codes "x") 7))
  -- ! rule 3 8 insert (bits 1000, word) fact 1000 1000
  pub insert_literal_is : refusal_of row_for insert_literal ≡ Some (refused (at 3 8) (codes "insert") ((r.Bits 1000) ∷ r.Word ∷ []) (w.Fact (decimal 1000) 1000))
  -- ! rule 6 10 zeros (word) missing
  pub either_refused_is : refusal_of row_for either_refused ≡ Some (refused (at 6 10) (codes "zeros") (r.Word ∷ []) w.Missing)
  -- ! rule 3 13 par () gone xs
  pub late_is : refusal_of row_for late ≡ Some (refused (at 3 13) (codes "par") [] (w.Gone (codes "xs")))
  -- ! rule 3 10 set (array, word, word) held xs
  pub clash_is : refusal_of row_for clash ≡ Some (refused (at 3 10) (codes "set") (r.Array ∷ r.Word ∷ r.Word ∷ []) (w.Held (codes "xs")))
  -- ! rule 7 3 return (array) tag l
  pub copied_is : refusal_of row_for copied ≡ Some (refused (at 7 3) (codes "return") (r.Array ∷ []) (w.Tag (codes "l")))
  -- it passes
  pub reads_is : refusal_of row_for reads ≡ None
  -- it passes
  pub halves_is : refusal_of row_for halves ≡ None
  -- it passes
  pub recursive_is : refusal_of row_for recursive ≡ None
  -- it passes
  pub looped_is : refusal_of row_for looped ≡ None
  -- it passes
  pub either_left_is : refusal_of row_for either_left ≡ None
  -- it passes
  pub either_right_is : refusal_of row_for either_right ≡ None
  -- its left side is taken
  pub left_taken : whole_sides row_for either_left ≡ record { outs = 3 ∷ []; left = true } ∷ []
  -- its right side is
  pub right_taken : whole_sides row_for either_right ≡ record { outs = 2 ∷ []; left = false } ∷ []
