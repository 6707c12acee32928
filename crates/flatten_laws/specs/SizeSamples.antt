-- The needs of small flat trees.
use Rattle.std.specs.Prelude.{◌≡◌, ℕ, zero, suc, ◌+◌, ◌*◌, List, [], ◌∷◌, length, false, true, Some, codes}
use Rattle.target_code.specs.declared.tree.Rep.TheVariants as r
use Rattle.nres_rules.specs.FlatSamples.{at, named, set, sum_block, sum_parts}
use Rattle.nres_core.specs.FlatTree as f
use Rattle.nres_core.specs.FlatTree.{Binds, Ending}
use Rattle.nres_rules.specs.Flatten.{Parts, entered, flat_of}
use Rattle.nres_core.specs.Sizes.{blk_size, blk_nesting}
use Rattle.nres_core.specs.Tree as t
use Rattle.nres_core.specs.Tree.{Blk, Exp, Exps}
use Rattle.nres_rules.specs.Typed.{IsTyped}
use Rattle.nres_core.specs.declared.flat.Arg.TheVariants as a
use Rattle.nres_core.specs.declared.identified.IdBlock.{roll-IdBlock}
use Rattle.nres_core.specs.declared.identified.IdBody.TheVariants as body
use Rattle.nres_core.specs.declared.identified.IdExpr.{IdExpr}
use Rattle.nres_core.specs.declared.identified.IdExpr.TheVariants as expr
use Rattle.nres_core.specs.declared.identified.IdStep.{IdStep}
use Rattle.nres_core.specs.declared.identified.IdStep.TheVariants as steps
use Rattle.nres_core.specs.declared.identified.Identified.{Identified}
use Rattle.nres_core.specs.declared.op.Op.{Op}
use Rattle.nres_core.specs.declared.op.Op.TheVariants as o
use Rattle.nres_core.specs.declared.place.Named.{Named}
use Rattle.nres_core.specs.declared.place.Place.{Place}
use Rattle.nres_core.specs.declared.ty.Ty.TheVariants as ty
use Rattle.flatten_laws.specs.Filled.{Filled}
use Rattle.flatten_laws.specs.Needs.{args_need, binds_need, binds_nesting, need_of}
use Rattle.identify_laws.specs.Trees.{id_size_of, id_loops_of, id_nesting_of}

abbrev pub here : Place
here = at 1 1

abbrev pub called : List ℕ → Named
called x = named x here

-- ---- plain data

abbrev pub only : Exp Op → Exps Op
only e = t.Also e t.None_left

-- x <- split xs at 1 left u return u right v return v end, return x
abbrev pub two_parts : Blk Op
two_parts = t.Returns
    (t.Bind (called (codes "x") ∷ []) here
    (t.Split here (called (codes "xs")) (t.Num here 1)
    (called (codes "u")) (t.Returns t.No_step here (only (t.Var (called (codes "u")))))
    (called (codes "v")) (t.Returns t.No_step here (only (t.Var (called (codes "v")))))) t.No_step)
    here (only (t.Var (called (codes "x"))))

abbrev pub split_parts : Parts
split_parts = entered (λ x. 0) (called (codes "xs") ∷ []) two_parts 0

-- what a block with one parameter needs
abbrev pub needed : Parts → ℕ
needed b = 4 * suc (length b.names) + (binds_need b.binds + args_need b.args)

abbrev pub ends : Ending
ends = record { place = here; results = [] }

-- a choice between empty blocks
abbrev pub choice : Binds
choice = f.If here [] (a.Truth true) f.No_bind ends f.No_bind ends f.No_bind

-- the same in a loop's condition and in an assert
abbrev pub in_condition : Binds
in_condition = f.While here [] [] [] choice (a.Truth true) f.No_bind ends f.No_bind

abbrev pub in_assert : Binds
in_assert = f.Assert here choice (a.Truth true) f.No_bind

-- ---- trees that need most

-- xs <- foreach x in s (ys) from es do return es end
abbrev pub loop : List Named → List Named → List IdExpr → IdStep
loop xs ys es = steps.Bind xs here (body.Foreach here (called (codes "x")) set ys here es (roll-IdBlock (record { steps = []; place = here; results = es })))

abbrev pub times : ℕ → IdStep → List IdStep
times zero s = []
times (suc n) s = s ∷ times n s

-- empty as hset
abbrev pub nothing : IdExpr
nothing = expr.Apply here o.EmptySet [] (Some (record { rep = r.Hset; place = here }))

-- from a set s: five times t <- foreach x in s (a) from empty as hset do return empty as hset end, and then return t
abbrev pub anew : Identified
anew = record {
  name = codes "anew";
  params = record { name = codes "s"; place = here; ty = ty.Set; rep = r.Hset; rep_place = here; kept = false } ∷ [];
  shown = record { ty = ty.Set; rep = r.Hset; rep_place = here } ∷ [];
  body = roll-IdBlock (record { steps = times 5 (loop (called (codes "t") ∷ []) (called (codes "a") ∷ []) (nothing ∷ [])); place = here; results = expr.Var (called (codes "t")) ∷ [] });
  funs = [];
}

-- fifteen loops with no variables, over a name that is not bound
abbrev pub bare : Identified
bare = record {
  name = codes "bare";
  params = [];
  shown = [];
  body = roll-IdBlock (record { steps = times 15 (loop [] [] []); place = here; results = [] });
  funs = [];
}

pub record Seen : Type 0 where
  -- eleven variables, seven binds, and three literals: the sum's start, the index's start and its step
  pub sum_need : needed sum_parts ≡ 61
  pub sum_size : blk_size sum_block ≡ 11
  pub sum_nesting : suc (binds_nesting sum_parts.binds) ≡ 2
  pub sum_filled : Filled sum_block
  -- four variables, one bind and a literal
  pub split_need : needed split_parts ≡ 19
  pub split_nesting : suc (binds_nesting split_parts.binds) ≡ blk_nesting two_parts
  -- two binds and two literals; a condition's binds stand as deep as the loop's body, an assert's as deep as the assert
  pub condition_need : binds_need in_condition ≡ 6
  pub condition_nesting : suc (binds_nesting in_condition) ≡ 3
  pub assert_need : binds_need in_assert ≡ 6
  pub assert_nesting : suc (binds_nesting in_assert) ≡ 2
  -- a typed tree with a need of more than 8 times its size, which is 312
  pub anew_typed : IsTyped anew
  pub anew_size : id_size_of anew ≡ 39
  pub anew_need : need_of (flat_of anew) ≡ 314
  pub anew_loops : id_loops_of anew ≡ 5
  pub anew_nesting : id_nesting_of anew ≡ 2
  -- another tree, with a need of more than 14 times its size, which is 644
  pub bare_size : id_size_of bare ≡ 46
  pub bare_need : need_of (flat_of bare) ≡ 645
