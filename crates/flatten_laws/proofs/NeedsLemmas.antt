-- A cost is at most 15 times a size, and less where loops over sets have variables and values for them; so it is with what a flat tree needs.
use Rattle.std.proofs.Common.{◌≡◌, ℕ, suc, ◌+◌, ◌*◌, ◌≤◌, List, [], ◌∷◌, length, length-append, refl, ap, arith}
use Rattle.nres_rules.specs.Flatten.{Parts, entered, flat_funs, fun_names, index_of, names_of, scoped, fresh, beyond, vars}
use Rattle.nres_core.specs.Mirror.{id_blk_of, id_procs_of, named_params}
use Rattle.nres_core.specs.Sizes.{exp_size, exps_size, blk_size, steps_size, bod_size, blk_loops, steps_loops, bod_loops, blk_nesting}
use Rattle.nres_core.specs.Tree as t
use Rattle.nres_core.specs.Tree.{Exp, Exps, Blk, Steps, Bod}
use Rattle.nres_core.specs.declared.identified.IdFun.{IdFun}
use Rattle.nres_core.specs.declared.op.Op.{Op}
use Rattle.nres_core.specs.declared.place.Named.{Named}
use Rattle.nres_core.specs.declared.tree.Param.{Param}
use Rattle.flatten_laws.specs.Filled.{SomeName, SomeExp, SomeResult, Filled, FilledSteps, FilledBody, FilledFuns}
use Rattle.flatten_laws.specs.Laws.{NeedIsBounded, FilledNeedLess, NestsNoDeeper}
use Rattle.flatten_laws.specs.Needs.{args_need, binds_need, procs_need, binds_nesting, procs_nesting}
use Rattle.identify_laws.specs.Trees.{id_funs_size, id_funs_loops, id_funs_nesting}
use Rattle.flatten_laws.proofs.Costs.{exp_cost, exps_cost, blk_cost, steps_cost, bod_cost, blk_fine}
use Rattle.typing_laws.proofs.NamesLemmas.{named_length, names_length}

-- ---- expressions

mutual
  exp_paid : (e : Exp Op) → exp_cost e + 2 ≤ 8 * exp_size e
  exp_paid (t.Num p n) = omega arith
  exp_paid (t.Truth p b) = omega arith
  exp_paid (t.Var x) = omega arith
  exp_paid (t.Binary p w l r) = omega (arith, exp_paid l, exp_paid r)
  exp_paid (t.Not p l) = omega (arith, exp_paid l)
  exp_paid (t.Apply p op es made) = omega (arith, exps_paid es)

  exps_paid : (es : Exps Op) → exps_cost es ≤ 8 * exps_size es
  exps_paid t.None_left = omega arith
  exps_paid (t.Also e es) = omega (arith, exp_paid e, exps_paid es)

some_paid : (es : Exps Op) → SomeExp es → exps_cost es + 2 ≤ 8 * exps_size es
some_paid t.None_left h = absurd h
some_paid (t.Also e es) h = omega (arith, exp_paid e, exps_paid es)

some_name : (xs : List Named) → SomeName xs → 1 ≤ length xs
some_name [] h = absurd h
some_name (x ∷ xs) h = omega arith

-- ---- blocks

mutual
  blk_fifteen : (b : Blk Op) → blk_cost b + 15 ≤ 15 * blk_size b
  blk_fifteen (t.Returns ss p es) = omega (arith, steps_fifteen ss, exps_paid es)

  steps_fifteen : (ss : Steps Op) → steps_cost ss ≤ 15 * steps_size ss
  steps_fifteen t.No_step = omega arith
  steps_fifteen (t.Bind xs p b ss) = omega (arith, bod_fifteen b, steps_fifteen ss)
  steps_fifteen (t.Assert p e ss) = omega (arith, exp_paid e, steps_fifteen ss)

  bod_fifteen : (b : Bod Op) → bod_cost b ≤ 15 + 15 * bod_size b
  bod_fifteen (t.Value e) = omega (arith, exp_paid e)
  bod_fifteen (t.Take p op e) = omega (arith, exp_paid e)
  bod_fifteen (t.Any p l r) = omega (arith, exp_paid l, exp_paid r)
  bod_fifteen (t.If p e l r) = omega (arith, exp_paid e, blk_fifteen l, blk_fifteen r)
  bod_fifteen (t.While p ys q es e b) = omega (arith, exps_paid es, exp_paid e, blk_fifteen b)
  bod_fifteen (t.Par p l r) = omega (arith, blk_fifteen l, blk_fifteen r)
  bod_fifteen (t.Split p y e ln l rn r) = omega (arith, exp_paid e, blk_fifteen l, blk_fifteen r)
  bod_fifteen (t.Either p l r) = omega (arith, blk_fifteen l, blk_fifteen r)
  bod_fifteen (t.Foreach p x y ys q es b) = omega (arith, exps_paid es, blk_fifteen b)
  bod_fifteen (t.Call p g es) = omega (arith, exps_paid es)

-- at most 8 for each of a size and 7 for each loop over a set, each of which is 7 of it; n and i are left over
record Paid (cost size loops n i : ℕ) : Type 0 where
  eight : cost + n ≤ 8 * size + 7 * loops
  seven : 7 * loops + i ≤ size

mutual
  blk_paid : (b : Blk Op) → Filled b → Paid (blk_cost b) (blk_size b) (blk_loops b) 8 1
  blk_paid (t.Returns ss p es) h =
      let one = steps_paid ss h in
      record { eight = omega (arith, exps_paid es); seven = omega arith }

  -- with a result
  turn_paid : (b : Blk Op) → SomeResult b → Filled b → Paid (blk_cost b) (blk_size b) (blk_loops b) 10 2
  turn_paid (t.Returns ss p es) some h =
      let one = steps_paid ss h in
      record { eight = omega (arith, some_paid es some); seven = omega (arith, some_paid es some) }

  steps_paid : (ss : Steps Op) → FilledSteps ss → Paid (steps_cost ss) (steps_size ss) (steps_loops ss) 0 0
  steps_paid t.No_step h = record { eight = omega arith; seven = omega arith }
  steps_paid (t.Bind xs p b ss) h =
      let one = bod_paid xs b h.0 in
      let two = steps_paid ss h.1 in
      record { eight = omega arith; seven = omega arith }
  steps_paid (t.Assert p e ss) h =
      let one = steps_paid ss h in
      record { eight = omega (arith, exp_paid e); seven = omega arith }

  -- in a step that binds these names
  bod_paid : (xs : List Named) (b : Bod Op) → FilledBody xs b → Paid (4 * length xs + bod_cost b) (suc (length xs + bod_size b)) (bod_loops b) 0 0
  bod_paid xs (t.Value e) h = record { eight = omega (arith, exp_paid e); seven = omega arith }
  bod_paid xs (t.Take p op e) h = record { eight = omega (arith, exp_paid e); seven = omega arith }
  bod_paid xs (t.Any p l r) h = record { eight = omega (arith, exp_paid l, exp_paid r); seven = omega arith }
  bod_paid xs (t.If p e l r) h =
      let one = blk_paid l h.0 in
      let two = blk_paid r h.1 in
      record { eight = omega (arith, exp_paid e); seven = omega arith }
  bod_paid xs (t.While p ys q es e b) h =
      let one = blk_paid b h in
      record { eight = omega (arith, exps_paid es, exp_paid e); seven = omega arith }
  bod_paid xs (t.Par p l r) h =
      let one = blk_paid l h.0 in
      let two = blk_paid r h.1 in
      record { eight = omega arith; seven = omega arith }
  bod_paid xs (t.Split p y e ln l rn r) h =
      let one = blk_paid l h.0 in
      let two = blk_paid r h.1 in
      record { eight = omega (arith, exp_paid e); seven = omega arith }
  bod_paid xs (t.Either p l r) h =
      let one = blk_paid l h.0 in
      let two = blk_paid r h.1 in
      record { eight = omega arith; seven = omega arith }
  bod_paid xs (t.Foreach p x y ys q es b) h =
      let name = some_name xs h.0 in
      let var = some_name ys h.1 in
      let start = some_paid es h.2 in
      let turn = turn_paid b h.3 h.4 in
      record { eight = omega arith; seven = omega arith }
  bod_paid xs (t.Call p g es) h = record { eight = omega (arith, exps_paid es); seven = omega arith }

-- ---- whole trees

-- a block with its parameters' variables
record Entered (xs : List Param) (b : Blk Op) (p : Parts) : Type 0 where
  need : binds_need p.binds + (args_need p.args + 4 * (length (names_of (named_params xs)) + length p.names)) ≤ 4 * length xs + blk_cost b
  nests : suc (binds_nesting p.binds) ≤ blk_nesting b

entered_fine : (number : List ℕ → ℕ) (xs : List Param) (b : Blk Op) (k : ℕ) → Entered xs b (entered number (named_params xs) b k)
entered_fine number xs b k =
    let one = blk_fine number b (scoped (named_params xs) (vars (fresh (named_params xs) k)) []) (beyond (named_params xs) k) in
    record { need = omega (arith, names_length (named_params xs), named_length xs); nests = one.nests }

module _ (number : List ℕ → ℕ) where
  funs_fifteen : (gs : List IdFun) (k : ℕ) → procs_need (flat_funs number gs k) + 4 * length (fun_names number gs k) ≤ 15 * id_funs_size gs
  funs_fifteen [] k = omega arith
  funs_fifteen (g ∷ gs) k =
      let one = entered_fine number g.params (id_blk_of g.body) k in
      let next = (entered number (named_params g.params) (id_blk_of g.body) k).next in
      omega (arith, blk_fifteen (id_blk_of g.body), funs_fifteen gs next, length-append {A = List ℕ})

  funs_paid : (gs : List IdFun) (k : ℕ) → FilledFuns gs → Paid (procs_need (flat_funs number gs k) + 4 * length (fun_names number gs k)) (id_funs_size gs) (id_funs_loops gs) 0 0
  funs_paid [] k h = record { eight = omega arith; seven = omega arith }
  funs_paid (g ∷ gs) k h =
      let one = entered_fine number g.params (id_blk_of g.body) k in
      let next = (entered number (named_params g.params) (id_blk_of g.body) k).next in
      let two = blk_paid (id_blk_of g.body) h.0 in
      let three = funs_paid gs next h.1 in
      record { eight = omega (arith, length-append {A = List ℕ}); seven = omega arith }

  funs_nest : (gs : List IdFun) (k : ℕ) → procs_nesting (flat_funs number gs k) ≤ id_funs_nesting gs
  funs_nest [] k = omega arith
  funs_nest (g ∷ gs) k =
      let one = entered_fine number g.params (id_blk_of g.body) k in
      let next = (entered number (named_params g.params) (id_blk_of g.body) k).next in
      omega (arith, funs_nest gs next)

pub need_is_bounded : NeedIsBounded
need_is_bounded p =
    let number = index_of (id_procs_of p.funs) in
    let one = entered_fine number p.params (id_blk_of p.body) 0 in
    let next = (entered number (named_params p.params) (id_blk_of p.body) 0).next in
    omega (arith, blk_fifteen (id_blk_of p.body), funs_fifteen number p.funs next, length-append {A = List ℕ})

pub filled_need_less : FilledNeedLess
filled_need_less p h =
    let number = index_of (id_procs_of p.funs) in
    let one = entered_fine number p.params (id_blk_of p.body) 0 in
    let next = (entered number (named_params p.params) (id_blk_of p.body) 0).next in
    let two = blk_paid (id_blk_of p.body) h.0 in
    let three = funs_paid number p.funs next h.1 in
    record { nine = omega (arith, length-append {A = List ℕ}); eight = omega (arith, length-append {A = List ℕ}) }

pub nests_no_deeper : NestsNoDeeper
nests_no_deeper p =
    let number = index_of (id_procs_of p.funs) in
    let one = entered_fine number p.params (id_blk_of p.body) 0 in
    let next = (entered number (named_params p.params) (id_blk_of p.body) 0).next in
    omega (arith, funs_nest number p.funs next)
