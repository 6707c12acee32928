-- What the flat tree of each piece of a tree needs, and how deep its blocks nest: a need is at most a cost, which is a sum over the tree.
use Rattle.std.proofs.Common.{◌≡◌, ℕ, suc, ◌+◌, ◌*◌, ◌≤◌, max, List, [], ◌∷◌, ◌++◌, length, length-append, refl, ap, arith}
use Rattle.nres_core.specs.FlatTree as f
use Rattle.nres_core.specs.FlatTree.{Binds, ◌+++◌}
use Rattle.nres_rules.specs.Flatten.{Scope, Part, Parts, flat_exp, flat_exps, flat_blk, flat_steps, flat_bod, arg_of, place_of, scoped, fresh, beyond, vars, unnamed, first_name, names_of, split_bind}
use Rattle.nres_core.specs.Sizes.{blk_nesting, steps_nesting, bod_nesting}
use Rattle.nres_core.specs.Tree as t
use Rattle.nres_core.specs.Tree.{Exp, Exps, Blk, Steps, Bod}
use Rattle.nres_core.specs.declared.flat.Arg.{Arg}
use Rattle.nres_core.specs.declared.flat.Arg.TheVariants as a
use Rattle.nres_core.specs.declared.op.Op.{Op}
use Rattle.nres_core.specs.declared.place.Named.{Named}
use Rattle.nres_core.specs.declared.place.Place.{Place}
use Rattle.typing_laws.proofs.NamesLemmas.{names_append, names_length}
use Rattle.flatten_laws.specs.Needs.{arg_need, args_need, binds_need, binds_nesting}

-- ---- costs

abbrev mutual
  pub exp_cost : Exp Op → ℕ
  exp_cost (t.Num p n) = 1
  exp_cost (t.Truth p b) = 1
  exp_cost (t.Var x) = 1
  exp_cost (t.Binary p w l r) = 6 + (exp_cost l + exp_cost r)
  exp_cost (t.Not p l) = 7 + exp_cost l
  exp_cost (t.Apply p op es made) = 6 + exps_cost es

  pub exps_cost : Exps Op → ℕ
  exps_cost t.None_left = 0
  exps_cost (t.Also e es) = exp_cost e + exps_cost es

abbrev mutual
  pub blk_cost : Blk Op → ℕ
  blk_cost (t.Returns ss p es) = steps_cost ss + exps_cost es

  pub steps_cost : Steps Op → ℕ
  steps_cost t.No_step = 0
  steps_cost (t.Bind xs p b ss) = 4 * length xs + (bod_cost b + steps_cost ss)
  steps_cost (t.Assert p e ss) = 2 + (exp_cost e + steps_cost ss)

  -- without the names that it binds
  pub bod_cost : Bod Op → ℕ
  bod_cost (t.Value e) = exp_cost e
  bod_cost (t.Take p op e) = 2 + exp_cost e
  bod_cost (t.Any p l r) = 6 + (exp_cost l + exp_cost r)
  bod_cost (t.If p e l r) = 2 + (exp_cost e + (blk_cost l + blk_cost r))
  bod_cost (t.While p ys q es e b) = 2 + (4 * length ys + (exps_cost es + (exp_cost e + blk_cost b)))
  bod_cost (t.Par p l r) = 2 + (blk_cost l + blk_cost r)
  bod_cost (t.Split p y e ln l rn r) = 11 + (exp_cost e + (blk_cost l + blk_cost r))
  bod_cost (t.Either p l r) = 2 + (blk_cost l + blk_cost r)
  bod_cost (t.Foreach p x y ys q es b) = 43 + (4 * length ys + (exps_cost es + blk_cost b))
  bod_cost (t.Call p g es) = 2 + exps_cost es

-- ---- what is joined

need_append : (bs cs : Binds) → binds_need (bs +++ cs) ≡ binds_need bs + binds_need cs
need_append f.No_bind cs = omega arith
need_append (f.Calc_to p to w x y rest) cs = omega (arith, need_append rest cs)
need_append (f.Apply_to p to op made us rest) cs = omega (arith, need_append rest cs)
need_append (f.Assert p inner x rest) cs = omega (arith, need_append rest cs)
need_append (f.If p to x l le r re rest) cs = omega (arith, need_append rest cs)
need_append (f.While p to xs us test x b be rest) cs = omega (arith, need_append rest cs)
need_append (f.Par p to l le r re rest) cs = omega (arith, need_append rest cs)
need_append (f.Split p to list at i l le j r re rest) cs = omega (arith, need_append rest cs)
need_append (f.Either p to l le r re rest) cs = omega (arith, need_append rest cs)
need_append (f.Any p to x y rest) cs = omega (arith, need_append rest cs)
need_append (f.Call p to g us rest) cs = omega (arith, need_append rest cs)

nesting_append : (bs cs : Binds) → binds_nesting (bs +++ cs) ≡ max (binds_nesting bs) (binds_nesting cs)
nesting_append f.No_bind cs = omega arith
nesting_append (f.Calc_to p to w x y rest) cs = nesting_append rest cs
nesting_append (f.Apply_to p to op made us rest) cs = nesting_append rest cs
nesting_append (f.Assert p inner x rest) cs = omega (arith, nesting_append rest cs)
nesting_append (f.If p to x l le r re rest) cs = omega (arith, nesting_append rest cs)
nesting_append (f.While p to xs us test x b be rest) cs = omega (arith, nesting_append rest cs)
nesting_append (f.Par p to l le r re rest) cs = omega (arith, nesting_append rest cs)
nesting_append (f.Split p to list at i l le j r re rest) cs = omega (arith, nesting_append rest cs)
nesting_append (f.Either p to l le r re rest) cs = omega (arith, nesting_append rest cs)
nesting_append (f.Any p to x y rest) cs = nesting_append rest cs
nesting_append (f.Call p to g us rest) cs = nesting_append rest cs

args_append : (us ws : List Arg) → args_need (us ++ ws) ≡ args_need us + args_need ws
args_append [] ws = omega arith
args_append (u ∷ us) ws = omega (arith, args_append us ws)

vars_need : (ks : List ℕ) → args_need (vars ks) ≡ 0
vars_need [] = refl
vars_need (k ∷ ks) = omega (arith, vars_need ks)

arg_one : (u : Arg) → arg_need u ≤ 1
arg_one (a.Var k) = omega arith
arg_one (a.Num n) = omega arith
arg_one (a.Truth b) = omega arith

ruleset joined = (need_append, nesting_append, args_append, vars_need, names_append, names_length)

-- a bind, or in place of it an assert without a block
record SplitFine (bs : Binds) (n m : ℕ) : Type 0 where
  need : binds_need bs ≤ 3 + n
  nests : binds_nesting bs ≤ m

split_fine : (p : Place) (to : List ℕ) (u at : Arg) (i : ℕ) (l : Parts) (pl : Place) (j : ℕ) (r : Parts) (pr : Place)
    → SplitFine (split_bind p to u at i l pl j r pr) (arg_need at + (binds_need l.binds + (args_need l.args + (binds_need r.binds + args_need r.args)))) (max (suc (binds_nesting l.binds)) (suc (binds_nesting r.binds)))
split_fine p to (a.Var k) at i l pl j r pr = record { need = omega arith; nests = omega arith }
split_fine p to (a.Num n) at i l pl j r pr = record { need = omega arith; nests = omega arith }
split_fine p to (a.Truth b) at i l pl j r pr = record { need = omega arith; nests = omega arith }

-- ---- expressions, which have no block

record PartFine (p : Part) (n : ℕ) : Type 0 where
  need : binds_need p.binds + (arg_need p.arg + 4 * length p.names) ≤ n
  nests : binds_nesting p.binds ≡ 0

-- the same of a block, which nests one deeper than what stands in it
pub record PartsFine (p : Parts) (n m : ℕ) : Type 0 where
  pub need : binds_need p.binds + (args_need p.args + 4 * length p.names) ≤ n
  pub nests : suc (binds_nesting p.binds) ≤ m

mutual
  exp_fine : (e : Exp Op) (s : Scope) (x : List ℕ) (k : ℕ) → PartFine (flat_exp e s x k) (exp_cost e)
  exp_fine (t.Num p n) s x k = record { need = omega arith; nests = refl }
  exp_fine (t.Truth p b) s x k = record { need = omega arith; nests = refl }
  exp_fine (t.Var y) s x k = record { need = omega (arith, arg_one (arg_of s y.name)); nests = refl }
  exp_fine (t.Binary p w l r) s x k =
      let one = exp_fine l s unnamed k in
      let two = exp_fine r s unnamed (flat_exp l s unnamed k).next in
      record { need = omega (arith, joined); nests = omega (arith, joined) }
  exp_fine (t.Not p l) s x k =
      let one = exp_fine l s unnamed k in
      record { need = omega (arith, joined); nests = omega (arith, joined) }
  exp_fine (t.Apply p op es made) s x k =
      let one = exps_fine es s k in
      record { need = omega (arith, joined); nests = omega (arith, joined) }

  exps_fine : (es : Exps Op) (s : Scope) (k : ℕ) → PartsFine (flat_exps es s k) (exps_cost es) 1
  exps_fine t.None_left s k = record { need = omega arith; nests = omega arith }
  exps_fine (t.Also e es) s k =
      let one = exp_fine e s unnamed k in
      let two = exps_fine es s (flat_exp e s unnamed k).next in
      record { need = omega (arith, joined); nests = omega (arith, joined) }

-- ---- blocks

module _ (number : List ℕ → ℕ) where
  mutual
    pub blk_fine : (b : Blk Op) (s : Scope) (k : ℕ) → PartsFine (flat_blk number b s k) (blk_cost b) (blk_nesting b)
    blk_fine (t.Returns ss p es) s k = steps_fine ss es s k

    steps_fine : (ss : Steps Op) (es : Exps Op) (s : Scope) (k : ℕ) → PartsFine (flat_steps number ss es s k) (steps_cost ss + exps_cost es) (suc (steps_nesting ss))
    steps_fine t.No_step es s k = let one = exps_fine es s k in record { need = omega arith; nests = omega arith }
    steps_fine (t.Bind xs p b ss) es s k =
        let first = flat_bod number b s xs k in
        let one = bod_fine b s xs k in
        let two = steps_fine ss es (scoped xs first.args s) first.next in
        record { need = omega (arith, joined); nests = omega (arith, joined) }
    steps_fine (t.Assert p e ss) es s k =
        let one = exp_fine e s unnamed k in
        let two = steps_fine ss es s (flat_exp e s unnamed k).next in
        record { need = omega (arith, joined); nests = omega (arith, joined) }

    bod_fine : (b : Bod Op) (s : Scope) (xs : List Named) (k : ℕ) → PartsFine (flat_bod number b s xs k) (4 * length xs + bod_cost b) (suc (bod_nesting b))
    bod_fine (t.Value e) s xs k =
        let one = exp_fine e s (first_name xs) k in
        record { need = omega arith; nests = omega arith }
    bod_fine (t.Take p op e) s xs k =
        let one = exp_fine e s unnamed k in
        record { need = omega (arith, joined); nests = omega (arith, joined) }
    bod_fine (t.Any p l r) s xs k =
        let one = exp_fine l s unnamed k in
        let two = exp_fine r s unnamed (flat_exp l s unnamed k).next in
        record { need = omega (arith, joined); nests = omega (arith, joined) }
    bod_fine (t.If p e l r) s xs k =
        let test = flat_exp e s unnamed k in
        let one = exp_fine e s unnamed k in
        let two = blk_fine l s test.next in
        let three = blk_fine r s (flat_blk number l s test.next).next in
        record { need = omega (arith, joined); nests = omega (arith, joined) }
    bod_fine (t.While p ys q es e b) s xs k =
        let us = flat_exps es s k in
        let s' = scoped ys (vars (fresh ys us.next)) s in
        let one = exps_fine es s k in
        let two = exp_fine e s' unnamed (beyond ys us.next) in
        let three = blk_fine b s' (flat_exp e s' unnamed (beyond ys us.next)).next in
        record { need = omega (arith, joined); nests = omega (arith, joined) }
    bod_fine (t.Par p l r) s xs k =
        let one = blk_fine l s k in
        let two = blk_fine r s (flat_blk number l s k).next in
        record { need = omega (arith, joined); nests = omega (arith, joined) }
    bod_fine (t.Split p y e ln l rn r) s xs k =
        let at = flat_exp e s unnamed k in
        let left = flat_blk number l ((ln.name, a.Var at.next) ∷ s) (suc at.next) in
        let right = flat_blk number r ((rn.name, a.Var left.next) ∷ s) (suc left.next) in
        let one = exp_fine e s unnamed k in
        let two = blk_fine l ((ln.name, a.Var at.next) ∷ s) (suc at.next) in
        let three = blk_fine r ((rn.name, a.Var left.next) ∷ s) (suc left.next) in
        let all = split_fine p (fresh xs right.next) (arg_of s y.name) at.arg at.next left (place_of l) left.next right (place_of r) in
        record { need = omega (arith, joined); nests = omega (arith, joined) }
    bod_fine (t.Either p l r) s xs k =
        let one = blk_fine l s k in
        let two = blk_fine r s (flat_blk number l s k).next in
        record { need = omega (arith, joined); nests = omega (arith, joined) }
    bod_fine (t.Foreach p x y ys q es b) s xs k =
        let us = flat_exps es s (suc (suc k)) in
        let i = beyond ys us.next in
        let one = exps_fine es s (suc (suc k)) in
        let two = blk_fine b (scoped ys (vars (fresh ys us.next)) ((x.name, a.Var (suc (suc i))) ∷ s)) (suc (suc (suc i))) in
        record { need = omega (arith, joined, arg_one (arg_of s y.name)); nests = omega (arith, joined) }
    bod_fine (t.Call p g es) s xs k =
        let one = exps_fine es s k in
        record { need = omega (arith, joined); nests = omega (arith, joined) }
