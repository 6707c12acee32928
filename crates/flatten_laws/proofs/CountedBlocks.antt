-- Where each list that is split is a variable, flat blocks have as many variables as their binds bind.
use Rattle.std.proofs.Common.{◌≡◌, ℕ, suc, ◌+◌, false, List, [], ◌∷◌, length, length-append, Option, None, refl, ap, arith}
use Rattle.target_code.specs.declared.tree.Calc.{Calc}
use Rattle.target_code.specs.declared.tree.Calc.TheVariants as c
use Rattle.target_code.specs.declared.tree.Rep.{Rep}
use Rattle.nres_core.specs.FlatTree as f
use Rattle.nres_core.specs.FlatTree.{Binds, bound_in, ◌+++◌}
use Rattle.nres_rules.specs.Flatten as fl
use Rattle.nres_rules.specs.Flatten.{Scope, Part, Parts, flat_exp, flat_exps, flat_blk, flat_steps, flat_bod, arg_of, scoped, fresh, beyond, vars, unnamed, first_name, split_bind}
use Rattle.nres_core.specs.Mirror.{named_params, rep_of}
use Rattle.nres_core.specs.Tree as t
use Rattle.nres_core.specs.Tree.{Exp, Exps, Blk, Steps, Bod}
use Rattle.nres_core.specs.declared.flat.Arg.{Arg}
use Rattle.nres_core.specs.declared.flat.Arg.TheVariants as a
use Rattle.nres_core.specs.declared.op.Op.{Op}
use Rattle.nres_core.specs.declared.place.Named.{Named}
use Rattle.nres_core.specs.declared.place.Place.{Place}
use Rattle.typing_laws.proofs.NamesLemmas.{beyond_is, named_length}
use Rattle.flatten_laws.specs.Laws.{NumberedAreCounted}
use Rattle.flatten_laws.specs.Served.{IsVariable, Splits, StepsSplit, BodySplits}

fresh_length : (xs : List Named) (k : ℕ) → length (fresh xs k) ≡ length xs
fresh_length [] k = refl
fresh_length (x ∷ xs) k = ap suc (fresh_length xs (suc k))

bound_append : (bs cs : Binds) → bound_in (bs +++ cs) ≡ bound_in bs + bound_in cs
bound_append f.No_bind cs = omega arith
bound_append (f.Calc_to p to w x y rest) cs = omega (arith, bound_append rest cs)
bound_append (f.Apply_to p to op made us rest) cs = omega (arith, bound_append rest cs)
bound_append (f.Assert p inner x rest) cs = omega (arith, bound_append rest cs)
bound_append (f.If p to x l le r re rest) cs = omega (arith, bound_append rest cs)
bound_append (f.While p to xs us test x b be rest) cs = omega (arith, bound_append rest cs)
bound_append (f.Par p to l le r re rest) cs = omega (arith, bound_append rest cs)
bound_append (f.Split p to list at i l le j r re rest) cs = omega (arith, bound_append rest cs)
bound_append (f.Either p to l le r re rest) cs = omega (arith, bound_append rest cs)
bound_append (f.Any p to x y rest) cs = omega (arith, bound_append rest cs)
bound_append (f.Call p to g us rest) cs = omega (arith, bound_append rest cs)

calc_bound : (p : Place) (w : Calc) (x : List ℕ) (l r : Part) → bound_in (fl.calc_part p w x l r).binds ≡ bound_in l.binds + suc (bound_in r.binds)
calc_bound p w x l r =
    let last = f.Calc_to p r.next w l.arg r.arg f.No_bind in
    omega (arith, bound_append l.binds (r.binds +++ last), bound_append r.binds last)

any_bound : (p : Place) (x : List ℕ) (l r : Part) → bound_in (fl.any_parts p x l r).binds ≡ bound_in l.binds + suc (bound_in r.binds)
any_bound p x l r =
    let last = f.Any p r.next l.arg r.arg f.No_bind in
    omega (arith, bound_append l.binds (r.binds +++ last), bound_append r.binds last)

apply_bound : (p : Place) (op : Op) (made : Option Rep) (x : List ℕ) (us : Parts) → bound_in (fl.apply_part p op made x us).binds ≡ suc (bound_in us.binds)
apply_bound p op made x us = omega (arith, bound_append us.binds (f.Apply_to p (us.next ∷ []) op made us.args f.No_bind))

-- where each list that is split is a variable, there are as many variables as are bound
mutual
  exp_counted : (e : Exp Op) (s : Scope) (x : List ℕ) (k : ℕ) → (flat_exp e s x k).next ≡ k + bound_in (flat_exp e s x k).binds
  exp_counted (t.Num p n) s x k = omega arith
  exp_counted (t.Truth p b) s x k = omega arith
  exp_counted (t.Var y) s x k = omega arith
  exp_counted (t.Binary p w l r) s x k =
      let left = flat_exp l s unnamed k in
      omega (arith, exp_counted l s unnamed k, exp_counted r s unnamed left.next, calc_bound p w x left (flat_exp r s unnamed left.next))
  exp_counted (t.Not p l) s x k =
      let left = flat_exp l s unnamed k in
      omega (arith, exp_counted l s unnamed k, calc_bound p c.Eq x left (fl.none left.next (a.Truth false)))
  exp_counted (t.Apply p op es made) s x k = omega (arith, exps_counted es s k, apply_bound p op (rep_of made) x (flat_exps es s k))

  exps_counted : (es : Exps Op) (s : Scope) (k : ℕ) → (flat_exps es s k).next ≡ k + bound_in (flat_exps es s k).binds
  exps_counted t.None_left s k = omega arith
  exps_counted (t.Also e es) s k =
      let left = flat_exp e s unnamed k in
      omega (arith, exp_counted e s unnamed k, exps_counted es s left.next, bound_append left.binds (flat_exps es s left.next).binds)

split_bound : (p : Place) (to : List ℕ) (u at : Arg) (i : ℕ) (l : Parts) (pl : Place) (j : ℕ) (r : Parts) (pr : Place) → IsVariable u
    → bound_in (split_bind p to u at i l pl j r pr) ≡ suc (bound_in l.binds + suc (bound_in r.binds + length to))
split_bound p to (a.Var k) at i l pl j r pr h = omega arith
split_bound p to (a.Num n) at i l pl j r pr h = absurd h
split_bound p to (a.Truth b) at i l pl j r pr h = absurd h

module _ (number : List ℕ → ℕ) where
  mutual
    pub blk_counted : (b : Blk Op) (s : Scope) (k : ℕ) → Splits number b s k → (flat_blk number b s k).next ≡ k + bound_in (flat_blk number b s k).binds
    blk_counted (t.Returns ss p es) s k h = steps_counted ss es s k h

    steps_counted : (ss : Steps Op) (es : Exps Op) (s : Scope) (k : ℕ) → StepsSplit number ss s k → (flat_steps number ss es s k).next ≡ k + bound_in (flat_steps number ss es s k).binds
    steps_counted t.No_step es s k h = exps_counted es s k
    steps_counted (t.Bind xs p b ss) es s k h =
        let first = flat_bod number b s xs k in
        let s' = scoped xs first.args s in
        omega (arith, bod_counted b s xs k h.0, steps_counted ss es s' first.next h.1, bound_append first.binds (flat_steps number ss es s' first.next).binds)
    steps_counted (t.Assert p e ss) es s k h = omega (arith, exp_counted e s unnamed k, steps_counted ss es s (flat_exp e s unnamed k).next h)

    bod_counted : (b : Bod Op) (s : Scope) (xs : List Named) (k : ℕ) → BodySplits number b s k → (flat_bod number b s xs k).next ≡ k + bound_in (flat_bod number b s xs k).binds
    bod_counted (t.Value e) s xs k h = exp_counted e s (first_name xs) k
    bod_counted (t.Take p op e) s xs k h =
        let left = flat_exp e s unnamed k in
        omega (arith, exp_counted e s unnamed k, bound_append left.binds (f.Apply_to p (fresh xs left.next) op None (left.arg ∷ []) f.No_bind), beyond_is xs left.next, fresh_length xs left.next)
    bod_counted (t.Any p x y) s xs k h =
        let left = flat_exp x s unnamed k in
        omega (arith, exp_counted x s unnamed k, exp_counted y s unnamed left.next, any_bound p (first_name xs) left (flat_exp y s unnamed left.next))
    bod_counted (t.If p e x y) s xs k h =
        let test = flat_exp e s unnamed k in
        let left = flat_blk number x s test.next in
        let right = flat_blk number y s left.next in
        let last = f.If p (fresh xs right.next) test.arg left.binds (fl.ending (fl.place_of x) left) right.binds (fl.ending (fl.place_of y) right) f.No_bind in
        omega (arith, exp_counted e s unnamed k, blk_counted x s test.next h.0, blk_counted y s left.next h.1, bound_append test.binds last, beyond_is xs right.next, fresh_length xs right.next)
    bod_counted (t.While p ys q es e x) s xs k h =
        let us = flat_exps es s k in
        let s' = scoped ys (vars (fresh ys us.next)) s in
        let test = flat_exp e s' unnamed (beyond ys us.next) in
        let body = flat_blk number x s' test.next in
        let last = f.While p (fresh xs body.next) (fresh ys us.next) us.args test.binds test.arg body.binds (fl.ending (fl.place_of x) body) f.No_bind in
        let own = exp_counted e s' unnamed (beyond ys us.next) in
        omega (arith, exps_counted es s k, own, blk_counted x s' test.next h, bound_append us.binds last, beyond_is xs body.next, fresh_length xs body.next, beyond_is ys us.next, fresh_length ys us.next)
    bod_counted (t.Par p x y) s xs k h =
        let left = flat_blk number x s k in
        let right = flat_blk number y s left.next in
        omega (arith, blk_counted x s k h.0, blk_counted y s left.next h.1, beyond_is xs right.next, fresh_length xs right.next)
    bod_counted (t.Split p z e ln x rn y) s xs k h =
        let at = flat_exp e s unnamed k in
        let sl = (ln.name, a.Var at.next) ∷ s in
        let left = flat_blk number x sl (suc at.next) in
        let sr = (rn.name, a.Var left.next) ∷ s in
        let right = flat_blk number y sr (suc left.next) in
        let to = split_bind p (fresh xs right.next) (arg_of s z.name) at.arg at.next left (fl.place_of x) left.next right (fl.place_of y) in
        let all = split_bound p (fresh xs right.next) (arg_of s z.name) at.arg at.next left (fl.place_of x) left.next right (fl.place_of y) h.0 in
        let one = exp_counted e s unnamed k in
        omega (arith, one, blk_counted x sl (suc at.next) h.1, blk_counted y sr (suc left.next) h.2, all, bound_append at.binds to, beyond_is xs right.next, fresh_length xs right.next)
    bod_counted (t.Either p x y) s xs k h =
        let left = flat_blk number x s k in
        let right = flat_blk number y s left.next in
        omega (arith, blk_counted x s k h.0, blk_counted y s left.next h.1, beyond_is xs right.next, fresh_length xs right.next)
    bod_counted (t.Foreach p x z ys q es b) s xs k h =
        let us = flat_exps es s (suc (suc k)) in
        let i = beyond ys us.next in
        let s' = scoped ys (vars (fresh ys us.next)) ((x.name, a.Var (suc (suc i))) ∷ s) in
        let turn = flat_blk number b s' (suc (suc (suc i))) in
        omega (
          arith,
          exps_counted es s (suc (suc k)),
          blk_counted b s' (suc (suc (suc i))) h,
          bound_append us.binds (fl.foreach_loop p xs ys k us i (fl.place_of b) turn),
          bound_append turn.binds (f.Calc_to p turn.next c.Add (a.Var i) (a.Num 1) f.No_bind),
          beyond_is xs (suc turn.next),
          fresh_length xs (suc turn.next),
          beyond_is ys us.next,
          fresh_length ys us.next,
          length-append (fresh xs (suc turn.next)) (beyond xs (suc turn.next) ∷ []),
          length-append (fresh ys us.next) (i ∷ []),
        )
    bod_counted (t.Call p g es) s xs k h =
        let us = flat_exps es s k in
        omega (arith, exps_counted es s k, bound_append us.binds (f.Call p (fresh xs us.next) (number g.name) us.args f.No_bind), beyond_is xs us.next, fresh_length xs us.next)

pub numbered_are_counted : NumberedAreCounted
numbered_are_counted number xs b k h =
    let ns = named_params xs in
    omega (arith, blk_counted number b (scoped ns (vars (fresh ns k)) []) (beyond ns k) h, beyond_is ns k, named_length xs)
