-- Which numbers a flat tree takes.
use Rattle.std.proofs.Common.{ℕ, suc, ◌≤◌, List, [], ◌∷◌, arith}
use Rattle.nres_core.specs.Tree as t
use Rattle.nres_core.specs.Tree.{Exp, Exps, Blk, Steps, Bod}
use Rattle.nres_core.specs.declared.op.Op.{Op}
use Rattle.nres_core.specs.declared.flat.Arg.{Arg}
use Rattle.nres_core.specs.declared.flat.Arg.TheVariants as v
use Rattle.nres_core.specs.declared.place.Named.{Named}
use Rattle.nres_rules.specs.Flatten.{Scope, Part, Parts, flat_exp, flat_exps, flat_blk, flat_steps, flat_bod, unnamed, scoped, fresh, beyond, vars, first_name}
use Rattle.flatten_laws.specs.Environments.{arg_below, Fits}
use Rattle.flatten_laws.proofs.MeantScopes.{args_below, arg_more, fits_more, arg_of_below, beyond_le, fresh_below, scoped_fits}

pub record Bounded (k : ℕ) (p : Part) : Type 0 where
  pub next : k ≤ p.next
  pub arg : arg_below p.next p.arg

pub record AllBounded (k : ℕ) (p : Parts) : Type 0 where
  pub next : k ≤ p.next
  pub args : args_below p.next p.args

mutual
  pub exp_bounded : (e : Exp Op) (s : Scope) (x : List ℕ) (k : ℕ) → Fits k s → Bounded k (flat_exp e s x k)
  exp_bounded (t.Num p n) s x k f = record { next = omega arith; arg = tt }
  exp_bounded (t.Truth p n) s x k f = record { next = omega arith; arg = tt }
  exp_bounded (t.Var y) s x k f = record { next = omega arith; arg = arg_of_below k s y.name f }
  exp_bounded (t.Binary p w l r) s x k f =
      let a = exp_bounded l s unnamed k f in
      let b = exp_bounded r s unnamed (flat_exp l s unnamed k).next (fits_more _ _ s a.next f) in
      record { next = omega (arith, a.next, b.next); arg = omega arith }
  exp_bounded (t.Not p l) s x k f = let a = exp_bounded l s unnamed k f in record { next = omega (arith, a.next); arg = omega arith }
  exp_bounded (t.Apply p op es made) s x k f = let a = exps_bounded es s k f in record { next = omega (arith, a.next); arg = omega arith }

  pub exps_bounded : (es : Exps Op) (s : Scope) (k : ℕ) → Fits k s → AllBounded k (flat_exps es s k)
  exps_bounded t.None_left s k f = record { next = omega arith; args = tt }
  exps_bounded (t.Also e es) s k f =
      let a = exp_bounded e s unnamed k f in
      let b = exps_bounded es s (flat_exp e s unnamed k).next (fits_more _ _ s a.next f) in
      record { next = omega (arith, a.next, b.next); args = (arg_more _ _ _ b.next a.arg, b.args) }

pub args_more : (k m : ℕ) (us : List Arg) → k ≤ m → args_below k us → args_below m us
args_more k m [] le h = tt
args_more k m (u ∷ us) le h = (arg_more k m u le h.0, args_more k m us le h.1)

-- the scope of a turn
pub foreach_fits : (ys : List Named) (x : List ℕ) (k m : ℕ) (s : Scope) → k ≤ m → Fits k s → Fits (suc (suc (suc (beyond ys m)))) (scoped ys (vars (fresh ys m)) ((x, v.Var (suc (suc (beyond ys m)))) ∷ s))
foreach_fits ys x k m s le f =
    scoped_fits _ ys _ _ (args_more (beyond ys m) _ _ (omega arith) (fresh_below ys m)) (omega arith, fits_more k _ s (omega (arith, le, beyond_le ys m)) f)

module _ (number : List ℕ → ℕ) where
  mutual
    pub blk_bounded : (b : Blk Op) (s : Scope) (k : ℕ) → Fits k s → AllBounded k (flat_blk number b s k)
    blk_bounded (t.Returns ss p es) s k f = steps_bounded ss es s k f

    pub steps_bounded : (ss : Steps Op) (es : Exps Op) (s : Scope) (k : ℕ) → Fits k s → AllBounded k (flat_steps number ss es s k)
    steps_bounded t.No_step es s k f = exps_bounded es s k f
    steps_bounded (t.Bind xs p b ss) es s k f =
        let a = bod_bounded b s xs k f in
        let c = steps_bounded ss es (scoped xs (flat_bod number b s xs k).args s) (flat_bod number b s xs k).next (scoped_fits _ xs _ s a.args (fits_more _ _ s a.next f)) in
        record { next = omega (arith, a.next, c.next); args = c.args }
    steps_bounded (t.Assert p e ss) es s k f =
        let a = exp_bounded e s unnamed k f in
        let c = steps_bounded ss es s (flat_exp e s unnamed k).next (fits_more _ _ s a.next f) in
        record { next = omega (arith, a.next, c.next); args = c.args }

    pub bod_bounded : (b : Bod Op) (s : Scope) (xs : List Named) (k : ℕ) → Fits k s → AllBounded k (flat_bod number b s xs k)
    bod_bounded (t.Value e) s xs k f = let a = exp_bounded e s (first_name xs) k f in record { next = a.next; args = (a.arg, tt) }
    bod_bounded (t.Take p op e) s xs k f = let a = exp_bounded e s unnamed k f in record { next = omega (arith, a.next, beyond_le xs (flat_exp e s unnamed k).next); args = fresh_below xs (flat_exp e s unnamed k).next }
    bod_bounded (t.Any p l r) s xs k f =
        let a = exp_bounded l s unnamed k f in
        let b = exp_bounded r s unnamed (flat_exp l s unnamed k).next (fits_more _ _ s a.next f) in
        record { next = omega (arith, a.next, b.next); args = (omega arith, tt) }
    bod_bounded (t.If p e l r) s xs k f =
        let test = flat_exp e s unnamed k in
        let a = exp_bounded e s unnamed k f in
        let f' = fits_more _ _ s a.next f in
        let b = blk_bounded l s test.next f' in
        let c = blk_bounded r s (flat_blk number l s test.next).next (fits_more _ _ s b.next f') in
        let m = (flat_blk number r s (flat_blk number l s test.next).next).next in
        record { next = omega (arith, a.next, b.next, c.next, beyond_le xs m); args = fresh_below xs m }
    bod_bounded (t.While p ys q es e b) s xs k f =
        let us = flat_exps es s k in
        let a = exps_bounded es s k f in
        let k' = beyond ys us.next in
        let f' = scoped_fits k' ys _ s (fresh_below ys us.next) (fits_more _ _ s (beyond_le ys us.next) (fits_more _ _ s a.next f)) in
        let c = exp_bounded e (scoped ys (vars (fresh ys us.next)) s) unnamed k' f' in
        let d = blk_bounded b (scoped ys (vars (fresh ys us.next)) s) (flat_exp e (scoped ys (vars (fresh ys us.next)) s) unnamed k').next (fits_more _ _ _ c.next f') in
        let m = (flat_blk number b (scoped ys (vars (fresh ys us.next)) s) (flat_exp e (scoped ys (vars (fresh ys us.next)) s) unnamed k').next).next in
        record { next = omega (arith, a.next, beyond_le ys us.next, c.next, d.next, beyond_le xs m); args = fresh_below xs m }
    bod_bounded (t.Par p l r) s xs k f =
        let b = blk_bounded l s k f in
        let c = blk_bounded r s (flat_blk number l s k).next (fits_more _ _ s b.next f) in
        let m = (flat_blk number r s (flat_blk number l s k).next).next in
        record { next = omega (arith, b.next, c.next, beyond_le xs m); args = fresh_below xs m }
    bod_bounded (t.Split p y e ln l rn r) s xs k f =
        let at = flat_exp e s unnamed k in
        let a = exp_bounded e s unnamed k f in
        let b = blk_bounded l ((ln.name, v.Var at.next) ∷ s) (suc at.next) (omega arith, fits_more k (suc at.next) s (omega (arith, a.next)) f) in
        let left = flat_blk number l ((ln.name, v.Var at.next) ∷ s) (suc at.next) in
        let c = blk_bounded r ((rn.name, v.Var left.next) ∷ s) (suc left.next) (omega arith, fits_more k (suc left.next) s (omega (arith, a.next, b.next)) f) in
        let m = (flat_blk number r ((rn.name, v.Var left.next) ∷ s) (suc left.next)).next in
        record { next = omega (arith, a.next, b.next, c.next, beyond_le xs m); args = fresh_below xs m }
    bod_bounded (t.Either p l r) s xs k f =
        let b = blk_bounded l s k f in
        let c = blk_bounded r s (flat_blk number l s k).next (fits_more _ _ s b.next f) in
        let m = (flat_blk number r s (flat_blk number l s k).next).next in
        record { next = omega (arith, b.next, c.next, beyond_le xs m); args = fresh_below xs m }
    bod_bounded (t.Foreach p x y ys q es b) s xs k f =
        let us = flat_exps es s (suc (suc k)) in
        let i = beyond ys us.next in
        let s' = scoped ys (vars (fresh ys us.next)) ((x.name, v.Var (suc (suc i))) ∷ s) in
        let turn = flat_blk number b s' (suc (suc (suc i))) in
        let a = exps_bounded es s (suc (suc k)) (fits_more k (suc (suc k)) s (omega arith) f) in
        let f' = foreach_fits ys x.name k us.next s (omega (arith, a.next)) f in
        let d = blk_bounded b s' (suc (suc (suc i))) f' in
        record {
          next = omega (arith, a.next, beyond_le ys us.next, d.next, beyond_le xs (suc turn.next));
          args = args_more _ _ _ (omega arith) (fresh_below xs (suc turn.next));
        }
    bod_bounded (t.Call p g es) s xs k f = let a = exps_bounded es s k f in record { next = omega (arith, a.next, beyond_le xs (flat_exps es s k).next); args = fresh_below xs (flat_exps es s k).next }
