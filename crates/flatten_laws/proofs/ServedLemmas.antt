-- A typed tree is served: its loops over sets have as many names as values, and each list that is split is a variable.
use Rattle.std.proofs.Common.{◌≡◌, ℕ, suc, true, false, cond, List, [], ◌∷◌, length, Some, refl, sym, ap, ◌∙◌, subst, arith}
use Rattle.nres_rules.specs.Flatten as fl
use Rattle.nres_rules.specs.Flatten.{flat_exp, flat_exps, flat_blk, flat_bod, arg_of, scoped, fresh, beyond, vars, unnamed, first_name}
use Rattle.nres_core.specs.Tree.{Exp, Exps, Blk, Steps, Bod, same_name}
use Rattle.nres_rules.specs.Typed.{Scope, type_in, scope_with}
use Rattle.nres_core.specs.declared.flat.Arg.{Arg}
use Rattle.nres_core.specs.declared.flat.Arg.TheVariants as a
use Rattle.nres_core.specs.declared.op.Op.{Op}
use Rattle.nres_core.specs.declared.place.Named.{Named}
use Rattle.nres_core.specs.declared.ty.Ty.{Ty}
use Rattle.nres_core.specs.declared.ty.Ty.TheVariants as ty
use Rattle.flatten_laws.specs.Served.{IsVariable, Splits, StepsSplit, BodySplits, Served, ServedSteps, ServedBody, count, results}
use Rattle.flatten_laws.proofs.Shaped as d
use Rattle.flatten_laws.proofs.Shaped.{ExpHas, ExpsHave, BlkHas, StepsHave, BodHas}

-- a list stands in a variable
abbrev pub Suits : Arg → Ty → Type 0
Suits (a.Var k) u = Unit {0}
Suits (a.Num n) ty.List = ⊥
Suits (a.Num n) u = Unit {0}
Suits (a.Truth b) ty.List = ⊥
Suits (a.Truth b) u = Unit {0}

abbrev pub AllSuit : List Arg → List Ty → Type 0
AllSuit [] [] = Unit {0}
AllSuit (x ∷ xs) (u ∷ us) = Suits x u × AllSuit xs us
AllSuit _ _ = ⊥

abbrev pub Aligned : Scope → fl.Scope → Type 0
Aligned [] [] = Unit {0}
Aligned (e ∷ g) (b ∷ s) = (b.0 ≡ e.0) × Suits b.1 e.1 × Aligned g s
Aligned _ _ = ⊥

arg_suits : (g : Scope) (s : fl.Scope) (x : List ℕ) (u : Ty) → Aligned g s → type_in g x ≡ Some u → Suits (arg_of s x) u
arg_suits [] [] x u h k = absurd (cc)
arg_suits [] (b ∷ s) x u h k = absurd h
arg_suits (e ∷ g) [] x u h k = absurd h
arg_suits (e ∷ g) (b ∷ s) x u h k =
    subst (λ z. Suits (cond (same_name z x) b.1 (arg_of s x)) u) (sym h.0)
    ((elim (same_name e.0 x) as (λ z. cond z (Some e.1) (type_in g x) ≡ Some u → Suits (cond z b.1 (arg_of s x)) u) [
      | true ↦ λ q. let same : e.1 ≡ u = (cc) in subst (λ z. Suits b.1 z) same h.1
      | false ↦ λ q. arg_suits g s x u h.2 q
    ]) k)

pub scoped_aligned : (xs : List Named) (us : List Ty) (args : List Arg) (g : Scope) (s : fl.Scope) → length xs ≡ length us → AllSuit args us → Aligned g s → Aligned (scope_with xs us g) (scoped xs args s)
scoped_aligned [] us args g s e h k = k
scoped_aligned (x ∷ xs) [] args g s e h k = absurd (omega (arith, e))
scoped_aligned (x ∷ xs) (u ∷ us) [] g s e h k = absurd h
scoped_aligned (x ∷ xs) (u ∷ us) (b ∷ args) g s e h k = scoped_aligned xs us args _ _ (omega (arith, e)) h.1 (refl, h.0, k)

pub vars_suit : (xs : List Named) (us : List Ty) (k : ℕ) → length xs ≡ length us → AllSuit (vars (fresh xs k)) us
vars_suit [] [] k e = tt
vars_suit [] (u ∷ us) k e = absurd (omega (arith, e))
vars_suit (x ∷ xs) [] k e = absurd (omega (arith, e))
vars_suit (x ∷ xs) (u ∷ us) k e = (tt, vars_suit xs us (suc k) (omega (arith, e)))

-- an argument of its type
mutual
  exp_suits : {g : Scope} {e : Exp Op} {u : Ty} → ExpHas g e u → (s : fl.Scope) (x : List ℕ) (k : ℕ) → Aligned g s → Suits (flat_exp e s x k).arg u
  exp_suits d.num s x k h = tt
  exp_suits d.truth s x k h = tt
  exp_suits {g = g} {u = u} (d.var {x = y} t) s x k h = arg_suits g s y.name u h t
  exp_suits (d.binary l r) s x k h = tt
  exp_suits (d.negated l) s x k h = tt
  exp_suits (d.apply l) s x k h = tt

  exps_suit : {g : Scope} {es : Exps Op} {us : List Ty} → ExpsHave g es us → (s : fl.Scope) (k : ℕ) → Aligned g s → AllSuit (flat_exps es s k).args us
  exps_suit d.none_left s k h = tt
  exps_suit (d.also {e = e} l r) s k h = (exp_suits l s unnamed k h, exps_suit r s (flat_exp e s unnamed k).next h)

is_variable : (u : Arg) → Suits u ty.List → IsVariable u
is_variable (a.Var k) h = tt
is_variable (a.Num n) h = h
is_variable (a.Truth b) h = h

module _ (number : List ℕ → ℕ) where
  mutual
    pub blk_splits : {g : Scope} {b : Blk Op} {us : List Ty} → BlkHas g b us → (s : fl.Scope) (k : ℕ) → Aligned g s → Splits number b s k
    blk_splits (d.returns l) s k h = steps_split l s k h

    steps_split : {g : Scope} {ss : Steps Op} {es : Exps Op} {us : List Ty} → StepsHave g ss es us → (s : fl.Scope) (k : ℕ) → Aligned g s → StepsSplit number ss s k
    steps_split (d.ends l) s k h = tt
    steps_split (d.binds {xs = xs} {b = b} {ws = ws} l e r) s k h =
        let first = flat_bod number b s xs k in
        (bod_splits l s k h, steps_split r (scoped xs first.args s) first.next (scoped_aligned xs ws first.args _ s e (bod_suits l s xs k e h) h))
    steps_split (d.asserts {e = e} l r) s k h = steps_split r s (flat_exp e s unnamed k).next h

    -- the arguments for the names that a body binds
    bod_suits : {g : Scope} {b : Bod Op} {us : List Ty} → BodHas g b us → (s : fl.Scope) (xs : List Named) (k : ℕ) → length xs ≡ length us → Aligned g s → AllSuit (flat_bod number b s xs k).args us
    bod_suits (d.value l) s xs k e h = (exp_suits l s (first_name xs) k h, tt)
    bod_suits {us = us} (d.takes l) s xs k e h = vars_suit xs us _ e
    bod_suits (d.any l r) s xs k e h = (tt, tt)
    bod_suits {us = us} (d.choice l m r) s xs k e h = vars_suit xs us _ e
    bod_suits {us = us} (d.loop l c m r) s xs k e h = vars_suit xs us _ e
    bod_suits {us = us} (d.pair l r) s xs k e h = vars_suit xs us _ e
    bod_suits {us = us} (d.parts list l m r) s xs k e h = vars_suit xs us _ e
    bod_suits {us = us} (d.either l r) s xs k e h = vars_suit xs us _ e
    bod_suits {us = us} (d.each l c r) s xs k e h = vars_suit xs us _ e
    bod_suits {us = us} (d.calls l) s xs k e h = vars_suit xs us _ e

    bod_splits : {g : Scope} {b : Bod Op} {us : List Ty} → BodHas g b us → (s : fl.Scope) (k : ℕ) → Aligned g s → BodySplits number b s k
    bod_splits (d.value l) s k h = tt
    bod_splits (d.takes l) s k h = tt
    bod_splits (d.any l r) s k h = tt
    bod_splits (d.choice {e = t} {a = x} l m r) s k h =
        let test = flat_exp t s unnamed k in
        (blk_splits m s test.next h, blk_splits r s (flat_blk number x s test.next).next h)
    bod_splits {us = us} (d.loop {xs = ys} {es = es} {e = t} l c m r) s k h =
        let j = (flat_exps es s k).next in
        let s' = scoped ys (vars (fresh ys j)) s in
        blk_splits r s' (flat_exp t s' unnamed (beyond ys j)).next (scoped_aligned ys us (vars (fresh ys j)) _ s c (vars_suit ys us j c) h)
    bod_splits (d.pair {a = x} l r) s k h = (blk_splits l s k h, blk_splits r s (flat_blk number x s k).next h)
    bod_splits {g = g} (d.parts {z = z} {x = ln} {y = rn} {e = t} {a = x} list l m r) s k h =
        let at = flat_exp t s unnamed k in
        let sl = (ln.name, a.Var at.next) ∷ s in
        let left = flat_blk number x sl (suc at.next) in (
          is_variable (arg_of s z.name) (arg_suits g s z.name ty.List h list),
          blk_splits m sl (suc at.next) (refl, tt, h),
          blk_splits r ((rn.name, a.Var left.next) ∷ s) (suc left.next) (refl, tt, h),
        )
    bod_splits (d.either {a = x} l r) s k h = (blk_splits l s k h, blk_splits r s (flat_blk number x s k).next h)
    bod_splits {us = us} (d.each {x = x} {xs = ys} {es = es} l n r) s k h =
        let j = (flat_exps es s (suc (suc k))).next in
        let i = beyond ys j in
        let s' = scoped ys (vars (fresh ys j)) ((x.name, a.Var (suc (suc i))) ∷ s) in
        blk_splits r s' (suc (suc (suc i))) (scoped_aligned ys us (vars (fresh ys j)) _ _ n (vars_suit ys us j n) (refl, tt, h))
    bod_splits (d.calls l) s k h = tt

exps_count : {g : Scope} {es : Exps Op} {us : List Ty} → ExpsHave g es us → count es ≡ length us
exps_count d.none_left = refl
exps_count (d.also l r) = ap suc (exps_count r)

steps_count : {g : Scope} {ss : Steps Op} {es : Exps Op} {us : List Ty} → StepsHave g ss es us → count es ≡ length us
steps_count (d.ends l) = exps_count l
steps_count (d.binds l e r) = steps_count r
steps_count (d.asserts l r) = steps_count r

blk_count : {g : Scope} {b : Blk Op} {us : List Ty} → BlkHas g b us → results b ≡ length us
blk_count (d.returns l) = steps_count l

mutual
  pub blk_served : {g : Scope} {b : Blk Op} {us : List Ty} → BlkHas g b us → Served b
  blk_served (d.returns l) = steps_served l

  steps_served : {g : Scope} {ss : Steps Op} {es : Exps Op} {us : List Ty} → StepsHave g ss es us → ServedSteps ss
  steps_served (d.ends l) = tt
  steps_served (d.binds {xs = xs} l e r) = (bod_served l xs e, steps_served r)
  steps_served (d.asserts l r) = steps_served r

  bod_served : {g : Scope} {b : Bod Op} {us : List Ty} → BodHas g b us → (xs : List Named) → length xs ≡ length us → ServedBody xs b
  bod_served (d.value l) xs e = tt
  bod_served (d.takes l) xs e = tt
  bod_served (d.any l r) xs e = tt
  bod_served (d.choice l m r) xs e = (blk_served m, blk_served r)
  bod_served (d.loop l c m r) xs e = blk_served r
  bod_served (d.pair l r) xs e = (blk_served l, blk_served r)
  bod_served (d.parts z l m r) xs e = (blk_served m, blk_served r)
  bod_served (d.either l r) xs e = (blk_served l, blk_served r)
  bod_served (d.each l c r) xs e = (exps_count l ∙ sym c, blk_count r ∙ sym c, e ∙ sym c, blk_served r)
  bod_served (d.calls l) xs e = tt
