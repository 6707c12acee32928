-- Flat expressions give and fail as expressions do.
use Rattle.std.proofs.Common.{◌≡◌, ℕ, ◌≤◌, cond, nat_lt, false, List, [], ◌∷◌, ◌++◌, refl, sym, ap, ◌∙◌, subst, arith}
use Rattle.std.proofs.Math.Path.{fun_ext}
use Rattle.nres_core.specs.Runs.{Runs, Done, Failed, Choose, Side, Between, sided, both, ◌>>=◌}
use Rattle.nres_core.specs.Ops.{op_runs, op_out, calc_runs, calc_out, nat_runs}
use Rattle.nres_core.specs.Tree as t
use Rattle.nres_core.specs.Tree.{Exp, Exps}
use Rattle.nres_core.specs.FlatTree as f
use Rattle.nres_core.specs.FlatTree.{Binds, ◌+++◌}
use Rattle.nres_core.specs.declared.flat.Arg.{Arg}
use Rattle.nres_core.specs.declared.flat.Arg.TheVariants as a
use Rattle.target_code.specs.declared.tree.Calc.{Calc}
use Rattle.target_code.specs.declared.tree.Calc.TheVariants as c
use Rattle.nres_core.specs.declared.op.Op.{Op}
use Rattle.nres_core.specs.declared.place.Place.{Place}
use Rattle.nres_core.specs.declared.value.Value.{Value}
use Rattle.nres_core.specs.declared.value.Value.TheVariants as v
use Rattle.nres_meaning.specs.Alike.{Alike, done}
use Rattle.nres_meaning.specs.WordOperations.{known}
use Rattle.nres_meaning.specs.Meaning.{exp_runs, exps_runs, head_of}
use Rattle.nres_meaning.specs.FlatMeaning.{Vars, arg_value, arg_values, put, puts, binds_runs, ended}
use Rattle.nres_meaning.proofs.Steps.{then, last, ahead, lines, regroup}
use Rattle.nres_rules.specs.Flatten.{Scope, flat_exp, flat_exps, unnamed}
use Rattle.nres_core.specs.Mirror.{rep_of}
use Rattle.flatten_laws.specs.Environments.{Fits, seen}
use Rattle.flatten_laws.proofs.MeantScopes.{Holds, held, hold_on, arg_same, value_seen, put_here, put_holds, fits_more, shifted}
use Rattle.flatten_laws.proofs.Bounds.{exp_bounded, exps_bounded}

-- an argument has a value, and older variables have what they had
pub record Has (k : ℕ) (env : Vars) (u : Arg) (x : Value) (g : Vars) : Type 0 where
  pub value : arg_value g u ≡ x
  pub holds : Holds k env g

pub record HasAll (k : ℕ) (env : Vars) (us : List Arg) (vs : List Value) (g : Vars) : Type 0 where
  pub values : arg_values g us ≡ vs
  pub holds : Holds k env g

-- what goes on in two steps
in_two : {A B C : Type 0} (r : Runs A) (f : A → Runs C) (g : A → Runs B) (h : B → Runs C) → ((x : A) → f x ≡ (g x >>= h)) → (r >>= f) ≡ ((r >>= g) >>= h)
in_two r f g h e = ap (λ k. r >>= k) (fun_ext e) ∙ sym (regroup r g h)

module _ (n : ℕ) (call : ℕ → List Value → Runs (List Value)) where
  -- what follows a bind, and other binds behind it
  later : {A : Type 0} (r : Runs A) (go : A → Vars → Vars) (env : Vars) (bs cs : Binds) → ((g : Vars) → binds_runs n call (bs +++ cs) g ≡ (binds_runs n call bs g >>= binds_runs n call cs))
      → (r >>= λ vs. binds_runs n call (bs +++ cs) (go vs env)) ≡ ((r >>= λ vs. binds_runs n call bs (go vs env)) >>= binds_runs n call cs)
  later r go env bs cs h = in_two r (λ vs. binds_runs n call (bs +++ cs) (go vs env)) (λ vs. binds_runs n call bs (go vs env)) (binds_runs n call cs) (λ vs. h (go vs env))

  pub binds_append : (bs cs : Binds) (env : Vars) → binds_runs n call (bs +++ cs) env ≡ (binds_runs n call bs env >>= binds_runs n call cs)
  binds_append f.No_bind cs env = refl
  binds_append (f.Calc_to p to w x y rest) cs env = later _ (λ z. put to z) env rest cs (binds_append rest cs)
  binds_append (f.Apply_to p to op made us rest) cs env = later _ (λ vs. puts to vs) env rest cs (binds_append rest cs)
  binds_append (f.Assert p inner x rest) cs env = later _ (λ u g. g) env rest cs (binds_append rest cs)
  binds_append (f.If p to x l le r re rest) cs env = later _ (λ vs. puts to vs) env rest cs (binds_append rest cs)
  binds_append (f.While p to xs us test x b be rest) cs env = later _ (λ vs. puts to vs) env rest cs (binds_append rest cs)
  binds_append (f.Par p to l le r re rest) cs env =
      later (both (ended le (binds_runs n call l env)) (ended re (binds_runs n call r env)) (λ xs ys. Done (xs ++ ys))) (λ vs. puts to vs) env rest cs (binds_append rest cs)
  binds_append (f.Split p to list at i l le j r re rest) cs env = later _ (λ vs. puts to vs) env rest cs (binds_append rest cs)
  binds_append (f.Either p to l le r re rest) cs env =
      later (Choose Side (λ z. sided z (ended le (binds_runs n call l env)) (ended re (binds_runs n call r env)))) (λ vs. puts to vs) env rest cs (binds_append rest cs)
  binds_append (f.Any p to x y rest) cs env =
      let go = binds_runs n call cs in
      let end : ℕ → ℕ → Binds → Runs Vars = λ lo hi bs. cond (nat_lt lo hi) (Choose (Between lo hi) (λ z. Done z)) (Failed 0) >>= λ z. binds_runs n call bs (put to z env) in
      let rest_is : (lo hi : ℕ) → end lo hi (rest +++ cs) ≡ (end lo hi rest >>= go) = λ lo hi. later (cond (nat_lt lo hi) (Choose (Between lo hi) (λ z. Done z)) (Failed 0)) (λ z. put to z) env rest cs (binds_append rest cs) in
      in_two (nat_runs 0 (arg_value env x)) (λ lo. nat_runs 0 (arg_value env y) >>= λ hi. end lo hi (rest +++ cs)) (λ lo. nat_runs 0 (arg_value env y) >>= λ hi. end lo hi rest) go
      (λ lo. in_two (nat_runs 0 (arg_value env y)) (λ hi. end lo hi (rest +++ cs)) (λ hi. end lo hi rest) go (λ hi. rest_is lo hi))
  binds_append (f.Call p to g us rest) cs env = later _ (λ vs. puts to vs) env rest cs (binds_append rest cs)

  pub appended : {A : Type 0} {R : A → Vars → Type 0} {r : Runs A} (bs cs : Binds) (env : Vars) → Alike ⊥ R r (binds_runs n call bs env >>= binds_runs n call cs) → Alike ⊥ R r (binds_runs n call (bs +++ cs) env)
  appended {R = R} {r = r} bs cs env h = subst (λ z. Alike ⊥ R r z) (sym (binds_append bs cs env)) h

  calc_step : (l k to : ℕ) (p : Place) (w : Calc) (u u' : Arg) (x y : Value) (env g : Vars) → k ≤ to → Holds k env g → arg_value g u ≡ x → arg_value g u' ≡ y → Alike ⊥ (Has k env (a.Var to)) (calc_runs l w x y) (binds_runs n call (f.Calc_to p to w u u' f.No_bind) g)
  calc_step l k to p w u u' x y env g le h e e' =
      let b = binds_runs n call (f.Calc_to p to w u u' f.No_bind) g in
      subst (λ z. Alike ⊥ (Has k env (a.Var to)) (calc_runs l w z y) b) e
      (subst (λ z. Alike ⊥ (Has k env (a.Var to)) (calc_runs l w (arg_value g u) z) b) e'
      (last (Has k env (a.Var to)) (λ z. put to z g) (lines l 0 (calc_out w (arg_value g u) (arg_value g u'))) (λ z z' q. record {
        value = put_here to z' g ∙ sym q;
        holds = hold_on k k _ _ _ (omega arith) h (record { by = λ j lt. (put_holds to z' g).by j (omega (arith, lt, le)) });
      })))

  apply_step : (l k to : ℕ) (p : Place) (op : Op) (made : _) (us : List Arg) (vs : List Value) (env g : Vars) → k ≤ to → Holds k env g → arg_values g us ≡ vs → Alike ⊥ (Has k env (a.Var to)) (op_runs l op vs >>= λ ws. Done (head_of ws)) (binds_runs n call (f.Apply_to p (to ∷ []) op made us f.No_bind) g)
  apply_step l k to p op made us vs env g le h e =
      let b = binds_runs n call (f.Apply_to p (to ∷ []) op made us f.No_bind) g in
      subst (λ z. Alike ⊥ (Has k env (a.Var to)) (op_runs l op z >>= λ ws. Done (head_of ws)) b) e
      (then (lines l 0 (op_out op (arg_values g us))) (λ ws ws' q. done (record {
        value = put_here to (head_of ws') g ∙ ap head_of (sym q);
        holds = hold_on k k _ _ _ (omega arith) h (record { by = λ j lt. (put_holds to (head_of ws') g).by j (omega (arith, lt, le)) });
      })))

  mutual
    pub exp_keeps : (e : Exp Op) (s : Scope) (x : List ℕ) (k l : ℕ) (env : Vars) → Fits k s → Alike ⊥ (Has k env (flat_exp e s x k).arg) (exp_runs known e l (seen s env)) (binds_runs n call (flat_exp e s x k).binds env)
    exp_keeps (t.Num p m) s x k l env fits = done (record { value = refl; holds = held k env })
    exp_keeps (t.Truth p m) s x k l env fits = done (record { value = refl; holds = held k env })
    exp_keeps (t.Var y) s x k l env fits = done (record { value = sym (value_seen s env y.name); holds = held k env })
    exp_keeps (t.Binary p w e d) s x k l env fits =
        let left = flat_exp e s unnamed k in
        let right = flat_exp d s unnamed left.next in
        let bl = exp_bounded e s unnamed k fits in
        let more = fits_more k left.next s bl.next fits in
        let br = exp_bounded d s unnamed left.next more in
        appended left.binds _ env (then (exp_keeps e s unnamed k l env fits) (λ y g h.
        appended right.binds _ g (then (shifted (λ z. exp_runs known d l z) s k env g fits h.holds (exp_keeps d s unnamed left.next l g more)) (λ z g2 h2.
        calc_step l k right.next p w left.arg right.arg y z env g2 (omega (arith, bl.next, br.next)) (hold_on k left.next _ _ _ bl.next h.holds h2.holds)
        (arg_same left.next g g2 left.arg bl.arg h2.holds ∙ h.value) h2.value))))
    exp_keeps (t.Not p e) s x k l env fits =
        let left = flat_exp e s unnamed k in
        let bl = exp_bounded e s unnamed k fits in
        appended left.binds _ env (then (exp_keeps e s unnamed k l env fits) (λ y g h.
        calc_step l k left.next p c.Eq left.arg (a.Truth false) y (v.Bool false) env g bl.next h.holds h.value refl))
    exp_keeps (t.Apply p op es made) s x k l env fits =
        let us = flat_exps es s k in
        let bs = exps_bounded es s k fits in
        appended us.binds _ env (then (exps_keeps es s k l env fits) (λ vs g h.
        apply_step l k us.next p op (rep_of made) us.args vs env g bs.next h.holds h.values))

    pub exps_keeps : (es : Exps Op) (s : Scope) (k l : ℕ) (env : Vars) → Fits k s → Alike ⊥ (HasAll k env (flat_exps es s k).args) (exps_runs known es l (seen s env)) (binds_runs n call (flat_exps es s k).binds env)
    exps_keeps t.None_left s k l env fits = done (record { values = refl; holds = held k env })
    exps_keeps (t.Also e es) s k l env fits =
        let left = flat_exp e s unnamed k in
        let bl = exp_bounded e s unnamed k fits in
        let more = fits_more k left.next s bl.next fits in
        appended left.binds _ env (then (exp_keeps e s unnamed k l env fits) (λ y g h.
        shifted (λ z. exps_runs known es l z >>= λ ys. Done (y ∷ ys)) s k env g fits h.holds
        (ahead _ (λ ys. y ∷ ys) (exps_keeps es s left.next l g more) (λ ys g2 h2. record {
          values = λ i. ((arg_same left.next g g2 left.arg bl.arg h2.holds ∙ h.value) i) ∷ h2.values i;
          holds = hold_on k left.next _ _ _ bl.next h.holds h2.holds;
        }))))
