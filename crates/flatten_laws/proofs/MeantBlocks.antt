-- Flat blocks give and fail as blocks do.
use Rattle.std.specs.Prelude.{slice_index}
use Rattle.std.proofs.Common.{◌≡◌, ℕ, ◌^◌, length, None, zero, suc, ◌+◌, ◌<◌, ◌≤◌, Bool, true, false, cond, nat_lt, List, [], ◌∷◌, ◌++◌, refl, sym, ap, ◌∙◌, subst, arith}
use Rattle.nres_core.specs.Runs.{Runs, Done, Failed, Choose, Side, Between, sided, both, ◌>>=◌, Gives}
use Rattle.nres_core.specs.Ops.{op_runs, op_out, truth_runs, truth_out, nat_runs, nat_out}
use Rattle.nres_core.specs.Tree as t
use Rattle.nres_core.specs.Tree.{Exp, Exps, Blk, Steps, Bod}
use Rattle.nres_core.specs.FlatTree as f
use Rattle.nres_core.specs.FlatTree.{Binds, ◌+++◌}
use Rattle.nres_core.specs.declared.flat.Arg.{Arg}
use Rattle.nres_core.specs.declared.flat.Arg.TheVariants as a
use Rattle.nres_core.specs.declared.op.Op.{Op}
use Rattle.nres_core.specs.declared.op.Op.TheVariants as o
use Rattle.target_code.specs.declared.tree.Calc.TheVariants as c
use Rattle.nres_core.specs.declared.place.Named.{Named}
use Rattle.nres_core.specs.declared.value.Value.{Value}
use Rattle.nres_core.specs.declared.value.Value.TheVariants as v
use Rattle.nres_core.specs.declared.place.Place.{Place}
use Rattle.nres_meaning.specs.Alike.{Alike, done, failed, over, choose}
use Rattle.nres_meaning.specs.WordOperations.{known}
use Rattle.nres_meaning.specs.Meaning.{Env, exp_runs, exps_runs, blk_runs, steps_runs, bod_runs, bound, head_of, value_of, turns, each, listed, branch, tested, parts, parts_out, joined, joined_out, tail_of}
use Rattle.nres_meaning.specs.FlatMeaning.{Vars, arg_value, arg_values, put, puts, binds_runs, ended}
use Rattle.nres_meaning.proofs.Steps.{then, last, ahead, lines, regroup, weaker, flip, gives, fails, overruns}
use Rattle.nres_rules.specs.Flatten.{Scope, Parts, flat_exp, flat_exps, flat_blk, flat_steps, flat_bod, place_of, unnamed, first_name, scoped, fresh, beyond, vars, split_bind, arg_of, turn_binds, turn_ending, foreach_loop}
use Rattle.flatten_laws.specs.Laws.{FlatBlocksKeep}
use Rattle.flatten_laws.specs.Served.{Served, ServedSteps, ServedBody, count, results}
use Rattle.identify_laws.specs.Environments.{InStep}
use Rattle.flatten_laws.specs.Environments.{CallsAgree, flat_part, Fits, seen}
use Rattle.flatten_laws.proofs.MeantScopes.{Holds, held, hold_on, arg_same, args_same, seen_same, value_seen, fits_more, shifted, args_seen, puts_hold, puts_seen, scoped_fits, beyond_le, fresh_below, put_here, put_holds, with_seen}
use Rattle.flatten_laws.proofs.Bounds.{exp_bounded, exps_bounded, blk_bounded, bod_bounded, AllBounded, foreach_fits}
use Rattle.flatten_laws.proofs.Loops.{elems_step, puts_more, values_more, fresh_values, values_length, len_run, lt_run, get_run, add_run, Stepped, loop, follow}
use Rattle.flatten_laws.proofs.MeantExps.{HasAll, appended, binds_append, exp_keeps, exps_keeps}

-- a turn of a flat loop over a set
abbrev pub flat_turn : ℕ → (ℕ → List Value → Runs (List Value)) → Place → ℕ → ℕ → Place → Parts → Vars → Runs (List Value)
flat_turn n other p k i q turn env = ended (turn_ending q turn) (binds_runs n other (turn_binds p k i turn) env)

eq_then : {A B : Type 0} {r s : Runs A} {g h : A → Runs B} → InStep r s → ((x : A) → InStep (g x) (h x)) → InStep (r >>= g) (s >>= h)
eq_then {g = g} {h = h} e k = then e (λ x y q. subst (λ z. InStep (g x) (h z)) q (k x))

eq_if : {A : Type 0} (b : Bool) {r r' s s' : Runs A} → InStep r r' → InStep s s' → InStep (cond b r s) (cond b r' s')
eq_if true h k = h
eq_if false h k = k

eq_branch : {A : Type 0} (l m : ℕ) (x : Value) {r r' s s' : Runs A} → InStep r r' → InStep s s' → InStep (branch l x r s) (branch m x r' s')
eq_branch l m x h k = eq_then (lines l m (truth_out x)) (λ b. eq_if b h k)

eq_tested : (l m : ℕ) {r s : Runs Value} → InStep r s → InStep (tested l r) (tested m s)
eq_tested l m h = eq_then h (λ x. eq_branch l m x (done refl) failed)

eq_turns : (n l m : ℕ) (test test' : List Value → Runs Bool) (body body' : List Value → Runs (List Value)) → ((vs : List Value) → InStep (test vs) (test' vs)) → ((vs : List Value) → InStep (body vs) (body' vs)) → (vs : List Value) → InStep (turns n l test body vs) (turns n m test' body' vs)
eq_turns zero l m test test' body body' h k vs = eq_then (h vs) (λ b. eq_if b over (done refl))
eq_turns (suc n) l m test test' body body' h k vs =
    eq_then (h vs) (λ b. eq_if b (eq_then (k vs) (eq_turns n l m test test' body body' h k)) (done refl))

eq_sided : {A : Type 0} (x : Value) {r r' s s' : Runs A} → InStep r r' → InStep s s' → InStep (sided x r s) (sided x r' s')
eq_sided (v.Bool false) h k = k
eq_sided (v.Bool true) h k = h
eq_sided (v.Nat n) h k = h
eq_sided (v.List n) h k = h
eq_sided (v.Set n) h k = h
eq_sided (v.Map n) h k = h
eq_sided (v.Bag n) h k = h

eq_both : {A B C : Type 0} {r r' : Runs A} {s s' : Runs B} (k k' : A → B → Runs C) → InStep r r' → InStep s s' → ((x : A) (y : B) → InStep (k x y) (k' x y)) → InStep (both r s k) (both r' s' k')
eq_both k k' h j e = choose (λ x q. eq_sided x (eq_then h (λ a. eq_then j (λ b. e a b))) (eq_then j (λ b. eq_then h (λ a. e a b))))

-- a bind's names see its values, and older variables have what they had
pub record Bound (k : ℕ) (env : Vars) (s : Scope) (xs : List Named) (us : List Arg) (vs : List Value) (g : Vars) : Type 0 where
  pub seen_now : bound xs vs (seen s env) ≡ seen (scoped xs us s) g
  pub holds : Holds k env g

exps_count : (es : Exps Op) (s : Scope) (k : ℕ) → length (flat_exps es s k).args ≡ count es
exps_count t.None_left s k = refl
exps_count (t.Also e es) s k = ap suc (exps_count es s (flat_exp e s unnamed k).next)

steps_count : (number : List ℕ → ℕ) (ss : Steps Op) (es : Exps Op) (s : Scope) (k : ℕ) → length (flat_steps number ss es s k).args ≡ count es
steps_count number t.No_step es s k = exps_count es s k
steps_count number (t.Bind xs p b ss) es s k = steps_count number ss es (scoped xs (flat_bod number b s xs k).args s) (flat_bod number b s xs k).next
steps_count number (t.Assert p e ss) es s k = steps_count number ss es s (flat_exp e s unnamed k).next

blk_count : (number : List ℕ → ℕ) (b : Blk Op) (s : Scope) (k : ℕ) → length (flat_blk number b s k).args ≡ results b
blk_count number (t.Returns ss p es) s k = steps_count number ss es s k

module _ (number : List ℕ → ℕ) (n : ℕ) (call : ℕ → List ℕ → List Value → Runs (List Value)) (other : ℕ → List Value → Runs (List Value)) (agree : CallsAgree number call other) where
  -- values go into fresh variables
  putting : (k m : ℕ) (env g : Vars) (s : Scope) (xs : List Named) (vs : List Value) → k ≤ m → Fits k s → Holds k env g → Bound k env s xs (vars (fresh xs m)) vs (puts (fresh xs m) vs g)
  putting k m env g s xs vs le fits h = record {
    seen_now = ap (bound xs vs) (sym (seen_same k env g s fits h)) ∙ puts_seen xs m vs s g (fits_more k m s le fits);
    holds = hold_on k m _ _ _ le h (puts_hold xs m vs g);
  }

  -- a bind that puts the values of a part into fresh variables
  put_last : (k m : ℕ) (env g : Vars) (s : Scope) (xs : List Named) (r r' : Runs (List Value)) → k ≤ m → Fits k s → Holds k env g → InStep r r' → Alike ⊥ (Bound k env s xs (vars (fresh xs m))) r (r' >>= λ vs. Done (puts (fresh xs m) vs g))
  put_last k m env g s xs r r' le fits h e =
      let R = Bound k env s xs (vars (fresh xs m)) in
      last R (λ vs. puts (fresh xs m) vs g) e (λ vs ws q. subst (λ z. R z (puts (fresh xs m) ws g)) (sym q) (putting k m env g s xs ws le fits h))

  split_step : (l k to : ℕ) (p : Place) (w : Value) (at u : Arg) (ln : List ℕ) (lv : ℕ) (x : Blk Op) (X : Parts) (rn : List ℕ) (rv : ℕ) (z : Blk Op) (Y : Parts) (env g : Vars) (s : Scope) (xs : List Named) → k ≤ to → Fits k s → Holds k env g → arg_value g at ≡ w
      → ((us : List ℕ) → InStep (blk_runs known n call x ((ln, v.List us) ∷ seen s g)) (flat_part n other (place_of x) X (put lv (v.List us) g)))
      → ((us : List ℕ) → InStep (blk_runs known n call z ((rn, v.List us) ∷ seen s g)) (flat_part n other (place_of z) Y (put rv (v.List us) g)))
      → Alike ⊥ (Bound k env s xs (vars (fresh xs to))) (parts l (arg_value g u) w (λ us ws. both (blk_runs known n call x ((ln, v.List us) ∷ seen s g)) (blk_runs known n call z ((rn, v.List ws) ∷ seen s g)) (λ qs rs. joined l (head_of qs) (head_of rs) (tail_of qs ++ tail_of rs)))) (binds_runs n other (split_bind p (fresh xs to) u at lv X (place_of x) rv Y (place_of z)) g)
  split_step l k to p w at (a.Num m) ln lv x X rn rv z Y env g s xs le fits h e left right = failed
  split_step l k to p w at (a.Truth m) ln lv x X rn rv z Y env g s xs le fits h e left right = failed
  split_step l k to p w at (a.Var m) ln lv x X rn rv z Y env g s xs le fits h e left right =
      let go : ℕ → Value → Runs (List Value) = λ line c. parts line (g m) c (λ us ws. both (blk_runs known n call x ((ln, v.List us) ∷ seen s g)) (blk_runs known n call z ((rn, v.List ws) ∷ seen s g)) (λ qs rs. joined l (head_of qs) (head_of rs) (tail_of qs ++ tail_of rs))) in
      let flat = parts 0 (g m) (arg_value g at) (λ us ws. both (flat_part n other (place_of x) X (put lv (v.List us) g)) (flat_part n other (place_of z) Y (put rv (v.List ws) g)) (λ qs rs. joined 0 (head_of qs) (head_of rs) (tail_of qs ++ tail_of rs))) in
      put_last k to env g s xs (go l w) flat le fits h (subst (λ c. InStep (go l c) flat) e
      (eq_then (lines l 0 (parts_out (g m) (arg_value g at))) (λ q.
      eq_both _ _ (left q.0) (right q.1) (λ qs rs. lines l 0 (joined_out (head_of qs) (head_of rs) (tail_of qs ++ tail_of rs))))))

  any_end : (l k to lo hi : ℕ) (env g : Vars) (s : Scope) (xs : List Named) (b : Bool) → k ≤ to → Fits k s → Holds k env g
      → Alike ⊥ (Bound k env s xs (a.Var to ∷ [])) (cond b (Choose (Between lo hi) (λ z. Done (z ∷ []))) (Failed l)) (cond b (Choose (Between lo hi) (λ z. Done z)) (Failed 0) >>= λ z. Done (put to z g))
  any_end l k to lo hi env g s xs false le fits h = failed
  any_end l k to lo hi env g s xs true le fits h = choose (λ z q. done (
      let hold = hold_on k to env g (put to z g) le h (put_holds to z g) in
      record {
        seen_now = (λ i. bound xs (sym (put_here to z g) i ∷ []) (sym (seen_same k env (put to z g) s fits hold) i)) ∙ args_seen xs (a.Var to ∷ []) s (put to z g);
        holds = hold;
      }))

  any_step : (l k to : ℕ) (p : Place) (u u' : Arg) (x y : Value) (env g : Vars) (s : Scope) (xs : List Named) → k ≤ to → Fits k s → Holds k env g → arg_value g u ≡ x → arg_value g u' ≡ y
      → Alike ⊥ (Bound k env s xs (a.Var to ∷ [])) (nat_runs l x >>= λ lo. nat_runs l y >>= λ hi. cond (nat_lt lo hi) (Choose (Between lo hi) (λ z. Done (z ∷ []))) (Failed l)) (binds_runs n other (f.Any p to u u' f.No_bind) g)
  any_step l k to p u u' x y env g s xs le fits h e e' =
      let R = Bound k env s xs (a.Var to ∷ []) in
      let flat = binds_runs n other (f.Any p to u u' f.No_bind) g in
      let tree : Value → Value → Runs (List Value) = λ x y. nat_runs l x >>= λ lo. nat_runs l y >>= λ hi. cond (nat_lt lo hi) (Choose (Between lo hi) (λ z. Done (z ∷ []))) (Failed l) in
      subst (λ z. Alike ⊥ R (tree z y) flat) e (subst (λ z. Alike ⊥ R (tree (arg_value g u) z) flat) e'
      (then (lines l 0 (nat_out (arg_value g u))) (λ lo lo' q. then (lines l 0 (nat_out (arg_value g u'))) (λ hi hi' q'.
      let flat_end : ℕ → ℕ → Runs Vars = λ lo hi. cond (nat_lt lo hi) (Choose (Between lo hi) (λ z. Done z)) (Failed 0) >>= λ z. Done (put to z g) in
      let tree_end = cond (nat_lt lo hi) (Choose (Between lo hi) (λ z. Done (z ∷ []))) (Failed l) in
      subst (λ z. Alike ⊥ R tree_end (flat_end z hi')) q (subst (λ z. Alike ⊥ R tree_end (flat_end lo z)) q' (any_end l k to lo hi env g s xs (nat_lt lo hi) le fits h))))))

  -- one turn over an element
  turn_step : (p q : Place) (ys : List Named) (x : List ℕ) (k m : ℕ) (s : Scope) (E : Env) (b : Blk Op) (turn : Parts) (qs : List ℕ) (h : Vars)
      → Fits k s → suc (suc k) ≤ m → E ≡ seen s h → h k ≡ v.List qs → length qs < 2 ^ 32 → AllBounded (suc (suc (suc (beyond ys m)))) turn → length turn.args ≡ length ys
      → ((g : Vars) → Alike ⊥ (HasAll (suc (suc (suc (beyond ys m)))) g turn.args) (blk_runs known n call b (seen (scoped ys (vars (fresh ys m)) ((x, a.Var (suc (suc (beyond ys m)))) ∷ s)) g)) (binds_runs n other turn.binds g))
      → (vs : List Value) (at : ℕ) → length vs ≡ length ys → at < length qs
      → Alike ⊥ (Stepped ys (at + 1)) (blk_runs known n call b (bound ys vs ((x, v.Nat (slice_index qs at)) ∷ E))) (flat_turn n other p k (beyond ys m) q turn (puts (fresh ys m ++ beyond ys m ∷ []) (vs ++ v.Nat at ∷ []) h))
  turn_step p q ys x k m s E b turn qs h fits le same here small bounded cnt ih vs at len lt =
      let i = beyond ys m in
      let above : m ≤ i = beyond_le ys m in
      let e = suc (suc i) in
      let q0 = v.Nat (slice_index qs at) in
      let G0 = puts (fresh ys m) vs h in
      let G = put i (v.Nat at) G0 in
      let G1 = put e q0 G in
      let V = vars (fresh ys m) in
      let j = turn.next in
      let rest = turn.binds +++ f.Calc_to p j c.Add (a.Var i) (a.Num 1) f.No_bind in
      let fin : Vars → Runs (List Value) = λ g. Done (arg_values g (turn.args ++ a.Var j ∷ [])) in
      let at_i : G i ≡ v.Nat at = put_here i (v.Nat at) G0 in
      let below_m : Holds k h G0 = record { by = λ w l. (puts_hold ys m vs h).by w (omega (arith, l, le)) } in
      let to_G : Holds k h G = hold_on k i _ _ _ (omega (arith, le, above)) below_m (put_holds i (v.Nat at) G0) in
      let to_G1 : Holds k h G1 = hold_on k e _ _ _ (omega (arith, le, above)) to_G (put_holds e q0 G) in
      let at_k : G k ≡ v.List qs = (put_holds i (v.Nat at) G0).by k (omega (arith, le, above)) ∙ (puts_hold ys m vs h).by k (omega (arith, le)) ∙ here in
      let flat1 : flat_turn n other p k i q turn (puts (fresh ys m ++ i ∷ []) (vs ++ v.Nat at ∷ []) h) ≡ flat_turn n other p k i q turn G = ap (λ z. flat_turn n other p k i q turn z) (puts_more ys m i vs (v.Nat at) h len) in
      let flat2 : flat_turn n other p k i q turn G ≡ (binds_runs n other rest G1 >>= fin) = ap (λ r. r >>= fin) (get_run n other p k i e at qs G rest at_k at_i lt) in
      let add = binds_runs n other (f.Calc_to p j c.Add (a.Var i) (a.Num 1) f.No_bind) in
      let flat3 : (binds_runs n other rest G1 >>= fin) ≡ (binds_runs n other turn.binds G1 >>= λ g. add g >>= fin) = ap (λ r. r >>= fin) (binds_append n other turn.binds (f.Calc_to p j c.Add (a.Var i) (a.Num 1) f.No_bind) G1) ∙ regroup (binds_runs n other turn.binds G1) add fin in
      let holds_i : Holds i G0 G1 = hold_on i e _ _ _ (omega arith) (put_holds i (v.Nat at) G0) (put_holds e q0 G) in
      let values : arg_values G1 V ≡ vs = args_same i G0 G1 V (fresh_below ys m) holds_i ∙ fresh_values ys m vs h len in
      let names : seen ((x, a.Var e) ∷ s) G1 ≡ (x, q0) ∷ E = (λ z. (x, put_here e q0 G z) ∷ (seen_same k h G1 s fits to_G1 ∙ sym same) z) in
      let tree : bound ys vs ((x, q0) ∷ E) ≡ seen (scoped ys V ((x, a.Var e) ∷ s)) G1 = (λ z. bound ys (sym values z) (sym names z)) ∙ args_seen ys V ((x, a.Var e) ∷ s) G1 in
      let S = Stepped ys (at + 1) in
      subst (λ z. Alike ⊥ S (blk_runs known n call b z) (flat_turn n other p k i q turn (puts (fresh ys m ++ i ∷ []) (vs ++ v.Nat at ∷ []) h))) (sym tree)
      (subst (λ z. Alike ⊥ S (blk_runs known n call b (seen (scoped ys V ((x, a.Var e) ∷ s)) G1)) z) (sym (flat1 ∙ flat2 ∙ flat3))
      (follow S (λ g. add g >>= fin) (ih G1) (λ ws g hh.
      let i_now : g i ≡ v.Nat at = hh.holds.by i (omega arith) ∙ (put_holds e q0 G).by i (omega arith) ∙ at_i in
      let g' = put j (v.Nat (at + 1)) g in
      let ran : (add g >>= fin) ≡ fin g' = ap (λ r. r >>= fin) (add_run n other p i j at g i_now (omega (arith, lt, small))) in
      let kept : arg_values g' turn.args ≡ ws = args_same j g g' turn.args bounded.args (put_holds j (v.Nat (at + 1)) g) ∙ hh.values in (
        arg_values g' (turn.args ++ a.Var j ∷ []),
        ran,
        record {
          is = values_more turn.args (a.Var j) g' ∙ (λ z. kept z ++ put_here j (v.Nat (at + 1)) g z ∷ []);
          count = ap length (sym hh.values) ∙ values_length turn.args g ∙ cnt;
        },
      ))))

  mutual
    pub blk_keeps : (b : Blk Op) (s : Scope) (k : ℕ) (env : Vars) → Fits k s → Served b → InStep (blk_runs known n call b (seen s env)) (flat_part n other (place_of b) (flat_blk number b s k) env)
    blk_keeps (t.Returns ss p es) s k env fits sv =
        last (λ x y. x ≡ y) (λ g. arg_values g (flat_steps number ss es s k).args) (steps_keep ss es s k p.line env fits sv) (λ vs g h. sym h.values)

    -- the same before the results are read
    pub blk_within : (b : Blk Op) (s : Scope) (k : ℕ) (env : Vars) → Fits k s → Served b → Alike ⊥ (HasAll k env (flat_blk number b s k).args) (blk_runs known n call b (seen s env)) (binds_runs n other (flat_blk number b s k).binds env)
    blk_within (t.Returns ss p es) s k env fits sv = steps_keep ss es s k p.line env fits sv

    pub steps_keep : (ss : Steps Op) (es : Exps Op) (s : Scope) (k l : ℕ) (env : Vars) → Fits k s → ServedSteps ss → Alike ⊥ (HasAll k env (flat_steps number ss es s k).args) (steps_runs known n call ss (seen s env) >>= λ e. exps_runs known es l e) (binds_runs n other (flat_steps number ss es s k).binds env)
    steps_keep t.No_step es s k l env fits sv = exps_keeps n other es s k l env fits
    steps_keep (t.Bind xs p b ss) es s k l env fits sv =
        let B = flat_bod number b s xs k in
        let s' = scoped xs B.args s in
        let bb = bod_bounded number b s xs k fits in
        let rest = flat_steps number ss es s' B.next in
        let go : Env → Runs (List Value) = λ e. exps_runs known es l e in
        let R = HasAll k env rest.args in
        subst (λ z. Alike ⊥ R z (binds_runs n other (B.binds +++ rest.binds) env)) (sym (regroup (bod_runs known n call b p.line (seen s env)) (λ vs. steps_runs known n call ss (bound xs vs (seen s env))) go))
        (appended n other B.binds rest.binds env (then (bod_keeps b s xs k p.line env fits sv.0) (λ vs g h.
        subst (λ z. Alike ⊥ R (steps_runs known n call ss z >>= go) (binds_runs n other rest.binds g)) (sym h.seen_now)
        (weaker R (steps_keep ss es s' B.next l g (scoped_fits B.next xs B.args s bb.args (fits_more k B.next s bb.next fits)) sv.1) (λ us g2 h2. record {
          values = h2.values;
          holds = hold_on k B.next _ _ _ bb.next h.holds h2.holds;
        })))))
    steps_keep (t.Assert p e ss) es s k l env fits sv =
        let test = flat_exp e s unnamed k in
        let bb = exp_bounded e s unnamed k fits in
        let rest = flat_steps number ss es s test.next in
        let go : Env → Runs (List Value) = λ e. exps_runs known es l e in
        let R = HasAll k env rest.args in
        let tree = tested p.line (exp_runs known e p.line (seen s env)) in
        let flat = tested 0 (binds_runs n other test.binds env >>= λ g. Done (arg_value g test.arg)) in
        subst (λ z. Alike ⊥ R z (flat >>= λ u. binds_runs n other rest.binds env)) (sym (regroup tree (λ u. steps_runs known n call ss (seen s env)) go))
        (then (eq_tested p.line 0 (last (λ x y. x ≡ y) (λ g. arg_value g test.arg) (exp_keeps n other e s unnamed k p.line env fits) (λ x g h. sym h.value))) (λ u w q.
        weaker R (steps_keep ss es s test.next l env (fits_more k test.next s bb.next fits) sv) (λ us g2 h2. record {
          values = h2.values;
          holds = hold_on k test.next env env g2 bb.next (held k env) h2.holds;
        })))

    pub bod_keeps : (b : Bod Op) (s : Scope) (xs : List Named) (k l : ℕ) (env : Vars) → Fits k s → ServedBody xs b → Alike ⊥ (Bound k env s xs (flat_bod number b s xs k).args) (bod_runs known n call b l (seen s env)) (binds_runs n other (flat_bod number b s xs k).binds env)
    bod_keeps (t.Value e) s xs k l env fits sv =
        let E = flat_exp e s (first_name xs) k in
        ahead (Bound k env s xs (E.arg ∷ [])) (λ x. x ∷ []) (exp_keeps n other e s (first_name xs) k l env fits) (λ x g h. record {
          seen_now = (λ i. bound xs (sym h.value i ∷ []) (sym (seen_same k env g s fits h.holds) i)) ∙ args_seen xs (E.arg ∷ []) s g;
          holds = h.holds;
        })
    bod_keeps (t.Take p op e) s xs k l env fits sv =
        let E = flat_exp e s unnamed k in
        let be = exp_bounded e s unnamed k fits in
        appended n other E.binds _ env (then (exp_keeps n other e s unnamed k l env fits) (λ x g h.
        put_last k E.next env g s xs (op_runs l op (x ∷ [])) (op_runs 0 op (arg_value g E.arg ∷ [])) be.next fits h.holds
        (subst (λ z. InStep (op_runs l op (z ∷ [])) (op_runs 0 op (arg_value g E.arg ∷ []))) h.value (lines l 0 (op_out op (arg_value g E.arg ∷ []))))))
    bod_keeps (t.If p e a b) s xs k l env fits sv =
        let E = flat_exp e s unnamed k in
        let be = exp_bounded e s unnamed k fits in
        let f1 = fits_more k E.next s be.next fits in
        let X = flat_blk number a s E.next in
        let bx = blk_bounded number a s E.next f1 in
        let f2 = fits_more E.next X.next s bx.next f1 in
        let Y = flat_blk number b s X.next in
        let by' = blk_bounded number b s X.next f2 in
        appended n other E.binds _ env (then (exp_keeps n other e s unnamed k l env fits) (λ x g h.
        let fx = flat_part n other (place_of a) X g in
        let fy = flat_part n other (place_of b) Y g in
        put_last k Y.next env g s xs (branch l x (blk_runs known n call a (seen s env)) (blk_runs known n call b (seen s env))) (branch 0 (arg_value g E.arg) fx fy) (omega (arith, be.next, bx.next, by'.next)) fits h.holds
        (subst (λ z. InStep (branch l z (blk_runs known n call a (seen s env)) (blk_runs known n call b (seen s env))) (branch 0 (arg_value g E.arg) fx fy)) h.value
        (eq_branch l 0 (arg_value g E.arg)
        (shifted (λ z. blk_runs known n call a z) s k env g fits h.holds (blk_keeps a s E.next g f1 sv.0))
        (shifted (λ z. blk_runs known n call b z) s k env g fits h.holds (blk_keeps b s X.next g f2 sv.1))))))
    bod_keeps (t.While p ys q es e b) s xs k l env fits sv =
        let us = flat_exps es s k in
        let bu = exps_bounded es s k fits in
        let f1 = fits_more k us.next s bu.next fits in
        let k' = beyond ys us.next in
        let s' = scoped ys (vars (fresh ys us.next)) s in
        let f' = scoped_fits k' ys (vars (fresh ys us.next)) s (fresh_below ys us.next) (fits_more us.next k' s (beyond_le ys us.next) f1) in
        let E = flat_exp e s' unnamed k' in
        let be = exp_bounded e s' unnamed k' f' in
        let f'' = fits_more k' E.next s' be.next f' in
        let B = flat_blk number b s' E.next in
        let bb = blk_bounded number b s' E.next f'' in
        appended n other us.binds _ env (then (exps_keeps n other es s k l env fits) (λ vs g h.
        let test : List Value → Runs Bool = λ ws. exp_runs known e l (bound ys ws (seen s env)) >>= truth_runs l in
        let test' : List Value → Runs Bool = λ ws. binds_runs n other E.binds (puts (fresh ys us.next) ws g) >>= λ g2. truth_runs 0 (arg_value g2 E.arg) in
        let body : List Value → Runs (List Value) = λ ws. blk_runs known n call b (bound ys ws (seen s env)) in
        let body' : List Value → Runs (List Value) = λ ws. flat_part n other (place_of b) B (puts (fresh ys us.next) ws g) in
        let at : (ws : List Value) → bound ys ws (seen s env) ≡ seen s' (puts (fresh ys us.next) ws g) = λ ws. (putting k us.next env g s ys ws bu.next fits h.holds).seen_now in
        put_last k B.next env g s xs (turns n l test body vs) (turns n 0 test' body' (arg_values g us.args)) (omega (arith, bu.next, beyond_le ys us.next, be.next, bb.next)) fits h.holds
        (subst (λ z. InStep (turns n l test body z) (turns n 0 test' body' (arg_values g us.args))) h.values
        (eq_turns n l 0 test test' body body'
        (λ ws. subst (λ z. InStep (exp_runs known e l z >>= truth_runs l) (test' ws)) (sym (at ws))
        (then (exp_keeps n other e s' unnamed k' l (puts (fresh ys us.next) ws g) f') (λ x g2 h2.
        subst (λ z. InStep (truth_runs l z) (truth_runs 0 (arg_value g2 E.arg))) h2.value (lines l 0 (truth_out (arg_value g2 E.arg))))))
        (λ ws. subst (λ z. InStep (blk_runs known n call b z) (body' ws)) (sym (at ws)) (blk_keeps b s' E.next (puts (fresh ys us.next) ws g) f'' sv))
        (arg_values g us.args)))))
    bod_keeps (t.Any p e d) s xs k l env fits sv =
        let left = flat_exp e s unnamed k in
        let right = flat_exp d s unnamed left.next in
        let bl = exp_bounded e s unnamed k fits in
        let more = fits_more k left.next s bl.next fits in
        let br = exp_bounded d s unnamed left.next more in
        let R = Bound k env s xs (a.Var right.next ∷ []) in
        appended n other left.binds _ env (then (exp_keeps n other e s unnamed k l env fits) (λ y g h.
        appended n other right.binds _ g (then (shifted (λ z. exp_runs known d l z) s k env g fits h.holds (exp_keeps n other d s unnamed left.next l g more)) (λ z g2 h2.
        let hold = hold_on k left.next _ _ _ bl.next h.holds h2.holds in
        let e1 = arg_same left.next g g2 left.arg bl.arg h2.holds ∙ h.value in
        any_step l k right.next p left.arg right.arg y z env g2 s xs (omega (arith, bl.next, br.next)) fits hold e1 h2.value))))
    bod_keeps (t.Par p x y) s xs k l env fits sv =
        let X = flat_blk number x s k in
        let bx = blk_bounded number x s k fits in
        let f2 = fits_more k X.next s bx.next fits in
        let Y = flat_blk number y s X.next in
        let by' = blk_bounded number y s X.next f2 in
        put_last k Y.next env env s xs _ _ (omega (arith, bx.next, by'.next)) fits (held k env)
        (eq_both (λ us ws. Done (us ++ ws)) (λ us ws. Done (us ++ ws)) (blk_keeps x s k env fits sv.0) (blk_keeps y s X.next env f2 sv.1) (λ us ws. done refl))
    bod_keeps (t.Either p x y) s xs k l env fits sv =
        let X = flat_blk number x s k in
        let bx = blk_bounded number x s k fits in
        let f2 = fits_more k X.next s bx.next fits in
        let Y = flat_blk number y s X.next in
        let by' = blk_bounded number y s X.next f2 in
        put_last k Y.next env env s xs _ (Choose Side (λ z. sided z (flat_part n other (place_of x) X env) (flat_part n other (place_of y) Y env))) (omega (arith, bx.next, by'.next)) fits (held k env)
        (choose (λ z q. eq_sided z (blk_keeps x s k env fits sv.0) (blk_keeps y s X.next env f2 sv.1)))
    bod_keeps (t.Call p g es) s xs k l env fits sv =
        let us = flat_exps es s k in
        let bu = exps_bounded es s k fits in
        appended n other us.binds _ env (then (exps_keeps n other es s k l env fits) (λ vs h e.
        put_last k us.next env h s xs (call l g.name vs) (other (number g.name) (arg_values h us.args)) bu.next fits e.holds
        (subst (λ z. InStep (call l g.name z) (other (number g.name) (arg_values h us.args))) e.values (agree l g.name (arg_values h us.args)))))
    bod_keeps (t.Split p y e ln x rn z) s xs k l env fits sv =
        let at = flat_exp e s unnamed k in
        let ba = exp_bounded e s unnamed k fits in
        let f1 = fits_more k at.next s ba.next fits in
        let s1 = (ln.name, a.Var at.next) ∷ s in
        let g1 = fits_more at.next (suc at.next) s (omega arith) f1 in
        let X = flat_blk number x s1 (suc at.next) in
        let bx = blk_bounded number x s1 (suc at.next) (omega arith, g1) in
        let s2 = (rn.name, a.Var X.next) ∷ s in
        let g2 = fits_more (suc at.next) (suc X.next) s (omega (arith, bx.next)) g1 in
        let Y = flat_blk number z s2 (suc X.next) in
        let bz = blk_bounded number z s2 (suc X.next) (omega arith, g2) in
        appended n other at.binds _ env (then (exp_keeps n other e s unnamed k l env fits) (λ w g h.
        let tree : Env → Value → Runs (List Value) = λ E c. parts l c w (λ us ws. both (blk_runs known n call x ((ln.name, v.List us) ∷ E)) (blk_runs known n call z ((rn.name, v.List ws) ∷ E)) (λ qs rs. joined l (head_of qs) (head_of rs) (tail_of qs ++ tail_of rs))) in
        shifted (λ E. tree E (value_of E y.name)) s k env g fits h.holds
        (subst (λ c. Alike ⊥ (Bound k env s xs (vars (fresh xs Y.next))) (tree (seen s g) c) (binds_runs n other (split_bind p (fresh xs Y.next) (arg_of s y.name) at.arg at.next X (place_of x) X.next Y (place_of z)) g)) (sym (value_seen s g y.name))
        (split_step l k Y.next p w at.arg (arg_of s y.name) ln.name at.next x X rn.name X.next z Y env g s xs (omega (arith, ba.next, bx.next, bz.next)) fits h.holds h.value
        (λ us. subst (λ E. InStep (blk_runs known n call x E) (flat_part n other (place_of x) X (put at.next (v.List us) g))) (with_seen s at.next ln.name (v.List us) g f1) (blk_keeps x s1 (suc at.next) (put at.next (v.List us) g) (omega arith, g1) sv.0))
        (λ us. subst (λ E. InStep (blk_runs known n call z E) (flat_part n other (place_of z) Y (put X.next (v.List us) g))) (with_seen s X.next rn.name (v.List us) g (fits_more at.next X.next s (omega (arith, bx.next)) f1)) (blk_keeps z s2 (suc X.next) (put X.next (v.List us) g) (omega arith, g2) sv.1))))))
    bod_keeps (t.Foreach p x y ys q es b) s xs k l env fits sv =
        let us = flat_exps es s (suc (suc k)) in
        let f2 = fits_more k (suc (suc k)) s (omega arith) fits in
        let bu = exps_bounded es s (suc (suc k)) f2 in
        let m = us.next in
        let i = beyond ys m in
        let e = suc (suc i) in
        let s' = scoped ys (vars (fresh ys m)) ((x.name, a.Var e) ∷ s) in
        let turn = flat_blk number b s' (suc e) in
        let f' = foreach_fits ys x.name k m s (omega (arith, bu.next)) fits in
        let bt = blk_bounded number b s' (suc e) f' in
        let o1 = suc turn.next in
        let z = beyond xs o1 in
        let over = arg_of s y.name in
        let R = Bound k env s xs (vars (fresh xs o1)) in
        let W = foreach_loop p xs ys k us i (place_of b) turn in
        let rest = us.binds +++ W in
        let numbered_rest = f.Apply_to p (suc k ∷ []) o.Len None (a.Var k ∷ []) rest in
        let run : List ℕ → Env → Runs (List Value) = λ qs E. exps_runs known es l E >>= λ vs. each n l (λ w ws. blk_runs known n call b (bound ys ws ((x.name, v.Nat w) ∷ E))) qs vs in
        let flat = binds_runs n other (flat_bod number (t.Foreach p x y ys q es b) s xs k).binds env in
        subst (λ w. Alike ⊥ R (op_runs l o.Elems (w ∷ []) >>= λ ws. run (listed (head_of ws)) (seen s env)) flat) (sym (value_seen s env y.name))
        (subst (λ w. Alike ⊥ R (op_runs l o.Elems (arg_value env over ∷ []) >>= λ ws. run (listed (head_of ws)) (seen s env)) w) (regroup (op_runs 0 o.Elems (arg_value env over ∷ [])) (λ ws. Done (puts (k ∷ []) ws env)) (binds_runs n other numbered_rest))
        (then (elems_step l k (arg_value env over) env) (λ ws g r.
        let qs = r.list in
        let g2 = put (suc k) (v.Nat (length qs)) g in
        let to_g2 : Holds k env g2 = hold_on k (suc k) _ _ _ (omega arith) r.holds (put_holds (suc k) (v.Nat (length qs)) g) in
        subst (λ w. Alike ⊥ R (run (listed (head_of w)) (seen s env)) (binds_runs n other (f.Apply_to p (suc k ∷ []) o.Len None (a.Var k ∷ []) rest) g)) (sym r.is)
        (subst (λ w. Alike ⊥ R (run qs (seen s env)) w) (sym (len_run n other p k qs g rest r.here))
        (shifted (run qs) s k env g2 fits to_g2
        (appended n other us.binds W g2 (then (exps_keeps n other es s (suc (suc k)) l g2 f2) (λ vs h hh.
        let N = length qs in
        let h_k : h k ≡ v.List qs = hh.holds.by k (omega arith) ∙ (put_holds (suc k) (v.Nat N) g).by k (omega arith) ∙ r.here in
        let h_n : h (suc k) ≡ v.Nat N = hh.holds.by (suc k) (omega arith) ∙ put_here (suc k) (v.Nat N) g in
        let same : seen s g2 ≡ seen s h = sym (seen_same (suc (suc k)) g2 h s f2 hh.holds) in
        let to_h : Holds k env h = hold_on k (suc (suc k)) _ _ _ (omega arith) to_g2 hh.holds in
        let test : List Value → Runs Bool = λ ws. binds_runs n other (f.Calc_to p (suc i) c.Lt (a.Var i) (a.Var (suc k)) f.No_bind) (puts (fresh ys m ++ i ∷ []) ws h) >>= λ g. truth_runs 0 (arg_value g (a.Var (suc i))) in
        let body : ℕ → List Value → Runs (List Value) = λ w ws. blk_runs known n call b (bound ys ws ((x.name, v.Nat w) ∷ seen s g2)) in
        let body' : List Value → Runs (List Value) = λ ws. flat_turn n other p k i (place_of b) turn (puts (fresh ys m ++ i ∷ []) ws h) in
        let count_vs : length vs ≡ length ys = ap length (sym hh.values) ∙ values_length us.args h ∙ exps_count es s (suc (suc k)) ∙ sv.0 in
        let values : arg_values h (us.args ++ a.Num 0 ∷ []) ≡ vs ++ v.Nat 0 ∷ [] = values_more us.args (a.Num 0) h ∙ ap (λ t. t ++ v.Nat 0 ∷ []) hh.values in
        let turned : Alike ⊥ (Stepped ys N) (each n l body qs vs) (turns n 0 test body' (vs ++ v.Nat 0 ∷ [])) = loop ys l qs test body body'
        (λ ws at len. ap (λ t. binds_runs n other (f.Calc_to p (suc i) c.Lt (a.Var i) (a.Var (suc k)) f.No_bind) t >>= λ g. truth_runs 0 (arg_value g (a.Var (suc i)))) (puts_more ys m i ws (v.Nat at) h len)
        ∙ lt_run n other p i (suc i) (suc k) at N (put i (v.Nat at) (puts (fresh ys m) ws h)) (put_here i (v.Nat at) (puts (fresh ys m) ws h))
        ((put_holds i (v.Nat at) (puts (fresh ys m) ws h)).by (suc k) (omega (arith, bu.next, beyond_le ys m)) ∙ (puts_hold ys m ws h).by (suc k) (omega (arith, bu.next)) ∙ h_n))
        (turn_step p (place_of b) ys x.name k m s (seen s g2) b turn qs h fits bu.next same h_k r.small bt (blk_count number b s' (suc e) ∙ sv.1) (λ G. blk_within b s' (suc e) G f' sv.3))
        n [] qs vs refl count_vs in
        last R (λ ws. puts (fresh xs o1 ++ z ∷ []) ws h) (subst (λ t. Alike ⊥ (Stepped ys N) (each n l body qs vs) (turns n 0 test body' t)) (sym values) turned) (λ ws us' st.
        let P = puts (fresh xs o1) ws h in
        let first = putting k o1 env h s xs ws (omega (arith, bu.next, beyond_le ys m, bt.next)) fits to_h in
        let put_all : puts (fresh xs o1 ++ z ∷ []) us' h ≡ put z (v.Nat N) P = ap (λ t. puts (fresh xs o1 ++ z ∷ []) t h) st.is ∙ puts_more xs o1 z ws (v.Nat N) h (st.count ∙ sym sv.2) in
        subst (λ t. R ws t) (sym put_all) (record {
          seen_now = first.seen_now ∙ sym (seen_same z P (put z (v.Nat N) P) (scoped xs (vars (fresh xs o1)) s) (scoped_fits z xs (vars (fresh xs o1)) s (fresh_below xs o1) (fits_more k z s (omega (arith, bu.next, beyond_le ys m, bt.next, beyond_le xs o1)) fits)) (put_holds z (v.Nat N) P));
          holds = hold_on k z _ _ _ (omega (arith, bu.next, beyond_le ys m, bt.next, beyond_le xs o1)) first.holds (put_holds z (v.Nat N) P);
        }))))))))))

pub flat_blocks_keep : FlatBlocksKeep
flat_blocks_keep number n call other agree b s k env fits served = blk_keeps number n call other agree b s k env fits served
