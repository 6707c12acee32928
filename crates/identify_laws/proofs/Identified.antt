-- A tree whose words are typed does what the same does with operations for them.
use Rattle.std.proofs.Common.{◌≡◌, ℕ, true, false, cond, nat_lt, List, [], ◌∷◌, ◌++◌, length, Some, refl, sym, ap, ◌∙◌, subst, arith}
use Rattle.nres_core.specs.Ops.{op_runs, op_out, calc_runs, calc_out, truth_runs, nat_runs, at_line}
use Rattle.nres_core.specs.Runs.{Runs, Done, Failed, Choose, Between, ◌>>=◌}
use Rattle.nres_core.specs.Tree as t
use Rattle.nres_core.specs.Tree.{Exp, Exps, Blk, Steps, Bod, Word, same_name}
use Rattle.nres_rules.specs.Typed.{Scope, type_in, scope_with, op_gives, tail_of}
use Rattle.nres_rules.specs.Types.{Profile, outcome}
use Rattle.nres_core.specs.declared.op.Op.{Op}
use Rattle.nres_core.specs.declared.op.Op.TheVariants as o
use Rattle.target_code.specs.declared.tree.Calc.TheVariants as c
use Rattle.nres_core.specs.declared.place.Named.{Named}
use Rattle.nres_core.specs.declared.ty.Ty.{Ty}
use Rattle.nres_core.specs.declared.ty.Ty.TheVariants as ty
use Rattle.nres_core.specs.declared.value.Value.{Value}
use Rattle.nres_core.specs.declared.value.Value.TheVariants as v
use Rattle.nres_meaning.specs.Alike.{done, choose}
use Rattle.nres_meaning.specs.Meaning as meaning
use Rattle.nres_meaning.specs.Meaning.{Env, exp_runs, exps_runs, blk_runs, steps_runs, bod_runs, bound, head_of, value_of, turns, each, listed, branch, tested, parts, parts_out, joined, joined_out, apply}
use Rattle.nres_meaning.specs.WordOperations.{op_named, known}
use Rattle.typing_laws.proofs.WordLemmas.{taking}
use Rattle.identify_laws.specs.Values.{Of, AllOf}
use Rattle.typing_laws.specs.Derived as d
use Rattle.typing_laws.specs.Derived.{ExpIs, ExpsIs, BlkIs, StepsIs, BodIs}
use Rattle.identify_laws.specs.Taken.{Takes, StepsTake, BodyTakes}
use Rattle.identify_laws.proofs.Words.{word_named, take_named}
use Rattle.identify_laws.proofs.Kept.{keep_then, keep_leaves, keep_any, leaves_at, keep_if, keep_sided, keep_both, keep_turns, keep_each, keep_grouped}
use Rattle.identify_laws.proofs.Outcomes.{op_typed, calc_typed, any_typed, joined_typed}
use Rattle.identify_laws.specs.Environments.{Fit, Keeps, CallsKeep}

fit_value : (g : Scope) (env : Env) (x : List ℕ) (u : Ty) → Fit g env → type_in g x ≡ Some u → Of u (value_of env x)
fit_value [] [] x u h k = absurd (cc)
fit_value [] (f ∷ env) x u h k = absurd h
fit_value (e ∷ g) [] x u h k = absurd h
fit_value (e ∷ g) (f ∷ env) x u h k =
    subst (λ z. Of u (cond (same_name z x) f.1 (value_of env x))) (sym h.0)
    ((elim (same_name e.0 x) as (λ b. cond b (Some e.1) (type_in g x) ≡ Some u → Of u (cond b f.1 (value_of env x))) [
      | true ↦ λ q. let same : e.1 ≡ u = (cc) in subst (λ z. Of z f.1) same h.1
      | false ↦ λ q. fit_value g env x u h.2 q
    ]) k)

pub fit_bound : (xs : List Named) (us : List Ty) (vs : List Value) (g : Scope) (env : Env) → length xs ≡ length us → AllOf us vs → Fit g env → Fit (scope_with xs us g) (bound xs vs env)
fit_bound [] us vs g env e h f = f
fit_bound (x ∷ xs) [] vs g env e h f = absurd (omega (arith, e))
fit_bound (x ∷ xs) (u ∷ us) [] g env e h f = absurd h
fit_bound (x ∷ xs) (u ∷ us) (w ∷ vs) g env e h f = fit_bound xs us vs _ _ (omega (arith, e)) h.1 (refl, h.0, f)

all_append : (us ws : List Ty) (xs ys : List Value) → AllOf us xs → AllOf ws ys → AllOf (us ++ ws) (xs ++ ys)
all_append [] ws [] ys h k = k
all_append [] ws (x ∷ xs) ys h k = absurd h
all_append (u ∷ us) ws [] ys h k = absurd h
all_append (u ∷ us) ws (x ∷ xs) ys h k = (h.0, all_append us ws xs ys h.1 k)

all_tail : (us : List Ty) (xs : List Value) → AllOf us xs → AllOf (tail_of us) (meaning.tail_of xs)
all_tail [] [] h = tt
all_tail [] (x ∷ xs) h = absurd h
all_tail (u ∷ us) [] h = absurd h
all_tail (u ∷ us) (x ∷ xs) h = h.1

all_head : (u : Ty) (xs : List Value) → AllOf (u ∷ []) xs → Of u (head_of xs)
all_head u [] h = absurd h
all_head u (x ∷ xs) h = h.0

calc_keeps : (l : ℕ) (w : _) (x y : Value) → Keeps (Of (outcome w)) (calc_runs l w x y) (calc_runs l w x y)
calc_keeps l w x y = keep_leaves (calc_runs l w x y) (leaves_at (Of (outcome w)) l (calc_out w x y) (calc_typed w x y))

op_keeps : (l : ℕ) (op : Op) (vs : List Value) → Keeps (AllOf (op_gives op)) (op_runs l op vs) (op_runs l op vs)
op_keeps l op vs = keep_leaves (op_runs l op vs) (leaves_at (AllOf (op_gives op)) l (op_out op vs) (op_typed op vs))

apply_keeps : (l : ℕ) (w : Word) (op : Op) (x : Value) (vs : List Value) → op_named w x ≡ Some op → Keeps (AllOf (op_gives op)) (apply l (op_named w x) vs) (apply l (Some op) vs)
apply_keeps l w op x vs e = subst (λ z. Keeps (AllOf (op_gives op)) (apply l z vs) (apply l (Some op) vs)) (sym e) (op_keeps l op vs)

mutual
  pub exp_keeps : {g : Scope} {e : Exp Word} {e' : Exp Op} {u : Ty} → ExpIs g e e' u → (l : ℕ) (env : Env) → Fit g env → Keeps (Of u) (exp_runs op_named e l env) (exp_runs known e' l env)
  exp_keeps d.num l env f = done (record { same = refl; of = tt })
  exp_keeps d.truth l env f = done (record { same = refl; of = tt })
  exp_keeps {g = g} {u = u} (d.var {x = x} h) l env f = done (record { same = refl; of = fit_value g env x.name u f h })
  exp_keeps (d.binary {w = w} a b) l env f = keep_then (exp_keeps a l env f) (λ x p. keep_then (exp_keeps b l env f) (λ y q. calc_keeps l w x y))
  exp_keeps (d.negated a) l env f = keep_then (exp_keeps a l env f) (λ x p. calc_keeps l c.Eq x (v.Bool false))
  exp_keeps {u = u} (d.apply {w = w} {op = op} {us = us} es h) l env f =
      keep_then (exps_keeps es l env f) (λ vs p. keep_then (apply_keeps l w op (head_of vs) vs (word_named w us op h.is vs p)) (λ ws q.
      done (record { same = refl; of = all_head u ws (subst (λ z. AllOf z ws) h.gives q) })))

  pub exps_keeps : {g : Scope} {es : Exps Word} {es' : Exps Op} {us : List Ty} → ExpsIs g es es' us → (l : ℕ) (env : Env) → Fit g env → Keeps (AllOf us) (exps_runs op_named es l env) (exps_runs known es' l env)
  exps_keeps d.none_left l env f = done (record { same = refl; of = tt })
  exps_keeps (d.also e es) l env f = keep_then (exp_keeps e l env f) (λ x p. keep_then (exps_keeps es l env f) (λ xs q. done (record { same = refl; of = (p, q) })))

module _ (procs : List Profile) (n : ℕ) (call other : ℕ → List ℕ → List Value → Runs (List Value)) (agree : CallsKeep procs call other) where
  mutual
    pub blk_keeps : {g : Scope} {b : Blk Word} {b' : Blk Op} {us : List Ty} → BlkIs procs g b b' us → Takes b → (env : Env) → Fit g env → Keeps (AllOf us) (blk_runs op_named n call b env) (blk_runs known n other b' env)
    blk_keeps (d.returns {p = p} s) m env f = steps_keep s m p.line env f

    steps_keep : {g : Scope} {ss : Steps Word} {ss' : Steps Op} {es : Exps Word} {es' : Exps Op} {us : List Ty} → StepsIs procs g ss ss' es es' us → StepsTake ss → (l : ℕ) (env : Env) → Fit g env
        → Keeps (AllOf us) (steps_runs op_named n call ss env >>= λ e. exps_runs op_named es l e) (steps_runs known n other ss' env >>= λ e. exps_runs known es' l e)
    steps_keep (d.ends es) m l env f = exps_keeps es l env f
    steps_keep {es = es} {es' = es'} (d.binds {xs = xs} {p = p} {b = b} {b' = b'} {ss = ss} {ss' = ss'} {ws = ws} one pattern rest) m l env f =
        keep_grouped (bod_runs op_named n call b p.line env) (bod_runs known n other b' p.line env)
        (λ vs. steps_runs op_named n call ss (bound xs vs env)) (λ vs. steps_runs known n other ss' (bound xs vs env)) (λ e. exps_runs op_named es l e) (λ e. exps_runs known es' l e)
        (keep_then (bod_keeps one m.0 p.line env f) (λ vs q. steps_keep rest m.1 l (bound xs vs env) (fit_bound xs ws vs _ env pattern.count q f)))
    steps_keep {es = es} {es' = es'} (d.asserts {p = p} {e = e} {e' = e'} {ss = ss} {ss' = ss'} test rest) m l env f =
        keep_grouped (tested p.line (exp_runs op_named e p.line env)) (tested p.line (exp_runs known e' p.line env))
        (λ u. steps_runs op_named n call ss env) (λ u. steps_runs known n other ss' env) (λ e. exps_runs op_named es l e) (λ e. exps_runs known es' l e)
        (keep_then (keep_then (exp_keeps test p.line env f) (λ x q. keep_any (branch p.line x (Done tt) (Failed p.line)))) (λ u q. steps_keep rest m l env f))

    bod_keeps : {g : Scope} {b : Bod Word} {b' : Bod Op} {us : List Ty} → BodIs procs g b b' us → BodyTakes b → (l : ℕ) (env : Env) → Fit g env → Keeps (AllOf us) (bod_runs op_named n call b l env) (bod_runs known n other b' l env)
    bod_keeps (d.value e) m l env f = keep_then (exp_keeps e l env f) (λ x q. done (record { same = refl; of = (q, tt) }))
    bod_keeps (d.takes {p = p} {w = w} {op = op} {e = a} {e' = a'} same e) m l env f =
        subst (λ us. Keeps (AllOf us) (bod_runs op_named n call (t.Take p w a) l env) (bod_runs known n other (t.Take p op a') l env)) (ap op_gives (sym same) ∙ (taking w.0).gives)
        (keep_then (exp_keeps e l env f) (λ x q. apply_keeps l w op x (x ∷ []) (take_named w m x ∙ ap (λ z. Some z) same)))
    bod_keeps (d.any a b) m l env f =
        keep_then (exp_keeps a l env f) (λ x p. keep_then (exp_keeps b l env f) (λ y q.
        keep_then (keep_any (nat_runs l x)) (λ lo p. keep_then (keep_any (nat_runs l y)) (λ hi q. keep_leaves (cond (nat_lt lo hi) (Choose (Between lo hi) (λ z. Done (z ∷ []))) (Failed l)) (any_typed lo hi l (nat_lt lo hi))))))
    bod_keeps (d.choice e a b) m l env f =
        keep_then (exp_keeps e l env f) (λ x q. keep_then (keep_any (truth_runs l x)) (λ z u. keep_if z (blk_keeps a m.0 env f) (blk_keeps b m.1 env f)))
    bod_keeps {us = us} (d.loop {xs = xs} {e = e} {e' = e'} {b = b} {b' = b'} es pattern test one) m l env f =
        keep_then (exps_keeps es l env f) (λ vs q. keep_turns n l (AllOf us)
        (λ vs. exp_runs op_named e l (bound xs vs env) >>= truth_runs l) (λ vs. exp_runs known e' l (bound xs vs env) >>= truth_runs l)
        (λ vs. blk_runs op_named n call b (bound xs vs env)) (λ vs. blk_runs known n other b' (bound xs vs env))
        (λ vs q. keep_then (exp_keeps test l (bound xs vs env) (fit_bound xs us vs _ env pattern.count q f)) (λ x q. keep_any (truth_runs l x)))
        (λ vs q. blk_keeps one m (bound xs vs env) (fit_bound xs us vs _ env pattern.count q f)) vs q)
    bod_keeps (d.pair {us = us} {ws = ws} a b) m l env f =
        keep_both (λ xs ys. Done (xs ++ ys)) (λ xs ys. Done (xs ++ ys)) (blk_keeps a m.0 env f) (blk_keeps b m.1 env f) (λ xs ys p q. done (record { same = refl; of = all_append us ws xs ys p q }))
    bod_keeps (d.parts {z = z} {us = us} {ws = ws} list e a fa b fb) m l env f =
        keep_then (exp_keeps e l env f) (λ k q. keep_then (keep_any (at_line l (parts_out (value_of env z.name) k))) (λ p u.
        keep_both (λ xs ys. joined l (head_of xs) (head_of ys) (meaning.tail_of xs ++ meaning.tail_of ys)) (λ xs ys. joined l (head_of xs) (head_of ys) (meaning.tail_of xs ++ meaning.tail_of ys))
        (blk_keeps a m.0 _ (refl, tt, f)) (blk_keeps b m.1 _ (refl, tt, f)) (λ xs ys p q.
        let rest = meaning.tail_of xs ++ meaning.tail_of ys in
        keep_leaves (joined l (head_of xs) (head_of ys) rest) (leaves_at (AllOf (ty.List ∷ (tail_of us ++ tail_of ws))) l (joined_out (head_of xs) (head_of ys) rest)
        (joined_typed (head_of xs) (head_of ys) (tail_of us ++ tail_of ws) rest (all_append (tail_of us) (tail_of ws) (meaning.tail_of xs) (meaning.tail_of ys) (all_tail us xs p) (all_tail ws ys q)))))))
    bod_keeps (d.either a b) m l env f = choose (λ x q. keep_sided x (blk_keeps a m.0 env f) (blk_keeps b m.1 env f))
    bod_keeps {us = us} (d.each {x = x} {z = z} {xs = xs} {b = b} {b' = b'} set es pattern one) m l env f =
        keep_then (keep_any (op_runs l o.Elems (value_of env z.name ∷ []))) (λ ws u. keep_then (exps_keeps es l env f) (λ vs q. keep_each n l (AllOf us)
        (λ k vs. blk_runs op_named n call b (bound xs vs ((x.name, v.Nat k) ∷ env))) (λ k vs. blk_runs known n other b' (bound xs vs ((x.name, v.Nat k) ∷ env)))
        (λ k vs q. blk_keeps one m (bound xs vs ((x.name, v.Nat k) ∷ env)) (fit_bound xs us vs _ ((x.name, v.Nat k) ∷ env) pattern.count q (refl, tt, f))) (listed (head_of ws)) vs q))
    bod_keeps (d.calls {f = name} {h = h} at es) m l env f = keep_then (exps_keeps es l env f) (λ vs q. agree l name.name h vs at q)
