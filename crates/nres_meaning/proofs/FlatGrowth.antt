-- With more turns and deeper calls a flat specification gives and fails no less.
use Rattle.std.proofs.Common.{ℕ, zero, suc, ◌≤◌, Bool, cond, nat_lt, List, [], ◌∷◌, arith}
use Rattle.nres_core.specs.FlatTree.{Binds, Ending, FlatProc, FlatWhole, No_bind, Calc_to, Apply_to, Assert, If, While, Par, Split, Either, Any, Call}
use Rattle.nres_core.specs.Ops.{truth_runs, nat_runs}
use Rattle.nres_core.specs.Runs.{Runs, Done, Failed, Over, Choose, Between, ◌>>=◌}
use Rattle.nres_core.specs.declared.value.Value.{Value}
use Rattle.nres_core.specs.declared.value.Value.TheVariants as v
use Rattle.nres_meaning.specs.Alike.{Less, cut, choose}
use Rattle.nres_meaning.specs.FlatMeaning.{Vars, arg_value, arg_values, put, puts, ended, binds_runs, proc_at, after, flat_calls, flat_runs, after_main}
use Rattle.nres_meaning.specs.Meaning.{turns}
use Rattle.nres_meaning.proofs.Growth.{if_less, sided_less, both_less, parts_less}
use Rattle.nres_meaning.proofs.Steps.{go, stays}

-- a loop whose test grows too
loop_less : (n m l : ℕ) → n ≤ m → (test test' : List Value → Runs Bool) (body body' : List Value → Runs (List Value)) → ((vs : List Value) → Less (test vs) (test' vs)) → ((vs : List Value) → Less (body vs) (body' vs)) → (vs : List Value) → Less (turns n l test body vs) (turns m l test' body' vs)
loop_less zero zero l le test test' body body' t h vs = go (t vs) (λ b. if_less b (stays (Over l)) (stays (Done vs)))
loop_less zero (suc m) l le test test' body body' t h vs = go (t vs) (λ b. if_less b (cut tt) (stays (Done vs)))
loop_less (suc n) zero l le test test' body body' t h vs = absurd (omega arith)
loop_less (suc n) (suc m) l le test test' body body' t h vs =
    go (t vs) (λ b. if_less b (go (h vs) (loop_less n m l (omega arith) test test' body body' t h)) (stays (Done vs)))

ended_less : (e : Ending) {r s : Runs Vars} → Less r s → Less (ended e r) (ended e s)
ended_less e h = go h (λ g. stays (Done (arg_values g e.results)))

branch_less : (x : Value) {r r' s s' : Runs (List Value)} → Less r r' → Less s s' → Less (truth_runs 0 x >>= λ b. cond b r s) (truth_runs 0 x >>= λ b. cond b r' s')
branch_less x h k = go (stays (truth_runs 0 x)) (λ b. if_less b h k)

module _ (n m : ℕ) (le : n ≤ m) (call call' : ℕ → List Value → Runs (List Value)) (deeper : (f : ℕ) (vs : List Value) → Less (call f vs) (call' f vs)) where
  pub binds_less : (b : Binds) (env : Vars) → Less (binds_runs n call b env) (binds_runs m call' b env)
  binds_less No_bind env = stays (Done env)
  binds_less (Calc_to p to w a b rest) env = go (stays _) (λ x. binds_less rest (put to x env))
  binds_less (Apply_to p to op made us rest) env = go (stays _) (λ vs. binds_less rest (puts to vs env))
  binds_less (Assert p inner a rest) env = go (go (go (binds_less inner env) (λ g. stays _)) (λ x. stays _)) (λ z. binds_less rest env)
  binds_less (If p to a x xe y ye rest) env =
      go (branch_less (arg_value env a) (ended_less xe (binds_less x env)) (ended_less ye (binds_less y env))) (λ vs. binds_less rest (puts to vs env))
  binds_less (While p to xs us cs a x xe rest) env =
      go (loop_less n m 0 le _ _ _ _ (λ vs. go (binds_less cs (puts xs vs env)) (λ g. stays _)) (λ vs. ended_less xe (binds_less x (puts xs vs env))) (arg_values env us))
      (λ vs. binds_less rest (puts to vs env))
  binds_less (Par p to x xe y ye rest) env = go (both_less _ (ended_less xe (binds_less x env)) (ended_less ye (binds_less y env))) (λ vs. binds_less rest (puts to vs env))
  binds_less (Split p to list at k x xe j y ye rest) env =
      go (parts_less 0 (env list) (arg_value env at) _ _ (λ us ws. both_less _ (ended_less xe (binds_less x (put k (v.List us) env))) (ended_less ye (binds_less y (put j (v.List ws) env)))))
      (λ vs. binds_less rest (puts to vs env))
  binds_less (Either p to x xe y ye rest) env = go (choose (λ z q. sided_less z (ended_less xe (binds_less x env)) (ended_less ye (binds_less y env)))) (λ vs. binds_less rest (puts to vs env))
  binds_less (Any p to a b rest) env =
      go (stays (nat_runs 0 (arg_value env a))) (λ lo. go (stays (nat_runs 0 (arg_value env b))) (λ hi.
      go (stays (cond (nat_lt lo hi) (Choose (Between lo hi) (λ z. Done z)) (Failed 0))) (λ z. binds_less rest (put to z env))))
  binds_less (Call p to f us rest) env = go (deeper f (arg_values env us)) (λ vs. binds_less rest (puts to vs env))

proc_less : (f : ℕ) (k j : FlatProc → ℕ → Runs (List Value)) (a : Runs (List Value)) → ((p : FlatProc) (x : ℕ) → Less (k p x) (j p x)) → (ps : List FlatProc) (x : ℕ) → Less (proc_at f a k ps x) (proc_at f a j ps x)
proc_less f k j a h [] x = stays a
proc_less zero k j a h (p ∷ ps) x = h p x
proc_less (suc f) k j a h (p ∷ ps) x = proc_less f k j a h ps (after p x)

pub calls_less : (ps : List FlatProc) (k n m : ℕ) → n ≤ m → (d e : ℕ) → d ≤ e → (f : ℕ) (vs : List Value) → Less (flat_calls ps k n d f vs) (flat_calls ps k m e f vs)
calls_less ps k n m le zero e le2 f vs = cut tt
calls_less ps k n m le (suc d) zero le2 f vs = absurd (omega arith)
calls_less ps k n m le (suc d) (suc e) le2 f vs =
    proc_less f _ _ _ (λ p j. ended_less p.body.ending (binds_less n m le (flat_calls ps k n d) (flat_calls ps k m e) (calls_less ps k n m le d e (omega arith)) p.body.binds _)) ps k

pub flat_less : (p : FlatWhole) (n m d e : ℕ) → n ≤ m → d ≤ e → (vs : List Value) → Less (flat_runs n d p vs) (flat_runs m e p vs)
flat_less p n m d e le le2 vs =
    ended_less p.body.ending (binds_less n m le (flat_calls p.procs (after_main p) n d) (flat_calls p.procs (after_main p) m e) (calls_less p.procs (after_main p) n m le d e le2) p.body.binds _)
