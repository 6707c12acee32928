-- More turns and deeper calls give and fail no less.
use Rattle.std.proofs.Common.{ℕ, zero, suc, ◌≤◌, Bool, true, false, cond, List, [], ◌∷◌, Option, arith}
use Rattle.nres_core.specs.Runs.{Runs, Done, sided, both}
use Rattle.nres_core.specs.Ops.{truth_runs, op_runs}
use Rattle.nres_core.specs.Tree as t
use Rattle.nres_core.specs.Tree.{Blk, Steps, Bod, same_name}
use Rattle.nres_core.specs.declared.op.Op.{Op}
use Rattle.nres_core.specs.declared.op.Op.TheVariants as o
use Rattle.nres_core.specs.declared.value.Value.{Value}
use Rattle.nres_core.specs.declared.value.Value.TheVariants as v
use Rattle.nres_meaning.specs.Alike.{Less, cut, choose}
use Rattle.nres_meaning.specs.Meaning.{turns, each, exp_runs, exps_runs, blk_runs, steps_runs, bod_runs, bound, value_of, called, calls, whole_runs, head_of, parts, listed, tested}
use Rattle.nres_meaning.proofs.Steps.{go, stays}

pub if_less : {A : Type 0} (b : Bool) {r r' s s' : Runs A} → Less r r' → Less s s' → Less (cond b r s) (cond b r' s')
if_less true h k = h
if_less false h k = k

turns_less : (n m l : ℕ) → n ≤ m → (test : List Value → Runs Bool) (body body' : List Value → Runs (List Value)) → ((vs : List Value) → Less (body vs) (body' vs)) → (vs : List Value) → Less (turns n l test body vs) (turns m l test body' vs)
turns_less zero zero l le test body body' h vs = stays _
turns_less zero (suc m) l le test body body' h vs = go (stays (test vs)) (λ b. if_less b (cut tt) (stays (Done vs)))
turns_less (suc n) zero l le test body body' h vs = absurd (omega arith)
turns_less (suc n) (suc m) l le test body body' h vs =
    go (stays (test vs)) (λ b. if_less b (go (h vs) (turns_less n m l (omega arith) test body body' h)) (stays (Done vs)))

each_less : (n m l : ℕ) → n ≤ m → (body body' : ℕ → List Value → Runs (List Value)) → ((x : ℕ) (vs : List Value) → Less (body x vs) (body' x vs)) → (xs : List ℕ) (vs : List Value) → Less (each n l body xs vs) (each m l body' xs vs)
each_less n m l le body body' h [] vs = stays (Done vs)
each_less zero m l le body body' h (x ∷ xs) vs = cut tt
each_less (suc n) zero l le body body' h (x ∷ xs) vs = absurd (omega arith)
each_less (suc n) (suc m) l le body body' h (x ∷ xs) vs = go (h x vs) (each_less n m l (omega arith) body body' h xs)

pub sided_less : {A : Type 0} (x : Value) {r r' s s' : Runs A} → Less r r' → Less s s' → Less (sided x r s) (sided x r' s')
sided_less (v.Bool false) h k = k
sided_less (v.Bool true) h k = h
sided_less (v.Nat n) h k = h
sided_less (v.List n) h k = h
sided_less (v.Set n) h k = h
sided_less (v.Map n) h k = h
sided_less (v.Bag n) h k = h

pub both_less : {A B C : Type 0} {r r' : Runs A} {s s' : Runs B} (k : A → B → Runs C) → Less r r' → Less s s' → Less (both r s k) (both r' s' k)
both_less k h j = choose (λ x q. sided_less x (go h (λ a. go j (λ b. stays (k a b)))) (go j (λ b. go h (λ a. stays (k a b)))))

pub parts_less : (l : ℕ) (x y : Value) (k j : List ℕ → List ℕ → Runs (List Value)) → ((us ws : List ℕ) → Less (k us ws) (j us ws)) → Less (parts l x y k) (parts l x y j)
parts_less l x y k j h = go (stays _) (λ p. h p.0 p.1)

abbrev Call : Type 0
Call = ℕ → List ℕ → List Value → Runs (List Value)

module _ {W : Type 0} (op_of : W → Value → Option Op) (n m : ℕ) (le : n ≤ m) (call call' : Call) (deeper : (l : ℕ) (f : List ℕ) (vs : List Value) → Less (call l f vs) (call' l f vs)) where
  mutual
    pub blk_less : (b : Blk W) (env : _) → Less (blk_runs op_of n call b env) (blk_runs op_of m call' b env)
    blk_less (t.Returns ss p es) env = go (steps_less ss env) (λ e. stays _)

    pub steps_less : (ss : Steps W) (env : _) → Less (steps_runs op_of n call ss env) (steps_runs op_of m call' ss env)
    steps_less t.No_step env = stays (Done env)
    steps_less (t.Bind xs p b ss) env = go (bod_less b p.line env) (λ vs. steps_less ss (bound xs vs env))
    steps_less (t.Assert p e ss) env = go (stays (tested p.line (exp_runs op_of e p.line env))) (λ x. steps_less ss env)

    pub bod_less : (b : Bod W) (l : ℕ) (env : _) → Less (bod_runs op_of n call b l env) (bod_runs op_of m call' b l env)
    bod_less (t.Value e) l env = stays _
    bod_less (t.Take p w e) l env = stays _
    bod_less (t.Any p a b) l env = stays _
    bod_less (t.If p e a b) l env = go (stays _) (λ x. go (stays (truth_runs l x)) (λ c. if_less c (blk_less a env) (blk_less b env)))
    bod_less (t.While p xs q es e b) l env = go (stays _) (λ vs. turns_less n m l le _ _ _ (λ us. blk_less b (bound xs us env)) vs)
    bod_less (t.Par p a b) l env = both_less _ (blk_less a env) (blk_less b env)
    bod_less (t.Split p xs e ln a rn b) l env =
        go (stays _) (λ k. parts_less l (value_of env xs.name) k _ _ (λ us ws. both_less _ (blk_less a _) (blk_less b _)))
    bod_less (t.Either p a b) l env = choose (λ x q. sided_less x (blk_less a env) (blk_less b env))
    bod_less (t.Foreach p x s xs q es b) l env =
        go (stays (op_runs l o.Elems (value_of env s.name ∷ []))) (λ us. go (stays (exps_runs op_of es l env)) (λ vs.
        each_less n m l le _ _ (λ k ws. blk_less b (bound xs ws ((x.name, v.Nat k) ∷ env))) (listed (head_of us)) vs))
    bod_less (t.Call p f es) l env = go (stays _) (λ vs. deeper l f.name vs)

module _ {W : Type 0} (op_of : W → Value → Option Op) (ps : List (t.Proc W)) (n m : ℕ) (le : n ≤ m) where
  called_less : (f : List ℕ) (k j : t.Proc W → Runs (List Value)) (a : Runs (List Value)) → ((p : t.Proc W) → Less (k p) (j p)) → (qs : List (t.Proc W)) → Less (called f a k qs) (called f a j qs)
  called_less f k j a h [] = stays a
  called_less f k j a h (p ∷ qs) = if_less (same_name f p.name) (h p) (called_less f k j a h qs)

  calls_less : (d e : ℕ) → d ≤ e → (l : ℕ) (f : List ℕ) (vs : List Value) → Less (calls op_of ps n d l f vs) (calls op_of ps m e l f vs)
  calls_less zero e le2 l f vs = cut tt
  calls_less (suc d) zero le2 l f vs = absurd (omega arith)
  calls_less (suc d) (suc e) le2 l f vs =
      called_less f _ _ _ (λ p. blk_less op_of n m le (calls op_of ps n d) (calls op_of ps m e) (calls_less d e (omega arith)) p.body _) ps

pub whole_less : {W : Type 0} (op_of : W → Value → Option Op) (n m d e : ℕ) → n ≤ m → d ≤ e → (p : t.Whole W) (vs : List Value) → Less (whole_runs op_of n d p vs) (whole_runs op_of m e p vs)
whole_less op_of n m d e le le2 p vs =
    blk_less op_of n m le (calls op_of p.procs n d) (calls op_of p.procs m e) (calls_less op_of p.procs n m le d e le2) p.body _
