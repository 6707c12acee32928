-- The first paths of loops.
use Rattle.std.proofs.Common.{◌≡◌, ℕ, zero, suc, ◌+◌, ◌-◌, ◌<◌, ◌≤◌, Bool, true, false, cond, List, [], ◌∷◌, length, drop, get_or, refl, ap, sym, ◌∙◌, arith}
use Rattle.std.proofs.lemmas.Grind.{get_or_default_zero}
use Rattle.std.proofs.lemmas.List.{drop_all}
use Rattle.nres_core.specs.Runs.{Runs, Done, Over, ◌>>=◌, End, Gave, Late, first_path}
use Rattle.nres_core.specs.Tree.{Blk, Exp, Word}
use Rattle.nres_core.specs.declared.place.Named.{Named}
use Rattle.nres_core.specs.declared.value.Value.{Value}
use Rattle.nres_core.specs.declared.value.Value.TheVariants as v
use Rattle.nres_meaning.specs.Meaning.{Env, blk_runs, bound}
use Rattle.nres_meaning.specs.WordOperations.{op_named}
use Rattle.nres_eval.specs.Bodies.{each_runs, holds_runs, turns_runs}
use Rattle.nres_eval.proofs.Paths.{behind, first_bind, next_item}

module _ (n : ℕ) (call : ℕ → List ℕ → List Value → Runs (List Value)) (l : ℕ) (xs : List Named) (b : Blk Word) (env : Env) where
  abbrev turn : List Value → Runs (List Value)
  turn vs = blk_runs op_named n call b (bound xs vs env)

  abbrev pub FirstTurns : Exp Word → ℕ → List Value → End (List Value)
  FirstTurns e m vs = first_path (turns_runs n call l e xs b env m vs)

  turned : (e : Exp Word) (m : ℕ) (vs : List Value) (goes : Bool) → first_path (cond goes (turn vs >>= turns_runs n call l e xs b env m) (Done vs)) ≡ cond goes (behind (first_path (turn vs)) (FirstTurns e m)) (Gave vs)
  turned e m vs true = first_bind (turn vs) (turns_runs n call l e xs b env m)
  turned e m vs false = refl

  -- a turn more
  pub turn_path : {all : End (List Value)} (e : Exp Word) (k i : ℕ) (vs : List Value) → i < k → all ≡ FirstTurns e (k - i) vs
      → all ≡ behind (first_path (holds_runs l e (bound xs vs env))) (λ goes. cond goes (behind (first_path (turn vs)) (FirstTurns e (k - (i + 1)))) (Gave vs))
  turn_path e k i vs h is =
      let m = k - (i + 1) in
      let one : k - i ≡ suc m = omega (arith, h) in
      is ∙ ap (λ j. FirstTurns e j vs) one
      ∙ first_bind (holds_runs l e (bound xs vs env)) (λ goes. cond goes (turn vs >>= turns_runs n call l e xs b env m) (Done vs))
      ∙ (λ j. behind (first_path (holds_runs l e (bound xs vs env))) (λ goes. turned e m vs goes j))

  stopped : (vs : List Value) (goes : Bool) → first_path (cond {A = Runs (List Value)} goes (Over l) (Done vs)) ≡ cond goes (Late l) (Gave vs)
  stopped vs true = refl
  stopped vs false = refl

  -- no turn more
  pub late_path : {all : End (List Value)} (e : Exp Word) (k : ℕ) (vs : List Value) → k ≡ 0 → all ≡ FirstTurns e k vs
      → all ≡ behind (first_path (holds_runs l e (bound xs vs env))) (λ goes. cond goes (Late l) (Gave vs))
  late_path e k vs h is =
      is ∙ ap (λ j. FirstTurns e j vs) h
      ∙ first_bind (holds_runs l e (bound xs vs env)) (λ goes. cond goes (Over l) (Done vs))
      ∙ (λ j. behind (first_path (holds_runs l e (bound xs vs env))) (λ goes. stopped vs goes j))

  abbrev pub FirstEach : List ℕ → ℕ → List ℕ → List Value → End (List Value)
  FirstEach x m us vs = first_path (each_runs n call l x xs b env m us vs)

  -- an element more
  pub element_path : {all : End (List Value)} (x : List ℕ) (m : ℕ) (us : List ℕ) (i : ℕ) (vs : List Value) → i < length us → all ≡ FirstEach x (suc m) (drop i us) vs
      → all ≡ behind (first_path (blk_runs op_named n call b (bound xs vs ((x, v.Nat (get_or us i 0)) ∷ env)))) (FirstEach x m (drop (i + 1) us))
  element_path x m us i vs h whole =
      let u = get_or us i 0 in
      whole ∙ ap (λ ws. FirstEach x (suc m) ws vs) (next_item us i h (sym (get_or_default_zero us i u h)))
      ∙ first_bind (blk_runs op_named n call b (bound xs vs ((x, v.Nat u) ∷ env))) (each_runs n call l x xs b env m (drop (i + 1) us))

  -- no turn more, though there is an element more
  pub element_late : (x : List ℕ) (m : ℕ) (us : List ℕ) (i : ℕ) (vs : List Value) → m ≡ 0 → i < length us → FirstEach x m (drop i us) vs ≡ Late l
  element_late x m us i vs h lt = ap (λ k. FirstEach x k (drop i us) vs) h ∙ late us i lt
    where
      late : (us : List ℕ) (i : ℕ) → i < length us → FirstEach x 0 (drop i us) vs ≡ Late l
      late [] i lt = absurd (omega (arith, lt))
      late (u ∷ us) zero lt = refl
      late (u ∷ us) (suc i) lt = late us i (omega (arith, lt))

  -- no element more
  pub element_done : (x : List ℕ) (m : ℕ) (us : List ℕ) (i : ℕ) (vs : List Value) → length us ≤ i → FirstEach x m (drop i us) vs ≡ Gave vs
  element_done x m us i vs le = ap (λ ws. FirstEach x m ws vs) (drop_all i us le)
