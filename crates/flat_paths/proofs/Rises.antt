-- More turns, and weaker ends.
use Rattle.std.proofs.Common.{◌≡◌, ℕ, ◌-◌, ◌<◌, ◌≤◌, max, ◌⊎◌, ⊎_elim, List, refl, sym, subst, arith}
use Rattle.nres_core.specs.FlatTree.{Binds, FlatProc}
use Rattle.nres_core.specs.declared.value.Value.{Value}
use Rattle.nres_meaning.specs.FlatMeaning.{Vars, binds_runs}
use Rattle.nres_meaning.proofs.FlatGrowth.{binds_less, calls_less}
use Rattle.flat_paths.specs.Paths.{Stop, Fault, Excess, Stops, never, only, may, Calls, paths, Halts, Rising, MustNot, IsWithin, below}
use Rattle.flat_paths.proofs.MayBe.{may_map, may_less}

module _ (calls : ℕ → Calls) (rising : Rising calls) where
  -- more turns and weaker ends: a path that begins a turn too many is kept only where the turns stay
  pub paths_map : (n m : ℕ) → n ≤ m → (bs : Binds) (env : Vars) (ok ok' : Vars → Type 0) (bad bad' : Stops) → ((g : Vars) → ok g → ok' g) → ((z : Stop) → bad z → bad' z) → (bad Excess → n ≡ m) → paths calls n bs env ok bad → paths calls m bs env ok' bad'
  paths_map n m le bs env ok ok' bad bad' f g o w =
      ⊎_elim
      (λ lt. may_less _ _ ok ok' bad bad' f g (λ k. let e = o k in let x : ⊥ = omega (arith, e, lt) in x) (binds_less n m le (calls n) (calls m) (rising n m le) bs env) w)
      (λ e. may_map (binds_runs m (calls m) bs env) ok ok' bad bad' f g (subst (λ y. paths calls y bs env ok bad) e w))
      (apart n m le)
    where
      apart : (n m : ℕ) → n ≤ m → (n < m) ⊎ (n ≡ m)
      apart n m le = grind (arith, le)

  -- a path that came to an end
  pub lift : (n m : ℕ) → n ≤ m → (bs : Binds) (env : Vars) (ok ok' : Vars → Type 0) (bad : Stops) → ((g : Vars) → ok g → ok' g) → paths calls n bs env ok never → paths calls m bs env ok' bad
  lift n m le bs env ok ok' bad f w = paths_map n m le bs env ok ok' never bad f (λ z k. absurd k) (λ k. absurd k) w

  -- a path, with more turns
  pub raise : (n m : ℕ) → n ≤ m → (bs : Binds) (env : Vars) (ok : Vars → Type 0) (bad : Stops) → (bad Excess → n ≡ m) → paths calls n bs env ok bad → paths calls m bs env ok bad
  raise n m le bs env ok bad o w = paths_map n m le bs env ok ok bad bad (λ g k. k) (λ z k. k) o w

  -- a path that stops in the first part
  pub stop_first : (n : ℕ) (z : Stop) (bs : Binds) (env : Vars) (ok : Vars → Type 0) → Halts calls n z bs env → paths calls n bs env ok (only z)
  stop_first n z bs env ok w = may_map (binds_runs n (calls n) bs env) _ ok (only z) (only z) (λ g k. absurd k) (λ y k. k) w

  -- a call, with more turns
  pub call_map : (n m : ℕ) → n ≤ m → (f : ℕ) (vs : List Value) (ok ok' : List Value → Type 0) (bad bad' : Stops) → ((us : List Value) → ok us → ok' us) → ((z : Stop) → bad z → bad' z) → (bad Excess → n ≡ m) → may (calls n f vs) ok bad → may (calls m f vs) ok' bad'
  call_map n m le f vs ok ok' bad bad' h g o w =
      ⊎_elim
      (λ lt. may_less _ _ ok ok' bad bad' h g (λ k. let e = o k in let x : ⊥ = omega (arith, e, lt) in x) (rising n m le f vs) w)
      (λ e. may_map (calls m f vs) ok ok' bad bad' h g (subst (λ y. may (calls y f vs) ok bad) e w))
      (apart n m le)
    where
      apart : (n m : ℕ) → n ≤ m → (n < m) ⊎ (n ≡ m)
      apart n m le = grind (arith, le)

-- with more turns and deeper calls, calls inside u calls do no less
pub below_rises : (ps : List FlatProc) (k u : ℕ) → Rising (below ps k u)
below_rises ps k u n m le f vs = calls_less ps k n m le (n - u) (m - u) (omega (arith, le)) f vs

-- one number of turns for a path that stops after others came to their ends
pub record Top (ends : Type 0) (limit : ℕ) (z : Stop) (M A B C : ℕ) : Type 0 where
  pub most : ℕ
  pub must : MustNot ends limit most z
  pub stop : M ≤ most
  pub same : only z Excess → M ≡ most
  pub first : A ≤ most
  pub second : B ≤ most
  pub third : C ≤ most

pub top : (ends : Type 0) (limit : ℕ) (z : Stop) (M A B C : ℕ) → MustNot ends limit M z → IsWithin ends limit A → IsWithin ends limit B → IsWithin ends limit C → Top ends limit z M A B C
top ends limit Fault M A B C must a b c = record { most = max M (max A (max B C)); must = tt; stop = omega arith; same = λ k. absurd k; first = omega arith; second = omega arith; third = omega arith }
top ends limit Excess M A B C must a b c =
    record { most = M; must = must; stop = omega arith; same = λ k. refl; first = subst (λ y. A ≤ y) (sym must.1) (a must.0); second = subst (λ y. B ≤ y) (sym must.1) (b must.0); third = subst (λ y. C ≤ y) (sym must.1) (c must.0) }
