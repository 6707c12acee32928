-- The values that names have, and the meaning of calls, for a tree with words and the same with operations.
use Rattle.std.specs.Prelude.{◌≡◌, ℕ, List, [], ◌∷◌, Some}
use Rattle.nres_core.specs.Runs.{Runs}
use Rattle.nres_rules.specs.Typed.{Scope}
use Rattle.nres_rules.specs.Types.{Profile, profile_at}
use Rattle.nres_core.specs.declared.value.Value.{Value}
use Rattle.nres_meaning.specs.Alike.{Alike}
use Rattle.nres_meaning.specs.Meaning.{Env}
use Rattle.identify_laws.specs.Values.{Of, AllOf}

-- the same choices, and the same values at their ends
abbrev pub InStep : {A : Type 0} → Runs A → Runs A → Type 0
InStep r s = Alike ⊥ (λ x y. x ≡ y) r s

-- the values of the names are of their types
abbrev pub Fit : Scope → Env → Type 0
Fit [] [] = Unit {0}
Fit (e ∷ g) (f ∷ env) = (f.0 ≡ e.0) × Of e.1 f.1 × Fit g env
Fit _ _ = ⊥

-- equal values, of which something holds
pub record Kept {A : Type 0} (P : A → Type 0) (x y : A) : Type 0 where
  pub same : x ≡ y
  pub of : P x

-- in step, with such values at the ends
abbrev pub Keeps : {A : Type 0} (P : A → Type 0) → Runs A → Runs A → Type 0
Keeps P r s = Alike ⊥ (Kept P) r s

-- calls do the same on arguments of their types, and give results of theirs
abbrev pub CallsKeep : List Profile → (ℕ → List ℕ → List Value → Runs (List Value)) → (ℕ → List ℕ → List Value → Runs (List Value)) → Type 0
CallsKeep procs call other = (l : ℕ) (f : List ℕ) (h : Profile) (vs : List Value) → profile_at procs f ≡ Some h → AllOf h.takes vs → Keeps (AllOf h.gives) (call l f vs) (other l f vs)
