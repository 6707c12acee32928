-- What paths say of the meaning, as facts.
use Rattle.std.specs.Prelude.{ℕ, ◌+◌, ◌<◌, List, Some, ◌≡◌}
use Rattle.nres_core.specs.FlatTree.{FlatProc, FlatWhole}
use Rattle.nres_core.specs.declared.value.Value.{Value}
use Rattle.nres_core.specs.Runs.{Overruns}
use Rattle.nres_meaning.specs.Allowed.{AllowedBy, FailsBy, flat_meaning}
use Rattle.flat_paths.specs.Paths.{Fault, Excess, never, may, Halts, Allowed, calls_of, main_vars, Placed, text_at, first_vars, below}

-- a flat specification gives what some path gives, fails where some path does, and begins too many turns or calls where some path does
pub record MeantByPaths : Type 0 where
  pub gives : (p : FlatWhole) (us vs : List Value) → AllowedBy (flat_meaning p us) vs → (n : ℕ) × Allowed (calls_of p 0) n p.body.binds p.body.ending.results (main_vars p us) vs
  pub given : (p : FlatWhole) (us vs : List Value) (n : ℕ) → Allowed (calls_of p 0) n p.body.binds p.body.ending.results (main_vars p us) vs → AllowedBy (flat_meaning p us) vs
  pub fails : (p : FlatWhole) (us : List Value) → FailsBy (flat_meaning p us) → (n : ℕ) × Halts (calls_of p 0) n Fault p.body.binds (main_vars p us)
  pub failed : (p : FlatWhole) (us : List Value) (n : ℕ) → Halts (calls_of p 0) n Fault p.body.binds (main_vars p us) → FailsBy (flat_meaning p us)
  pub overruns : (p : FlatWhole) (us : List Value) (n : ℕ) → Overruns (flat_meaning p us n) → Halts (calls_of p 0) n Excess p.body.binds (main_vars p us)
  pub overrun : (p : FlatWhole) (us : List Value) (n : ℕ) → Halts (calls_of p 0) n Excess p.body.binds (main_vars p us) → Overruns (flat_meaning p us n)

-- a procedure's paths, inside a call more, are those of its call
abbrev pub CallsCome : Type 0
CallsCome =
    (ps : List FlatProc) (k u n f : ℕ) (vs us : List Value) (t : Placed) → text_at f ps k ≡ Some t → u < n
    → Allowed (below ps k (u + 1)) n t.proc.body.binds t.proc.body.ending.results (first_vars t vs) us → may (below ps k u n f vs) (λ ws. ws ≡ us) never
