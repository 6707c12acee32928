-- Paths through a part of a specification: some path ends with values that are `ok`, or stops in a way that is `bad`.
use Rattle.std.specs.Prelude.{◌≡◌, ℕ, zero, suc, ◌-◌, ◌≤◌, List, [], ◌∷◌, cond, Option, Some, None}
use Rattle.nres_core.specs.FlatTree.{Binds, FlatProc, FlatWhole}
use Rattle.nres_core.specs.Ops.{truth_out}
use Rattle.nres_core.specs.Runs as runs
use Rattle.nres_core.specs.Runs.{Runs}
use Rattle.nres_core.specs.declared.flat.Arg.{Arg}
use Rattle.nres_core.specs.declared.value.Value.{Value}
use Rattle.nres_meaning.specs.Alike.{Less}
use Rattle.nres_meaning.specs.FlatMeaning.{Vars, arg_values, puts, no_vars, numbered, after, after_main, binds_runs, flat_calls}

-- how a path may stop: it fails, or it would begin a turn or a call too many
pub data Stop : Type 0 where
  Fault : Stop
  Excess : Stop

abbrev pub Stops : Type 1
Stops = Stop → Type 0

abbrev pub never : Stops
never z = ⊥

-- one way of stopping alone
abbrev pub only : Stop → Stops
only Fault Fault = Unit {0}
only Fault Excess = ⊥
only Excess Fault = ⊥
only Excess Excess = Unit {0}

-- some path ends with this, or stops like this
abbrev pub may : {A : Type 0} → Runs A → (A → Type 0) → Stops → Type 0
may (runs.Done a) ok bad = ok a
may (runs.Failed l) ok bad = bad Fault
may (runs.Over l) ok bad = bad Excess
may (runs.Choose c k) ok bad = (x : Value) × runs.May c x × may (k x) ok bad

-- by the value of a condition
abbrev pub on_truth : Value → Type 0 → Type 0 → Stops → Type 0
on_truth x a b bad = may (truth_out x) (λ z. cond z a b) bad

-- ---- binds

-- what calls may do, by a procedure's number and the arguments
abbrev pub Calls : Type 0
Calls = ℕ → List Value → Runs (List Value)

module _ (calls : ℕ → Calls) where
  -- some path, with at most n turns of each loop, ends with variables that are `ok`, or stops in a way that is `bad`
  abbrev pub paths : ℕ → Binds → Vars → (Vars → Type 0) → Stops → Type 0
  paths n bs env ok bad = may (binds_runs n (calls n) bs env) ok bad

  -- some path stops so
  abbrev pub Halts : ℕ → Stop → Binds → Vars → Type 0
  Halts n z bs env = paths n bs env (λ g. ⊥) (only z)

  -- a block may give these values
  abbrev pub Allowed : ℕ → Binds → List Arg → Vars → List Value → Type 0
  Allowed n bs us env vs = paths n bs env (λ g. arg_values g us ≡ vs) never

  -- calls may do no less with more turns
  abbrev pub Rising : Type 0
  Rising = (n m : ℕ) → n ≤ m → (f : ℕ) (vs : List Value) → Less (calls n f vs) (calls m f vs)

-- ---- what a proof may suppose

-- where runs have to end so many turns are allowed
abbrev pub IsWithin : Type 0 → ℕ → ℕ → Type 0
IsWithin ends limit n = ends → n ≤ limit

-- how no path stops: it does not fail at all, and where runs have to end it begins no turn beyond the limit
abbrev pub MustNot : Type 0 → ℕ → ℕ → Stop → Type 0
MustNot ends limit n Fault = Unit {0}
MustNot ends limit n Excess = ends × (n ≡ limit)

abbrev pub Lives : (ℕ → Calls) → Type 0 → ℕ → Binds → Vars → Type 0
Lives calls ends limit bs env = (n : ℕ) (z : Stop) → MustNot ends limit n z → Halts calls n z bs env → ⊥

-- ---- calls

-- a procedure of a flat specification, with its first variable
pub record Placed : Type 0 where
  pub proc : FlatProc
  pub first : ℕ

abbrev pub text_at : ℕ → List FlatProc → ℕ → Option Placed
text_at f [] k = None
text_at zero (p ∷ ps) k = Some (record { proc = p; first = k })
text_at (suc f) (p ∷ ps) k = text_at f ps (after p k)

-- the variables where it begins
abbrev pub first_vars : Placed → List Value → Vars
first_vars t vs = puts (numbered t.proc.params t.first) vs no_vars

-- calls inside u calls, where one number bounds the turns of each loop and how deep calls nest
abbrev pub below : List FlatProc → ℕ → ℕ → ℕ → Calls
below ps k u n = flat_calls ps k n (n - u)

-- the calls of a flat specification
abbrev pub calls_of : FlatWhole → ℕ → ℕ → Calls
calls_of p u n = below p.procs (after_main p) u n

-- the variables where `main` begins
abbrev pub main_vars : FlatWhole → List Value → Vars
main_vars p us = puts (numbered p.params 0) us no_vars
