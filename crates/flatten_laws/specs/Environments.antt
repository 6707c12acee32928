-- The values that names have, and the meaning of calls, for a tree and its flat tree.
use Rattle.std.specs.Prelude.{◌≡◌, ◌<◌, ℕ, List, [], ◌∷◌}
use Rattle.nres_rules.specs.Flatten.{Scope, Parts, ending}
use Rattle.nres_core.specs.Runs.{Runs}
use Rattle.nres_core.specs.declared.flat.Arg.{Arg}
use Rattle.nres_core.specs.declared.flat.Arg.TheVariants as a
use Rattle.nres_core.specs.declared.place.Place.{Place}
use Rattle.nres_core.specs.declared.value.Value.{Value}
use Rattle.nres_meaning.specs.FlatMeaning.{Vars, arg_value, binds_runs, ended}
use Rattle.nres_meaning.specs.Meaning.{Env}
use Rattle.identify_laws.specs.Environments.{InStep}

-- variables below a number
abbrev pub arg_below : ℕ → Arg → Type 0
arg_below k (a.Var j) = j < k
arg_below k (a.Num n) = Unit {0}
arg_below k (a.Truth b) = Unit {0}

abbrev pub Fits : ℕ → Scope → Type 0
Fits k [] = Unit {0}
Fits k (e ∷ s) = arg_below k e.1 × Fits k s

-- the values that the names in scope have
abbrev pub seen : Scope → Vars → Env
seen [] env = []
seen (e ∷ s) env = (e.0, arg_value env e.1) ∷ seen s env

-- a call by name does what a call by number does
abbrev pub CallsAgree : (List ℕ → ℕ) → (ℕ → List ℕ → List Value → Runs (List Value)) → (ℕ → List Value → Runs (List Value)) → Type 0
CallsAgree number call other = (l : ℕ) (f : List ℕ) (vs : List Value) → InStep (call l f vs) (other (number f) vs)

-- a flat block
abbrev pub flat_part : ℕ → (ℕ → List Value → Runs (List Value)) → Place → Parts → Vars → Runs (List Value)
flat_part n other p b env = ended (ending p b) (binds_runs n other b.binds env)
