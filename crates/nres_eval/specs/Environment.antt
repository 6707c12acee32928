-- Names with their values, as an evaluation keeps them: the names with the places of their values, and the values in the order in which they were bound.
use Rattle.std.specs.Prelude.{◌≡◌, ℕ, suc, List, [], ◌∷◌, ◌++◌, Option, Some, None, slice_get}
use Rattle.nres_core.specs.declared.value.Value.{Value}
use Rattle.nres_core.specs.declared.value.Value.TheVariants as v
use Rattle.nres_meaning.specs.Meaning.{Env}

-- a value, or 0 where there is none
abbrev pub or_zero : Option Value → Value
or_zero None = v.Nat 0
or_zero (Some x) = x

-- the names with their values
abbrev pub seen : List (List ℕ × ℕ) → List Value → Env
seen [] vs = []
seen (e ∷ es) vs = (e.0, or_zero (slice_get vs e.1)) ∷ seen es vs

-- the name that was bound last has the last of so many values
abbrev pub IsNumbered : List (List ℕ × ℕ) → ℕ → Type 0
IsNumbered [] n = n ≡ 0
IsNumbered (e ∷ es) n = (n ≡ suc e.1) × IsNumbered es e.1

-- the environment has these names and perhaps later ones
abbrev pub Extends : Env → Env → Type 0
Extends old now = (more : Env) × (now ≡ more ++ old)
