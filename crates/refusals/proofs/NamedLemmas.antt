-- Names of variables.
use Rattle.std.proofs.Common.{zero, suc, ◌≡◌, ℕ, List, [], ◌∷◌, Option, Some, None, refl, codes}
use Rattle.std.specs.List.{slice_get}
use Rattle.rule_check.specs.Steps.{name_at}

-- a name, or `_`
abbrev pub given : Option (List ℕ) → List ℕ
given None = codes "_"
given (Some x) = x

pub named : (xs : List (List ℕ)) (k : ℕ) → name_at xs k ≡ given (slice_get xs k)
named [] zero = refl
named [] (suc k) = refl
named (x ∷ xs) zero = refl
named (x ∷ xs) (suc k) = named xs k
