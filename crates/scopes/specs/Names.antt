-- Names in scope, the last bound first.
use Rattle.std.specs.Prelude.{ℕ, nat_eq, Bool, cond, List, [], ◌∷◌, Option, Some, None}
use Rattle.std.specs.Cmp.Lexicographic.{pointwise}

-- whether two names have the same bytes
abbrev pub same_name : List ℕ → List ℕ → Bool
same_name = pointwise nat_eq

-- what a name stands for, if it is bound
abbrev pub found_in : {V : Type 0} → List (List ℕ × V) → List ℕ → Option V
found_in [] x = None
found_in (e ∷ s) x = cond (same_name e.0 x) (Some e.1) (found_in s x)

-- all but the name that was bound last
abbrev pub all_but_last : {A : Type 0} → List A → List A
all_but_last [] = []
all_but_last (x ∷ xs) = xs
