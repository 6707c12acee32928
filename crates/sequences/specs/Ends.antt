-- The ends of lists.
use Rattle.std.specs.Prelude.{List, [], ◌∷◌, Option, Some, None}

-- the first item and the others, if there is one
abbrev pub first_and_rest : {T : Type 0} → List T → Option (T × List T)
first_and_rest [] = None
first_and_rest (x ∷ xs) = Some (x, xs)
