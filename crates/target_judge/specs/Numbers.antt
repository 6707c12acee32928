-- Numbers of names, in the order in which they were told.
use Rattle.std.specs.Prelude.{ℕ, Bool, if◌then◌else◌, nat_eq, List, [], ◌∷◌, ◌++◌, map, Option, Some, None, Vec, is_some}
use Rattle.std.specs.List.{list_all}
use Rattle.std.specs.Str.{bytes_eq}
use Rattle.target_judge.specs.Shape.{guard}

abbrev pub Numbers : Type 0
Numbers = List (List ℕ × ℕ)

-- as the entries of a map have them
abbrev pub numbers_of : {A : Type 0} → List (Vec ℕ A × ℕ) → Numbers
numbers_of es = map (λ e. (e.0.items, e.1)) es

-- the number of a name
abbrev pub number_of : List ℕ → Numbers → Option ℕ
number_of name [] = None
number_of name (x ∷ xs) = if bytes_eq name x.0 then Some x.1 else number_of name xs

abbrev pub tell_at : Option ℕ → List ℕ → ℕ → Numbers → Option Numbers
tell_at None name n xs = Some (xs ++ (name, n) ∷ [])
tell_at (Some m) name n xs = guard (nat_eq m n) xs

-- one number more, if it is not another than was told
unfoldable pub tell_number : List ℕ → ℕ → Numbers → Option Numbers
tell_number name n xs = tell_at (number_of name xs) name n xs

-- each name has a number there
abbrev pub have_numbers : Numbers → Numbers → Bool
have_numbers ys xs = list_all (λ x. is_some (number_of x.0 ys)) xs
