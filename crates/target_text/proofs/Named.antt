-- The numbers that a program's procedures and inputs have.
use Rattle.std.specs.Prelude.{ℕ, suc, if◌then◌else◌, List, [], ◌∷◌, length}
use Rattle.std.specs.Str.{bytes_eq}
use Rattle.target_code.specs.declared.tree.InParam.{InParam}
use Rattle.target_code.specs.declared.tree.Proc.{Proc}
use Rattle.target_judge.specs.Told.{Kind, Args, Results, Given, Input}

-- what the first with the name has, or another number
abbrev pub of_name : {A : Type 0} → ℕ → (A → List ℕ) → (A → ℕ) → List ℕ → List A → ℕ
of_name other name f n [] = other
of_name other name f n (x ∷ xs) = if bytes_eq (name x) n then f x else of_name other name f n xs

-- the place of the first with the name
abbrev pub place_of_name : {A : Type 0} → (A → List ℕ) → List ℕ → List A → ℕ
place_of_name name n [] = 0
place_of_name name n (x ∷ xs) = if bytes_eq (name x) n then 0 else suc (place_of_name name n xs)

-- other names may have any number of arguments and results
abbrev pub numbers_of_program : ℕ → List InParam → List Proc → Kind → List ℕ → ℕ
numbers_of_program other ins procs Args n = of_name other (λ p. p.name) (λ p. p.args) n procs
numbers_of_program other ins procs Results n = of_name other (λ p. p.name) (λ p. length p.ret) n procs
numbers_of_program other ins procs Given n = place_of_name (λ p. p.name) n procs
numbers_of_program other ins procs Input n = place_of_name (λ p. p.name) n ins
