-- What the lines so far tell of names: how many arguments and results each procedure has, as far as it is known, and which procedures and inputs were given. A procedure of which something is told and that was not given is a debt.
use Rattle.std.specs.Prelude.{◌≡◌, ℕ, List, [], ◌∷◌, Option, Some}
use Rattle.target_judge.specs.declared.told.Told.{Told}
use Rattle.target_judge.specs.Shape.{and_then}
use Rattle.target_judge.specs.Numbers.{Numbers, number_of, tell_number}

-- what a number says of a name: how many arguments the procedure takes, how many results it gives, its place among the procedures, or the place of an input
pub data Kind : Type 0 where
  Args : Kind
  Results : Kind
  Given : Kind
  Input : Kind

abbrev pub numbers_in : Kind → Told → Numbers
numbers_in Args t = t.args
numbers_in Results t = t.results
numbers_in Given t = t.given
numbers_in Input t = t.inputs

abbrev pub told : Numbers → Numbers → Numbers → Numbers → Told
told args results given inputs = record { args = args; results = results; given = given; inputs = inputs }

abbrev pub with_numbers : Kind → Numbers → Told → Told
with_numbers Args xs t = told xs t.results t.given t.inputs
with_numbers Results xs t = told t.args xs t.given t.inputs
with_numbers Given xs t = told t.args t.results xs t.inputs
with_numbers Input xs t = told t.args t.results t.given xs

-- nothing is told
abbrev pub nothing : Told
nothing = told [] [] [] []

abbrev pub lookup : Kind → List ℕ → Told → Option ℕ
lookup kind name t = number_of name (numbers_in kind t)

-- one number more, if it is not another than was told
unfoldable pub tell : Kind → List ℕ → ℕ → Told → Option Told
tell kind name n t = and_then (tell_number name n (numbers_in kind t)) (λ xs. Some (with_numbers kind xs t))

pub record Fact : Type 0 where
  pub kind : Kind
  pub name : List ℕ
  pub number : ℕ

abbrev pub fact : Kind → List ℕ → ℕ → Fact
fact kind name n = record { kind = kind; name = name; number = n }

-- one after the other
abbrev pub tell_all : List Fact → Told → Option Told
tell_all [] t = Some t
tell_all (x ∷ xs) t = and_then (tell x.kind x.name x.number t) (tell_all xs)

-- the numbers of a whole program agree with what was told
abbrev pub Agrees : (Kind → List ℕ → ℕ) → Told → Type 0
Agrees numbers t = (kind : Kind) (name : List ℕ) (n : ℕ) → lookup kind name t ≡ Some n → numbers kind name ≡ n
