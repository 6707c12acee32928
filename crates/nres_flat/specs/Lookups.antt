-- What is looked up while a tree is flattened.
use Rattle.std.specs.Prelude.{ℕ, suc, List, [], ◌∷◌, length, Option, Some, None, slice_get}
use Rattle.nres_core.specs.declared.flat.Arg.{Arg}
use Rattle.nres_core.specs.declared.flat.Arg.TheVariants as a
use Rattle.nres_core.specs.declared.identified.IdFun.{IdFun}
use Rattle.scopes.specs.Names.{found_in}

abbrev pub or : {A : Type 0} → Option A → A → A
or None d = d
or (Some x) d = x

-- the argument at a place of a list, 0 where there is none
abbrev pub arg_number : List Arg → ℕ → Arg
arg_number us i = or (slice_get us i) (a.Num 0)

-- the procedures' names with their numbers, from k on
abbrev pub numbered : List IdFun → ℕ → List (List ℕ × ℕ)
numbered [] k = []
numbered (f ∷ fs) k = (f.name, k) ∷ numbered fs (suc k)

-- the number of a name; where it has none, how many there are
abbrev pub number_in : List (List ℕ × ℕ) → List ℕ → ℕ
number_in s x = or (found_in s x) (length s)
