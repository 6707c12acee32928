-- Procedures and the places of their names.
use Rattle.std.specs.Prelude.{ℕ, suc, cond, List, [], ◌∷◌, Option, Some, None}
use Rattle.nres_core.specs.Tree.{same_name}
use Rattle.nres_core.specs.declared.tree.Fun.{Fun}

-- each name with its place, from n
abbrev pub numbered : List Fun → ℕ → List (List ℕ × ℕ)
numbered [] n = []
numbered (f ∷ fs) n = (f.name, n) ∷ numbered fs (suc n)

-- the first procedure of that name
abbrev pub proc_named : List ℕ → List Fun → Option Fun
proc_named x [] = None
proc_named x (f ∷ fs) = cond (same_name x f.name) (Some f) (proc_named x fs)
