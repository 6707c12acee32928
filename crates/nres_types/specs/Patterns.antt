-- Patterns of names.
use Rattle.std.specs.Prelude.{ℕ, List, [], ◌∷◌}
use Rattle.nres_core.specs.declared.place.Named.{Named}
use Rattle.nres_core.specs.declared.tree.Fun.{Fun}

-- names in turn, the last first
abbrev pub seen_in : List Named → List (List ℕ) → List (List ℕ)
seen_in [] seen = seen
seen_in (x ∷ xs) seen = seen_in xs (x.name ∷ seen)

-- the names of procedures
abbrev pub named_funs : List Fun → List Named
named_funs [] = []
named_funs (f ∷ fs) = record { name = f.name; place = f.place } ∷ named_funs fs
