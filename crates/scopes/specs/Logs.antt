-- How names in scope are kept: in the order in which they were bound, each with what it stood for before, and in a map of what each stands for now.
use Rattle.std.specs.Prelude.{◌≡◌, ℕ, List, [], ◌∷◌, Option, Some, None}
use Rattle.std.specs.Borrow.{Bor}
use Rattle.indexmap.specs.IndexMap.{IndexMap, get}
use Rattle.scopes.specs.Names.{same_name, found_in}
use Rattle.scopes.specs.declared.scope.Binding.{Binding}

-- nothing where there is nothing twice over
abbrev pub at_last : {A : Type 0} → Option (Option A) → Option A
at_last None = None
at_last (Some x) = x

-- bindings in the order in which they were made
abbrev pub onto : {V : Type 0} → List (Binding V) → List (List ℕ × V) → List (List ℕ × V)
onto [] s = s
onto (b ∷ bs) s = onto bs ((b.name.now, b.value) ∷ s)

abbrev pub names_of : {V : Type 0} → List (Binding V) → List (List ℕ × V)
names_of bs = onto bs []

-- each binding knows what its name stood for before
abbrev pub IsUndoable : {V : Type 0} → List (Binding V) → List (List ℕ × V) → Type 0
IsUndoable [] s = Unit {0}
IsUndoable (b ∷ bs) s = (b.before ≡ found_in s b.name.now) × IsUndoable bs ((b.name.now, b.value) ∷ s)

-- the map has what each name stands for now
abbrev pub IsSound : {V S : Type 0} → List (Binding V) → IndexMap (Bor (List ℕ)) (Option V) S → Type 0
IsSound bs m = ((q : Bor (List ℕ)) → at_last (get (λ x y. same_name x.now y.now) m q) ≡ found_in (names_of bs) q.now) × IsUndoable bs []
