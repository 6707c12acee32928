-- How facts are kept: in the order in which they were learnt, each with the least bound that was known before, and in a map of the least bounds.
use Rattle.std.specs.Prelude.{◌≡◌, ℕ, nat_eq, List, [], ◌∷◌, Option, Some, None}
use Rattle.indexmap.specs.IndexMap.{IndexMap, get}
use Rattle.rule_check.specs.Context.{Fact}
use Rattle.rule_check.specs.Facts.{below}
use Rattle.facts.specs.Kept.{least}
use Rattle.facts.specs.declared.known.Learnt.{Learnt}

-- nothing where there is nothing twice over
abbrev pub at_last : {A : Type 0} → Option (Option A) → Option A
at_last None = None
at_last (Some x) = x

-- facts in the order in which they were learnt
abbrev pub onto : List Learnt → List Fact → List Fact
onto [] es = es
onto (b ∷ bs) es = onto bs (below b.fact.var b.fact.bound ∷ es)

abbrev pub facts_of : List Learnt → List Fact
facts_of bs = onto bs []

-- each knows what was known of its variable before
abbrev pub IsUndoable : List Learnt → List Fact → Type 0
IsUndoable [] es = Unit {0}
IsUndoable (b ∷ bs) es = (b.before ≡ least es b.fact.var) × IsUndoable bs (below b.fact.var b.fact.bound ∷ es)

-- the map has the least bound of each variable
abbrev pub IsSound : {S : Type 0} → List Learnt → IndexMap ℕ (Option ℕ) S → Type 0
IsSound bs m = ((v : ℕ) → at_last (get nat_eq m v) ≡ least (facts_of bs) v) × IsUndoable bs []
