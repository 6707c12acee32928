-- A set has what a list has.
use Rattle.std.specs.Prelude.{◌≡◌, ℕ, nat_eq, List}
use Rattle.indexmap.specs.IndexSet.{IndexSet, contains}
use Rattle.rule_check.specs.Context.{is_among}

abbrev pub Holds : {S : Type 0} → IndexSet ℕ S → List ℕ → Type 0
Holds set list = (v : ℕ) → contains nat_eq set v ≡ is_among v list
