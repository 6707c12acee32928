-- The table of places.
use Rattle.std.specs.Prelude.{◌≡◌, ℕ, nat_eq, List}
use Rattle.indexmap.specs.IndexMap.{IndexMap, get}
use Rattle.context_laws.specs.Stacks.{place_in}
use Rattle.rule_check.specs.Context.{Spot}

-- it has the place of each variable's entry
abbrev pub Agrees : {S : Type 0} → List Spot → IndexMap ℕ ℕ S → Type 0
Agrees ss table = (v : ℕ) → get nat_eq table v ≡ place_in ss v
