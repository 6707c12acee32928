-- What is true of each context.
use Rattle.std.specs.Prelude.{◌≤◌, ℕ, List, length}
use Rattle.indexmap.specs.IndexMap.{IndexMap}
use Rattle.context_laws.specs.Stacks.{AllDiffer, AllFit, Mark}
use Rattle.ownership.specs.Tables.{Agrees}
use Rattle.rule_check.specs.Context.{Spot}

pub record IsContext {S : Type 0} (ss : List Spot) (table : IndexMap ℕ ℕ S) (is : List ℕ) (ms : List Mark) (k : ℕ) : Type 0 where
  pub kept : k ≤ length ss
  pub agrees : Agrees ss table
  pub differ : AllDiffer ss
  pub marks : AllFit k ss is ms
