-- What is refused where two sides meet, and what is left.
use Rattle.std.specs.Prelude.{ℕ, List, Option, Some, None}
use Rattle.context_laws.specs.Stacks.{Held, falls_at}
use Rattle.context_laws.specs.Steps.{with_spots}
use Rattle.ownership.specs.Faults.{or_next}
use Rattle.ownership.specs.declared.entry.Fault.{Fault}
use Rattle.ownership.specs.declared.entry.Fault.TheVariants as f
use Rattle.rule_check.specs.Context.{Spot, shapes_of, first_unmet, first_other}

-- in this order: Meet, Result; the sides are the places that went in them
abbrev pub meet_fault : List ℕ → List ℕ → List Spot → List Spot → List Spot → Option Fault
meet_fault is js xs ys ss = or_next f.Meet (first_unmet (falls_at is ss) (falls_at js ss)) (or_next f.Result (first_other 1 (shapes_of xs) (shapes_of ys)) None)

-- what went on either side is gone; a refusal changes nothing
abbrev pub after_met : Option Fault → List ℕ → List ℕ → Held → Held
after_met None is js x = with_spots x (falls_at js (falls_at is x.spots))
after_met (Some fault) is js x = x
