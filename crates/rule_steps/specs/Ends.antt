-- What is refused at the end of a block.
use Rattle.std.specs.Prelude.{ℕ, List, Option, Some, None, Result, Ok, Err}
use Rattle.nres_core.specs.declared.refusal.Refusal.{Refusal}
use Rattle.ownership.specs.Entries.{spots_of}
use Rattle.ownership.specs.Faults.{or_next, results_fault}
use Rattle.ownership.specs.declared.entry.Entry.{Entry}
use Rattle.ownership.specs.declared.entry.Fault.{Fault}
use Rattle.ownership.specs.declared.entry.Fault.TheVariants as f
use Rattle.rule_check.specs.Context.{Spot, Shape, shapes_of, vars_of, all_go, inner, first_slice}
use Rattle.rule_check.specs.Steps.{Moved, no_list, first_is}

-- the slice that a block owes: none, or that of a list
abbrev pub astray_of : Option ℕ → List Shape → Option ℕ
astray_of None = no_list
astray_of (Some k) = first_is k

-- slices that do not come back, behind what is refused of the results themselves
abbrev pub then_tag : Option Fault → ℕ → Option ℕ → List Spot → List Spot → Option Fault
then_tag (Some fault) n owed ss xs = Some fault
then_tag None n owed ss xs = or_next f.Tag (astray_of owed (shapes_of ss)) (or_next f.Tag (first_slice (inner n (all_go (vars_of ss) xs))) None)

-- at the end of a block that began with n entries, of results with entries ss
abbrev pub end_fault : ℕ → Option ℕ → List Spot → List Spot → Option Fault
end_fault n owed ss xs = then_tag (results_fault ss) n owed ss xs

-- the results, or the refusal
abbrev pub moved_as : Result (List Entry) Refusal → List Spot → Result Moved Refusal
moved_as (Ok es) xs = Ok (record { shapes = shapes_of (spots_of es); spots = xs })
moved_as (Err e) xs = Err e
