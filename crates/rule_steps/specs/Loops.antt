-- The start of a loop and the end of a turn.
use Rattle.std.specs.Prelude.{List, Option, Some, None, Result, Ok, Err}
use Rattle.nres_core.specs.declared.refusal.Refusal.{Refusal}
use Rattle.rule_check.specs.Context.{Spot, Shape}
use Rattle.rule_check.specs.Steps.{Moved}

-- what follows, unless a step was refused
abbrev pub or_refused : {A : Type 0} → Option Refusal → Result A Refusal → Result A Refusal
or_refused None next = next
or_refused (Some r) next = Err r

-- values that moved in, and the entries after
abbrev pub started_as : Option Refusal → List Shape → List Spot → Result Moved Refusal
started_as r zs xs = or_refused r (Ok (record { shapes = zs; spots = xs }))
