use Rattle.std.proofs.Common.{◌≡◌, take}
use Rattle.context_laws.specs.Stacks.{falls_at}
use Rattle.context_laws.specs.Steps.{with_spots}
use Rattle.ownership.proofs.context.Context.fall.Given as goal

abbrev pub invariant-each : goal.invariant-each
invariant-each l = l.self ≡ with_spots l.initial.self (falls_at (take l.index-index l.indices) l.initial.self.spots)
